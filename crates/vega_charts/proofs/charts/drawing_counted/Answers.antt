use Rattle.std.proofs.Common.{map, sym, subst, arith}
use Rattle.std.proofs.lemmas.Bool.Decides.{nat_tests}
use Rattle.cell_value.specs.State.{dataset_of}
use Rattle.scene_tree.specs.Outcome.{in_reach}
use Rattle.vega_charts.specs.Answers.{Comes}
use Rattle.vega_charts.specs.Scenes.{drawing_over}
use Rattle.vega_copies.specs.inner.Levels.{names_at}
use Rattle.vega_charts.specs.inner.Topped.{top_of}
use Rattle.vega_charts.proofs.OutcomeLemmas.{comes, too_many, few_enough}
use Rattle.vega_charts.proofs.charts.drawing_counted.Goals as goal

pub returns-then-plots-gt-MOST_PANELS : goal.returns-then-plots-gt-MOST_PANELS
returns-then-plots-gt-MOST_PANELS c = too_many _ c.args.plots (grind (arith, nat_tests))

pub returns-else-plots-gt-MOST_PANELS : goal.returns-else-plots-gt-MOST_PANELS
returns-else-plots-gt-MOST_PANELS c =
    let drawn = drawing_over c.args.g.now (map dataset_of c.args.names.sources.now) (top_of c.args.g.now)
    (names_at c.args.names.stores.now c.args.names.sources.now c.args.names.levels.now) in
    subst (λ o. Comes o c.answered.result) (sym (few_enough (in_reach drawn) c.args.plots (grind (arith, nat_tests))))
    (subst (Comes (in_reach drawn)) (sym c.answered.ensures) (comes drawn c.drawing_made.result c.drawing_made.ensures))
