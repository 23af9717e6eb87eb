use Rattle.std.proofs.Common.{◌++◌, flat_map, map, ap, ◌∙◌}
use Rattle.spec_schema.specs.Order.{earlier}
use Rattle.vl_trails.specs.Faults.{earliest_placed}
use Rattle.vl_rules.specs.Marked.{marked}
use Rattle.vl_rules.specs.Offers.{offers_among}
use Rattle.vl_rules.specs.Parts.{parts_of}
use Rattle.vl_rules.specs.Rules.{faults_of_unit}
use Rattle.vl_rules.specs.Units.{one_too_many}
use Rattle.vl_rules.specs.Views.{faults_of_views}
use Rattle.vl_rules.specs.inner.Shown.{marked_shown}
use Rattle.vl_rules.proofs.JoinLemmas.{by_first}
use Rattle.vl_rules.proofs.rules.sooner_by_units.Goals as goal

pub returns : goal.returns
returns c =
    by_first c.args.tree.now (λ us. faults_of_views c.args.tree.now c.args.first.now (offers_among (flat_map parts_of us)) c.args.s.now)
    _ _ (marked c.args.s.now)
    c.args.so_far _ _ c.in_ok-units.ensures c.keep_judged.ensures
    (c.in_ok-so_far.ensures ∙ ap (λ us. earlier c.args.so_far (earliest_placed c.args.tree.now (one_too_many (map marked_shown us)))) c.as_slice.ensures)
    (c.in_ok-so_far-2.ensures ∙ ap (λ us. earlier c.in_ok-so_far.so_far (earliest_placed c.args.tree.now
    (flat_map (faults_of_unit c.args.tree.now) (map marked_shown us)
    ++ faults_of_views c.args.tree.now c.args.first.now (offers_among (flat_map parts_of (map marked_shown us))) c.args.s.now)))
    c.as_slice-2.ensures)
