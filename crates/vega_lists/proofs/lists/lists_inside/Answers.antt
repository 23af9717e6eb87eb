use Rattle.std.proofs.Common.{map, sym, subst}
use Rattle.cell_value.specs.State.{dataset_of}
use Rattle.vega_lists.specs.Lists.{lists_of}
use Rattle.vega_lists.specs.Held.{scope_read, AreAllRows}
use Rattle.vega_lists.specs.Inside.{RowsByName, SetsMayFold, GivesInside}
use Rattle.vega_lists.proofs.OuterLemmas.{nothing_held}
use Rattle.vega_lists.proofs.ListLemmas.{nothing_placed, folds_after}
use Rattle.vega_lists.proofs.lists.lists_inside.Goals as goal

pub with_sets-requires-clause-lists : goal.with_sets-requires-clause-lists
with_sets-requires-clause-lists g c =
    subst AreAllRows (sym (nothing_held c.args.sources.now (g.O.ListReader.named c.args.outer.now) c.no_lists.result c.no_lists.ensures)) c.requires.outer

pub with_sets-requires-clause-placed : goal.with_sets-requires-clause-placed
with_sets-requires-clause-placed g c = nothing_placed c.no_lists.result c.no_lists.ensures

pub with_sets-requires-clause-folds : goal.with_sets-requires-clause-folds
with_sets-requires-clause-folds g c =
    subst (λ rows. SetsMayFold rows c.args.sets.now)
    (sym (nothing_held c.args.sources.now (g.O.ListReader.named c.args.outer.now) c.no_lists.result c.no_lists.ensures)) c.requires.folds

pub returns-clause-read : goal.returns-clause-read
returns-clause-read g c =
    let outer = g.O.ListReader.named c.args.outer.now in
    subst
    (λ (rows : RowsByName). GivesInside c.args.sources.now outer c.with_sets.result
    (lists_of (g.P.ParamReader.values c.args.params.now) (map dataset_of c.args.sources.now) (scope_read rows) c.args.sets.now))
    (nothing_held c.args.sources.now outer c.no_lists.result c.no_lists.ensures) c.with_sets.ensures.read

pub returns-clause-folds : goal.returns-clause-folds
returns-clause-folds g c =
    folds_after (g.P.ParamReader.values c.args.params.now) c.args.sources.now (g.O.ListReader.named c.args.outer.now) c.args.sets.now
    c.with_sets.result c.requires.sources (returns-clause-read g c)
