use Rattle.vega_lists.proofs.ListLemmas.{may_fold_at, set_more_at}
use Rattle.vega_lists.proofs.lists.with_sets.Goals as goal

pub add_list-requires-clause-folds : goal.add_list-requires-clause-folds
add_list-requires-clause-folds g c =
    may_fold_at _ c.args.sources.now _ c.requires.sources (g.O.ListReader.named c.args.outer.now)
    c.args.sets.now c.loop-set.set-index c.set-item.result c.loop-set.lists
    c.loop-set-test.true c.set-item.is c.loop-set.invariant

pub loop-set-preserved : goal.loop-set-preserved
loop-set-preserved g c =
    set_more_at _ c.args.sources.now _ c.requires.sources (g.O.ListReader.named c.args.outer.now)
    c.args.sets.now c.loop-set.set-index c.set-item.result c.loop-set.lists
    c.loop-set-test.true c.set-item.is c.loop-set.invariant c.in-Ok.next c.in-Ok.ensures
