use Rattle.vega_signals.proofs.ExtentLemmas.{set_may_fold, set_more, sets_begin, sets_over}
use Rattle.vega_signals.proofs.extents.all_extents.Goals as goal

pub loop-set-init : goal.loop-set-init
loop-set-init g c =
    sets_begin (g.P.ParamReader.values c.args.params.now) c.args.sources.now
    (g.O.ListReader.named c.args.outer.now) c.args.sets.now c.nothing-lists.result c.new-out.result
    c.nothing-lists.ensures c.new-out.ensures c.requires.lists c.requires.folds

pub add_set-requires-clause-folds : goal.add_set-requires-clause-folds
add_set-requires-clause-folds g c =
    set_may_fold _ c.args.sources.now c.requires.sources _ _ c.args.sets.now c.loop-set.set-index
    c.set-item.result c.loop-set.lists c.loop-set.out c.loop-set-test.true
    c.set-item.is c.loop-set.invariant

pub loop-set-preserved : goal.loop-set-preserved
loop-set-preserved g c =
    set_more _ c.args.sources.now c.requires.sources _ _ c.args.sets.now c.loop-set.set-index
    c.set-item.result c.loop-set.lists c.loop-set.out c.loop-set-test.true
    c.set-item.is c.loop-set.invariant c.add_set.new.lists c.add_set.new.out
    c.in_ok-add_set.ensures.scope c.in_ok-add_set.ensures.rows c.in_ok-add_set.ensures.extents

pub returns : goal.returns
returns g c =
    sets_over _ c.args.sources.now _ _ c.args.sets.now c.loop-set.set-index c.loop-set.lists c.loop-set.out c.loop-set-test.false c.loop-set.invariant
