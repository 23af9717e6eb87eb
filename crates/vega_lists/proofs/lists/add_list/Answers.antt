use Rattle.vega_lists.proofs.OuterLemmas.{own_are}
use Rattle.vega_lists.proofs.ListLemmas.{own_may_fold, adds_inside}
use Rattle.vega_lists.proofs.lists.add_list.Goals as goal

pub with_own-requires-clause-lists : goal.with_own-requires-clause-lists
with_own-requires-clause-lists g c =
    own_are (g.P.ParamReader.values c.args.params.now) c.args.sources.now (g.O.ListReader.named c.args.outer.now) c.args.lists c.in_ok-holding.holding
    c.in_ok-holding.ensures.takes c.requires.lists

pub with_own-requires-clause-folds : goal.with_own-requires-clause-folds
with_own-requires-clause-folds g c =
    own_may_fold c.args.sources.now c.args.given.now c.in_ok-holding.holding c.args.set.now c.requires.sources c.requires.given
    (g.P.ParamReader.values c.args.params.now) (g.O.ListReader.named c.args.outer.now) c.args.lists c.in_ok-holding.ensures.takes c.requires.folds

pub returns : goal.returns
returns g c =
    adds_inside (g.P.ParamReader.values c.args.params.now) c.args.sources.now (g.O.ListReader.named c.args.outer.now) c.args.lists c.in_ok-holding.holding
    c.args.set.now c.with_own.result c.in_ok-holding.ensures.takes c.in_ok-holding.ensures.source c.in_ok-holding.ensures.looked_up c.with_own.ensures
