use Rattle.std.proofs.Common.{sym, rules}
use Rattle.need_graph.proofs.SearchLemmas.{found, step, none_found}
use Rattle.need_graph.proofs.search.needs_itself.Goals as goal

pub returns-then-has : goal.returns-then-has
returns-then-has c =
    let way = found c.args.needs.now c.args.v c.loop-u.seen c.loop-u.waiting c.pop.new.self c.in-Some.u in
    sym (way c.in-Some.ensures c.loop-u.invariant (search rules))

pub loop-u-preserved : goal.loop-u-preserved
loop-u-preserved c =
    step c.args.needs.now c.args.v c.loop-u.seen c.loop-u.waiting c.pop.new.self c.in-Some.u c.add_all.new.seen c.add_all.new.waiting
    c.in-Some.ensures c.loop-u.invariant (search rules) (search rules)

pub returns : goal.returns
returns c = sym (none_found c.args.needs.now c.args.v c.loop-u.seen c.loop-u.waiting c.in_default.ensures.0 c.loop-u.invariant)
