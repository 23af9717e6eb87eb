use Rattle.std.proofs.Common.{rules}
use Rattle.need_graph.proofs.SearchLemmas.{adds_unseen}
use Rattle.need_graph.proofs.search.add.Goals as goal

pub returns-in_ok-push : goal.returns-in_ok-push
returns-in_ok-push c =
    adds_unseen c.args.v c.args.seen.now c.args.waiting.now c.see.new.seen c.push.new.self (search rules) c.see.ensures (search rules)
