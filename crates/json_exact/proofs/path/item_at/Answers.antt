use Rattle.std.proofs.Common.{arith}
use Rattle.json_exact.proofs.Paths.{item_none, item_some, item_past}
use Rattle.json_exact.proofs.path.item_at.Goals as goal

pub returns-then-not-is_index : goal.returns-then-not-is_index
returns-then-not-is_index c = item_none c.args.items.now c.args.word.now (grind arith)

pub returns-then-index-items : goal.returns-then-index-items
returns-then-index-items c =
    item_some c.args.items.now c.args.word.now c.number_of-index.result _ (grind arith) c.number_of-index.ensures c.if-index-items.true
    (omega arith) c.index-items-index.is

pub returns-else-index-items : goal.returns-else-index-items
returns-else-index-items c =
    item_past c.args.items.now c.args.word.now c.number_of-index.result (grind arith) c.number_of-index.ensures (omega arith)
