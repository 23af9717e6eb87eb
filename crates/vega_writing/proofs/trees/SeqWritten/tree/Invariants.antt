use Rattle.std.proofs.Common.{◌≡◌, ◌++◌, map, drop}
use Rattle.vega_writing.proofs.trees.SeqWritten.tree.Given as goal

-- the trees so far, and then those that are left
abbrev pub invariant-loop-item : goal.invariant-loop-item
invariant-loop-item g l = l.items ++ map g.T.Written.tree (drop l.item-index l.item-items) ≡ map g.T.Written.tree l.item-items
