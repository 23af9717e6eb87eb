use Rattle.std.proofs.Common.{◌≡◌, ◌+◌, ◌++◌, drop}
use Rattle.param_flow.specs.Machine.{new_rows}
use Rattle.plain_engine.proofs.json_rows.new_rows.Given as goal

abbrev pub invariant-loop-tree : goal.invariant-loop-tree
invariant-loop-tree l = record {
  next : l.next ≡ l.fn.id + l.tree-index;
  rows : l.rows ++ new_rows l.next (drop l.tree-index l.trees) ≡ new_rows l.fn.id l.trees;
}
