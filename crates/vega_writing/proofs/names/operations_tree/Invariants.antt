use Rattle.std.proofs.Common.{◌≡◌, ◌++◌, map, drop}
use Rattle.case_table.specs.Names.{operations}
use Rattle.vega_writing.specs.Names.{code_tree}
use Rattle.vega_writing.proofs.names.operations_tree.Given as goal

-- the trees so far, and then those that are left
abbrev pub invariant-loop-code : goal.invariant-loop-code
invariant-loop-code l = l.items ++ map (code_tree operations) (drop l.code-index l.code-items) ≡ map (code_tree operations) l.code-items
