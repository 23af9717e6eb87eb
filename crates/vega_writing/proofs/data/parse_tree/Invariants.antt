use Rattle.std.proofs.Common.{◌≡◌, ◌++◌, map, drop}
use Rattle.vega_writing.specs.Data.{parse_member}
use Rattle.vega_writing.proofs.data.parse_tree.Given as goal

-- the members so far, and then those that are left
abbrev pub invariant-loop-name : goal.invariant-loop-name
invariant-loop-name l = l.members ++ map parse_member (drop l.name-index l.name-items) ≡ map parse_member l.name-items
