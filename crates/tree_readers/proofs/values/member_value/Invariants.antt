use Rattle.std.proofs.Common.{◌≡◌, drop}
use Rattle.json_exact.specs.Path.{member_value}
use Rattle.tree_readers.proofs.values.member_value.Given as goal

abbrev pub invariant-loop-member : goal.invariant-loop-member
invariant-loop-member l = member_value (drop l.member-index l.members) l.name ≡ member_value l.members l.name
