use Rattle.std.proofs.Common.{◌≡◌, drop}
use Rattle.data_rows.specs.inner.JsonNames.{huge_name}
use Rattle.data_rows.proofs.json_rows.huge_name.Given as goal

abbrev pub invariant-loop-member : goal.invariant-loop-member
invariant-loop-member l = huge_name (drop l.member-index l.members) ≡ huge_name l.members
