use Rattle.std.proofs.Common.{◌≡◌, drop}
use Rattle.spec_schema.specs.Layouts.{has_name}
use Rattle.spec_schema.proofs.layout.has_name.Given as goal

abbrev pub invariant-loop-member : goal.invariant-loop-member
invariant-loop-member l = has_name (drop l.member-index l.members) l.name ≡ has_name l.members l.name
