use Rattle.std.proofs.Common.{◌≡◌, drop}
use Rattle.std.specs.List.{list_any}
use Rattle.spec_schema.specs.Layouts.{is_other}
use Rattle.spec_schema.proofs.holding.has_other.Given as goal

abbrev pub invariant-loop-member : goal.invariant-loop-member
invariant-loop-member l = list_any (is_other l.names l.name) (drop l.member-index l.members) ≡ list_any (is_other l.names l.name) l.members
