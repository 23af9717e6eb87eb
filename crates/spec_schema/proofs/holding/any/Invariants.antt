use Rattle.std.proofs.Common.{◌≡◌, drop}
use Rattle.std.specs.List.{list_any}
use Rattle.spec_schema.specs.Layouts.{is_one_of}
use Rattle.spec_schema.proofs.holding.any.Given as goal

abbrev pub invariant-loop-member : goal.invariant-loop-member
invariant-loop-member l = list_any (is_one_of l.names) (drop l.member-index l.members) ≡ list_any (is_one_of l.names) l.members
