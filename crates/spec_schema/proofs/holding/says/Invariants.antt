use Rattle.std.proofs.Common.{◌≡◌, drop}
use Rattle.std.specs.List.{list_any}
use Rattle.spec_schema.specs.Layouts.{says}
use Rattle.spec_schema.proofs.holding.says.Given as goal

abbrev pub invariant-loop-member : goal.invariant-loop-member
invariant-loop-member l = list_any (says l.name l.text) (drop l.member-index l.members) ≡ list_any (says l.name l.text) l.members
