use Rattle.std.proofs.Common.{◌≡◌, drop}
use Rattle.spec_schema.specs.Layouts.{leads}
use Rattle.spec_schema.proofs.holding.leads.Given as goal

abbrev pub invariant-loop-member : goal.invariant-loop-member
invariant-loop-member l = leads l.names l.name (drop l.member-index l.members) ≡ leads l.names l.name l.members
