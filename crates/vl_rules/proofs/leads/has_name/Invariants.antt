use Rattle.std.proofs.Common.{◌≡◌, drop}
use Rattle.vl_rules.specs.Leads.{has_name}
use Rattle.vl_rules.proofs.leads.has_name.Given as goal

abbrev pub invariant-loop-member : goal.invariant-loop-member
invariant-loop-member l =
    has_name (drop l.member-index l.members) l.name ≡ has_name l.members l.name
