use Rattle.std.proofs.Common.{◌≡◌, drop}
use Rattle.vl_rules.specs.Selections.{is_under}
use Rattle.vl_rules.proofs.selections.is_under.Given as goal

abbrev pub invariant-loop-name : goal.invariant-loop-name
invariant-loop-name l =
    is_under (drop l.name-index l.names) l.offer ≡ is_under l.names l.offer
