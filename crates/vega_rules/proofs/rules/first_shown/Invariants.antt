use Rattle.std.proofs.Common.{◌≡◌, drop, flat_map}
use Rattle.vega_rules.specs.Faults.{sooner, earliest, shown_by}
use Rattle.vega_rules.specs.Rules.{shown}
use Rattle.vega_rules.proofs.rules.first_shown.Given as goal

-- the fault so far and those of the rest
abbrev pub invariant-loop-part : goal.invariant-loop-part
invariant-loop-part l = sooner l.so_far (earliest (flat_map shown_by (drop l.part-index l.parts))) ≡ earliest (shown l.parts)
