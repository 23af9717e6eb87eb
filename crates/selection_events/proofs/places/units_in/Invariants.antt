use Rattle.std.proofs.Common.{◌≡◌, ◌++◌, drop, filter}
use Rattle.selection_events.specs.Places.{has_unit}
use Rattle.selection_events.proofs.places.units_in.Given as goal

abbrev pub invariant-loop-unit : goal.invariant-loop-unit
invariant-loop-unit l =
    l.out ++ filter (λ u. has_unit u l.plot) (drop l.unit-index l.units) ≡ filter (λ u. has_unit u l.plot) l.units
