use Rattle.std.proofs.Common.{◌≡◌, ◌++◌, drop}
use Rattle.std.specs.Option.{option_map}
use Rattle.spec_walk.specs.Places.{place_at}
use Rattle.spec_walk.proofs.places.place_at.Given as goal

abbrev pub invariant-loop-step : goal.invariant-loop-step
invariant-loop-step l = option_map (λ rest. l.place ++ rest) (place_at l.here (drop l.step-index l.steps)) ≡ place_at l.tree l.steps
