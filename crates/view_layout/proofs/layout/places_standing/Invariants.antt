use Rattle.std.proofs.Common.{◌≡◌, take, map}
use Rattle.view_layout.specs.Layout.{place_standing}
use Rattle.view_layout.proofs.layout.places_standing.Given as goal

abbrev pub invariant-loop-one : goal.invariant-loop-one
invariant-loop-one l = l.out ≡ map place_standing (take l.one-index l.standing)
