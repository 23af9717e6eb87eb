use Rattle.std.proofs.Common.{◌≡◌, ◌++◌, drop}
use Rattle.vl_rules.specs.Resting.{place_steps}
use Rattle.vl_rules.proofs.resting.place_steps.Given as goal

abbrev pub invariant-loop-number : goal.invariant-loop-number
invariant-loop-number l = l.trail ++ place_steps (drop l.number-index l.place) ≡ place_steps l.place
