use Rattle.std.proofs.Common.{◌≡◌, ◌++◌, take}
use Rattle.vl_names.proofs.trails.push_copies.Given as goal

abbrev pub invariant-loop-step : goal.invariant-loop-step
invariant-loop-step l = l.out ≡ l.fn.out ++ take l.step-index l.steps
