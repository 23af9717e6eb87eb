use Rattle.std.proofs.Common.{◌≡◌, ◌*◌, drop, nat_le}
use Rattle.std.specs.Prelude.{find}
use Rattle.plain_bins.proofs.steps.first_enough.Given as goal

abbrev pub invariant-loop-step : goal.invariant-loop-step
invariant-loop-step l =
    find (λ step. nat_le l.span (l.maxbins * step)) (drop l.step-index l.steps) ≡ find (λ step. nat_le l.span (l.maxbins * step)) l.steps
