-- What holds of steps, whatever the span.
use Rattle.std.specs.Prelude.{ℕ, ◌*◌, ◌<◌, ◌≤◌, ℤ, Option, Some, None, ◌≡◌}
use Rattle.fixed_num.specs.Number.{limit}
use Rattle.tick_kit.specs.Steps.{IsStep, step_of, span_of, widened}

-- each spacing has one step, and no other
pub record OneStep (span count : ℕ) : Type 0 where
  pub step : ℕ
  pub is : IsStep span count step
  pub only : (other : ℕ) → IsStep span count other → other ≡ step

-- over spans between numbers each spacing has one step
abbrev pub EachHasOneStep : Type 0
EachHasOneStep = (span count : ℕ) → span ≤ 2 * limit → 0 < count → OneStep span count

-- an answer is the step; none where that is out of range
abbrev pub AnswersStep : ℕ → ℕ → Option ℕ → Type 0
AnswersStep span count None = (step : ℕ) × (limit < step) × IsStep span count step
AnswersStep span count (Some step) = (step ≤ limit) × IsStep span count step

-- where the step stays, a domain that was taken outward to its multiples is taken no further
abbrev pub WideningStops : Type 0
WideningStops = (count step : ℕ) (domain wider : ℤ × ℤ) → widened count domain ≡ Some wider
    → step_of (span_of domain) count ≡ Some step → step_of (span_of wider) count ≡ Some step → widened count wider ≡ Some wider
