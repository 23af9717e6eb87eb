-- What is answered where something is opened.
use Rattle.std.specs.Prelude.{refl, ℕ, Option, Some, None, Result, Ok, Err}
use Rattle.text_kit.specs.Answer.{GivesAs}
use Rattle.chart_opening.specs.declared.refusal.Refusal.{Refusal}
use Rattle.chart_opening.specs.declared.refusal.Refusal.TheVariants as refusal
use Rattle.chart_opening.specs.declared.refusal.OpenStop.{OpenStop}
use Rattle.chart_opening.specs.declared.refusal.OpenStop.TheVariants as stop

-- the refusal for which nothing was opened; none where a read failed or memory was refused
abbrev pub cause : OpenStop → Option Refusal
cause (stop.Refused why) = Some why
cause stop.Read = None
cause stop.Memory = None

-- What was answered is what is given, exactly, unless a read failed or memory was refused.
abbrev pub Opens : {X : Type 0} → Result X OpenStop → Result X Refusal → Type 0
Opens = GivesAs (λ x. x) cause

-- The rules at work.

what_is_given : Opens {X = ℕ} (Ok 5) (Ok 5)
what_is_given = refl

the_refusal_that_is_given : Opens {X = ℕ} (Err (stop.Refused refusal.Rows)) (Err refusal.Rows)
the_refusal_that_is_given = refl

a_read_may_fail : Opens {X = ℕ} (Err stop.Read) (Ok 5)
a_read_may_fail = tt
