-- What one call does that reads files of a folder. No public clause cites this.
use Rattle.std.specs.Prelude.{◌≤◌, ℕ, Option, Result, Err, IfSome}
use Rattle.chart_io.specs.Outside.{Rose, Files, Kept}
use Rattle.chart_opening.specs.declared.refusal.Refusal.{Refusal}
use Rattle.chart_opening.specs.declared.refusal.OpenStop.{OpenStop}
use Rattle.chart_opening.specs.declared.refusal.OpenStop.TheVariants as stop
use Rattle.chart_opening.specs.Answers.{Opens}

-- a read failed only where the count of faults rose
abbrev pub IsReadFault : {X : Type 0} → ℕ → ℕ → Result X OpenStop → Type 0
IsReadFault before now (Err stop.Read) = Rose before now
IsReadFault before now other = Unit {0}

-- a call whose answer is given by the files: the counts of faults before and after it, and what the folder tells before and after it
pub record IsRead {X : Type 0} (before now : ℕ) (told tells : Option Files) (result : Result X OpenStop)
    (given : Files → Result X Refusal) : Type 0 where
  pub counted : before ≤ now
  pub stays : Kept told tells
  pub read : IsReadFault before now result
  pub is : IfSome told (λ files. Opens result (given files))
