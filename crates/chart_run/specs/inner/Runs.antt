-- What a run does, by its answer. No public clause cites this.
use Rattle.std.specs.Prelude.{◌≡◌, ℕ, true, Option, List, Result, OnOk}
use Rattle.chart_io.specs.Outside.{Files, Appended, AppendedPrefix}
use Rattle.chart_opening.specs.inner.Reading.{the_reading}
use Rattle.chart_run.specs.declared.stop.RunStop.{RunStop}
use Rattle.chart_run.specs.Words.{Ask, reads_script}
use Rattle.chart_run.specs.Wanted.{IsWanted, IsAccepted, IsRepliedTo}
use Rattle.chart_run.specs.inner.Stops.{IsCutOff}

-- there is a text that is wanted, a beginning of it was appended, and all of it with Ok
pub record IsTexted (ask : Ask) (files : Files) (script : List ℕ) (result : Result (Unit {0}) RunStop)
    (out out_now : Option (List ℕ)) : Type 0 where
  pub text : List ℕ
  pub wanted : IsWanted the_reading ask files script text
  pub begun : AppendedPrefix out out_now text
  pub whole : OnOk result (Appended out out_now text)

-- where a script that is read was cut off, the replies to the lines that ended were appended
abbrev pub IsRepliedSo : Ask → Files → List ℕ → Option (List ℕ) → Result (Unit {0}) RunStop → Option (List ℕ) → Option (List ℕ) → Type 0
IsRepliedSo ask files script left result out out_now =
    IsAccepted the_reading ask files → reads_script ask ≡ true → IsCutOff result
    → IsRepliedTo the_reading ask files script left out out_now
