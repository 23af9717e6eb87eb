-- How far a script has come.
use Rattle.std.specs.Prelude.{◌≡◌, ◌≤◌, ◌⊎◌, ℕ, suc, Option, IfSome, List, ◌++◌, length, Result, Ok, Err}
use Rattle.chart_io.specs.Outside.{Appended, AppendedPrefix}
use Rattle.param_flow.specs.Script.{lines_of}
use Rattle.play_script.specs.declared.errors.PlayError.{PlayError}
use Rattle.play_script.specs.declared.errors.PlayError.TheVariants.{Write, Memory}
use Rattle.play_script.specs.declared.pending.Pending.{Pending}
use Rattle.play_script.specs.inner.Pending.{Keeps, AreSplit}
use Rattle.play_script.specs.Played.{Sinks, AreWritten, AreDone, AreBegun, IsReached, IsPlayed, HasTaken}

-- what stops a line
abbrev pub IsStop : PlayError → Type 0
IsStop cause = (cause ≡ Write) ⊎ (cause ≡ Memory)

-- of two texts of which this holds, all was appended with Ok, else a beginning
abbrev pub AreSent : {X : Type 0} → (List ℕ → List ℕ → Type 0) → Sinks → Sinks → Result X PlayError → Type 0
AreSent Holds before now (Ok done) = AreWritten Appended Holds before now
AreSent Holds before now (Err cause) = IsStop cause × AreWritten AppendedPrefix Holds before now

module _ {S : Type 0} (Replies : S → ℕ → List ℕ → List ℕ → List ℕ → S → Type 0) where
  -- lines are done with Ok, else some number of them
  abbrev pub AreAnswered : {X : Type 0} → ℕ → List (List ℕ) → S → S → Sinks → Sinks → Result X PlayError → Type 0
  AreAnswered n lines st st_now before now (Ok done) = AreDone Replies n lines st st_now before now
  AreAnswered n lines st st_now before now (Err cause) = IsStop cause × AreBegun Replies n lines st st_now before now

  -- the lines that ended within the bytes that were taken are done, and of the line that hasn't ended the number and the bytes are kept
  pub record Stands (st : S) (before : Sinks) (taken : List ℕ) (line : Pending) (st_now : S) (now : Sinks) : Type 0 where
    pub ended : List (List ℕ)
    pub begun : List ℕ
    pub split : AreSplit taken ended begun
    pub number : line.number ≡ suc (length ended)
    pub kept : Keeps line begun
    pub counted : before.faults ≤ now.faults
    pub done : AreDone Replies 1 ended st st_now before now

  -- of the bytes that were taken the lines that ended are done with Ok, else some number of the script's, whatever bytes follow
  abbrev pub GoesOn : {X : Type 0} → S → Sinks → List ℕ → Pending → S → Sinks → Result X PlayError → Type 0
  GoesOn st before taken line st_now now (Ok done) = Stands st before taken line st_now now
  GoesOn st before taken line st_now now (Err cause) =
      IsStop cause × ((rest : List ℕ) → AreBegun Replies 1 (lines_of (taken ++ rest)) st st_now before now)

  -- what playing answers of a script, by what was taken of it where it is told, and that the state is one that some lines lead to
  abbrev pub PlayedSo : {X : Type 0} → Option (List ℕ) → Option (List ℕ) → S → S → Sinks → Sinks → Result X PlayError → Type 0
  PlayedSo told left st st_now before now result =
      IsReached Replies st st_now
      × ((taken : List ℕ) × HasTaken told left taken × IfSome told (λ bytes. IsPlayed Replies bytes taken st st_now before now result))
