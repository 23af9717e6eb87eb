-- What playing a script does.
use Rattle.std.specs.Prelude.{◌≡◌, ◌<◌, ◌≤◌, ◌-◌, ◌⊎◌, ℕ, Option, None, IfSome, IsSomeAnd, List, ◌++◌, length, take, Result, Ok, Err}
use Rattle.chart_io.specs.Outside.{Rose, Kept, Appended, AppendedPrefix}
use Rattle.param_flow.specs.Script.{lines_of, ended_lines, most_script_bytes, IsOutput}
use Rattle.play_script.specs.declared.errors.PlayError.{PlayError}
use Rattle.play_script.specs.declared.errors.PlayError.TheVariants as error

-- what the output and the notes of a script tell at one moment, and how many faults the notes have counted
pub record Sinks : Type 0 where
  pub held : Option (List ℕ)
  pub noted : Option (List ℕ)
  pub faults : ℕ

abbrev pub sinks : Option (List ℕ) → Option (List ℕ) → ℕ → Sinks
sinks held noted faults = record { held = held; noted = noted; faults = faults }

-- an output beside notes of which nothing is told
abbrev pub output_alone : Option (List ℕ) → Sinks
output_alone held = sinks held None 0

-- both tell what they told before, the notes unless their count of faults rose
abbrev pub AreKept : Sinks → Sinks → Type 0
AreKept before now = Kept before.held now.held × ((Rose before.faults now.faults → ⊥) → Kept before.noted now.noted)

-- Of two texts of which this holds, the first was appended to the output, and the second to the notes unless their count of faults
-- rose: wholly by `Appended`, as far as a beginning by `AppendedPrefix`.
pub record AreWritten
    (How : Option (List ℕ) → Option (List ℕ) → List ℕ → Type 0) (Holds : List ℕ → List ℕ → Type 0) (before now : Sinks) : Type 0 where
  pub out : List ℕ
  pub notes : List ℕ
  pub is : Holds out notes
  pub appended : How before.held now.held out
  pub noted : (Rose before.faults now.faults → ⊥) → How before.noted now.noted notes

module _ {S : Type 0} (Replies : S → ℕ → List ℕ → List ℕ → List ℕ → S → Type 0) where
  -- What doing a line answers. With Ok the line is done, and its whole reply was appended. Else writing failed or memory was refused:
  -- nothing was done, or the line is done and a beginning of its reply was appended.
  abbrev pub IsLineDone : {X : Type 0} → ℕ → List ℕ → S → S → Sinks → Sinks → Result X PlayError → Type 0
  IsLineDone n line st st_now before now (Ok done) = AreWritten Appended (λ reply note. Replies st n line reply note st_now) before now
  IsLineDone n line st st_now before now (Err cause) =
      ((cause ≡ error.Write) ⊎ (cause ≡ error.Memory))
      × (((st_now ≡ st) × AreKept before now) ⊎ AreWritten AppendedPrefix (λ reply note. Replies st n line reply note st_now) before now)

  -- lines, the first of this number, are done: the state is the one after them, and their whole output was appended
  abbrev pub AreDone : ℕ → List (List ℕ) → S → S → Sinks → Sinks → Type 0
  AreDone n lines st st_now before now = AreWritten Appended (λ out notes. IsOutput Replies st n lines out notes st_now) before now

  -- some number of lines, the first of this number, is done: the state is the one after these, and a beginning of their output was
  -- appended
  abbrev pub AreBegun : ℕ → List (List ℕ) → S → S → Sinks → Sinks → Type 0
  AreBegun n lines st st_now before now =
      (k : ℕ) × AreWritten AppendedPrefix (λ out notes. IsOutput Replies st n (take k lines) out notes st_now) before now

  -- some lines lead from one state to the other
  abbrev pub IsReached : S → S → Type 0
  IsReached st st_now = (lines : List (List ℕ)) × (out notes : List ℕ) × IsOutput Replies st 1 lines out notes st_now

  -- What playing answers of a script of which some bytes were taken, and what it did to the state and the sinks. With Ok the whole script
  -- was taken, and all of its lines are done. Where it can't be read on, or is too long, exactly the lines are done that ended within what
  -- was taken, of a script that is too long within as much as a script may have. Else some number of its lines is done, and a beginning of
  -- their output was appended.
  abbrev pub IsPlayed : {X : Type 0} → List ℕ → List ℕ → S → S → Sinks → Sinks → Result X PlayError → Type 0
  IsPlayed script taken st st_now before now (Ok done) =
      (taken ≡ script) × (length taken ≤ most_script_bytes) × AreDone 1 (lines_of script) st st_now before now
  IsPlayed script taken st st_now before now (Err error.Read) =
      (length taken ≤ most_script_bytes) × AreDone 1 (ended_lines taken) st st_now before now
  IsPlayed script taken st st_now before now (Err error.Size) =
      (most_script_bytes < length taken) × AreDone 1 (ended_lines (take most_script_bytes taken)) st st_now before now
  IsPlayed script taken st st_now before now (Err error.Write) =
      (length taken ≤ most_script_bytes) × AreBegun 1 (lines_of script) st st_now before now
  IsPlayed script taken st st_now before now (Err error.Memory) =
      (length taken ≤ most_script_bytes) × AreBegun 1 (lines_of script) st st_now before now

-- the bytes taken of a script, where it is told: what was told is these bytes and what is left after them
abbrev pub HasTaken : Option (List ℕ) → Option (List ℕ) → List ℕ → Type 0
HasTaken told left taken = IfSome told (λ bytes. IsSomeAnd left (λ rest. bytes ≡ taken ++ rest))

-- what is left of a script is told still, and more bytes of it were taken than a script may have
abbrev pub IsPastSize : List ℕ → Option (List ℕ) → Type 0
IsPastSize script left = IsSomeAnd left (λ rest. most_script_bytes < length script - length rest)
