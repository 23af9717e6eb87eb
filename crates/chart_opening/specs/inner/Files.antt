-- Why a file's bytes are not read. No public clause cites this.
use Rattle.std.specs.Prelude.{◌≡◌, ◌≤◌, ◌<◌, ℕ, Option, Some, None, List, Result, Ok, Err, length}
use Rattle.std.specs.declared.vec.Vec.{Vec}
use Rattle.chart_opening.specs.declared.refusal.Refusal.TheVariants as refusal
use Rattle.chart_opening.specs.declared.refusal.OpenStop.{OpenStop}
use Rattle.chart_opening.specs.declared.refusal.OpenStop.TheVariants as outer
use Rattle.chart_opening.specs.declared.files.FileStop.{FileStop}
use Rattle.chart_opening.specs.declared.files.FileStop.TheVariants as stop
use Rattle.chart_opening.specs.Files.{most_bytes}

-- a file is longer than files may be
abbrev pub IsTooLong : Option (List ℕ) → Type 0
IsTooLong None = ⊥
IsTooLong (Some bytes) = most_bytes < length bytes

-- what reading answers of a file, where the folder tells it
abbrev pub IsReadOf : {A : Type 0} → Option (List ℕ) → Result (Vec ℕ A) FileStop → Type 0
IsReadOf file (Ok bytes) = (file ≡ Some bytes.items) × (length bytes.items ≤ most_bytes)
IsReadOf file (Err stop.Missing) = file ≡ None
IsReadOf file (Err stop.Size) = IsTooLong file
IsReadOf file (Err stop.Read) = Unit {0}
IsReadOf file (Err stop.Memory) = Unit {0}

-- why a file of a name is refused; it isn't opened where memory was refused meanwhile
abbrev pub IsStopOf : List ℕ → FileStop → OpenStop → Type 0
IsStopOf name stop.Missing (outer.Refused why) = why ≡ refusal.Missing name
IsStopOf name stop.Size (outer.Refused why) = why ≡ refusal.Size name
IsStopOf name stop.Read (outer.Refused why) = ⊥
IsStopOf name stop.Memory (outer.Refused why) = ⊥
IsStopOf name stop.Missing outer.Read = ⊥
IsStopOf name stop.Size outer.Read = ⊥
IsStopOf name stop.Read outer.Read = Unit {0}
IsStopOf name stop.Memory outer.Read = ⊥
IsStopOf name why outer.Memory = Unit {0}
