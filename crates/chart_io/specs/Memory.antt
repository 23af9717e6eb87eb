-- What the objects in memory hold.
use Rattle.std.specs.Prelude.{◌≡◌, refl, ℕ, ◌-◌, nat_le, if◌then◌else◌, min, List, [], ◌∷◌, length, map, Option, Some, None, String, Vec}
use Rattle.std.specs.Prelude.{string_bytes}
use Rattle.std.specs.declared.alloc.Global.{Global}
use Rattle.chart_io.specs.Counts.{CallCounts}
use Rattle.chart_io.specs.declared.outside.Got.{Got}
use Rattle.chart_io.specs.declared.outside.Got.TheVariants.{Bytes, End, Missing}
use Rattle.chart_io.specs.Outside.{Files}

-- named bytes, as files
abbrev pub listed : List (String Global × Vec ℕ Global) → Files
listed files = map (λ (file : String Global × Vec ℕ Global). (string_bytes file.0, file.1.items)) files

-- what a read from a byte of a file on answers: as many bytes as there are and as there is room for
abbrev pub got_of : Option (List ℕ) → ℕ → ℕ → Got
got_of None at room = Missing
got_of (Some bytes) at room = if nat_le (length bytes) at then End else Bytes (min (length bytes - at) room)

-- a folder: its files, and its calls
pub record FolderState : Type 0 where
  pub files : Files
  pub calls : CallCounts

-- a source: the bytes left, at most how many of them a call gives, and its calls
pub record SourceState : Type 0 where
  pub left : List ℕ
  pub most : ℕ
  pub calls : CallCounts

-- a sink: the bytes that it took, at most how many it takes in a call, and its calls
pub record SinkState : Type 0 where
  pub held : List ℕ
  pub most : ℕ
  pub calls : CallCounts

-- The rule of a read at work.

room_for_two : got_of (Some (7 ∷ 8 ∷ 9 ∷ [])) 0 2 ≡ Bytes 2
room_for_two = refl

one_byte_left : got_of (Some (7 ∷ 8 ∷ 9 ∷ [])) 2 2 ≡ Bytes 1
one_byte_left = refl

none_left : got_of (Some (7 ∷ 8 ∷ 9 ∷ [])) 3 2 ≡ End
none_left = refl
