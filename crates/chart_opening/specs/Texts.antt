-- What bytes say as JSON, as a function.
use Rattle.std.specs.Prelude.{ℕ, List, Result, Ok, Err}
use Rattle.json_exact.specs.declared.json.Json.{Json}
use Rattle.json_exact.specs.Reading.{Reads, FaultsAt}

-- the tree of bytes, or how many of them begin a JSON text where they are none
abbrev pub Reading : Type 0
Reading = List ℕ → Result Json ℕ

-- the bytes are no JSON text, and so many of them begin one, and no greater number of them does
pub record HaveNoReading (bytes : List ℕ) (place : ℕ) : Type 0 where
  pub none : (tree : Json) → Reads bytes tree → ⊥
  pub at : FaultsAt bytes place

-- what is said of bytes is right: they spell the tree, or they spell none
abbrev pub IsRightFor : List ℕ → Result Json ℕ → Type 0
IsRightFor bytes (Ok tree) = Reads bytes tree
IsRightFor bytes (Err place) = HaveNoReading bytes place

-- it is right for all bytes
abbrev pub ReadsJson : Reading → Type 0
ReadsJson reading = (bytes : List ℕ) → IsRightFor bytes (reading bytes)
