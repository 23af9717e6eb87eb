-- What the objects outside tell, and what one call does to it.
use Rattle.std.specs.Prelude.{◌≡◌, refl, codes, ℕ, ◌+◌, ◌-◌, ◌^◌, ◌<◌, ◌≤◌, min, List, [], ◌∷◌, ◌++◌, length, take, drop, find, Option}
use Rattle.std.specs.Prelude.{Some, None, IfSome, IsSomeAnd}
use Rattle.std.specs.Option.{option_map}
use Rattle.std.specs.Str.{bytes_eq}
use Rattle.std.proofs.Common.{lit<, lit≤}
use Rattle.chart_io.specs.declared.outside.Got.{Got}
use Rattle.chart_io.specs.declared.outside.Got.TheVariants.{Bytes, End, Missing}

-- the count of faults rose, or stands at the greatest u64
abbrev pub Rose : ℕ → ℕ → Type 0
Rose before now = min (before + 1) (2 ^ 64 - 1) ≤ now

-- files in order, each with the bytes of its name and its own bytes
abbrev pub Files : Type 0
Files = List (List ℕ × List ℕ)

-- the bytes of the first file of this name
abbrev pub file_of : Files → List ℕ → Option (List ℕ)
file_of files name = option_map (λ (file : List ℕ × List ℕ). file.1) (find (λ (file : List ℕ × List ℕ). bytes_eq file.0 name) files)

-- what a read at an offset answers of a file, and what then stands in the buffer
abbrev pub IsGot : Option (List ℕ) → ℕ → List ℕ → Got → Type 0
IsGot None at buf answer = answer ≡ Missing
IsGot (Some bytes) at buf Missing = ⊥
IsGot (Some bytes) at buf End = length bytes ≤ at
IsGot (Some bytes) at buf (Bytes n) = (0 < n) × (at + n ≤ length bytes) × (take n buf ≡ take n (drop at bytes))

-- an answer of bytes has at least one of them, and no more than there is room for
abbrev pub IsWithin : ℕ → Got → Type 0
IsWithin room (Bytes n) = (1 ≤ n) × (n ≤ room)
IsWithin room _ = Unit {0}

-- what was told is told still, as it was
abbrev pub Kept : {A : Type 0} → Option A → Option A → Type 0
Kept old now = IfSome old (λ told. now ≡ Some told)

-- these bytes were appended to what was told
abbrev pub Appended : Option (List ℕ) → Option (List ℕ) → List ℕ → Type 0
Appended old now bytes = IfSome old (λ held. now ≡ Some (held ++ bytes))

-- what was told is told still, and after it the first of these bytes: none, some or all of them
abbrev pub AppendedPrefix : Option (List ℕ) → Option (List ℕ) → List ℕ → Type 0
AppendedPrefix old now bytes =
    IfSome old (λ held. IsSomeAnd now (λ all. (length held ≤ length all) × (all ≡ take (length all) (held ++ bytes))))

-- a read moved the first n bytes that are left into the buffer, and n is 0 exactly where none is left
abbrev pub Moved : Option (List ℕ) → Option (List ℕ) → List ℕ → ℕ → Type 0
Moved old now buf n = IfSome old (λ left. (now ≡ Some (drop n left)) × (n ≤ length left) × (take n buf ≡ take n left) × (n ≡ 0 → left ≡ []))

-- The rules at work.

rose_by_one : Rose 4 5
rose_by_one = lit≤ tt

rose_at_the_greatest : Rose (2 ^ 64 - 1) (2 ^ 64 - 1)
rose_at_the_greatest = lit≤ tt

first_of_two : file_of ((codes "a", 1 ∷ []) ∷ (codes "b", 2 ∷ []) ∷ (codes "b", 3 ∷ []) ∷ []) (codes "b") ≡ Some (2 ∷ [])
first_of_two = refl

no_such_name : file_of ((codes "a", 1 ∷ []) ∷ []) (codes "ab") ≡ None
no_such_name = refl

two_bytes_from_one : IsGot (Some (7 ∷ 8 ∷ 9 ∷ [])) 1 (8 ∷ 9 ∷ 0 ∷ []) (Bytes 2)
two_bytes_from_one = (lit< tt, lit≤ tt, refl)

at_the_end : IsGot (Some (7 ∷ 8 ∷ 9 ∷ [])) 3 (0 ∷ []) End
at_the_end = lit≤ tt

not_there : IsGot None 3 (0 ∷ []) Missing
not_there = refl

one_byte_moved : Moved (Some (7 ∷ 8 ∷ [])) (Some (8 ∷ [])) (7 ∷ 0 ∷ []) 1
one_byte_moved = (refl, lit≤ tt, refl, λ none. cc)

one_byte_appended : Appended (Some (1 ∷ [])) (Some (1 ∷ 2 ∷ [])) (2 ∷ [])
one_byte_appended = refl

one_byte_of_two : AppendedPrefix (Some (1 ∷ [])) (Some (1 ∷ 2 ∷ [])) (2 ∷ 3 ∷ [])
one_byte_of_two = (lit≤ tt, refl)
