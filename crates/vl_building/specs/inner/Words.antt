-- Names that are words.
use Rattle.std.specs.Prelude.{ℕ, Bool, false, ◌||◌, Option, Some, None, List, [], ◌∷◌, bytes_eq, if◌then◌else◌}
use Rattle.vl_building.specs.declared.words.Word.{Word}

-- what the first of some words stands for that is this name
abbrev pub word_in : {A : Type 0} → List (Word A) → List ℕ → Option A
word_in [] name = None
word_in (word ∷ words) name = if bytes_eq name word.name.now then Some word.value else word_in words name

-- a name is one of these, or something else holds
abbrev pub among_or : Bool → List (List ℕ) → List ℕ → Bool
among_or found [] name = found
among_or found (n ∷ names) name = among_or (found || bytes_eq name n) names name

-- a name is one of these
abbrev pub is_among : List (List ℕ) → List ℕ → Bool
is_among names name = among_or false names name
