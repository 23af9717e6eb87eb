-- Names that are words.
use Rattle.std.specs.Prelude.{ℕ, Option, Some, None, List, [], ◌∷◌, bytes_eq, if◌then◌else◌}
use Rattle.vega_building.specs.declared.words.Word.{Word}

-- what the first of some words stands for that is this name
abbrev pub word_in : {A : Type 0} → List (Word A) → List ℕ → Option A
word_in [] name = None
word_in (word ∷ words) name = if bytes_eq name word.name.now then Some word.value else word_in words name
