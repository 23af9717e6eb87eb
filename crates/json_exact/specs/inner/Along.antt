-- Going along a path word by word, and along a word byte by byte.
use Rattle.std.specs.Prelude.{ℕ, List, [], ◌∷◌, Bool, false, ◌==◌, if◌then◌else◌, Option, Some, None}
use Rattle.std.specs.Str.{bytes_eq}
use Rattle.json_exact.specs.Path.{words_of, tilde_escape}

-- the words after a mark, or none
abbrev pub words_after : List ℕ → List (List ℕ)
words_after [] = []
words_after (b ∷ rest) = words_of rest

-- whether it is this name
abbrev pub is_name : Option (List ℕ) → List ℕ → Bool
is_name None name = false
is_name (Some other) name = bytes_eq other name

-- the first byte for which a word stands
abbrev pub front_of : List ℕ → Option ℕ
front_of [] = None
front_of (b ∷ []) = if b == 126 then None else Some b
front_of (b ∷ c ∷ rest) = if b == 126 then tilde_escape c else Some b

-- the word without it
abbrev pub front_rest : List ℕ → List ℕ
front_rest [] = []
front_rest (b ∷ []) = []
front_rest (b ∷ c ∷ rest) = if b == 126 then rest else c ∷ rest
