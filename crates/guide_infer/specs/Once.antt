-- Texts, equal ones once.
use Rattle.std.specs.Prelude.{◌≡◌, refl, ℕ, List, [], ◌∷◌, ◌++◌, codes, bytes_eq, if◌then◌else◌}
use Rattle.std.specs.List.{list_any}

-- the texts that aren't among those before them
abbrev pub once_behind : List (List ℕ) → List (List ℕ) → List (List ℕ)
once_behind before [] = []
once_behind before (text ∷ texts) =
    if list_any (bytes_eq text) before then once_behind before texts else text ∷ once_behind (before ++ text ∷ []) texts

-- texts, each where it stands first
abbrev pub each_once : List (List ℕ) → List (List ℕ)
each_once = once_behind []

-- The rules at work.

texts_once : each_once (codes "a" ∷ codes "b" ∷ codes "a" ∷ codes "c" ∷ codes "b" ∷ []) ≡ codes "a" ∷ codes "b" ∷ codes "c" ∷ []
texts_once = refl
