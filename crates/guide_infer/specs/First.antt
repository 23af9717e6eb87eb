-- The first of several that gives something.
use Rattle.std.specs.Prelude.{◌≡◌, refl, ℕ, Option, Some, None, List, [], ◌∷◌}
use Rattle.std.specs.Option.{option_or}

-- what the first gives of those that give anything
abbrev pub first_given : {A B : Type 0} → (A → Option B) → List A → Option B
first_given gives [] = None
first_given gives (x ∷ others) = option_or (gives x) (first_given gives others)

-- The rules at work.

the_first_that_gives_it : first_given {A = Option ℕ} (λ o. o) (None ∷ Some 2 ∷ Some 3 ∷ []) ≡ Some 2
the_first_that_gives_it = refl
