-- The last of what is found on the way through a list.
use Rattle.std.specs.Prelude.{ℕ, ◌+◌, Bool, cond, Option, Some, List, [], ◌∷◌}
use Rattle.std.specs.Option.{option_or}

-- the last place at which an element passes, counted from a number on; the one found before where none does
abbrev pub last_place : {X : Type 0} → (X → Bool) → ℕ → List X → Option ℕ → Option ℕ
last_place test n [] found = found
last_place test n (x ∷ xs) found = last_place test (n + 1) xs (cond (test x) (Some n) found)

-- the last that is given of an element; what was found before where none gives something
abbrev pub last_found : {X Y : Type 0} → (X → Option Y) → List X → Option Y → Option Y
last_found give [] found = found
last_found give (x ∷ xs) found = last_found give xs (option_or (give x) found)

-- the same of runs, one after the other
abbrev pub last_in_runs : {X Y : Type 0} → (X → Option Y) → List (List X) → Option Y → Option Y
last_in_runs give [] found = found
last_in_runs give (run ∷ runs) found = last_in_runs give runs (last_found give run found)
