-- Runs of items as one list.
use Rattle.std.specs.Prelude.{◌≡◌, refl, ℕ, List, [], ◌∷◌}
use Rattle.std.specs.List.{flat_map}

-- lists one after the other
abbrev pub joined : {X : Type 0} → List (List X) → List X
joined runs = flat_map (λ run. run) runs

two_runs_and_an_empty_one : joined {X = ℕ} ((1 ∷ 2 ∷ []) ∷ [] ∷ (3 ∷ []) ∷ []) ≡ 1 ∷ 2 ∷ 3 ∷ []
two_runs_and_an_empty_one = refl
