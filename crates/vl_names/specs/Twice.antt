-- Names that are given twice: each that stands behind the first in the text is wrong.
use Rattle.std.specs.Prelude.{◌≡◌, refl, ℕ, Bool, false, if◌then◌else◌, Option, Some, None, List, [], ◌∷◌, bytes_eq, filter, flat_map, map}
use Rattle.std.specs.Option.{option_map_or}
use Rattle.json_exact.specs.declared.json.Json.{Json}
use Rattle.spec_schema.specs.Order.{is_before}
use Rattle.vl_trails.specs.declared.fault.RuleFault.{RuleFault}
use Rattle.vl_trails.specs.Faults.{wrong_if}
use Rattle.vl_trails.specs.Trails.{place_of}
use Rattle.vl_names.specs.declared.given.Given.{Given}

-- the one of two places that stands first
abbrev pub sooner_place : List ℕ → Option (List ℕ) → Option (List ℕ)
sooner_place place None = Some place
sooner_place place (Some other) = if is_before other place then Some other else Some place

-- the one of some places that stands first
abbrev pub first_place : List (List ℕ) → Option (List ℕ)
first_place [] = None
first_place (place ∷ others) = sooner_place place (first_place others)

-- where a given name stands
abbrev pub stands_at : Json → Given → List ℕ
stands_at tree given = place_of tree given.trail

-- where a name is first given
abbrev pub first_given : Json → List Given → List ℕ → Option (List ℕ)
first_given tree all name = first_place (map (stands_at tree) (filter (λ (g : Given). bytes_eq name g.name) all))

-- a name was given before, where this is where each is first given
abbrev pub is_repeated : Json → (List ℕ → Option (List ℕ)) → Given → Bool
is_repeated tree first given = option_map_or (λ place. is_before place (stands_at tree given)) (first given.name) false

-- the names that were given before, where this is where each is first given
abbrev pub behind_firsts : Json → (List ℕ → Option (List ℕ)) → List Given → List RuleFault
behind_firsts tree first all = flat_map (λ (g : Given). wrong_if (is_repeated tree first g) g.trail) all

-- the names that were given before
abbrev pub twice : Json → List Given → List RuleFault
twice tree all = behind_firsts tree (first_given tree all) all

-- ---- worked example

the_first_of_three : first_place ((3 ∷ 1 ∷ []) ∷ (2 ∷ 7 ∷ []) ∷ (2 ∷ 9 ∷ []) ∷ []) ≡ Some (2 ∷ 7 ∷ [])
the_first_of_three = refl
