-- The values at which the signals of an object settle, from what names stand for round it.
use Rattle.std.specs.Prelude.{◌≡◌, refl, ℕ, zero, suc, Bool, true, false, Option, Some, None, List, [], ◌∷◌, ◌++◌}
use Rattle.std.specs.Prelude.{map, filter, flat_map, find, length, codes, if◌then◌else◌}
use Rattle.std.specs.Option.{option_map_or}
use Rattle.std.specs.List.{list_any}
use Rattle.std.specs.Str.{bytes_eq}
use Rattle.cell_value.specs.declared.cell.Cell.{Cell}
use Rattle.cell_value.specs.declared.cell.Cell.TheVariants.{Null, Flag}
use Rattle.cell_value.specs.State.{Dataset}
use Rattle.expr_eval.specs.Plain.{no_values}
use Rattle.expr_eval.specs.Values.{Values}
use Rattle.vega_spec.specs.declared.data.DataSet.{DataSet}
use Rattle.vega_spec.specs.declared.signals.Signal.{Signal}
use Rattle.vega_lists.specs.Scopes.{Scope}
use Rattle.vega_signals.specs.Extents.{Settled, is_computed, computed_here, set_extents, extent_names}

-- signals with values that are given
abbrev pub Valued : Type 0
Valued = List (List ℕ × Cell)

-- the same among signals of which some have no value
abbrev pub as_given : Valued → Settled
as_given given = map (λ (entry : List ℕ × Cell). (entry.0, Some entry.1)) given

-- whether one of some signals has the name
abbrev pub is_own : Settled → List ℕ → Bool
is_own own name = list_any (λ (entry : List ℕ × Option Cell). bytes_eq entry.0 name) own

-- the first of them that has the name
abbrev pub first_named : Settled → List ℕ → Option (List ℕ × Option Cell)
first_named own name = find (λ (entry : List ℕ × Option Cell). bytes_eq entry.0 name) own

-- The values inside an object: an own signal hides the outer one of its name, and the ends of an outer selection of its name.
abbrev pub values_inside : Settled → Values → Values
values_inside own outer = record outer {
  value = λ name. option_map_or (λ (entry : List ℕ × Option Cell). entry.1) (first_named own name) (outer.value name);
  member = λ name field. if is_own own name then Null else outer.member name field;
}

-- the names of the own signals that aren't given: those of the computed ones and of extents
abbrev pub own_names : List Signal → List DataSet → List (List ℕ)
own_names signals sets = map (λ (s : Signal). s.name) (filter is_computed signals) ++ flat_map extent_names sets

-- The values that the signals of an object have where they are read as `now`: those that are given, those of the computed ones, and those
-- of the extents of its data sets. Round it names stand for these lists and these values.
abbrev pub next_own : List Dataset → Scope → Values → Settled → List Signal → List DataSet → Settled → Settled
next_own sources lists outer given signals sets now =
    given ++ flat_map (computed_here (values_inside now outer)) signals ++ set_extents (values_inside now outer) sources lists sets

-- The same so many times over, beginning with those that are given: until it has a value, a signal reads as the outer one of its name, and
-- as null where there is none.
abbrev pub own_after : List Dataset → Scope → Values → Settled → List Signal → List DataSet → ℕ → Settled
own_after sources lists outer given signals sets zero = given
own_after sources lists outer given signals sets (suc n) =
    next_own sources lists outer given signals sets (own_after sources lists outer given signals sets n)

-- The values at which they settle: as many times over as there are signals that aren't given. Where they can be put in an order in which
-- each needs only those before it, each time there is at least one more that has its value for good, so once more changes nothing.
abbrev pub settled_own : List Dataset → Scope → Values → Valued → List Signal → List DataSet → Settled
settled_own sources lists outer given signals sets = own_after sources lists outer (as_given given) signals sets (length (own_names signals sets))

-- The rules at work.

-- where `k` and `j` stand for flags
abbrev round_it : Values
round_it = record no_values { value = λ name. Some (if bytes_eq name (codes "k") then Flag true else (if bytes_eq name (codes "j") then Flag true else Null)) }

an_own_name_hides_an_outer_one : ((values_inside ((codes "k", Some (Flag false)) ∷ []) round_it).value (codes "k") ≡ Some (Flag false))
    × ((values_inside ((codes "k", None) ∷ []) round_it).value (codes "k") ≡ None)
    × ((values_inside ((codes "k", None) ∷ []) round_it).value (codes "j") ≡ Some (Flag true))
    × ((values_inside [] round_it).value (codes "k") ≡ Some (Flag true))
an_own_name_hides_an_outer_one = (refl, refl, refl, refl)

given_signals_keep_their_values : settled_own [] (λ name. []) round_it ((codes "k", Flag false) ∷ []) [] [] ≡ (codes "k", Some (Flag false)) ∷ []
given_signals_keep_their_values = refl
