-- The rules of parameters. A specification has its parameters in the order of the text, so the first that breaks a rule stands for all.
use Rattle.std.specs.Prelude.{◌≡◌, refl, ℕ, ◌==◌, nat_lt, Bool, false, Option, Some, None, List, [], ◌∷◌, ◌++◌, codes, is_none, map, unwrap_or, if◌then◌else◌}
use Rattle.std.specs.Option.{option_map, option_map_or, option_and_then, option_or, option_to_list}
use Rattle.std.specs.List.{enumerate_from, position_from}
use Rattle.spec_walk.specs.declared.places.Step.TheVariants.{Name, Number}
use Rattle.cell_value.specs.declared.cell.Cell.TheVariants as cell
use Rattle.vl_spec.specs.declared.params.ParamKind.{ParamKind}
use Rattle.vl_spec.specs.declared.params.ParamKind.TheVariants as param_kind
use Rattle.vl_spec.specs.declared.params.ParamOf.{ParamOf}
use Rattle.vl_trails.specs.declared.fault.RuleFault.{RuleFault}
use Rattle.vl_trails.specs.Faults.{wrong_at}
use Rattle.vl_trails.specs.Trails.{Trail, to_item, to_member}
use Rattle.vl_names.specs.declared.params.Breaking.{Breaking}
use Rattle.vl_names.specs.Known.{Known, knows, first_named, param_named}
use Rattle.vl_names.specs.Views.{ViewIn}

-- the trail to the parameter of a number, if a view has it
abbrev pub trail_in : ℕ → ViewIn → Option Trail
trail_in number v = option_map (to_item (to_member v.trail (codes "params"))) (position_from (λ n. n == number) 0 v.params)

-- what the first gives that gives something
abbrev pub first_some : {A B : Type 0} → (A → Option B) → List A → Option B
first_some gives [] = None
first_some gives (a ∷ others) = option_or (gives a) (first_some gives others)

-- the trail to the parameter of a number; the top, where no view has it
abbrev pub trail_of_param : List ViewIn → ℕ → Trail
trail_of_param views number = unwrap_or (first_some (trail_in number) views) []

-- a numbered parameter that breaks a rule, with the trail from it to what is wrong
abbrev pub breaking : ℕ → Trail → Breaking
breaking number inside = record { number = number; inside = inside }

-- the first of some numbered parameters that breaks a rule
abbrev pub first_breaking : (ℕ × ParamOf → Option Trail) → List (ℕ × ParamOf) → Option Breaking
first_breaking breaks = first_some (λ (param : ℕ × ParamOf). option_map (breaking param.0) (breaks param))

-- it is wrong there
abbrev pub wrong_inside : List ViewIn → Breaking → RuleFault
wrong_inside views found = wrong_at (trail_of_param views found.number ++ found.inside)

-- the fault that was found
abbrev pub found_fault : List ViewIn → Option Breaking → List RuleFault
found_fault views found = option_to_list (option_map (wrong_inside views) found)

-- the fault of the first parameter that breaks a rule
abbrev pub first_param_fault : List ViewIn → (ℕ × ParamOf → Option Trail) → List ParamOf → List RuleFault
first_param_fault views breaks params = found_fault views (first_breaking breaks (enumerate_from 0 params))

-- an earlier parameter has its name, by the first of each name
abbrev pub has_earlier : (List ℕ → Option ℕ) → ℕ × ParamOf → Bool
has_earlier named param = option_map_or (λ first. nat_lt first param.0) (named param.1.name) false

-- a parameter that has the name of an earlier one is wrong at its `name`
abbrev pub breaks_name : (List ℕ → Option ℕ) → ℕ × ParamOf → Option Trail
breaks_name named param = if has_earlier named param then Some (Name (codes "name") ∷ []) else None

-- one whose expression mentions an unknown name is wrong at its `expr`
abbrev pub unknown_in_param : Known → ParamKind → Option Trail
unknown_in_param known (param_kind.Value cell) = None
unknown_in_param known (param_kind.Expr e) = if knows known e then None else Some (Name (codes "expr") ∷ [])
unknown_in_param known (param_kind.Select selection) = None

abbrev pub breaks_known : Known → ℕ × ParamOf → Option Trail
breaks_known known param = unknown_in_param known param.1.kind

-- the number of the first of some names that is that of no view
abbrev pub unknown_view : (List ℕ → Option ℕ) → List (List ℕ) → Option ℕ
unknown_view viewed names = position_from (λ name. is_none (viewed name)) 0 names

-- a selection whose `views` has an unknown view is wrong at that entry
abbrev pub unknown_in_views_of : (List ℕ → Option ℕ) → Option (List (List ℕ)) → Option Trail
unknown_in_views_of viewed names =
    option_map (λ number. Name (codes "views") ∷ Number number ∷ []) (option_and_then (unknown_view viewed) names)

abbrev pub unknown_in_select : (List ℕ → Option ℕ) → ParamKind → Option Trail
unknown_in_select viewed (param_kind.Value cell) = None
unknown_in_select viewed (param_kind.Expr e) = None
unknown_in_select viewed (param_kind.Select selection) = unknown_in_views_of viewed selection.views

abbrev pub breaks_views : (List ℕ → Option ℕ) → ℕ × ParamOf → Option Trail
breaks_views viewed param = unknown_in_select viewed param.1.kind

-- The rules at work.

-- a parameter with a value
valued : List ℕ → ParamOf
valued name = record { name = name; kind = param_kind.Value cell.Null }

-- parameters of these names
params_named : List (List ℕ) → List ParamOf
params_named names = map valued names

an_earlier_one_has_its_name :
    first_breaking (breaks_name (param_named (params_named (codes "p" ∷ codes "q" ∷ codes "p" ∷ []))))
    (enumerate_from 0 (params_named (codes "p" ∷ codes "q" ∷ codes "p" ∷ [])))
    ≡ Some (breaking 2 (Name (codes "name") ∷ []))
unfolding params_named valued
an_earlier_one_has_its_name = refl

no_name_is_not_given_twice :
    first_breaking (breaks_name (param_named (params_named ([] ∷ [] ∷ [])))) (enumerate_from 0 (params_named ([] ∷ [] ∷ []))) ≡ None
unfolding params_named valued
no_name_is_not_given_twice = refl

the_first_unknown_view : unknown_in_views_of (first_named (codes "v" ∷ [])) (Some (codes "v" ∷ codes "w" ∷ codes "u" ∷ []))
    ≡ Some (Name (codes "views") ∷ Number 1 ∷ [])
the_first_unknown_view = refl
