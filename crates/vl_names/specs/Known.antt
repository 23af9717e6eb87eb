-- Which names are known.
use Rattle.std.specs.Prelude.{◌≡◌, refl, ℕ, ◌==◌, Bool, true, false, ◌&&◌, Option, None, List, [], ◌∷◌, codes, length, map, is_some}
use Rattle.std.specs.Prelude.{slice_get, bytes_eq, if◌then◌else◌}
use Rattle.std.specs.Option.{option_map_or}
use Rattle.std.specs.List.{filter_map, list_all, position_from}
use Rattle.expr_syntax.specs.declared.expr.Expr.{Expr}
use Rattle.expr_reading.specs.Mentions.{parameters_in, selections_in}
use Rattle.cell_value.specs.declared.cell.Cell.{Cell}
use Rattle.vl_spec.specs.declared.params.ParamKind.{ParamKind}
use Rattle.vl_spec.specs.declared.params.ParamKind.TheVariants as param_kind
use Rattle.vl_spec.specs.declared.params.ParamOf.{ParamOf}
use Rattle.vl_spec.specs.declared.params.Selection.{Selection}
use Rattle.vl_names.specs.Views.{ViewIn}

-- the number of the first of some names that is this one
abbrev pub first_named : List (List ℕ) → List ℕ → Option ℕ
first_named names name = position_from (bytes_eq name) 0 names

-- the names of parameters, in the order of the text; a parameter without a name has an empty one
abbrev pub param_names : List ParamOf → List (List ℕ)
param_names params = map (λ (p : ParamOf). p.name) params

-- the names of views
abbrev pub view_names : List ViewIn → List (List ℕ)
view_names views = filter_map (λ (v : ViewIn). v.name) views

-- the number of the first parameter of a name; no parameter has the empty one
abbrev pub param_named : List ParamOf → List ℕ → Option ℕ
param_named params name = if length name == 0 then None else first_named (param_names params) name

-- whether a parameter is a selection, which has a store
abbrev pub is_selection : ParamKind → Bool
is_selection (param_kind.Value cell) = false
is_selection (param_kind.Expr e) = false
is_selection (param_kind.Select selection) = true

-- what is known of a parameter's name and of a store's
pub record Known : Type 0 where
  pub param : List ℕ → Bool
  pub store : List ℕ → Bool

abbrev pub is_selection_at : List ParamOf → ℕ → Bool
is_selection_at params number = option_map_or (λ (p : ParamOf). is_selection p.kind) (slice_get params number) false

-- a parameter is known where one is found by its name, and a store where that is a selection
abbrev pub known_with : List ParamOf → (List ℕ → Option ℕ) → Known
known_with params named = record {
  param = λ name. is_some (named name);
  store = λ name. option_map_or (is_selection_at params) (named name) false;
}

abbrev pub known_among : List ParamOf → Known
known_among params = known_with params (param_named params)

-- all names that an expression mentions are known
abbrev pub knows : Known → Expr → Bool
knows known e = list_all known.param (parameters_in e) && list_all known.store (selections_in e)

-- The rule at work.

-- a parameter of the name `p`
called_p : ParamKind → ParamOf
called_p kind = record { name = codes "p"; kind = kind }

a_value_has_no_store : (cell : Cell) → (known_among (called_p (param_kind.Value cell) ∷ [])).store (codes "p") ≡ false
unfolding called_p
a_value_has_no_store cell = refl

a_selection_has_one : (s : Selection) → (known_among (called_p (param_kind.Select s) ∷ [])).store (codes "p") ≡ true
unfolding called_p
a_selection_has_one s = refl
