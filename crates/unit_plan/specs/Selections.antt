-- Which parameters are selections.
use Rattle.std.specs.Prelude.{◌≡◌, refl, ℕ, Bool, true, false, Option, None, List, [], ◌∷◌, map, codes, unwrap_or}
use Rattle.std.specs.Map.{update_all}
use Rattle.std.specs.Str.{bytes_eq}
use Rattle.cell_value.specs.declared.cell.Cell.TheVariants as cell
use Rattle.vl_spec.specs.declared.params.ParamKind.{ParamKind}
use Rattle.vl_spec.specs.declared.params.ParamKind.TheVariants as param
use Rattle.vl_spec.specs.declared.params.ParamOf.{ParamOf}
use Rattle.vl_spec.specs.declared.params.Select.TheVariants as select
use Rattle.vl_spec.specs.declared.params.SelectType.TheVariants as select_type

abbrev pub is_select : ParamKind → Bool
is_select (param.Value value) = false
is_select (param.Expr e) = false
is_select (param.Select selection) = true

-- a parameter's name, and whether it is a selection
abbrev pub kind_entry : ParamOf → List ℕ × Bool
kind_entry p = (p.name, is_select p.kind)

-- whether the parameter of a name is a selection; of several of one name the last counts, and none is one of another name
abbrev pub kind_named : List ParamOf → List ℕ → Option Bool
kind_named params = update_all bytes_eq (λ name. None) (map kind_entry params)

abbrev pub is_selection : List ParamOf → List ℕ → Bool
is_selection params name = unwrap_or (kind_named params name) false

-- The rules at work.

-- a value and a selection
abbrev two_params : List ParamOf
two_params = record { name = codes "p"; kind = param.Value cell.Null }
    ∷ record { name = codes "s"; kind = param.Select record { views = None; select = select.Type select_type.Point } } ∷ []

a_value_is_none : is_selection two_params (codes "p") ≡ false
a_value_is_none = refl

a_selection_is_one : is_selection two_params (codes "s") ≡ true
a_selection_is_one = refl

another_name_is_none : is_selection two_params (codes "q") ≡ false
another_name_is_none = refl
