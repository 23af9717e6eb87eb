-- Which parameters of a specification can be set, and what comes of setting one.
use Rattle.std.specs.Prelude.{◌≡◌, refl, ℕ, ◌&&◌, not, Bool, true, false, Option, Some, None, List, [], ◌∷◌, map, Result, Ok, Err, codes}
use Rattle.std.specs.Prelude.{if◌then◌else◌}
use Rattle.std.specs.List.{list_any}
use Rattle.std.specs.Str.{bytes_eq}
use Rattle.text_kit.specs.Answer.{GivesAs}
use Rattle.cell_value.specs.declared.cell.Cell.{Cell}
use Rattle.cell_value.specs.declared.cell.Cell.TheVariants.{Null, Flag}
use Rattle.cell_value.specs.declared.state.Params.{Params}
use Rattle.vega_spec.specs.declared.names.Parameter.{Parameter}
use Rattle.vega_spec.specs.declared.names.ParameterKind.{ParameterKind}
use Rattle.vega_spec.specs.declared.names.ParameterKind.TheVariants as kind
use Rattle.param_flow.specs.declared.param_error.ParamError.{ParamError}
use Rattle.param_flow.specs.declared.param_error.ParamError.TheVariants as error
use Rattle.param_flow.specs.Machine.{with_value}

-- whether commands may set a parameter of this kind
abbrev pub is_settable : ParameterKind → Bool
is_settable kind.Settable = true
is_settable kind.Computed = false
is_settable kind.Selection = false

-- whether there is a parameter of this name
abbrev pub has_name : List Parameter → List ℕ → Bool
has_name params name = list_any (λ (param : Parameter). bytes_eq param.name name) params

-- whether there is one that can be set
abbrev pub has_settable : List Parameter → List ℕ → Bool
has_settable params name = list_any (λ (param : Parameter). bytes_eq param.name name && is_settable param.kind) params

-- the parameters once one of them was given a value, the others and the selections as they were; or why none was
abbrev pub params_set : List Parameter → Params → List ℕ → Cell → Result Params ParamError
params_set params now name value =
    if not (has_name params name) then Err error.NoSuchName
    else (if has_settable params name then Ok (record { params = map (with_value name value) now.params; stores = now.stores })
    else Err error.Computed)

-- the cause of an error; refused memory has none
abbrev pub cause_of : ParamError → Option ParamError
cause_of error.NoSuchName = Some error.NoSuchName
cause_of error.Computed = Some error.Computed
cause_of error.Memory = None

-- what was answered is that, unless memory was refused
abbrev pub SetsAs : Result Params ParamError → Result Params ParamError → Type 0
SetsAs result given = GivesAs (λ params. params) cause_of result given

-- The rules at work.

-- one that can be set, and one that is computed
abbrev two_params : List Parameter
two_params = record { name = codes "k"; kind = kind.Settable } ∷ record { name = codes "twice"; kind = kind.Computed } ∷ []

-- the values of two parameters
abbrev values : Cell → Cell → Params
values k l = record { params = (codes "k", k) ∷ (codes "l", l) ∷ []; stores = [] }

one_is_set : params_set two_params (values Null Null) (codes "k") (Flag true) ≡ Ok (values (Flag true) Null)
one_is_set = refl

none_is_set : (params_set two_params (values Null Null) (codes "twice") Null ≡ Err error.Computed)
    × (params_set two_params (values Null Null) (codes "l") Null ≡ Err error.NoSuchName)
none_is_set = (refl, refl)
