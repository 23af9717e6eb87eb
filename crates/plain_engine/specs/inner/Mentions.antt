-- Names that are mentioned.
use Rattle.std.specs.Prelude.{ℕ, Bool, List}
use Rattle.std.specs.List.{list_any, list_all}
use Rattle.std.specs.Str.{bytes_eq}
use Rattle.vega_spec.specs.declared.names.Parameter.{Parameter}

-- whether there is a parameter of this name
abbrev pub is_param : List Parameter → List ℕ → Bool
is_param params name = list_any (λ (param : Parameter). bytes_eq param.name name) params

-- whether all of these are names of parameters
abbrev pub are_params : List Parameter → List (List ℕ) → Bool
are_params params names = list_all (is_param params) names
