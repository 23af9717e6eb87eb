-- Names that are mentioned.
use Rattle.std.proofs.Common.{◌≡◌, ℕ, ◌&&◌, ◌||◌, List, [], ◌∷◌, ◌++◌, map, refl, ap, sym}
use Rattle.std.specs.List.{list_any, list_all}
use Rattle.std.specs.Str.{bytes_eq}
use Rattle.std.proofs.lemmas.List.Folds.{list_all-append}
use Rattle.param_flow.specs.Semantics.{ParamOf, has_param}
use Rattle.vega_spec.specs.declared.names.Parameter.{Parameter}
use Rattle.vega_spec.specs.declared.spec.VgSpec.{VgSpec}
use Rattle.vega_spec.specs.Names.{parameters_of}
use Rattle.vega_meaning.specs.Semantics.{param_of, vega_semantics}
use Rattle.plain_engine.specs.inner.Mentions.{is_param, are_params}

pub are_params_both : (params : List Parameter) (xs ys : List (List ℕ))
    → are_params params (xs ++ ys) ≡ (are_params params xs && are_params params ys)
are_params_both params xs ys = list_all-append (is_param params) xs ys

-- commands see the same names
same_param : (params : List Parameter) (name : List ℕ)
    → list_any (λ (param : ParamOf). bytes_eq param.name name) (map param_of params) ≡ is_param params name
same_param [] name = refl
same_param (param ∷ params) name = ap (λ others. bytes_eq param.name name || others) (same_param params name)

pub all_params : (g : VgSpec) (names : List (List ℕ))
    → are_params (parameters_of g) names ≡ list_all (has_param (vega_semantics g)) names
all_params g [] = refl
all_params g (name ∷ names) = λ i. sym_same i && all_params g names i
  where
    sym_same : is_param (parameters_of g) name ≡ has_param (vega_semantics g) name
    sym_same = sym (same_param (parameters_of g) name)
