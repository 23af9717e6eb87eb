-- The first parameter that needs itself is the first that breaks the rule.
use Rattle.std.proofs.Common.{◌≡◌, ℕ, Bool, true, false, Some, None, List, [], ◌∷◌, map, cond, refl}
use Rattle.std.specs.Prelude.{codes, find}
use Rattle.std.specs.Option.{option_map, option_or}
use Rattle.need_graph.specs.Needs.{needs_itself}
use Rattle.spec_walk.specs.declared.places.Step.TheVariants.{Name}
use Rattle.vl_spec.specs.declared.params.ParamOf.{ParamOf}
use Rattle.vl_names.specs.declared.params.Breaking.{Breaking}
use Rattle.vl_names.specs.Circles.{breaks_circle}
use Rattle.vl_names.specs.Params.{breaking, first_breaking}
use Rattle.vl_names.specs.inner.Numbers.{number_of}

abbrev pub at_expr : ℕ → Breaking
at_expr number = breaking number (Name (codes "expr") ∷ [])

pub circle_found : (needs : List (List ℕ)) (params : List (ℕ × ParamOf)) →
    option_map at_expr (find (needs_itself needs) (map number_of params)) ≡ first_breaking (breaks_circle needs) params
circle_found needs [] = refl
circle_found needs (p ∷ ps) = by_test (needs_itself needs p.0) (circle_found needs ps)
  where
    by_test : (b : Bool) → option_map at_expr (find (needs_itself needs) (map number_of ps)) ≡ first_breaking (breaks_circle needs) ps
        → option_map at_expr (cond b (Some p.0) (find (needs_itself needs) (map number_of ps)))
        ≡ option_or (option_map (breaking p.0) (cond b (Some (Name (codes "expr") ∷ [])) None)) (first_breaking (breaks_circle needs) ps)
    by_test true later = refl
    by_test false later = later
