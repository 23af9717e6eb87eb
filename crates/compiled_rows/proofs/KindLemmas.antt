-- Why the parameters of a compiled specification are those of the specification.
use Rattle.std.proofs.Common.{◌≡◌, ℕ, Option, Some, None, List, [], ◌∷◌, map, unwrap_or, refl, ap, ap₂, ◌∙◌}
use Rattle.std.specs.Prelude.{slice_get}
use Rattle.vega_spec.specs.declared.names.ParameterKind.TheVariants.{Selection}
use Rattle.vega_spec.specs.declared.spec.Group.{Group, Group-F, out-roll-Group}
use Rattle.vega_spec.specs.declared.spec.VgMark.{VgMark}
use Rattle.vega_spec.specs.Names.{parameter_of}
use Rattle.vl_spec.specs.declared.params.ParamKind.{ParamKind}
use Rattle.vl_spec.specs.declared.params.ParamKind.TheVariants as kind
use Rattle.vl_spec.specs.declared.params.ParamOf.{ParamOf}
use Rattle.plan_kit.specs.declared.scales.ScalePlan.{ScalePlan}
use Rattle.plan_kit.specs.declared.selections.SelectionPlan.{SelectionPlan}
use Rattle.vega_assemble.specs.Assembled.{made}
use Rattle.vega_assemble.specs.Made.{parts_of, rolled}
use Rattle.vega_assemble.specs.Signals.{kind_at, place_behind, signals_from, signals_of}
use Rattle.compiled_rows.specs.Kinds.{kind_written, param_written, ParamsAreWritten}
use Rattle.compiled_rows.proofs.SignalLemmas.{list_back}
use Rattle.compiled_rows.proofs.ValueLemmas.{of_selection}

module _ (stem : List ℕ) (scales : List ScalePlan) (selections : List SelectionPlan) where
  selected : (name : List ℕ) (place : ℕ) (o : Option SelectionPlan)
      → parameter_of (of_selection stem scales selections name place o) ≡ record { name = name; kind = Selection }
  selected name place None = refl
  selected name place (Some s) = refl

  one_written : (place : ℕ) (p : ParamOf) (k : ParamKind)
      → parameter_of (kind_at stem scales selections place p.name k) ≡ record { name = p.name; kind = kind_written k }
  one_written place p (kind.Value c) = refl
  one_written place p (kind.Expr e) = refl
  one_written place p (kind.Select s) = selected p.name place (slice_get selections place)

  all_written : (place : ℕ) (params : List ParamOf) → map parameter_of (signals_from stem scales selections place params) ≡ map param_written params
  all_written place [] = refl
  all_written place (p ∷ params) = ap₂ (λ a b. a ∷ b) (one_written place p p.kind) (all_written (place_behind place p) params)

pub params_are_written : ParamsAreWritten
params_are_written stem s p =
    ap (λ (g : Group-F Group VgMark). map parameter_of (unwrap_or g.signals []))
    (out-roll-Group (parts_of ((made stem s p).object) (rolled (made stem s p).marks)))
    ∙ ap (map parameter_of) (list_back (signals_of stem p.scales p.selections s.params)) ∙ all_written stem p.scales p.selections 0 s.params
