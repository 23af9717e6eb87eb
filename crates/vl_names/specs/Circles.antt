-- Parameters that need themselves.
use Rattle.std.specs.Prelude.{ℕ, if◌then◌else◌, Option, Some, None, List, [], ◌∷◌, codes, map}
use Rattle.std.specs.List.{filter_map}
use Rattle.expr_reading.specs.Mentions.{parameters_in}
use Rattle.need_graph.specs.Needs.{needs_itself}
use Rattle.spec_walk.specs.declared.places.Step.TheVariants.{Name}
use Rattle.vl_spec.specs.declared.params.ParamKind.{ParamKind}
use Rattle.vl_spec.specs.declared.params.ParamKind.TheVariants as param_kind
use Rattle.vl_spec.specs.declared.params.ParamOf.{ParamOf}
use Rattle.vl_trails.specs.Trails.{Trail}

-- the numbers of the parameters that one needs by itself: those that its expression mentions
abbrev pub needs_of : (List ℕ → Option ℕ) → ParamKind → List ℕ
needs_of named (param_kind.Value cell) = []
needs_of named (param_kind.Expr e) = filter_map named (parameters_in e)
needs_of named (param_kind.Select selection) = []

-- what each parameter needs
abbrev pub needs_among : (List ℕ → Option ℕ) → List ParamOf → List (List ℕ)
needs_among named params = map (λ (p : ParamOf). needs_of named p.kind) params

-- a parameter that needs itself, by itself or through others, is wrong at its `expr`
abbrev pub breaks_circle : List (List ℕ) → ℕ × ParamOf → Option Trail
breaks_circle needs param = if needs_itself needs param.0 then Some (Name (codes "expr") ∷ []) else None
