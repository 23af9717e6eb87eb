-- The parameters of a compiled specification are those of the specification, of the same kinds.
use Rattle.std.specs.Prelude.{◌≡◌, ℕ, List, map}
use Rattle.vega_spec.specs.declared.names.Parameter.{Parameter}
use Rattle.vega_spec.specs.declared.names.ParameterKind.{ParameterKind}
use Rattle.vega_spec.specs.declared.names.ParameterKind.TheVariants.{Settable, Computed, Selection}
use Rattle.vega_spec.specs.Names.{parameters_of}
use Rattle.vl_spec.specs.declared.params.ParamKind.{ParamKind}
use Rattle.vl_spec.specs.declared.params.ParamKind.TheVariants as kind
use Rattle.vl_spec.specs.declared.params.ParamOf.{ParamOf}
use Rattle.vl_spec.specs.declared.spec.VlSpec.{VlSpec}
use Rattle.plan_kit.specs.declared.plan.Plan.{Plan}
use Rattle.vega_assemble.specs.Assembled.{written_with}

abbrev pub kind_written : ParamKind → ParameterKind
kind_written (kind.Value c) = Settable
kind_written (kind.Expr e) = Computed
kind_written (kind.Select s) = Selection

abbrev pub param_written : ParamOf → Parameter
param_written p = record { name = p.name; kind = kind_written p.kind }

abbrev pub ParamsAreWritten : Type 0
ParamsAreWritten = (stem : List ℕ) (s : VlSpec) (p : Plan) → parameters_of (written_with stem s p) ≡ map param_written s.params
