-- The sources of a compiled specification are those of the specification: all other lists begin with the rows of another one, and no object inside has any.
use Rattle.std.specs.Prelude.{◌≡◌, ℕ, List, map}
use Rattle.vega_spec.specs.Names.{sources_of}
use Rattle.vl_spec.specs.declared.sources.SourceOf.{SourceOf}
use Rattle.vl_spec.specs.declared.spec.VlSpec.{VlSpec}
use Rattle.plan_kit.specs.declared.plan.Plan.{Plan}
use Rattle.vega_assemble.specs.Assembled.{written_with}

abbrev pub SourcesAreWritten : Type 0
SourcesAreWritten = (stem : List ℕ) (s : VlSpec) (p : Plan) → sources_of (written_with stem s p) ≡ map (λ (source : SourceOf). source.name) s.sources
