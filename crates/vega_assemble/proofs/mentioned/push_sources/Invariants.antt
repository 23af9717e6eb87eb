use Rattle.std.proofs.Common.{◌≡◌, ◌++◌, drop, map}
use Rattle.vega_assemble.specs.inner.Lent.{lent}
use Rattle.vl_spec.specs.declared.sources.SourceOf.{SourceOf}
use Rattle.vega_assemble.proofs.mentioned.push_sources.Given as goal

abbrev pub invariant-loop-source : goal.invariant-loop-source
invariant-loop-source l =
    lent l.out ++ map (λ (source : SourceOf). source.name) (drop l.source-index l.sources) ≡ lent l.fn.out ++ map (λ (source : SourceOf). source.name) l.sources
