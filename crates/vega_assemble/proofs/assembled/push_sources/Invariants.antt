use Rattle.std.proofs.Common.{◌≡◌, ◌++◌, drop, map}
use Rattle.vega_assemble.specs.Sources.{source_written}
use Rattle.vega_assemble.proofs.assembled.push_sources.Given as goal

abbrev pub invariant-loop-source : goal.invariant-loop-source
invariant-loop-source l =
    l.out ++ map source_written (drop l.source-index l.sources) ≡ l.fn.out ++ map source_written l.sources
