use Rattle.std.proofs.Common.{◌≡◌, ◌++◌, drop, map}
use Rattle.vega_assemble.specs.Facets.{header_of}
use Rattle.vega_assemble.proofs.facets.headers_of.Given as goal

abbrev pub invariant-loop-field : goal.invariant-loop-field
invariant-loop-field l =
    l.out ++ map header_of (drop l.field-index l.fields) ≡ map header_of l.fields
