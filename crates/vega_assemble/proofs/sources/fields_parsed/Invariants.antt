use Rattle.std.proofs.Common.{◌≡◌, ◌++◌, drop, map}
use Rattle.vega_assemble.specs.Sources.{field_parsed}
use Rattle.vega_assemble.proofs.sources.fields_parsed.Given as goal

abbrev pub invariant-loop-field : goal.invariant-loop-field
invariant-loop-field l =
    l.out ++ map field_parsed (drop l.field-index l.fields) ≡ map field_parsed l.fields
