use Rattle.std.proofs.Common.{◌≡◌, drop}
use Rattle.std.specs.List.{list_any}
use Rattle.vega_assemble.specs.Keys.{field_begins}
use Rattle.vega_assemble.proofs.keys.facet_begins.Given as goal

abbrev pub invariant-loop-field : goal.invariant-loop-field
invariant-loop-field l =
    list_any (field_begins l.unit) (drop l.field-index l.f.fields) ≡ list_any (field_begins l.unit) l.f.fields
