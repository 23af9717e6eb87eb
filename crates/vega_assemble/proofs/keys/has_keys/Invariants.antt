use Rattle.std.proofs.Common.{◌≡◌, drop}
use Rattle.std.specs.List.{list_any}
use Rattle.vega_assemble.specs.Keys.{wants_key}
use Rattle.plan_kit.specs.declared.grids.FacetField.{FacetField}
use Rattle.vega_assemble.proofs.keys.has_keys.Given as goal

abbrev pub invariant-loop-field : goal.invariant-loop-field
invariant-loop-field l =
    list_any (λ (field : FacetField). wants_key field.order) (drop l.field-index l.field-items)
    ≡ list_any (λ (field : FacetField). wants_key field.order) l.field-items
