use Rattle.std.proofs.Common.{◌≡◌, ◌++◌, drop, map}
use Rattle.plan_kit.specs.declared.grids.FacetField.{FacetField}
use Rattle.vega_assemble.proofs.lists.push_fields.Given as goal

abbrev pub invariant-loop-field : goal.invariant-loop-field
invariant-loop-field l =
    l.out ++ map (λ (field : FacetField). field.name) (drop l.field-index l.f.fields) ≡ l.fn.out ++ map (λ (field : FacetField). field.name) l.f.fields
