-- Domains of scales.
use Rattle.std.specs.Prelude.{ℕ, Option, Some, None, List, [], map, codes, if◌then◌else◌}
use Rattle.std.specs.Option.{unwrap_or}
use Rattle.json_exact.specs.declared.json.Json.TheOpen as level
use Rattle.json_exact.specs.declared.json.Member.{Member}
use Rattle.vega_spec.specs.declared.domains.Domain.{Domain}
use Rattle.vega_spec.specs.declared.domains.Domain.TheVariants as domain
use Rattle.vega_spec.specs.declared.domains.FieldDomain.{FieldDomain}
use Rattle.vega_spec.specs.declared.domains.FieldsDomain.{FieldsDomain}
use Rattle.vega_spec.specs.declared.domains.Reference.{Reference}
use Rattle.vega_spec.specs.declared.domains.DomainOrder.{DomainOrder}
use Rattle.vega_spec.specs.declared.domains.DomainOrder.TheVariants as domain_order
use Rattle.tree_readers.specs.Parts.{Opened, found_at, has_member, objects_at, needed_text}
use Rattle.vega_building.specs.Parts.{cell_of, needed_expression}
use Rattle.vega_building.specs.Names.{named_at, order_named, needed_operation}

-- a field of a data set
abbrev pub reference_of : List Member → Reference
reference_of members = record {
  data_ = needed_text members (codes "data");
  field = needed_text members (codes "field");
}

-- an order by an operation, where there is one, or by the cells themselves
abbrev pub domain_order_of : List Member → DomainOrder
domain_order_of members =
    if has_member members (codes "op")
    then domain_order.Operation (named_at order_named members (codes "order"))
    (needed_operation members (codes "op")) (needed_text members (codes "field"))
    else domain_order.Cells (named_at order_named members (codes "order"))

-- how the cells of a domain stand
abbrev pub domain_order_in : Opened → Option DomainOrder
domain_order_in (level.Flag b) = if b then Some domain_order.True else None
domain_order_in (level.Object members) = Some (domain_order_of members)
domain_order_in other = None

-- the same under a name
abbrev pub domain_order_at : List Member → List ℕ → Option DomainOrder
domain_order_at = found_at domain_order_in

-- the cells of a field
abbrev pub field_domain_of : List Member → FieldDomain
field_domain_of members = record {
  data_ = needed_text members (codes "data");
  field = needed_text members (codes "field");
  sort = domain_order_at members (codes "sort");
}

-- the references of a list under a name, none where there is no list
abbrev pub needed_references : List Member → List ℕ → List Reference
needed_references members name = unwrap_or (objects_at reference_of members name) []

-- the cells of several fields
abbrev pub fields_domain_of : List Member → FieldsDomain
fields_domain_of members = record {
  fields = needed_references members (codes "fields");
  sort = domain_order_at members (codes "sort");
}

-- a domain that is an object: an expression, several fields, or one
abbrev pub domain_of : List Member → Domain
domain_of members =
    if has_member members (codes "signal") then domain.Signal (needed_expression members (codes "signal"))
    else (if has_member members (codes "fields") then domain.Fields (fields_domain_of members)
    else domain.Field (field_domain_of members))

-- a domain
abbrev pub domain_in : Opened → Option Domain
domain_in (level.List items) = Some (domain.Cells (map cell_of items))
domain_in (level.Object members) = Some (domain_of members)
domain_in other = None

-- the same under a name
abbrev pub domain_at : List Member → List ℕ → Option Domain
domain_at = found_at domain_in

-- the domain under a name, that of no cells where there is none
abbrev pub needed_domain : List Member → List ℕ → Domain
needed_domain members name = unwrap_or (domain_at members name) (domain.Cells [])
