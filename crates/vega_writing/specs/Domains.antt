-- The trees of domains of scales.
use Rattle.std.specs.Prelude.{ℕ, List, [], ◌∷◌, true, Option, option_map, codes}
use Rattle.case_table.specs.Names.{operations}
use Rattle.json_exact.specs.declared.json.Json.{Json}
use Rattle.vega_writing.specs.declared.slots.Slot.{Slot}
use Rattle.vega_spec.specs.declared.domains.FieldDomain.{FieldDomain}
use Rattle.vega_spec.specs.declared.domains.FieldsDomain.{FieldsDomain}
use Rattle.vega_spec.specs.declared.domains.Reference.{Reference}
use Rattle.vega_spec.specs.declared.orders.Order.{Order}
use Rattle.vega_spec.specs.declared.domains.DomainOrder.{DomainOrder}
use Rattle.vega_spec.specs.declared.domains.DomainOrder.TheVariants as order_of
use Rattle.vega_spec.specs.declared.domains.Domain.{Domain}
use Rattle.vega_spec.specs.declared.domains.Domain.TheVariants as domain
use Rattle.vega_writing.specs.Slots.{must, may, object}
use Rattle.vega_writing.specs.Trees.{text_tree, flag_tree, cell_tree, list_tree, computed_tree}
use Rattle.vega_writing.specs.Names.{code_tree}
use Rattle.vega_writing.specs.Orders.{order_tree}

-- a field of a data set: its members
unfoldable pub reference_slots : Reference → List Slot
reference_slots r = must (codes "data") (text_tree r.data_) ∷ must (codes "field") (text_tree r.field) ∷ []

abbrev pub reference_tree : Reference → Json
reference_tree r = object (reference_slots r)

-- an order by the cells themselves
abbrev pub by_cells : Option Order → List Slot
by_cells order = may (codes "order") (option_map order_tree order) ∷ []

-- an order by an operation over a field
abbrev pub by_operation : Option Order → ℕ → List ℕ → List Slot
by_operation order op field =
    may (codes "order") (option_map order_tree order) ∷ must (codes "op") (code_tree operations op) ∷
    must (codes "field") (text_tree field) ∷ []

-- how the cells of a domain stand
unfoldable pub domain_order_tree : DomainOrder → Json
domain_order_tree order_of.True = flag_tree true
domain_order_tree (order_of.Cells order) = object (by_cells order)
domain_order_tree (order_of.Operation order op field) = object (by_operation order op field)

-- the cells of a field of a data set: its members
unfoldable pub field_domain_slots : FieldDomain → List Slot
field_domain_slots f =
    must (codes "data") (text_tree f.data_) ∷ must (codes "field") (text_tree f.field) ∷
    may (codes "sort") (option_map domain_order_tree f.sort) ∷ []

abbrev pub field_domain_tree : FieldDomain → Json
field_domain_tree f = object (field_domain_slots f)

-- the cells of several fields: its members
unfoldable pub fields_domain_slots : FieldsDomain → List Slot
fields_domain_slots f =
    must (codes "fields") (list_tree reference_tree f.fields) ∷ may (codes "sort") (option_map domain_order_tree f.sort) ∷ []

abbrev pub fields_domain_tree : FieldsDomain → Json
fields_domain_tree f = object (fields_domain_slots f)

-- the domain of a scale
unfoldable pub domain_tree : Domain → Json
domain_tree (domain.Cells cells) = list_tree cell_tree cells
domain_tree (domain.Signal e) = computed_tree e
domain_tree (domain.Field field) = field_domain_tree field
domain_tree (domain.Fields fields) = fields_domain_tree fields
