-- Domains of scales are read back.
use Rattle.std.proofs.Common.{◌≡◌, ℕ, List, [], map, refl, ap, ◌∙◌}
use Rattle.std.specs.Option.{unwrap_or, is_some}
use Rattle.std.specs.Prelude.{true, Option, Some, codes, if◌then◌else◌}
use Rattle.json_exact.specs.Path.{member_value}
use Rattle.json_exact.specs.declared.json.Json.{Json, out-Json}
use Rattle.json_exact.specs.declared.json.Member.{Member}
use Rattle.vega_spec.specs.declared.domains.Domain.{Domain}
use Rattle.vega_spec.specs.declared.domains.DomainOrder.{DomainOrder}
use Rattle.vega_spec.specs.declared.domains.FieldDomain.{FieldDomain}
use Rattle.vega_spec.specs.declared.domains.FieldsDomain.{FieldsDomain}
use Rattle.vega_spec.specs.declared.domains.Reference.{Reference}
use Rattle.vega_spec.specs.declared.orders.Order.{Order}
use Rattle.vega_building.specs.Domains.{reference_of, domain_order_of, domain_order_in, field_domain_of, fields_domain_of, domain_in}
use Rattle.vega_building.specs.Names.{named_at, order_named, operation_named}
use Rattle.vega_building.specs.Parts.{needed_text, needed_expression, cell_of}
use Rattle.vega_writing.specs.Domains.{domain_tree, domain_order_tree, field_domain_slots, fields_domain_slots, reference_slots, by_cells}
use Rattle.vega_writing.specs.Domains.{by_operation}
use Rattle.vega_writing.specs.Names.{code_tree}
use Rattle.vega_writing.specs.Orders.{order_tree}
use Rattle.vega_writing.specs.Slots.{present}
use Rattle.vega_writing.specs.Trees.{cell_tree, computed_slots}
use Rattle.case_table.specs.Names.{operations}
use Rattle.vega_model.proofs.Back.{opened_flag, opened_list, opened_object, each, map_back, may_found, needed_text_back}
use Rattle.vega_model.proofs.Back.{must_objects, must_named, may_named, some_of}
use Rattle.vega_model.proofs.Found.{at_name, found}
use Rattle.vega_model.proofs.Leaves.{cell_back, operation_reads, needed_expression_back}
use Rattle.vega_model.proofs.Words.{order_reads}
use Rattle.vega_model.specs.RoundTrip.{asked_codes, asked_readings}
use Rattle.vega_model.specs.Codes.{OfDomainOrder, OfFieldDomain, OfFieldsDomain, OfDomain}
use Rattle.vega_spec.specs.declared.domains.DomainOrder.TheVariants as order_of_domain
use Rattle.vega_spec.specs.declared.domains.Domain.TheVariants as domain

-- the order that a member of this name stands for
pub domain_order_reads : (d : DomainOrder) → OfDomainOrder asked_codes d → domain_order_in (out-Json (domain_order_tree d)) ≡ Some d
unfolding domain_order_tree
domain_order_reads order_of_domain.True c = ap domain_order_in (opened_flag true)
domain_order_reads (order_of_domain.Cells o) c = ap domain_order_in (opened_object (by_cells o)) ∙ ap Some (of_cells o)
  where
    of_cells : (o : Option Order) → domain_order_of (present (by_cells o)) ≡ order_of_domain.Cells o
    of_cells o =
        let ms : List Member = present (by_cells o) in
        let at : (name : List ℕ) → member_value ms name ≡ at_name (by_cells o) name = λ name. found (by_cells o) name refl in
        ap (λ v. if is_some v
        then order_of_domain.Operation (named_at order_named ms (codes "order"))
        (unwrap_or (named_at operation_named ms (codes "op")) 0) (needed_text ms (codes "field"))
        else order_of_domain.Cells (named_at order_named ms (codes "order"))) (at (codes "op"))
        ∙ ap order_of_domain.Cells (may_named ms (codes "order") order_named order_tree o (at (codes "order")) order_reads)
domain_order_reads (order_of_domain.Operation o op field) c = ap domain_order_in (opened_object (by_operation o op field))
    ∙ ap Some of_operation
  where
    of_operation : domain_order_of (present (by_operation o op field)) ≡ order_of_domain.Operation o op field
    of_operation =
        let ms : List Member = present (by_operation o op field) in
        let at : (name : List ℕ) → member_value ms name ≡ at_name (by_operation o op field) name =
        λ name. found (by_operation o op field) name refl in
        ap (λ v. if is_some v
        then order_of_domain.Operation (named_at order_named ms (codes "order"))
        (unwrap_or (named_at operation_named ms (codes "op")) 0) (needed_text ms (codes "field"))
        else order_of_domain.Cells (named_at order_named ms (codes "order"))) (at (codes "op"))
        ∙ λ j. order_of_domain.Operation ((may_named ms (codes "order") order_named order_tree o (at (codes "order")) order_reads) j)
        ((ap (λ o. unwrap_or o 0)
        (must_named ms (codes "op") operation_named (code_tree operations) op (at (codes "op")) (operation_reads op c))) j)
        ((needed_text_back ms (codes "field") field (at (codes "field"))) j)

-- a field of a data set is read back
pub reference_back : (r : Reference) → reference_of (present (reference_slots r)) ≡ r
unfolding reference_slots
reference_back r =
    let ms : List Member = present (reference_slots r) in
    let at : (name : List ℕ) → member_value ms name ≡ at_name (reference_slots r) name = λ name. found (reference_slots r) name refl in
    λ j. record {
      data_ = needed_text_back ms (codes "data") r.data_ (at (codes "data")) j;
      field = needed_text_back ms (codes "field") r.field (at (codes "field")) j;
    }

-- the cells of a field of a data set is read back
pub field_domain_back : (f : FieldDomain) → OfFieldDomain asked_codes f → field_domain_of (present (field_domain_slots f)) ≡ f
unfolding field_domain_slots
field_domain_back f c =
    let ms : List Member = present (field_domain_slots f) in
    let at : (name : List ℕ) → member_value ms name ≡ at_name (field_domain_slots f) name =
    λ name. found (field_domain_slots f) name refl in
    λ j. record {
      data_ = needed_text_back ms (codes "data") f.data_ (at (codes "data")) j;
      field = needed_text_back ms (codes "field") f.field (at (codes "field")) j;
      sort = may_found ms (codes "sort") domain_order_in domain_order_tree f.sort (at (codes "sort"))
          (some_of domain_order_reads f.sort c) j;
    }

-- the cells of several fields is read back
pub fields_domain_back : (f : FieldsDomain) → OfFieldsDomain asked_codes f → fields_domain_of (present (fields_domain_slots f)) ≡ f
unfolding fields_domain_slots
fields_domain_back f c =
    let ms : List Member = present (fields_domain_slots f) in
    let at : (name : List ℕ) → member_value ms name ≡ at_name (fields_domain_slots f) name =
    λ name. found (fields_domain_slots f) name refl in
    λ j. record {
      fields = ap (λ o. unwrap_or o [])
          (must_objects ms (codes "fields") reference_of reference_slots f.fields (at (codes "fields"))
          (each (λ a. reference_of (present (reference_slots a)) ≡ a) reference_back f.fields)) j;
      sort = may_found ms (codes "sort") domain_order_in domain_order_tree f.sort (at (codes "sort"))
          (some_of domain_order_reads f.sort c) j;
    }

-- what is read of a domain is the domain
module _ (ms : List Member) where
  chosen : Option Json → Option Json → Domain
  chosen signal fields =
      if is_some signal then domain.Signal (needed_expression ms (codes "signal"))
      else (if is_some fields then domain.Fields (fields_domain_of ms)
      else domain.Field (field_domain_of ms))

pub domain_reads : (d : Domain) → OfDomain asked_codes d → OfDomain asked_readings d → domain_in (out-Json (domain_tree d)) ≡ Some d
unfolding domain_tree field_domain_slots fields_domain_slots chosen
domain_reads (domain.Cells cells) c r =
    ap domain_in (opened_list (map cell_tree cells)) ∙ ap (λ cs. Some (domain.Cells cs))
    (map_back cell_of cell_tree cells (each (λ x. cell_of (cell_tree x) ≡ x) cell_back cells))
domain_reads (domain.Signal e) c r =
    let ms : List Member = present (computed_slots e) in
    let at : (name : List ℕ) → member_value ms name ≡ at_name (computed_slots e) name = λ name. found (computed_slots e) name refl in
    ap domain_in (opened_object (computed_slots e))
    ∙ ap Some ((λ j. chosen ms (at (codes "signal") j) (at (codes "fields") j))
    ∙ ap domain.Signal (needed_expression_back ms (codes "signal") e (at (codes "signal")) r))
domain_reads (domain.Field f) c r =
    let ms : List Member = present (field_domain_slots f) in
    let at : (name : List ℕ) → member_value ms name ≡ at_name (field_domain_slots f) name =
    λ name. found (field_domain_slots f) name refl in
    ap domain_in (opened_object (field_domain_slots f))
    ∙ ap Some ((λ j. chosen ms (at (codes "signal") j) (at (codes "fields") j)) ∙ ap domain.Field (field_domain_back f c))
domain_reads (domain.Fields f) c r =
    let ms : List Member = present (fields_domain_slots f) in
    let at : (name : List ℕ) → member_value ms name ≡ at_name (fields_domain_slots f) name =
    λ name. found (fields_domain_slots f) name refl in
    ap domain_in (opened_object (fields_domain_slots f))
    ∙ ap Some ((λ j. chosen ms (at (codes "signal") j) (at (codes "fields") j)) ∙ ap domain.Fields (fields_domain_back f c))
