-- Where the items of marks come from is read back.
use Rattle.std.proofs.Common.{◌≡◌, ℕ, List, [], refl, ap, ◌∙◌}
use Rattle.std.specs.Option.{option_map, option_and_then, unwrap_or, option_or}
use Rattle.std.specs.Prelude.{Option, Some, None, codes}
use Rattle.json_exact.specs.Inside.{members_in}
use Rattle.json_exact.specs.Path.{member_value}
use Rattle.json_exact.specs.declared.json.Json.{out-Json}
use Rattle.json_exact.specs.declared.json.Member.{Member}
use Rattle.vega_spec.specs.declared.marks.Cross.{Cross}
use Rattle.vega_spec.specs.declared.marks.Facet.{Facet}
use Rattle.vega_spec.specs.declared.marks.MarkFrom.{MarkFrom}
use Rattle.vega_building.specs.Marks.{cross_of, facet_of, mark_from_of, mark_from_at}
use Rattle.vega_building.specs.Names.{maybe_header}
use Rattle.vega_building.specs.Orders.{texts_in}
use Rattle.vega_building.specs.Parts.{object_at}
use Rattle.vega_writing.specs.Marks.{mark_from_tree, header_tree, facet_slots, cross_slots, from_data, from_facet}
use Rattle.vega_writing.specs.Orders.{texts_tree}
use Rattle.vega_writing.specs.Slots.{present}
use Rattle.vega_writing.specs.Trees.{or_null}
use Rattle.vega_model.proofs.Back.{opened_object, must_found, must_text, may_text, may_flag, may_list_always, may_object_always}
use Rattle.vega_model.proofs.Back.{must_texts}
use Rattle.vega_model.proofs.Found.{at_name, found}
use Rattle.vega_model.proofs.OrdersBack.{texts_reads}
use Rattle.vega_model.proofs.Words.{maybe_header_back}
use Rattle.vega_spec.specs.declared.orders.Texts.TheVariants as texts
use Rattle.vega_spec.specs.declared.marks.MarkFrom.TheVariants as source

-- which parts a facet has is read back
pub cross_back : (c : Cross) → cross_of (present (cross_slots c)) ≡ c
unfolding cross_slots
cross_back c =
    let ms : List Member = present (cross_slots c) in
    let at : (name : List ℕ) → member_value ms name ≡ at_name (cross_slots c) name = λ name. found (cross_slots c) name refl in
    λ j. record {
      cross = may_flag ms (codes "cross") c.cross (at (codes "cross")) j;
    }

-- how rows are parted into copies of a group is read back
pub facet_back : (f : Facet) → facet_of (present (facet_slots f)) ≡ f
unfolding facet_slots
facet_back f =
    let ms : List Member = present (facet_slots f) in
    let at : (name : List ℕ) → member_value ms name ≡ at_name (facet_slots f) name = λ name. found (facet_slots f) name refl in
    λ j. record {
      name = ap (λ o. unwrap_or o (texts.One []))
          (must_found ms (codes "name") texts_in (texts_tree f.name) f.name (at (codes "name")) (texts_reads f.name)) j;
      data_ = ap (λ o. unwrap_or o (texts.One []))
          (must_found ms (codes "data") texts_in (texts_tree f.data_) f.data_ (at (codes "data")) (texts_reads f.data_)) j;
      groupby = ap (λ o. unwrap_or o []) (must_texts ms (codes "groupby") f.groupby (at (codes "groupby"))) j;
      aggregate = may_object_always ms (codes "aggregate") cross_of cross_slots f.aggregate (at (codes "aggregate")) cross_back j;
      headers = may_list_always ms (codes "headers") maybe_header (or_null header_tree) f.headers
          (at (codes "headers")) maybe_header_back j;
    }

-- where the items of a mark come from is read back
source_back : (x : MarkFrom) → option_and_then mark_from_of (members_in (out-Json (mark_from_tree x))) ≡ Some x
unfolding mark_from_tree
source_back (source.Data name) =
    let ms : List Member = present (from_data name) in
    ap (λ t. option_and_then mark_from_of (members_in t)) (opened_object (from_data name))
    ∙ ap (λ o. option_or (option_map source.Data o) (option_map source.Facet (object_at facet_of ms (codes "facet"))))
    (must_text ms (codes "data") name (found (from_data name) (codes "data") refl))
source_back (source.Facet facet) =
    let ms : List Member = present (from_facet facet) in
    ap (λ t. option_and_then mark_from_of (members_in t)) (opened_object (from_facet facet))
    ∙ λ j. option_or (option_map source.Data (may_text ms (codes "data") None (found (from_facet facet) (codes "data") refl) j))
    (option_map source.Facet
    (may_object_always ms (codes "facet") facet_of facet_slots (Some facet)
    (found (from_facet facet) (codes "facet") refl) facet_back j))

pub may_mark_from : (members : List Member) (name : List ℕ) (o : Option MarkFrom) →
    member_value members name ≡ option_map mark_from_tree o → mark_from_at members name ≡ o
may_mark_from members name None here = ap (λ v. option_and_then mark_from_of (option_and_then (λ t. members_in (out-Json t)) v)) here
may_mark_from members name (Some x) here = ap (λ v. option_and_then mark_from_of (option_and_then (λ t. members_in (out-Json t)) v)) here
    ∙ source_back x
