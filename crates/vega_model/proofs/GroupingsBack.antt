-- Transforms over several rows are read back.
use Rattle.std.proofs.Common.{◌≡◌, ℕ, List, [], ◌∷◌, refl, ap, ◌∙◌}
use Rattle.std.specs.Option.{option_map, option_and_then, unwrap_or}
use Rattle.std.specs.Prelude.{Option, Some, None, codes}
use Rattle.json_exact.specs.Inside.{items_in}
use Rattle.json_exact.specs.Path.{member_value}
use Rattle.json_exact.specs.declared.json.Json.{out-Json}
use Rattle.json_exact.specs.declared.json.Member.{Member}
use Rattle.vega_spec.specs.declared.groupings.Aggregate.{Aggregate}
use Rattle.vega_spec.specs.declared.groupings.Frame.{Frame}
use Rattle.vega_spec.specs.declared.groupings.Lookup.{Lookup}
use Rattle.vega_spec.specs.declared.groupings.Window.{Window}
use Rattle.vega_building.specs.Groupings.{maybe_text, maybe_number, aggregate_of, frame_in, window_of, lookup_of}
use Rattle.vega_building.specs.Orders.{sort_of}
use Rattle.vega_building.specs.Parts.{found_at}
use Rattle.vega_writing.specs.Groupings.{frame_tree, aggregate_slots, window_slots, lookup_slots}
use Rattle.vega_writing.specs.Orders.{sort_slots}
use Rattle.vega_writing.specs.Slots.{present}
use Rattle.vega_writing.specs.Trees.{text_tree, number_tree, or_null}
use Rattle.case_table.specs.Names.{operations}
use Rattle.vega_model.proofs.Back.{opened_list, must_found, needed_text_back, may_flag, may_list_always, may_object_always}
use Rattle.vega_model.proofs.Back.{may_texts, must_texts}
use Rattle.vega_model.proofs.Found.{at_name, found}
use Rattle.vega_model.proofs.Leaves.{may_cell, maybe_text_back, maybe_number_back, may_operations, must_operations}
use Rattle.vega_model.proofs.OrdersBack.{sort_back}
use Rattle.vega_model.specs.RoundTrip.{IsCode, asked_codes}
use Rattle.vega_model.specs.Codes.{Each, OfAggregate}

-- the rows about a row are read back
pub may_frame : (members : List Member) (name : List ℕ) (o : Option Frame) →
    member_value members name ≡ option_map frame_tree o → option_and_then frame_in (found_at items_in members name) ≡ o
unfolding frame_tree
may_frame members name None here = ap (λ v. option_and_then frame_in (option_and_then (λ t. items_in (out-Json t)) v)) here
may_frame members name (Some f) here =
    ap (option_and_then frame_in)
    (must_found members name items_in (frame_tree f) (or_null number_tree f.first ∷ or_null number_tree f.last ∷ []) here
    (ap items_in (opened_list (or_null number_tree f.first ∷ or_null number_tree f.last ∷ []))))
    ∙ λ j. Some (record { first = maybe_number_back f.first j; last = maybe_number_back f.last j })

-- an aggregate, whose type is this word is read back
pub aggregate_back : (word : List ℕ) (a : Aggregate) → OfAggregate asked_codes a → aggregate_of (present (aggregate_slots word a)) ≡ a
unfolding aggregate_slots
aggregate_back word a c =
    let ms : List Member = present (aggregate_slots word a) in
    let at : (name : List ℕ) → member_value ms name ≡ at_name (aggregate_slots word a) name =
    λ name. found (aggregate_slots word a) name refl in
    λ j. record {
      groupby = may_texts ms (codes "groupby") a.groupby (at (codes "groupby")) j;
      ops = may_operations ms (codes "ops") a.ops (at (codes "ops")) c j;
      fields = may_list_always ms (codes "fields") maybe_text (or_null text_tree) a.fields (at (codes "fields")) maybe_text_back j;
      as_ = may_list_always ms (codes "as") maybe_text (or_null text_tree) a.as_ (at (codes "as")) maybe_text_back j;
    }

-- a window is read back
pub window_back : (w : Window) → Each (IsCode operations) w.ops → window_of (present (window_slots w)) ≡ w
unfolding window_slots
window_back w c =
    let ms : List Member = present (window_slots w) in
    let at : (name : List ℕ) → member_value ms name ≡ at_name (window_slots w) name = λ name. found (window_slots w) name refl in
    λ j. record {
      ops = ap (λ o. unwrap_or o []) (must_operations ms (codes "ops") w.ops (at (codes "ops")) c) j;
      fields = may_list_always ms (codes "fields") maybe_text (or_null text_tree) w.fields (at (codes "fields")) maybe_text_back j;
      params = may_list_always ms (codes "params") maybe_number (or_null number_tree) w.params (at (codes "params")) maybe_number_back j;
      as_ = may_list_always ms (codes "as") maybe_text (or_null text_tree) w.as_ (at (codes "as")) maybe_text_back j;
      groupby = may_texts ms (codes "groupby") w.groupby (at (codes "groupby")) j;
      sort = may_object_always ms (codes "sort") sort_of sort_slots w.sort (at (codes "sort")) sort_back j;
      frame = may_frame ms (codes "frame") w.frame (at (codes "frame")) j;
      ignore_peers = may_flag ms (codes "ignorePeers") w.ignore_peers (at (codes "ignorePeers")) j;
    }

-- a lookup is read back
pub lookup_back : (l : Lookup) → lookup_of (present (lookup_slots l)) ≡ l
unfolding lookup_slots
lookup_back l =
    let ms : List Member = present (lookup_slots l) in
    let at : (name : List ℕ) → member_value ms name ≡ at_name (lookup_slots l) name = λ name. found (lookup_slots l) name refl in
    λ j. record {
      from = needed_text_back ms (codes "from") l.from (at (codes "from")) j;
      key = needed_text_back ms (codes "key") l.key (at (codes "key")) j;
      fields = ap (λ o. unwrap_or o []) (must_texts ms (codes "fields") l.fields (at (codes "fields"))) j;
      values = ap (λ o. unwrap_or o []) (must_texts ms (codes "values") l.values (at (codes "values"))) j;
      as_ = may_texts ms (codes "as") l.as_ (at (codes "as")) j;
      default = may_cell ms (codes "default") l.default (at (codes "default")) j;
    }
