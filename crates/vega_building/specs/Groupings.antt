-- Transforms over several rows.
use Rattle.std.specs.Prelude.{ℕ, ℤ, Option, Some, None, List, [], ◌∷◌, codes}
use Rattle.std.specs.Option.{option_and_then, unwrap_or}
use Rattle.json_exact.specs.declared.json.Json.{Json, out-Json}
use Rattle.json_exact.specs.declared.json.Member.{Member}
use Rattle.json_exact.specs.Inside.{text_in, number_in, items_in}
use Rattle.vega_spec.specs.declared.groupings.Aggregate.{Aggregate}
use Rattle.vega_spec.specs.declared.groupings.Window.{Window}
use Rattle.vega_spec.specs.declared.groupings.Frame.{Frame}
use Rattle.vega_spec.specs.declared.groupings.Lookup.{Lookup}
use Rattle.tree_readers.specs.Parts.{found_at, object_at, list_at, flag_at, cell_at, needed_text, texts_at, needed_texts}
use Rattle.vega_building.specs.Names.{operation_of}
use Rattle.vega_building.specs.Orders.{sort_of}

-- the text that an item is, if it is one
abbrev pub maybe_text : Json → Option (List ℕ)
maybe_text tree = text_in (out-Json tree)

-- the number that an item is, if it is one
abbrev pub maybe_number : Json → Option ℤ
maybe_number tree = number_in (out-Json tree)

-- the codes of operations under a name, none where there is no list
abbrev pub needed_operations : List Member → List ℕ → List ℕ
needed_operations members name = unwrap_or (list_at operation_of members name) []

-- `aggregate` and `joinaggregate`
abbrev pub aggregate_of : List Member → Aggregate
aggregate_of members = record {
  groupby = texts_at members (codes "groupby");
  ops = list_at operation_of members (codes "ops");
  fields = list_at maybe_text members (codes "fields");
  as_ = list_at maybe_text members (codes "as");
}

-- the two bounds of a frame
abbrev pub frame_in : List Json → Option Frame
frame_in (a ∷ b ∷ []) = Some (record { first = maybe_number a; last = maybe_number b })
frame_in items = None

-- the frame under a name
abbrev pub frame_at : List Member → List ℕ → Option Frame
frame_at members name = option_and_then frame_in (found_at items_in members name)

-- `window`
abbrev pub window_of : List Member → Window
window_of members = record {
  ops = needed_operations members (codes "ops");
  fields = list_at maybe_text members (codes "fields");
  params = list_at maybe_number members (codes "params");
  as_ = list_at maybe_text members (codes "as");
  groupby = texts_at members (codes "groupby");
  sort = object_at sort_of members (codes "sort");
  frame = frame_at members (codes "frame");
  ignore_peers = flag_at members (codes "ignorePeers");
}

-- `lookup`
abbrev pub lookup_of : List Member → Lookup
lookup_of members = record {
  from = needed_text members (codes "from");
  key = needed_text members (codes "key");
  fields = needed_texts members (codes "fields");
  values = needed_texts members (codes "values");
  as_ = texts_at members (codes "as");
  default = cell_at members (codes "default");
}
