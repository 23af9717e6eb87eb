-- The trees of transforms over several rows.
use Rattle.std.specs.Prelude.{ℕ, List, [], ◌∷◌, option_map, codes}
use Rattle.case_table.specs.Names.{operations}
use Rattle.json_exact.specs.declared.json.Json.{Json}
use Rattle.json_exact.specs.declared.json.Json.TheVariants as json
use Rattle.vega_writing.specs.declared.slots.Slot.{Slot}
use Rattle.vega_spec.specs.declared.groupings.Aggregate.{Aggregate}
use Rattle.vega_spec.specs.declared.groupings.Window.{Window}
use Rattle.vega_spec.specs.declared.groupings.Lookup.{Lookup}
use Rattle.vega_spec.specs.declared.groupings.Frame.{Frame}
use Rattle.vega_writing.specs.Slots.{must, may, object}
use Rattle.vega_writing.specs.Trees.{text_tree, flag_tree, number_tree, cell_tree, list_tree, or_null}
use Rattle.vega_writing.specs.Names.{code_tree}
use Rattle.vega_writing.specs.Orders.{sort_tree}

-- the rows about a row
unfoldable pub frame_tree : Frame → Json
frame_tree f = json.List (or_null number_tree f.first ∷ or_null number_tree f.last ∷ [])

-- an aggregate, whose type is this word: its members
unfoldable pub aggregate_slots : List ℕ → Aggregate → List Slot
aggregate_slots word a =
    must (codes "type") (text_tree word) ∷ may (codes "groupby") (option_map (list_tree text_tree) a.groupby) ∷
    may (codes "ops") (option_map (list_tree (code_tree operations)) a.ops) ∷
    may (codes "fields") (option_map (list_tree (or_null text_tree)) a.fields) ∷
    may (codes "as") (option_map (list_tree (or_null text_tree)) a.as_) ∷ []

abbrev pub aggregate_tree : List ℕ → Aggregate → Json
aggregate_tree word a = object (aggregate_slots word a)

-- a window: its members
unfoldable pub window_slots : Window → List Slot
window_slots w =
    must (codes "type") (text_tree (codes "window")) ∷ must (codes "ops") (list_tree (code_tree operations) w.ops) ∷
    may (codes "fields") (option_map (list_tree (or_null text_tree)) w.fields) ∷
    may (codes "params") (option_map (list_tree (or_null number_tree)) w.params) ∷
    may (codes "as") (option_map (list_tree (or_null text_tree)) w.as_) ∷
    may (codes "groupby") (option_map (list_tree text_tree) w.groupby) ∷ may (codes "sort") (option_map sort_tree w.sort) ∷
    may (codes "frame") (option_map frame_tree w.frame) ∷ may (codes "ignorePeers") (option_map flag_tree w.ignore_peers) ∷ []

abbrev pub window_tree : Window → Json
window_tree w = object (window_slots w)

-- a lookup: its members
unfoldable pub lookup_slots : Lookup → List Slot
lookup_slots l =
    must (codes "type") (text_tree (codes "lookup")) ∷ must (codes "from") (text_tree l.from) ∷
    must (codes "key") (text_tree l.key) ∷ must (codes "fields") (list_tree text_tree l.fields) ∷
    must (codes "values") (list_tree text_tree l.values) ∷ may (codes "as") (option_map (list_tree text_tree) l.as_) ∷
    may (codes "default") (option_map cell_tree l.default) ∷ []

abbrev pub lookup_tree : Lookup → Json
lookup_tree l = object (lookup_slots l)
