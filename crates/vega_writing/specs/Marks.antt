-- The trees of parts of marks.
use Rattle.std.specs.Prelude.{ℕ, List, [], ◌∷◌, option_map, codes}
use Rattle.json_exact.specs.declared.json.Json.{Json}
use Rattle.vega_writing.specs.declared.slots.Slot.{Slot}
use Rattle.vega_spec.specs.declared.marks.MarkType.{MarkType}
use Rattle.vega_spec.specs.declared.marks.MarkType.TheVariants as mark
use Rattle.vega_spec.specs.declared.marks.Header.{Header}
use Rattle.vega_spec.specs.declared.marks.Header.TheVariants as header
use Rattle.vega_spec.specs.declared.marks.Facet.{Facet}
use Rattle.vega_spec.specs.declared.marks.Cross.{Cross}
use Rattle.vega_spec.specs.declared.marks.MarkFrom.{MarkFrom}
use Rattle.vega_spec.specs.declared.marks.MarkFrom.TheVariants as source
use Rattle.vega_writing.specs.Slots.{must, may, object}
use Rattle.vega_writing.specs.Trees.{text_tree, flag_tree, list_tree, or_null}
use Rattle.vega_writing.specs.Orders.{texts_tree}

-- the type of a mark
unfoldable pub mark_type_tree : MarkType → Json
mark_type_tree mark.Rect = text_tree (codes "rect")
mark_type_tree mark.Symbol = text_tree (codes "symbol")
mark_type_tree mark.Line = text_tree (codes "line")
mark_type_tree mark.Area = text_tree (codes "area")
mark_type_tree mark.Rule = text_tree (codes "rule")
mark_type_tree mark.Text = text_tree (codes "text")
mark_type_tree mark.Group = text_tree (codes "group")

-- where a header stands
unfoldable pub header_tree : Header → Json
header_tree header.Row = text_tree (codes "row")
header_tree header.Column = text_tree (codes "column")

-- which parts a facet has: its members
unfoldable pub cross_slots : Cross → List Slot
cross_slots c = may (codes "cross") (option_map flag_tree c.cross) ∷ []

abbrev pub cross_tree : Cross → Json
cross_tree c = object (cross_slots c)

-- how rows are parted into copies of a group: its members
unfoldable pub facet_slots : Facet → List Slot
facet_slots f =
    must (codes "name") (texts_tree f.name) ∷ must (codes "data") (texts_tree f.data_) ∷
    must (codes "groupby") (list_tree text_tree f.groupby) ∷ may (codes "aggregate") (option_map cross_tree f.aggregate) ∷
    may (codes "headers") (option_map (list_tree (or_null header_tree)) f.headers) ∷ []

abbrev pub facet_tree : Facet → Json
facet_tree f = object (facet_slots f)

-- from the rows of a data set
abbrev pub from_data : List ℕ → List Slot
from_data name = must (codes "data") (text_tree name) ∷ []

-- from the parts of data sets
abbrev pub from_facet : Facet → List Slot
from_facet facet = must (codes "facet") (facet_tree facet) ∷ []

-- where the items of a mark come from
unfoldable pub mark_from_tree : MarkFrom → Json
mark_from_tree (source.Data name) = object (from_data name)
mark_from_tree (source.Facet facet) = object (from_facet facet)
