-- Where the items of marks come from.
use Rattle.std.specs.Prelude.{ℕ, Option, List, codes}
use Rattle.std.specs.Option.{option_map, option_and_then, option_or}
use Rattle.json_exact.specs.declared.json.Member.{Member}
use Rattle.json_exact.specs.Inside.{members_in}
use Rattle.vega_spec.specs.declared.marks.MarkFrom.{MarkFrom}
use Rattle.vega_spec.specs.declared.marks.MarkFrom.TheVariants as mark_from
use Rattle.vega_spec.specs.declared.marks.Facet.{Facet}
use Rattle.vega_spec.specs.declared.marks.Cross.{Cross}
use Rattle.tree_readers.specs.Parts.{found_at, object_at, list_at, flag_at, text_at, needed_texts}
use Rattle.vega_building.specs.Names.{maybe_header}
use Rattle.vega_building.specs.Orders.{needed_one_or_several}

-- which parts a facet has
abbrev pub cross_of : List Member → Cross
cross_of members = record { cross = flag_at members (codes "cross") }

-- how rows are parted
abbrev pub facet_of : List Member → Facet
facet_of members = record {
  name = needed_one_or_several members (codes "name");
  data_ = needed_one_or_several members (codes "data");
  groupby = needed_texts members (codes "groupby");
  aggregate = object_at cross_of members (codes "aggregate");
  headers = list_at maybe_header members (codes "headers");
}

-- from the parts of data sets
abbrev pub facet_from : List Member → Option MarkFrom
facet_from members = option_map mark_from.Facet (object_at facet_of members (codes "facet"))

-- where the items of a mark come from: from a data set, or else from the parts of some
abbrev pub mark_from_of : List Member → Option MarkFrom
mark_from_of members = option_or (option_map mark_from.Data (text_at members (codes "data"))) (facet_from members)

-- the same under a name
abbrev pub mark_from_at : List Member → List ℕ → Option MarkFrom
mark_from_at members name = option_and_then mark_from_of (found_at members_in members name)
