-- What the units of a specification have that selections may keep.
use Rattle.std.specs.Prelude.{ℕ, ◌&&◌, List, [], ◌∷◌, ◌++◌, codes, filter_map, flat_map, map, if◌then◌else◌}
use Rattle.std.specs.List.{list_any}
use Rattle.vl_spec.specs.declared.channels.ChannelOf.{ChannelOf}
use Rattle.vl_spec.specs.declared.definitions.Definition.{Definition}
use Rattle.vl_spec.specs.declared.spec.VlSpec.{VlSpec}
use Rattle.vl_normalize.specs.declared.codes.TheConstants.{X, Y, X2, Y2, COLOR, OPACITY, SIZE, SHAPE, DETAIL, TEXT, ROW, COLUMN, FACET}
use Rattle.vl_compose.specs.Rounds.{ViewAt}
use Rattle.vl_compose.specs.Views.{plot_of}
use Rattle.vl_rules.specs.declared.offers.Asked.{Asked}
use Rattle.vl_rules.specs.declared.offers.Offer.{Offer}
use Rattle.vl_rules.specs.declared.offers.OfferedPlace.{OfferedPlace}
use Rattle.vl_rules.specs.declared.standings.Standing.{Standing}
use Rattle.vl_rules.specs.Marked.{MarkedAt, judged}
use Rattle.vl_rules.specs.Names.{cells_name, definition_groups, extent_name}
use Rattle.vl_rules.specs.Parts.{PartAt, parts_of, meant, has_source, kind_definitions, is_aggregated_part, round_parts, own_of}
use Rattle.vl_rules.specs.Standings.{home_at, standing_at, on_line, lies_on_line}

-- the codes of all channels, and of those that part rows
abbrev pub channel_codes : List ℕ
channel_codes = X ∷ Y ∷ X2 ∷ Y2 ∷ COLOR ∷ OPACITY ∷ SIZE ∷ SHAPE ∷ DETAIL ∷ TEXT ∷ ROW ∷ COLUMN ∷ FACET ∷ []

abbrev pub facet_codes : List ℕ
facet_codes = ROW ∷ COLUMN ∷ FACET ∷ []

-- What a selection over a channel keeps of a unit: whether there is a field or an aggregate, under which names a point keeps it, and under which an
-- interval does.
abbrev pub asked_of : ℕ → List Definition → Asked
asked_of code ds = record {
  sourced = list_any has_source ds;
  names = filter_map (cells_name code) ds;
  extents = filter_map (extent_name code) ds;
}

abbrev pub asked_at : PartAt → ℕ → Asked
asked_at p code = asked_of code (meant code p)

-- the names by which the definitions of a channel group rows
abbrev pub channel_groups : ChannelOf → List (List ℕ)
channel_groups c = flat_map (definition_groups c.channel) (kind_definitions c.shows)

-- those of the facets round a unit
abbrev pub facet_groups : MarkedAt → ℕ → List (List ℕ)
facet_groups u code = flat_map (definition_groups code) (map own_of (round_parts code u))

-- all names by which an aggregated unit groups its rows
abbrev pub group_names : PartAt → List (List ℕ)
group_names p = flat_map channel_groups p.channels ++ flat_map (facet_groups p.unit) facet_codes

-- the name of the row itself
abbrev pub row_names : List (List ℕ)
row_names = codes "_vgsid_" ∷ []

-- what a point keeps that says neither fields nor channels: the row itself, or of an aggregated unit the fields of the group
abbrev pub kept_by_default : PartAt → List (List ℕ)
kept_by_default p = if is_aggregated_part p then group_names p else row_names

-- the names of the views round a unit, and its own
abbrev pub view_names : MarkedAt → List (List ℕ)
view_names u = filter_map (λ (v : ViewAt). v.name) u.round

-- Up to where the scale of a place is shared, and whether an interval may span it: where the own cells and those of the scale lie on a line. Here all units
-- stand so to the scales of the channel.
abbrev pub spot_among : ℕ → List Standing → PartAt → OfferedPlace
spot_among code standings p = record { home = home_at code p; spans = lies_on_line code p && on_line standings (home_at code p) }

-- a unit as selections see it, where all units stand so to the scales of x and of y
abbrev pub offer_among : List Standing → List Standing → PartAt → Offer
offer_among across down p = record {
  trail = p.unit.trail;
  names = view_names p.unit;
  plot = plot_of p.unit.round;
  x = spot_among X across p;
  y = spot_among Y down p;
  kept = kept_by_default p;
  asked = map (asked_at p) channel_codes;
}

-- all units as selections see them
abbrev pub offers_among : List PartAt → List Offer
offers_among parts = map (offer_among (map (standing_at X) parts) (map (standing_at Y) parts)) parts

-- the units of a specification as selections see them
abbrev pub offers_of : VlSpec → List Offer
offers_of s = offers_among (flat_map parts_of (judged s))
