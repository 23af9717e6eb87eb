-- Scales, axes, legends and headers.
use Rattle.std.specs.Prelude.{◌≡◌, refl, ℕ, ◌==◌, pos, negsuc, Option, Some, None, List, [], ◌∷◌, length, map, codes, if◌then◌else◌}
use Rattle.std.specs.Option.{option_map, option_and_then, unwrap_or}
use Rattle.json_exact.specs.declared.json.Json.{Json, out-Json}
use Rattle.json_exact.specs.declared.json.Json.TheVariants as json
use Rattle.json_exact.specs.declared.json.Json.TheOpen as level
use Rattle.json_exact.specs.declared.json.Member.{Member}
use Rattle.json_exact.specs.Inside.{items_in}
use Rattle.cell_value.specs.declared.cell.Cell.{Cell}
use Rattle.cell_value.specs.declared.cell.Cell.TheVariants as cell
use Rattle.vl_spec.specs.declared.guides.Axis.{Axis}
use Rattle.vl_spec.specs.declared.guides.Legend.{Legend}
use Rattle.vl_spec.specs.declared.guides.Header.{Header}
use Rattle.vl_spec.specs.declared.scales.Scale.{Scale}
use Rattle.vl_spec.specs.declared.scales.Domain.{Domain}
use Rattle.vl_spec.specs.declared.scales.Domain.TheVariants as domain
use Rattle.vl_spec.specs.declared.scales.ParamDomain.{ParamDomain}
use Rattle.vl_spec.specs.Bounds.{most_look}
use Rattle.tree_readers.specs.Parts.{Opened, found_at, flag_at, text_at, needed_text}
use Rattle.vl_building.specs.Numbers.{between, share_at, tick_count_at, angle_at}
use Rattle.vl_building.specs.Values.{scalar_of, scalars_at, title_at}
use Rattle.vl_building.specs.Names.{named_at, side_named, scheme_named, scale_kind_named, channel_named}

-- an axis
unfoldable pub axis_of : List Member → Axis
axis_of members = record {
  title = title_at members (codes "title");
  labels = flag_at members (codes "labels");
  ticks = flag_at members (codes "ticks");
  domain = flag_at members (codes "domain");
  grid = flag_at members (codes "grid");
  label_angle = angle_at members (codes "labelAngle");
  tick_count = tick_count_at members (codes "tickCount");
  values = scalars_at members (codes "values");
  orient = named_at side_named members (codes "orient");
  format = text_at members (codes "format");
}

-- a legend
unfoldable pub legend_of : List Member → Legend
legend_of members = record {
  title = title_at members (codes "title");
  format = text_at members (codes "format");
}

-- the headers of panels
unfoldable pub header_of : List Member → Header
header_of members = record { labels = flag_at members (codes "labels") }

-- the domain that a selection gives
unfoldable pub param_domain_of : List Member → ParamDomain
param_domain_of members = record {
  param = needed_text members (codes "param");
  encoding = named_at channel_named members (codes "encoding");
}

-- a domain: a list of cells, or what a selection gives
abbrev pub domain_in : Opened → Option Domain
domain_in (level.List items) = Some (domain.Cells (map scalar_of items))
domain_in (level.Object members) = Some (domain.Param (param_domain_of members))
domain_in other = None

-- the same under a name
abbrev pub domain_at : List Member → List ℕ → Option Domain
domain_at = found_at domain_in

-- what a range may hold: a number within its bounds, or any other scalar
abbrev pub ranged_in : Opened → Option Cell
ranged_in (level.Number n) = option_map cell.Number (between (pos 0) most_look n)
ranged_in level.Null = Some cell.Null
ranged_in (level.Flag b) = Some (cell.Flag b)
ranged_in (level.Text text) = Some (cell.Text text)
ranged_in other = None

-- an item of a range; one that is none counts as the number 0, so that a list of two such items is no other fault
abbrev pub range_item : Json → Cell
range_item tree = unwrap_or (ranged_in (out-Json tree)) (cell.Number (pos 0))

-- the items of a range; an empty list is none
abbrev pub range_in : List Json → Option (List Cell)
range_in items = if length items == 0 then None else Some (map range_item items)

-- the range under a name
abbrev pub range_at : List Member → List ℕ → Option (List Cell)
range_at members name = option_and_then range_in (found_at items_in members name)

-- what is said of a scale
unfoldable pub scale_of : List Member → Scale
scale_of members = record {
  type_ = named_at scale_kind_named members (codes "type");
  domain = domain_at members (codes "domain");
  range = range_at members (codes "range");
  scheme = named_at scheme_named members (codes "scheme");
  zero = flag_at members (codes "zero");
  nice = flag_at members (codes "nice");
  padding = share_at members (codes "padding");
  padding_inner = share_at members (codes "paddingInner");
  padding_outer = share_at members (codes "paddingOuter");
  reverse = flag_at members (codes "reverse");
}

-- The rules at work.

an_empty_range_is_none : range_in [] ≡ None
an_empty_range_is_none = refl

a_number_below_0_has_no_place_in_a_range :
    range_in (json.Text (codes "red") ∷ json.Number (negsuc 0) ∷ []) ≡ Some (cell.Text (codes "red") ∷ cell.Number (pos 0) ∷ [])
unfolding out-Json denote.Hole.Carrier.out
a_number_below_0_has_no_place_in_a_range = refl

an_empty_domain_is_one : domain_in (level.List []) ≡ Some (domain.Cells [])
an_empty_domain_is_one = refl
