-- Scales.
use Rattle.std.specs.Prelude.{ℕ, Option, Some, None, List, [], map, codes, if◌then◌else◌}
use Rattle.std.specs.Option.{unwrap_or}
use Rattle.std.specs.Str.{bytes_eq}
use Rattle.json_exact.specs.declared.json.Json.TheOpen as level
use Rattle.json_exact.specs.declared.json.Member.{Member}
use Rattle.vega_spec.specs.declared.scales.Scale.{Scale}
use Rattle.vega_spec.specs.declared.scales.Range.{Range}
use Rattle.vega_spec.specs.declared.scales.Range.TheVariants as range
use Rattle.tree_readers.specs.Parts.{Opened, found_at, flag_at, number_at, needed_text}
use Rattle.vega_building.specs.Parts.{cell_of, signal_at}
use Rattle.vega_building.specs.Names.{needed_scale_kind}
use Rattle.vega_building.specs.Domains.{needed_domain}

-- ranges that go by a name
abbrev pub range_named : List ℕ → Option Range
range_named name =
    if bytes_eq name (codes "width") then Some range.Width
    else (if bytes_eq name (codes "height") then Some range.Height
    else (if bytes_eq name (codes "category") then Some range.Category
    else (if bytes_eq name (codes "ramp") then Some range.Ramp
    else (if bytes_eq name (codes "symbol") then Some range.Symbol
    else None))))

-- a range
abbrev pub range_in : Opened → Option Range
range_in (level.List items) = Some (range.Cells (map cell_of items))
range_in (level.Text text) = range_named text
range_in other = None

-- the same under a name
abbrev pub range_at : List Member → List ℕ → Option Range
range_at = found_at range_in

-- the range under a name, that of no cells where there is none
abbrev pub needed_range : List Member → List ℕ → Range
needed_range members name = unwrap_or (range_at members name) (range.Cells [])

-- a scale
abbrev pub scale_of : List Member → Scale
scale_of members = record {
  name = needed_text members (codes "name");
  type_ = needed_scale_kind members (codes "type");
  domain = needed_domain members (codes "domain");
  domain_raw = signal_at members (codes "domainRaw");
  range = needed_range members (codes "range");
  zero = flag_at members (codes "zero");
  nice = flag_at members (codes "nice");
  reverse = flag_at members (codes "reverse");
  padding = number_at members (codes "padding");
  padding_inner = number_at members (codes "paddingInner");
  padding_outer = number_at members (codes "paddingOuter");
}
