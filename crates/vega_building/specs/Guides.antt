-- Axes, legends and layouts.
use Rattle.std.specs.Prelude.{List, codes}
use Rattle.json_exact.specs.declared.json.Member.{Member}
use Rattle.vega_spec.specs.declared.guides.Axis.{Axis}
use Rattle.vega_spec.specs.declared.guides.Legend.{Legend}
use Rattle.vega_spec.specs.declared.guides.Layout.{Layout}
use Rattle.tree_readers.specs.Parts.{list_at, flag_at, number_at, text_at, needed_text}
use Rattle.vega_building.specs.Parts.{cell_of}
use Rattle.vega_building.specs.Names.{named_at, needed_side, edge_named}

-- an axis
abbrev pub axis_of : List Member → Axis
axis_of members = record {
  scale = needed_text members (codes "scale");
  orient = needed_side members (codes "orient");
  title = text_at members (codes "title");
  labels = flag_at members (codes "labels");
  ticks = flag_at members (codes "ticks");
  domain = flag_at members (codes "domain");
  grid = flag_at members (codes "grid");
  label_angle = number_at members (codes "labelAngle");
  tick_count = number_at members (codes "tickCount");
  values = list_at cell_of members (codes "values");
  format = text_at members (codes "format");
  edge = named_at edge_named members (codes "edge");
}

-- a legend
abbrev pub legend_of : List Member → Legend
legend_of members = record {
  fill = text_at members (codes "fill");
  opacity = text_at members (codes "opacity");
  shape = text_at members (codes "shape");
  size = text_at members (codes "size");
  title = text_at members (codes "title");
  format = text_at members (codes "format");
}

-- how groups stand in a grid
abbrev pub layout_of : List Member → Layout
layout_of members = record {
  padding = number_at members (codes "padding");
  columns = number_at members (codes "columns");
}
