-- Axes, legends and layouts are read back.
use Rattle.std.proofs.Common.{◌≡◌, ℕ, List, refl, ap}
use Rattle.std.specs.Option.{unwrap_or}
use Rattle.std.specs.Prelude.{codes}
use Rattle.json_exact.specs.Path.{member_value}
use Rattle.json_exact.specs.declared.json.Member.{Member}
use Rattle.vega_spec.specs.declared.guides.Axis.{Axis}
use Rattle.vega_spec.specs.declared.guides.Layout.{Layout}
use Rattle.vega_spec.specs.declared.guides.Legend.{Legend}
use Rattle.vega_building.specs.Guides.{axis_of, legend_of, layout_of}
use Rattle.vega_building.specs.Names.{side_named, edge_named}
use Rattle.vega_writing.specs.Guides.{side_tree, edge_tree, axis_slots, legend_slots, layout_slots}
use Rattle.vega_writing.specs.Slots.{present}
use Rattle.vega_model.proofs.Back.{needed_text_back, may_text, may_flag, may_number, must_named, may_named}
use Rattle.vega_model.proofs.Found.{at_name, found}
use Rattle.vega_model.proofs.Leaves.{may_cells}
use Rattle.vega_model.proofs.Words.{side_reads, edge_reads}
use Rattle.vega_spec.specs.declared.guides.Side.TheVariants as side

-- an axis is read back
pub axis_back : (a : Axis) → axis_of (present (axis_slots a)) ≡ a
unfolding axis_slots
axis_back a =
    let ms : List Member = present (axis_slots a) in
    let at : (name : List ℕ) → member_value ms name ≡ at_name (axis_slots a) name = λ name. found (axis_slots a) name refl in
    λ j. record {
      scale = needed_text_back ms (codes "scale") a.scale (at (codes "scale")) j;
      orient = ap (λ o. unwrap_or o side.Left)
          (must_named ms (codes "orient") side_named side_tree a.orient (at (codes "orient")) (side_reads a.orient)) j;
      title = may_text ms (codes "title") a.title (at (codes "title")) j;
      labels = may_flag ms (codes "labels") a.labels (at (codes "labels")) j;
      ticks = may_flag ms (codes "ticks") a.ticks (at (codes "ticks")) j;
      domain = may_flag ms (codes "domain") a.domain (at (codes "domain")) j;
      grid = may_flag ms (codes "grid") a.grid (at (codes "grid")) j;
      label_angle = may_number ms (codes "labelAngle") a.label_angle (at (codes "labelAngle")) j;
      tick_count = may_number ms (codes "tickCount") a.tick_count (at (codes "tickCount")) j;
      values = may_cells ms (codes "values") a.values (at (codes "values")) j;
      format = may_text ms (codes "format") a.format (at (codes "format")) j;
      edge = may_named ms (codes "edge") edge_named edge_tree a.edge (at (codes "edge")) edge_reads j;
    }

-- a legend is read back
pub legend_back : (l : Legend) → legend_of (present (legend_slots l)) ≡ l
unfolding legend_slots
legend_back l =
    let ms : List Member = present (legend_slots l) in
    let at : (name : List ℕ) → member_value ms name ≡ at_name (legend_slots l) name = λ name. found (legend_slots l) name refl in
    λ j. record {
      fill = may_text ms (codes "fill") l.fill (at (codes "fill")) j;
      opacity = may_text ms (codes "opacity") l.opacity (at (codes "opacity")) j;
      shape = may_text ms (codes "shape") l.shape (at (codes "shape")) j;
      size = may_text ms (codes "size") l.size (at (codes "size")) j;
      title = may_text ms (codes "title") l.title (at (codes "title")) j;
      format = may_text ms (codes "format") l.format (at (codes "format")) j;
    }

-- how groups stand in a grid is read back
pub layout_back : (l : Layout) → layout_of (present (layout_slots l)) ≡ l
unfolding layout_slots
layout_back l =
    let ms : List Member = present (layout_slots l) in
    let at : (name : List ℕ) → member_value ms name ≡ at_name (layout_slots l) name = λ name. found (layout_slots l) name refl in
    λ j. record {
      padding = may_number ms (codes "padding") l.padding (at (codes "padding")) j;
      columns = may_number ms (codes "columns") l.columns (at (codes "columns")) j;
    }
