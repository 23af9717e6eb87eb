-- Views of copies step by step.
use Rattle.std.proofs.Common.{◌≡◌, ℕ, ℤ, suc, cond, Option, Some, None, List, [], ◌∷◌, ◌++◌, map, Bor, refl, sym, ap, ◌∙◌}
use Rattle.std.specs.Prelude.{is_some, unwrap_or}
use Rattle.std.specs.Option.{option_map, option_map_or}
use Rattle.cell_value.specs.declared.cell.Cell.{Cell}
use Rattle.fixed_num.specs.Ranges.{◌>>=◌}
use Rattle.mark_encode.specs.declared.channels.ChannelName.TheVariants as channel
use Rattle.vega_scales.specs.declared.scaled.Scaled.{Scaled}
use Rattle.vega_signals.specs.Extents.{Settled}
use Rattle.vega_signals.specs.Settling.{values_inside}
use Rattle.vega_spec.specs.declared.guides.Layout.{Layout}
use Rattle.vega_spec.specs.declared.marks.Facet.{Facet}
use Rattle.vega_spec.specs.declared.spec.Group.{Group, out-Group}
use Rattle.vega_spec.specs.declared.spec.VgMark.{VgMark, VgMark-F}
use Rattle.plot_scenes.specs.declared.headers.Header.{Header}
use Rattle.plot_scenes.specs.declared.views.Placed.{Placed}
use Rattle.plot_scenes.specs.Views.{placed_plot}
use Rattle.vega_copies.specs.declared.facts.CopyFacts.{CopyFacts, out-CopyFacts}
use Rattle.vega_copies.specs.declared.facts.Step.{Step}
use Rattle.vega_copies.specs.Outlines.{Object, Marks, facet_in}
use Rattle.vega_copies.specs.Facts.{Found, CopyFound}
use Rattle.vega_copies.specs.inner.FactsSeen.{ListsOnPaths, marks_seen}
use Rattle.vega_copies.specs.inner.Outlined.{marks_in, marks_from, group_object, object_numbered}
use Rattle.vega_copies.proofs.SeenFacts.{copy_opened}
use Rattle.vega_drawing.specs.declared.frames.Frame.{Frame as HeldFrame}
use Rattle.vega_drawing.specs.declared.scales.AxisHere.{AxisHere as HeldAxis}
use Rattle.vega_drawing.specs.declared.scales.ScaleHere.{ScaleHere as HeldScale}
use Rattle.vega_drawing.specs.declared.spots.GridSpot.{GridSpot}
use Rattle.vega_drawing.specs.Frames.{Frame, more_cells, of_no_chart, encoded_number, as_grid}
use Rattle.vega_drawing.specs.Grids.{frame_past, grid_of, size_cut, sized}
use Rattle.vega_drawing.specs.Insides.{ItemsOfMarks}
use Rattle.vega_drawing.specs.Plots.{plot_of}
use Rattle.vega_drawing.specs.Scales.{ScaleHere, and_outer, own_scales, set_of, scale_in, past, axis_past}
use Rattle.vega_drawing.specs.Views.{grid_round, spacing_of, views_in}
use Rattle.vega_drawing.specs.inner.Drawn.{copy_in_frame}
use Rattle.vega_drawing.specs.inner.Framed.{frame_seen, cells_seen, values_of, IsFrame}
use Rattle.vega_drawing.specs.inner.Kept.{scale_seen, axis_seen, AreKeptScales, AreKeptAxes}
use Rattle.vega_drawing.specs.inner.Levels.{values_over}
use Rattle.vega_drawing.specs.inner.Placed.{grid_of_object, headers_with, view_at, view_entered, view_named, view_scaled, sized_plot}
use Rattle.vega_drawing.proofs.ValueLemmas.{values_entered}

-- ---- what stands round a copy that passes a spot

abbrev past_by : GridSpot → Frame → Option Facet → Frame
past_by spot outer facet = cond (is_some facet) (record outer { scales = map (past spot) outer.scales; axes = map (axis_past spot) outer.axes }) outer

pub not_past : (o : Object) (spot : GridSpot) (outer : Frame) → None ≡ o.facet → outer ≡ frame_past o spot outer
not_past o spot outer e = ap (past_by spot outer) e

pub is_past : (o : Object) (spot : GridSpot) (outer : Frame) (f : Facet) → Some f ≡ o.facet
    → record outer { scales = map (past spot) outer.scales; axes = map (axis_past spot) outer.axes } ≡ frame_past o spot outer
is_past o spot outer f e = ap (past_by spot outer) e

-- a set of scales doesn't ask for the spots that they passed
pub set_past : (width height : ℤ) (spot : GridSpot) (scales : List ScaleHere) → set_of width height (map (past spot) scales) ≡ set_of width height scales
set_past width height spot scales = λ i. record { scales = each scales i }
  where
    each : (scales : List ScaleHere) → map (scale_in width height) (map (past spot) scales) ≡ map (scale_in width height) scales
    each [] = refl
    each (s ∷ others) = ap (λ made. scale_in width height s ∷ made) (each others)

module _ (outer : HeldFrame) (spot : GridSpot) (scales : Bor (List HeldScale)) (axes : Bor (List HeldAxis))
    (read : map scale_seen scales.now ≡ map (past spot) (map scale_seen outer.scales.now)) where
  pub past_is_frame : IsFrame outer → AreKeptScales scales.now → AreKeptAxes axes.now → IsFrame (record outer { scales = scales; axes = axes })
  past_is_frame is kept axes_kept = record {
    scales = kept;
    set = is.set ∙ sym (set_past outer.width outer.height spot (map scale_seen outer.scales.now)) ∙ ap (set_of outer.width outer.height) (sym read);
    sound = is.sound;
    axes = axes_kept;
    width = is.width;
    height = is.height;
  }

  pub view_past : (items : ItemsOfMarks) (lists : ListsOnPaths) (unit number : ℕ) (m : VgMark-F Group VgMark) (copy : CopyFound) (f : Facet)
      → map axis_seen axes.now ≡ map (axis_past spot) (map axis_seen outer.axes.now) → Some f ≡ facet_in m.from
      → view_at items (record (frame_seen lists outer) { scales = map scale_seen scales.now; axes = map axis_seen axes.now }) unit number m copy
      ≡ view_at items (frame_past (group_object number m) spot (frame_seen lists outer)) unit number m copy
  view_past items lists unit number m copy f behind e =
      (λ i. view_at items (record (frame_seen lists outer) { scales = read i; axes = behind i }) unit number m copy)
      ∙ ap (λ frame. view_at items frame unit number m copy) (is_past (group_object number m) spot (frame_seen lists outer) f e)

-- ---- a copy of a group, step by step

pub headed_frame : (outer : HeldFrame) (path : Bor (List Step)) (levels : Bor (List (Bor Settled))) (cells : Option (Bor (List (List ℕ × Cell))))
    (headers : Bor (List Header)) → IsFrame outer
    → IsFrame (record outer { path = path; values = record { stores = outer.values.stores; levels = levels }; cells = cells; headers = headers })
headed_frame outer path levels cells headers is =
    record { scales = is.scales; set = is.set; sound = is.sound; axes = is.axes; width = is.width; height = is.height }

-- the view of a copy, by what names stand for in it
module _ (items : ItemsOfMarks) (lists : ListsOnPaths) (outer : HeldFrame) (unit number : ℕ) (m : VgMark-F Group VgMark) (copy : CopyFacts) (step : Step) where
  pub view_is_entered : (path : List Step) (levels : List (Bor Settled)) (cells : Option (Bor (List (List ℕ × Cell)))) (headers : List Header)
      → path ≡ step ∷ outer.path.now
      → map (λ l. l.now) levels ≡ (out-CopyFacts copy).signals ∷ map (λ l. l.now) outer.values.levels.now
      → cells_seen cells ≡ more_cells (cells_seen outer.cells) (out-CopyFacts copy).cells
      → headers ≡ headers_with (group_object number m) (out-CopyFacts copy).cells ++ outer.headers.now
      → view_entered items lists outer path levels cells headers unit number m copy
      ≡ view_at items (frame_seen lists outer) unit number m (copy_in_frame lists outer step copy)
  view_is_entered path levels cells headers there more both shown =
      let values : values_over outer.values.stores.now levels ≡ values_inside (out-CopyFacts copy).signals (values_of outer) =
      values_entered outer.values.stores.now levels outer.values.levels.now (out-CopyFacts copy).signals more in
      (λ i. view_named items (record (frame_seen lists outer) {
        names = record { lists = lists (there i); values = values i };
        cells = both i;
        headers = shown i;
      })
      unit number m (out-CopyFacts copy).domains (marks_seen lists (there i) (values i) 0 (out-CopyFacts copy).inside))
      ∙ sym (ap (view_at items (frame_seen lists outer) unit number m) (copy_opened lists copy (step ∷ outer.path.now) (values_of outer)))

-- its view with its own scales
pub named_scaled : (items : ItemsOfMarks) (named : Frame) (unit number : ℕ)
    (m : VgMark-F Group VgMark) (domains : List Scaled) (found : Found) (scales : List ScaleHere)
    → scales ≡ and_outer named.scales (own_scales of_no_chart (group_object 0 m).scales domains)
    → view_scaled items (record named { scales = scales }) unit number m found ≡ view_named items named unit number m domains found
named_scaled items named unit number m domains found scales is = ap (λ s. view_scaled items (record named { scales = s }) unit number m found) is

-- a grid or a plot
module _ (items : ItemsOfMarks) (frame : Frame) (unit number : ℕ) (m : VgMark-F Group VgMark) (found : Found) where
  abbrev marks_here : Marks
  marks_here = marks_from unit (suc number) (marks_in (out-Group m.group))

  abbrev by_layout : Option Layout → Option Placed
  by_layout layout =
      cond (is_some layout) (Some (as_grid (group_object number m) frame)) (sized (group_object number m) frame) >>= λ here.
      option_map_or (λ (l : Layout).
      option_map (grid_round (group_object number m) here (spacing_of l) (grid_of l found).columns)
      (views_in items marks_here found here (grid_of (unwrap_or layout (record { padding = None; columns = None })) found) 0)) layout
      (option_map placed_plot (plot_of items (group_object number m) marks_here found here))

  pub plot_inside : (out-Group m.group).layout ≡ None → sized_plot items frame unit number m found ≡ view_scaled items frame unit number m found
  plot_inside e = sym (ap by_layout e)

  pub grid_inside : (l : Layout) → (out-Group m.group).layout ≡ Some l
      → grid_of_object items (object_numbered number (out-Group m.group)) l marks_here found (as_grid (object_numbered number (out-Group m.group)) frame)
      ≡ view_scaled items frame unit number m found
  grid_inside l e = sym (ap by_layout e)

  -- a plot with its size
  abbrev pub plot_sized : Frame → Option Placed
  plot_sized here = option_map placed_plot (plot_of items (group_object number m) marks_here found here)

  abbrev of_width : Option ℤ → Option Placed
  of_width o =
      (o >>= λ width. encoded_number frame (group_object number m) channel.Height >>= λ height.
      Some (record frame { width = size_cut width; height = size_cut height })) >>= plot_sized

  pub with_sizes : (width height : ℤ) → encoded_number frame (group_object number m) channel.Width ≡ Some width
      → encoded_number frame (group_object number m) channel.Height ≡ Some height
      → plot_sized (record frame { width = size_cut width; height = size_cut height }) ≡ sized_plot items frame unit number m found
  with_sizes width height w h =
      sym (ap of_width w
      ∙ ap (λ o. (o >>= λ height. Some (record frame { width = size_cut width; height = size_cut height })) >>= plot_sized) h)
