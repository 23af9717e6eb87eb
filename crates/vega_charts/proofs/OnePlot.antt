-- Why one plot is drawn as a plot with its guides.
use Rattle.std.proofs.Common.{◌≡◌, ℕ, ℤ, pos, Bool, true, false, if◌then◌else◌, Option, Some, None, List, [], ◌++◌, map, refl, sym, ap}
use Rattle.std.proofs.Common.{subst, flat_map, ◌∙◌, append-nil}
use Rattle.std.specs.Prelude.{IfSome, is_some}
use Rattle.std.specs.Option.{option_map, option_map_or}
use Rattle.std.specs.List.{filter_map, enumerate_from}
use Rattle.fixed_num.specs.Ranges.{◌>>=◌, all_found}
use Rattle.cell_value.specs.declared.cell.Cell.{Cell}
use Rattle.cell_value.specs.State.{Dataset}
use Rattle.scale_kit.specs.Scale.{IsPixel}
use Rattle.scene_tree.specs.declared.scene.Item.{Item}
use Rattle.scene_tree.specs.declared.scene.Scene.{Scene}
use Rattle.scene_tree.specs.Moves.{moved_item}
use Rattle.scene_tree.proofs.MoveLemmas.{all_stay}
use Rattle.guide_kit.specs.declared.legends.Block.{Block}
use Rattle.vega_spec.specs.declared.guides.Axis.{Axis}
use Rattle.vega_spec.specs.declared.guides.Layout.{Layout}
use Rattle.vega_spec.specs.declared.guides.Legend.{Legend}
use Rattle.vega_spec.specs.declared.spec.Size.{Size}
use Rattle.vega_spec.specs.declared.spec.VgSpec.{VgSpec}
use Rattle.plot_scenes.specs.declared.axes.Axes.{Axes}
use Rattle.plot_scenes.specs.OnePlot.{scene_alone, picture_of_plot, plain_scene, IsSpace}
use Rattle.plot_scenes.proofs.OnePlotLaw.{bare, alone}
use Rattle.plot_scenes.specs.declared.headers.Header.{Header}
use Rattle.plot_scenes.specs.declared.legends.LegendShown.{LegendShown}
use Rattle.plot_scenes.specs.declared.scenes.Drawing.{Drawing}
use Rattle.plot_scenes.specs.declared.views.Placed.{Placed}
use Rattle.plot_scenes.specs.declared.views.Plot.{Plot}
use Rattle.plot_scenes.specs.declared.axes.AxisShown.{AxisShown}
use Rattle.plot_scenes.specs.Axes.{axes_at}
use Rattle.plot_scenes.specs.Legends.{blocks_of}
use Rattle.plot_scenes.specs.Scenes.{drawing_with}
use Rattle.plot_scenes.specs.Views.{placed_plot}
use Rattle.vega_drawing.specs.Sizes.{size_of, padding_round}
use Rattle.vega_copies.specs.Outlines.{Object, Marks, NoMarks, AMark, AGroup, first_unit, PlainMark}
use Rattle.vega_copies.specs.Scopes.{Names, keeps_signals}
use Rattle.vega_copies.specs.Facts.{Facts, Found, NoneFound, FoundOf, NoCopies, CopyFound, behind_first, facts_here, found_in}
use Rattle.vega_scales.specs.declared.scaled.Scaled.{Scaled}
use Rattle.vega_scales.specs.Scales.{domain_of}
use Rattle.vega_drawing.specs.Scales.{AxisHere, axes_here}
use Rattle.vega_drawing.specs.Frames.{Frame, as_grid, sizing_values, inside_of}
use Rattle.vega_drawing.specs.Grids.{grid_of}
use Rattle.vega_charts.specs.Items.{items_in_plot, rows_of_mark, items_in_copy}
use Rattle.vega_drawing.specs.Units.{in_unit_order}
use Rattle.vega_drawing.specs.Guides.{axes_over, own_axes, legend_channels, legend_in_channel, legends_in}
use Rattle.vega_drawing.specs.Insides.{Inside, items_inside, and_inside, with_guides, drawn_in}
use Rattle.vega_drawing.specs.Plots.{plot_of, scales_of_plot}
use Rattle.vega_drawing.specs.Tops.{of_chart, round_top, sized_top, top_frame}
use Rattle.vega_drawing.specs.Views.{spacing_of, grid_round, grid_here, views_in, view_of}
use Rattle.vega_drawing.specs.Drawings.{scales_of_chart}
use Rattle.vega_charts.specs.Scenes.{drawing_over}
use Rattle.vega_charts.specs.Laws.{has_no_groups}
use Rattle.vega_charts.specs.OnePlotLaws.{items_of_marks, scene_of_plot, HasNoGuides}
use Rattle.vega_charts.proofs.ItemOrder.{found_both}

-- ---- the frame

-- round the top nothing stands, and it isn't moved
pub record IsTop (frame : Frame) : Type 0 where
  pub axes : frame.axes ≡ []
  pub cells : frame.cells ≡ None
  pub headers : frame.headers ≡ []
  pub x : frame.x ≡ pos 0
  pub y : frame.y ≡ pos 0

sized_by : (frame : Frame) → IsTop frame → (width height : Option ℤ)
    → IfSome (width >>= λ w. height >>= λ h. Some (record frame { width = w; height = h })) IsTop
sized_by frame is None height = tt
sized_by frame is (Some w) None = tt
sized_by frame is (Some w) (Some h) = record { axes = is.axes; cells = is.cells; headers = is.headers; x = is.x; y = is.y }

-- the top by its layout
abbrev top_with : Option Size → Option Size → Object → Option Layout → Facts → Option Frame
top_with width height o layout facts =
    let frame = inside_of (of_chart layout) (round_top facts.names) o facts in
    if is_some layout then Some (as_grid o frame) else sized_top width height frame

abbrev facts_by : Names → Bool → Option (List Scaled) → Option Facts
facts_by names b domains = if b then option_map (λ domains. record { cells = None; names = names; domains = domains }) domains else None

top_by : (names : Names) (width height : Option Size) (o : Object) (b : Bool) (domains : Option (List Scaled))
    → IfSome (facts_by names b domains >>= top_with width height o None) IsTop
top_by names width height o false domains = tt
top_by names width height o true None = tt
top_by names width height o true (Some domains) =
    let frame = inside_of (of_chart None) (round_top names) o (record { cells = None; names = names; domains = domains }) in
    sized_by frame (record { axes = refl; cells = refl; headers = refl; x = refl; y = refl }) (size_of (sizing_values frame) width)
    (size_of (sizing_values frame) height)

pub is_top : (width height : Option Size) (names : Names) (o : Object) (frame : Frame) → o.layout ≡ None
    → (facts_here None o names >>= top_frame width height o) ≡ Some frame → IsTop frame
is_top width height names o frame plain is =
    subst (λ o. IfSome o IsTop) (sym (ap (λ layout. facts_here None o names >>= top_with width height o layout) plain) ∙ is)
    (top_by names width height o (keeps_signals names o) (all_found (map (domain_of names.values names.lists) o.scales)))

-- ---- the items

in_copy : (unit : ℕ) (m : PlainMark) (frame : Frame) (own : List Item) → IsTop frame
    → items_in_plot frame unit m (rows_of_mark frame.names.lists m.from) ≡ Some own → items_in_copy unit m frame ≡ Some own
in_copy unit m frame own is found =
    ap (λ o. o >>= λ items. all_found (map (moved_item frame.x frame.y) items)) found
    ∙ (λ i. all_found (map (moved_item (is.x i) (is.y i)) own))
    ∙ all_stay own

pub drawn_items : (marks : Marks) (found : Found) (frame : Frame) (items : List Item) → IsTop frame → has_no_groups marks ≡ true
    → items_of_marks frame marks ≡ Some items → drawn_in items_in_copy marks found frame ≡ Some (items_inside items)
drawn_items NoMarks found frame items is none e = ap (option_map items_inside) e
drawn_items (AMark unit m others) found frame items is none e =
    let (own, rest, first, behind, joined) =
    found_both (items_in_plot frame unit m (rows_of_mark frame.names.lists m.from)) (items_of_marks frame others) items e in
    let here = in_copy unit m frame own is first in
    let there = drawn_items others (behind_first found) frame rest is none behind in
    (λ i. here i >>= λ own. there i >>= λ rest. Some (and_inside (items_inside own) rest)) ∙ ap (λ items. Some (items_inside items)) joined
drawn_items (AGroup o inside others) found frame items is none e = absurd (cc)

-- without groups something is found of marks
some_found : (sources : List Dataset) (marks : Marks) (names : Names)
    → has_no_groups marks ≡ true → (found : Found) × (found_in sources marks names ≡ Some found)
some_found sources NoMarks names none = (NoneFound, refl)
some_found sources (AMark unit m others) names none =
    let (rest, is) = some_found sources others names none in (FoundOf NoCopies None rest, ap (option_map (FoundOf NoCopies None)) is)
some_found sources (AGroup o inside others) names none = absurd (cc)

-- what goes on after facts, where a frame is found of them
after_facts : (facts : Option Facts) (found : Found) (framed : Facts → Option Frame) (frame : Frame) (rest : Found → Frame → Option Drawing)
    → (facts >>= framed) ≡ Some frame
    → ((facts >>= λ facts. Some (record { facts = facts; inside = found })) >>= λ (c : CopyFound). framed c.facts >>= rest c.inside) ≡ rest found frame
after_facts None found framed frame rest e = absurd (let none : None ≡ Some frame = e in cc)
after_facts (Some facts) found framed frame rest e = ap (λ frame. frame >>= rest found) e

-- ---- the plot

module _ (g : VgSpec) (sources : List Dataset) (o : Object) (marks : Marks) (frame : Frame) (items : List Item) where
  abbrev shown : List AxisShown
  shown = axes_over frame.width frame.height (own_axes o frame)

  abbrev legends : List LegendShown
  legends = legends_in o frame

  abbrev padding : ℤ
  padding = padding_round g.padding

  -- a plot with what stands round it, from what stands in it
  abbrev plot_with : List AxisHere → List Header → Option (List (List ℕ × Cell)) → Inside → Option Plot
  plot_with round headers cells inside =
      axes_at frame.width frame.height (axes_over frame.width frame.height round ++ inside.axes) >>= λ axes. Some (record {
        width = frame.width;
        height = frame.height;
        title = o.title;
        headers = headers;
        axes = axes;
        items = in_unit_order inside.items;
        view = first_unit marks;
        cells = cells;
        legends = inside.legends;
        scales = scales_of_plot frame;
      })

  -- the plot with its axes
  abbrev plot_by : Axes → Plot
  plot_by axes = record {
    width = frame.width;
    height = frame.height;
    title = o.title;
    headers = [];
    axes = axes;
    items = items;
    view = first_unit marks;
    cells = None;
    legends = legends;
    scales = scales_of_plot frame;
  }

  plot_known : (found : Found) → IsTop frame → drawn_in items_in_copy marks found frame ≡ Some (items_inside items) → in_unit_order items ≡ items
      → plot_of items_in_copy o marks found frame ≡ (axes_at frame.width frame.height shown >>= λ axes. Some (plot_by axes))
  plot_known found is drawn ordered =
      ap (λ d. option_map (with_guides o frame) d >>= plot_with frame.axes frame.headers frame.cells) drawn
      ∙ (λ i. plot_with (is.axes i) (is.headers i) (is.cells i) (record { axes = append-nil shown i; legends = append-nil legends i; items = items }))
      ∙ (λ i. axes_at frame.width frame.height shown >>= λ axes. Some (record (plot_by axes) { items = ordered i }))

  -- what is drawn of it
  abbrev scene_drawn : Option Placed → Option Scene
  scene_drawn view = option_map (λ (d : Drawing). d.scene) (view >>= λ view. drawing_with padding (scales_of_chart frame) view)

  -- the picture of a plot
  abbrev picture : Axes → List Block → Scene
  picture axes blocks = scene_alone padding frame.width frame.height o.title axes (first_unit marks) items blocks

  by_blocks : (axes : Axes) (found : Option (List Block)) → option_map (picture axes) found ≡ (found >>= λ blocks. Some (picture axes blocks))
  by_blocks axes None = refl
  by_blocks axes (Some blocks) = refl

  by_axes : (found : Option Axes) → scene_drawn (option_map placed_plot (found >>= λ axes. Some (plot_by axes)))
      ≡ (found >>= λ axes. blocks_of legends >>= λ blocks. Some (picture axes blocks))
  by_axes None = refl
  by_axes (Some axes) = alone padding (scales_of_chart frame) (plot_by axes) refl refl ∙ by_blocks axes (blocks_of legends)

  -- what is drawn of a view of the top
  abbrev rest_drawn : Found → Frame → Option Drawing
  rest_drawn found frame = view_of items_in_copy o marks found frame >>= λ view. drawing_with padding (scales_of_chart frame) view

  abbrev from_facts : CopyFound → Option Drawing
  from_facts c = top_frame g.width g.height o c.facts >>= rest_drawn c.inside

  pub drawn_over : (names : Names) → o.layout ≡ None → has_no_groups marks ≡ true → (facts_here None o names >>= top_frame g.width g.height o) ≡ Some frame
      → items_of_marks frame marks ≡ Some items → in_unit_order items ≡ items
      → option_map (λ (d : Drawing). d.scene) (drawing_over g sources (record { object = o; marks = marks }) names)
      ≡ scene_of_plot g o marks frame items
  drawn_over names plain none framed found ordered =
      let is = is_top g.width g.height names o frame plain framed in
      let (inside, inside_is) = some_found sources marks names none in
      ap (λ (found : Option Found). option_map (λ (d : Drawing). d.scene)
      ((facts_here None o names >>= λ facts. found >>= λ inside. Some (record { facts = facts; inside = inside })) >>= from_facts)) inside_is
      ∙ ap (option_map (λ (d : Drawing). d.scene))
      (after_facts (facts_here None o names) inside (top_frame g.width g.height o) frame rest_drawn framed)
      ∙ ap (λ l. scene_drawn (option_map_or (λ (l : Layout). option_map (grid_round o frame (spacing_of l) (grid_of l inside).columns)
      (views_in items_in_copy marks inside frame (grid_here o inside) 0)) l (option_map placed_plot (plot_of items_in_copy o marks inside frame)))) plain
      ∙ ap (λ p. scene_drawn (option_map placed_plot p)) (plot_known inside is (drawn_items marks inside frame items is none found) ordered)
      ∙ by_axes (axes_at frame.width frame.height shown)

  -- ---- without guides

  abbrev scene_by : List Axis → List Legend → Option (List ℕ) → Option Scene
  scene_by axes legends title =
      picture_of_plot padding frame.width frame.height title (axes_over frame.width frame.height (axes_here frame.scales axes))
      (flat_map (λ l. filter_map (legend_in_channel o.number frame l) legend_channels) (enumerate_from 0 legends)) (first_unit marks) items

  pub plain : HasNoGuides o → IsSpace padding → IsPixel frame.width → IsPixel frame.height
      → scene_of_plot g o marks frame items ≡ Some (plain_scene padding frame.width frame.height (first_unit marks) items)
  plain none space wide high =
      (λ i. scene_by (none.axes i) (none.legends i) (none.title i))
      ∙ bare padding frame.width frame.height (first_unit marks) items space wide high
