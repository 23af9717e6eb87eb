-- Each item that is drawn with the number of its mark and the key of its row is one of a row that its mark draws.
use Rattle.std.proofs.Common.{◌≡◌, ℕ, ◌+◌, ◌==◌, Bool, true, false, Option, Some, None, List, [], ◌∷◌, ◌++◌, map, length, refl, sym, ap, ◌∙◌, subst}
use Rattle.std.specs.Prelude.{ℤ, ◌+ℤ◌, codes, flat_map, is_some, unwrap_or, if◌then◌else◌}
use Rattle.std.specs.Option.{option_map, option_map_or}
use Rattle.std.specs.List.{All, enumerate_from}
use Rattle.std.proofs.lemmas.Option.{same_Some}
use Rattle.fixed_num.specs.Ranges.{◌>>=◌, all_found, in_range}
use Rattle.cell_value.specs.declared.state.Extent.{Extent}
use Rattle.cell_value.specs.declared.state.StoreOf.{StoreOf}
use Rattle.cell_value.specs.Datum.{Datum}
use Rattle.expr_eval.specs.Stores.{values_of_stores}
use Rattle.plain_orders.specs.Orders.{in_order}
use Rattle.guide_kit.specs.declared.legends.Block.{Block}
use Rattle.guide_kit.specs.Measures.{plus}
use Rattle.view_layout.specs.declared.boxes.PlaceOf.{PlaceOf}
use Rattle.view_layout.specs.Layout.{layout_with_titles_of}
use Rattle.scene_tree.specs.declared.scene.Item.{Item}
use Rattle.scene_tree.specs.declared.scene.Panel.{Panel}
use Rattle.scene_tree.specs.declared.scene.Scene.{Scene}
use Rattle.scale_kit.specs.declared.scale.ScaleIn.{ScaleIn}
use Rattle.selection_events.specs.declared.selection.PlotOf.{PlotOf}
use Rattle.selection_events.specs.Brushes.{brush_in, brush_item, brushed_at, brushed_with, panel_with, panels_with, span_along}
use Rattle.selection_events.specs.Brushes.{with_extents_of, with_brush, all_brushed, with_brushes}
use Rattle.selection_events.specs.Events.{Inverts}
use Rattle.plot_scenes.specs.declared.axes.Axes.{Axes}
use Rattle.plot_scenes.specs.declared.contents.Content.{Content}
use Rattle.plot_scenes.specs.declared.scenes.Drawing.{Drawing}
use Rattle.plot_scenes.specs.declared.views.Part.{Part}
use Rattle.plot_scenes.specs.declared.views.Part.TheVariants.{Title, OfPlot}
use Rattle.plot_scenes.specs.declared.views.Placed.{Placed}
use Rattle.plot_scenes.specs.declared.views.Plot.{Plot}
use Rattle.plot_scenes.specs.Axes.{axes_at}
use Rattle.plot_scenes.specs.Contents.{grid_title, panel_at, panels_at, content_of}
use Rattle.plot_scenes.specs.Headers.{header_items}
use Rattle.plot_scenes.specs.Legends.{blocks_of}
use Rattle.plot_scenes.specs.Lengths.{gap}
use Rattle.plot_scenes.specs.Panels.{legend_panels, next_top}
use Rattle.plot_scenes.specs.Scenes.{panels_in, drawn, drawing_with}
use Rattle.plot_scenes.specs.Titles.{title_items}
use Rattle.plot_scenes.specs.Views.{items_of_plot, extents_with_headers, placed_plot, titled}
use Rattle.vega_spec.specs.declared.guides.Layout.{Layout}
use Rattle.vega_spec.specs.declared.spec.Size.{Size}
use Rattle.vega_spec.specs.declared.spec.VgSpec.{VgSpec}
use Rattle.vega_selections.specs.Plots.{plots_of}
use Rattle.mark_encode.specs.declared.channels.ChannelName.TheVariants as channel
use Rattle.vega_copies.specs.Outlines.{Object, Marks, NoMarks, AMark, AGroup, outline_of}
use Rattle.vega_copies.specs.Facts.{Facts, Found, CopyFound, first_copies, behind_first, facts_of}
use Rattle.vega_copies.specs.Scopes.{Names}
use Rattle.vega_drawing.specs.declared.spots.Grid.{Grid}
use Rattle.vega_drawing.specs.Drawings.{drawn_from_facts, scales_of_chart}
use Rattle.vega_drawing.specs.Frames.{Frame, as_grid, encoded_number, inside_of, moved_copy, of_no_chart, placed_at, sizing_values}
use Rattle.vega_drawing.specs.Grids.{cell_at, cell_copy, grid_of, sized}
use Rattle.vega_drawing.specs.Guides.{axes_over}
use Rattle.vega_drawing.specs.Insides.{Inside, and_inside, all_inside, items_inside, nothing_inside, with_guides, drawn_in}
use Rattle.vega_drawing.specs.Plots.{plot_of}
use Rattle.vega_drawing.specs.Scales.{spot_of}
use Rattle.vega_drawing.specs.Sizes.{padding_round, size_of}
use Rattle.vega_drawing.specs.Tops.{of_chart, round_top, sized_top, top_frame}
use Rattle.vega_drawing.specs.Units.{by_unit}
use Rattle.vega_drawing.specs.Views.{grid_here, grid_round, spacing_of, view_round, views_in, view_of}
use Rattle.vega_charts.specs.Items.{items_in_copy}
use Rattle.vega_meaning.specs.Charts.{inverts_in}
use Rattle.vega_meaning.specs.Laws.{ItemsHaveRows}
use Rattle.vega_meaning.specs.Semantics.{rows_in}
use Rattle.vega_meaning.specs.UnitRows.{rows_of_unit, rows_inside, rows_found}
use Rattle.vega_meaning.proofs.DrawnFacts.{Each, each_weaker, each-append, all_given}
use Rattle.vega_meaning.proofs.DrawnOutcomes.{drawing_named, picture_is}
use Rattle.vega_meaning.proofs.DrawnScenes.{all_of_each}
use Rattle.vega_meaning.proofs.GuideItems.{IsKeyless, IsBlockBare, all_axes_bare, headers_bare, titles_bare, blocks_bare}
use Rattle.vega_meaning.proofs.MarkItems.{UnitLists, HasRow, IsThere, AreWithin, keyless_has, first_within, later_within, each_ordered, mark_has}

first_some : {A B : Type 0} (o : Option A) (f : A → Option B) (b : B) → (o >>= f) ≡ Some b → (a : A) × (o ≡ Some a) × (f a ≡ Some b)
first_some None f b e = absurd (cc e)
first_some (Some a) f b e = (a, refl, e)

made_some : {A B : Type 0} (o : Option A) (f : A → B) (b : B) → option_map f o ≡ Some b → (a : A) × (o ≡ Some a) × (f a ≡ b)
made_some None f b e = absurd (cc e)
made_some (Some a) f b e = (a, refl, cc e)

second_some : {A B : Type 0} (o : Option A) (make : A → B) (b : B) → (o >>= λ a. Some (make a)) ≡ Some b → (a : A) × (o ≡ Some a) × (make a ≡ b)
second_some None make b e = absurd (cc e)
second_some (Some a) make b e = (a, refl, cc e)

-- ---- the names in copies

abbrev names_of : Frame → Names
names_of frame = frame.names

abbrev at_place : Frame → ℤ → ℤ → Frame
at_place frame x y = record frame { x = x; y = y }

placed_names : (o : Object) (frame here : Frame) → placed_at o frame ≡ Some here → here.names ≡ frame.names
placed_names o frame here e =
    let a = first_some (encoded_number frame o channel.X) (λ dx. encoded_number frame o channel.Y >>= λ dy.
    in_range (frame.x +ℤ dx) >>= λ x. in_range (frame.y +ℤ dy) >>= λ y. Some (at_place frame x y)) here e in
    let b = first_some (encoded_number frame o channel.Y) (λ dy.
    in_range (frame.x +ℤ a.0) >>= λ x. in_range (frame.y +ℤ dy) >>= λ y. Some (at_place frame x y)) here a.2 in
    let c = first_some (in_range (frame.x +ℤ a.0)) (λ x. in_range (frame.y +ℤ b.0) >>= λ y. Some (at_place frame x y)) here b.2 in
    let d = second_some (in_range (frame.y +ℤ b.0)) (at_place frame c.0) here c.2 in
    ap names_of (sym d.2)

sized_names : (o : Object) (frame here : Frame) → sized o frame ≡ Some here → here.names ≡ frame.names
sized_names o frame here e =
    let a = first_some (encoded_number frame o channel.Width) _ here e in
    let b = second_some (encoded_number frame o channel.Height) _ here a.2 in
    ap names_of (sym b.2)

cell_names : (outer : Frame) (grid : Grid) (o : Object) (index : ℕ) (facts : Facts) (here : Frame) → cell_at outer grid o index facts ≡ Some here
    → here.names ≡ facts.names
cell_names outer grid o index facts here e = by_layout (is_some o.layout) e
  where
    by_layout : (b : Bool)
        → (if b then Some (as_grid o (cell_copy outer o (spot_of grid.columns grid.cells index) facts))
        else sized o (cell_copy outer o (spot_of grid.columns grid.cells index) facts))
        ≡ Some here → here.names ≡ facts.names
    by_layout true e = ap names_of (sym (same_Some (as_grid o (cell_copy outer o (spot_of grid.columns grid.cells index) facts)) here e))
    by_layout false e = sized_names o (cell_copy outer o (spot_of grid.columns grid.cells index) facts) here e

abbrev of_size : Frame → ℤ → ℤ → Frame
of_size frame width height = record frame { width = width; height = height }

abbrev bare_top : Object → Facts → Frame
bare_top o facts = inside_of (of_chart o.layout) (round_top facts.names) o facts

top_names : (width height : Option Size) (o : Object) (facts : Facts) (here : Frame) → top_frame width height o facts ≡ Some here → here.names ≡ facts.names
top_names width height o facts here e = by_layout (is_some o.layout) e
  where
    by_layout : (b : Bool) → (if b then Some (as_grid o (bare_top o facts)) else sized_top width height (bare_top o facts)) ≡ Some here
        → here.names ≡ facts.names
    by_layout true e = ap names_of (sym (same_Some (as_grid o (bare_top o facts)) here e))
    by_layout false e =
        let a = first_some (size_of (sizing_values (bare_top o facts)) width) (λ w.
        size_of (sizing_values (bare_top o facts)) height >>= λ h. Some (of_size (bare_top o facts) w h)) here e in
        let b = second_some (size_of (sizing_values (bare_top o facts)) height) (of_size (bare_top o facts) a.0) here a.2 in
        ap names_of (sym b.2)

-- ---- what marks draw in a plot

module _ (rows : UnitLists) where
  abbrev Has : Item → Type 0
  Has = HasRow rows

  all_items : (all : List Inside) → Each (λ (i : Inside). Each Has i.items) all → Each Has (all_inside all).items
  all_items [] h = tt
  all_items (first ∷ others) h = each-append Has first.items (all_inside others).items h.0 (all_items others h.1)

  -- the copies of a group are within what is drawn where their rows one after the other are
  each_within : (f : ℕ → CopyFound → List Datum) (copies : List CopyFound) → AreWithin (λ unit. flat_map (f unit) copies) rows
      → Each (λ (copy : CopyFound). AreWithin (λ unit. f unit copy) rows) copies
  each_within f [] h = tt
  each_within f (c ∷ cs) h = (
    λ unit key there. h unit key (first_within (f unit c) (flat_map (f unit) cs) key there),
    each_within f cs (λ unit key there. h unit key (later_within (f unit c) (flat_map (f unit) cs) key there)),
  )

  pub inside_has : (marks : Marks) (found : Found) (frame : Frame) (inside : Inside) → AreWithin (λ unit. rows_inside unit marks found frame.names) rows
      → drawn_in items_in_copy marks found frame ≡ Some inside → Each Has inside.items
  inside_has NoMarks found frame inside within e =
      let same : nothing_inside ≡ inside = cc e in subst (λ (i : Inside). Each Has i.items) same tt
  inside_has (AMark unit m others) found frame inside within e =
      let own = first_some (items_in_copy unit m frame) (λ own. drawn_in items_in_copy others (behind_first found) frame >>= λ rest.
      Some (and_inside (items_inside own) rest)) inside e in
      let rest = first_some (drawn_in items_in_copy others (behind_first found) frame) (λ rest. Some (and_inside (items_inside own.0) rest)) inside own.2 in
      let same : and_inside (items_inside own.0) rest.0 ≡ inside = cc rest.2 in
      subst (λ (i : Inside). Each Has i.items) same
      (each-append Has own.0 rest.0.items
      (mark_has rows unit m frame own.0 (λ key there. within unit key
      (first_within (rows_of_unit unit unit m frame.names) (rows_inside unit others (behind_first found) frame.names) key there)) own.1)
      (inside_has others (behind_first found) frame rest.0 (λ u key there. within u key
      (later_within (rows_of_unit u unit m frame.names) (rows_inside u others (behind_first found) frame.names) key there)) rest.1))
  inside_has (AGroup o inner others) found frame inside within e =
      let give : CopyFound → Option Inside = λ copy. moved_copy frame o copy.facts >>= λ here.
      option_map (with_guides o here) (drawn_in items_in_copy inner copy.inside here) in
      let of_copy : ℕ → CopyFound → List Datum = λ unit copy. rows_inside unit inner copy.inside copy.facts.names in
      let copies = first_some (all_found (map give (first_copies found))) (λ copies.
      drawn_in items_in_copy others (behind_first found) frame >>= λ rest. Some (and_inside (all_inside copies) rest)) inside e in
      let rest = first_some (drawn_in items_in_copy others (behind_first found) frame) (λ rest. Some (and_inside (all_inside copies.0) rest)) inside copies.2 in
      let same : and_inside (all_inside copies.0) rest.0 ≡ inside = cc rest.2 in
      let are = each_within of_copy (first_copies found) (λ u key there. within u key
      (first_within (flat_map (of_copy u) (first_copies found)) (rows_inside u others (behind_first found) frame.names) key there)) in
      subst (λ (i : Inside). Each Has i.items) same
      (each-append Has (all_inside copies.0).items rest.0.items
      (all_items copies.0 (all_given give (λ (copy : CopyFound). AreWithin (λ unit. of_copy unit copy) rows) (λ (i : Inside). Each Has i.items)
      (λ copy w i is.
      let here = first_some (moved_copy frame o copy.facts) (λ here. option_map (with_guides o here) (drawn_in items_in_copy inner copy.inside here)) i is in
      let made = made_some (drawn_in items_in_copy inner copy.inside here.0) (with_guides o here.0) i here.2 in
      let names : here.0.names ≡ copy.facts.names = placed_names o (inside_of of_no_chart frame o copy.facts) here.0 here.1 in
      subst (λ (x : Inside). Each Has x.items) made.2
      (inside_has inner copy.inside here.0 made.0 (λ u key there. w u key
      (subst (λ (n : Names). IsThere (rows_inside u inner copy.inside n) key) names there)) made.1)) (first_copies found) are copies.0 copies.1))
      (inside_has others (behind_first found) frame rest.0 (λ u key there. within u key
      (later_within (flat_map (of_copy u) (first_copies found)) (rows_inside u others (behind_first found) frame.names) key there)) rest.1))

  -- ---- views

  abbrev bare_has : (items : List Item) → Each IsKeyless items → Each Has items
  bare_has items h = each_weaker IsKeyless Has (keyless_has rows) items h

  plot_has : (o : Object) (marks : Marks) (found : Found) (frame : Frame) (p : Plot) → AreWithin (λ unit. rows_inside unit marks found frame.names) rows
      → plot_of items_in_copy o marks found frame ≡ Some p → Each Has (items_of_plot p)
  plot_has o marks found frame p within e =
      let inside = first_some (option_map (with_guides o frame) (drawn_in items_in_copy marks found frame)) _ p e in
      let made = made_some (drawn_in items_in_copy marks found frame) (with_guides o frame) inside.0 inside.1 in
      let axes = second_some (axes_at frame.width frame.height (axes_over frame.width frame.height frame.axes ++ inside.0.axes)) _ p inside.2 in
      let same_axes : axes.0 ≡ p.axes = ap (λ (x : Plot). x.axes) axes.2 in
      let same_items : in_order by_unit inside.0.items ≡ p.items = ap (λ (x : Plot). x.items) axes.2 in
      let bare = subst (λ (a : Axes). Each IsKeyless a.grids × Each IsKeyless a.items) same_axes
      (all_axes_bare frame.width frame.height (axes_over frame.width frame.height frame.axes ++ inside.0.axes) axes.0 axes.1) in
      let items = subst (Each Has) same_items (each_ordered Has by_unit inside.0.items
      (subst (λ (i : Inside). Each Has i.items) made.2 (inside_has marks found frame made.0 within made.1))) in
      let title = title_items p.title p.width (extents_with_headers p) in
      let headers = header_items p.width p.height p.axes.extents p.headers in
      each-append Has (title ++ headers ++ p.axes.grids ++ p.axes.items) p.items
      (each-append Has (title ++ headers ++ p.axes.grids) p.axes.items
      (each-append Has (title ++ headers) p.axes.grids
      (each-append Has title headers (bare_has title (titles_bare p.title p.width (extents_with_headers p)))
      (bare_has headers (headers_bare p.width p.height p.axes.extents p.headers)))
      (bare_has p.axes.grids bare.0))
      (bare_has p.axes.items bare.1))
      items

  abbrev PartHas : Part → Type 0
  PartHas (Title t) = Unit {0}
  PartHas (OfPlot here) = Each Has here.panel.items

  abbrev ViewHas : Placed → Type 0
  ViewHas v = Each PartHas v.parts

  titles_have : (title : Option (List ℕ)) → Each PartHas (titled title)
  titles_have None = tt
  titles_have (Some t) = (tt, tt)

  all_parts : (vs : List Placed) → Each ViewHas vs → Each PartHas (flat_map (λ (v : Placed). v.parts) vs)
  all_parts [] h = tt
  all_parts (v ∷ vs) h = each-append PartHas v.parts (flat_map (λ (x : Placed). x.parts) vs) h.0 (all_parts vs h.1)

  -- the view of a copy of an object, from those in it
  view_has : (o : Object) (marks : Marks) (found : Found) (frame : Frame) (cells : Option (List Placed)) (v : Placed)
      → AreWithin (λ unit. rows_inside unit marks found frame.names) rows → ((vs : List Placed) → cells ≡ Some vs → Each ViewHas vs)
      → view_round items_in_copy o marks found frame cells ≡ Some v → ViewHas v
  view_has o marks found frame cells v within inner e = by_layout o.layout e
    where
      by_layout : (l : Option Layout) → option_map_or (λ (l : Layout). option_map (grid_round o frame (spacing_of l) (grid_of l found).columns) cells) l
          (option_map placed_plot (plot_of items_in_copy o marks found frame)) ≡ Some v → ViewHas v
      by_layout (Some l) e =
          let made = made_some cells (grid_round o frame (spacing_of l) (grid_of l found).columns) v e in
          subst ViewHas made.2
          (each-append PartHas (titled o.title) (flat_map (λ (x : Placed). x.parts) made.0) (titles_have o.title) (all_parts made.0 (inner made.0 made.1)))
      by_layout None e =
          let made = made_some (plot_of items_in_copy o marks found frame) placed_plot v e in
          subst ViewHas made.2 (plot_has o marks found frame made.0 within made.1, tt)

  each_numbered : (P : CopyFound → Type 0) (n : ℕ) (xs : List CopyFound) → Each P xs → Each (λ (p : ℕ × CopyFound). P p.1) (enumerate_from n xs)
  each_numbered P n [] h = tt
  each_numbered P n (x ∷ xs) h = (h.0, each_numbered P (n + 1) xs h.1)

  -- the views of the copies of marks in a grid
  pub views_have : (marks : Marks) (found : Found) (names : Names) (frame : Frame) (grid : Grid) (index : ℕ) (vs : List Placed)
      → AreWithin (λ unit. rows_inside unit marks found names) rows → views_in items_in_copy marks found frame grid index ≡ Some vs → Each ViewHas vs
  views_have NoMarks found names frame grid index vs within e = let same : [] ≡ vs = cc e in subst (Each ViewHas) same tt
  views_have (AMark unit m others) found names frame grid index vs within e =
      views_have others (behind_first found) names frame grid index vs (λ u key there. within u key
      (later_within (rows_of_unit u unit m names) (rows_inside u others (behind_first found) names) key there)) e
  views_have (AGroup o inner others) found names frame grid index vs within e =
      let of_copy : ℕ → CopyFound → List Datum = λ unit copy. rows_inside unit inner copy.inside copy.facts.names in
      let give : ℕ × CopyFound → Option Placed = λ cell. cell_at frame grid o cell.0 cell.1.facts >>= λ here.
      view_round items_in_copy o inner cell.1.inside here (views_in items_in_copy inner cell.1.inside here (grid_here o cell.1.inside) 0) in
      let own = first_some (all_found (map give (enumerate_from index (first_copies found)))) (λ own.
      views_in items_in_copy others (behind_first found) frame grid (index + length (first_copies found)) >>= λ rest. Some (own ++ rest)) vs e in
      let rest = first_some (views_in items_in_copy others (behind_first found) frame grid (index + length (first_copies found)))
      (λ rest. Some (own.0 ++ rest)) vs own.2 in
      let same : own.0 ++ rest.0 ≡ vs = cc rest.2 in
      let are = each_within of_copy (first_copies found) (λ u key there. within u key
      (first_within (flat_map (of_copy u) (first_copies found)) (rows_inside u others (behind_first found) names) key there)) in
      subst (Each ViewHas) same
      (each-append ViewHas own.0 rest.0
      (all_given give (λ (cell : ℕ × CopyFound). AreWithin (λ unit. of_copy unit cell.1) rows) ViewHas
      (λ cell w v is.
      let here = first_some (cell_at frame grid o cell.0 cell.1.facts) (λ here.
      view_round items_in_copy o inner cell.1.inside here (views_in items_in_copy inner cell.1.inside here (grid_here o cell.1.inside) 0)) v is in
      let standing = cell_names frame grid o cell.0 cell.1.facts here.0 here.1 in
      view_has o inner cell.1.inside here.0 (views_in items_in_copy inner cell.1.inside here.0 (grid_here o cell.1.inside) 0) v
      (λ u key there. w u key (subst (λ (n : Names). IsThere (rows_inside u inner cell.1.inside n) key) standing there))
      (λ ws same. views_have inner cell.1.inside cell.1.facts.names here.0 (grid_here o cell.1.inside) 0 ws w same) here.2)
      (enumerate_from index (first_copies found))
      (each_numbered (λ (copy : CopyFound). AreWithin (λ unit. of_copy unit copy) rows) index (first_copies found) are)
      own.0 own.1)
      (views_have others (behind_first found) names frame grid (index + length (first_copies found)) rest.0 (λ u key there. within u key
      (later_within (flat_map (of_copy u) (first_copies found)) (rows_inside u others (behind_first found) names) key there)) rest.1))

  -- ---- scenes

  abbrev PanelHas : Panel → Type 0
  PanelHas p = Each Has p.items

  part_panel : (padding : ℤ) (place : PlaceOf) (part : Part) → PartHas part → PanelHas (panel_at padding place part).panel
  part_panel padding place (Title t) h = (keyless_has rows (grid_title place.width t) refl, tt)
  part_panel padding place (OfPlot here) h = h

  parts_have : (padding : ℤ) (parts : List Part) (places : List PlaceOf) → Each PartHas parts → Each PanelHas (panels_in (panels_at padding parts places))
  parts_have padding [] places h = tt
  parts_have padding (part ∷ parts) [] h = tt
  parts_have padding (part ∷ parts) (place ∷ places) h = (part_panel padding place part h.0, parts_have padding parts places h.1)

  legends_have : (x y : ℤ) (blocks : List Block) → Each IsBlockBare blocks → Each PanelHas (legend_panels x y blocks)
  legends_have x y [] h = tt
  legends_have x y (b ∷ bs) h = (bare_has b.items h.0, legends_have x (next_top y b) bs h.1)

  scene_has : (padding : ℤ) (of_chart : List ScaleIn) (view : Placed) (drawing : Drawing) → ViewHas view → drawing_with padding of_chart view ≡ Some drawing
      → Each PanelHas drawing.scene.panels
  scene_has padding of_chart view drawing h e =
      let content : Content = content_of padding view in
      let made = made_some (blocks_of view.legends) (drawn padding of_chart content) drawing e in
      subst (λ (d : Drawing). Each PanelHas d.scene.panels) made.2
      (each-append PanelHas (panels_in content.panels) (legend_panels (plus (plus padding content.width) gap) padding made.0)
      (parts_have padding view.parts (layout_with_titles_of view.boxes).places h)
      (legends_have (plus (plus padding content.width) gap) padding made.0 (blocks_bare view.legends made.0 made.1)))

  -- ---- brushes

  with_item : (index : ℕ) (item : Item) → Has item → (n : ℕ) (panels : List Panel) → Each PanelHas panels
      → Each PanelHas (map (panel_with index item) (enumerate_from n panels))
  with_item index item has n [] h = tt
  with_item index item has n (p ∷ ps) h = (by_index (n == index), with_item index item has (n + 1) ps h.1)
    where
      by_index : (b : Bool) → PanelHas (if b then record p { items = p.items ++ item ∷ [] } else p)
      by_index true = each-append Has p.items (item ∷ []) h.0 (has, tt)
      by_index false = h.0

  module _ (plots : List PlotOf) (scale : Inverts) where
    with_place : (panels after : List Panel) (store : StoreOf) (place : Option (ℕ × Panel)) → Each PanelHas panels
        → brushed_with scale panels store place ≡ Some after → Each PanelHas after
    with_place panels after store None h e = let same : panels ≡ after = cc e in subst (Each PanelHas) same h
    with_place panels after store (Some p) h e =
        let made = made_some (brush_in scale store p) (panels_with panels p.0) after e in
        let across = first_some (span_along scale p.0 store p.1.width (codes "x")) (λ across.
        span_along scale p.0 store p.1.height (codes "y") >>= λ down. Some (brush_item across down)) made.0 made.1 in
        let down = second_some (span_along scale p.0 store p.1.height (codes "y")) (brush_item across.0) made.0 across.2 in
        let none : made.0.key ≡ None = ap (λ (i : Item). i.key) (sym down.2) in
        subst (Each PanelHas) made.2 (with_item p.0 made.0 (keyless_has rows made.0 none) 0 panels h)

    one_brushed : (panels after : List Panel) (store : StoreOf) (extents : List Extent) → Each PanelHas panels
        → with_extents_of plots scale panels store extents ≡ Some after → Each PanelHas after
    one_brushed panels after store [] h e = let same : panels ≡ after = cc e in subst (Each PanelHas) same h
    one_brushed panels after store (x ∷ xs) h e = with_place panels after store (brushed_at plots panels store) h e

    all_have : (stores : List StoreOf) (panels after : List Panel) → Each PanelHas panels
        → all_brushed plots scale stores panels ≡ Some after → Each PanelHas after
    all_have [] panels after h e = let same : panels ≡ after = cc e in subst (Each PanelHas) same h
    all_have (store ∷ stores) panels after h e =
        let first = first_some (with_brush plots scale store panels) (all_brushed plots scale stores) after e in
        all_have stores first.0 after (one_brushed panels first.0 store store.extents h first.1) first.2

    pub brushed_have : (stores : List StoreOf) (scene after : Scene) → Each PanelHas scene.panels → with_brushes plots scale stores scene ≡ Some after
        → Each PanelHas after.panels
    brushed_have stores scene after h e =
        let made = made_some (all_brushed plots scale stores scene.panels) _ after e in
        subst (λ (s : Scene). Each PanelHas s.panels) made.2 (all_have stores scene.panels made.0 h made.1)

-- ---- a specification

drawn_has : (g : VgSpec) (rows : UnitLists) (found : CopyFound) (drawing : Drawing)
    → AreWithin (λ unit. rows_found unit (outline_of g) found) rows → drawn_from_facts items_in_copy g (outline_of g) found ≡ Some drawing
    → Each (PanelHas rows) drawing.scene.panels
drawn_has g rows found drawing within e =
    let top = outline_of g in
    let frame = first_some (top_frame g.width g.height top.object found.facts)
    (λ frame. view_of items_in_copy top.object top.marks found.inside frame >>= λ view.
    drawing_with (padding_round g.padding) (scales_of_chart frame) view) drawing e in
    let view = first_some (view_of items_in_copy top.object top.marks found.inside frame.0) (λ view.
    drawing_with (padding_round g.padding) (scales_of_chart frame.0) view) drawing frame.2 in
    let standing = top_names g.width g.height top.object found.facts frame.0 frame.1 in
    let here : AreWithin (λ unit. rows_inside unit top.marks found.inside frame.0.names) rows =
    λ u key there. within u key (subst (λ (n : Names). IsThere (rows_inside u top.marks found.inside n) key) standing there) in
    scene_has rows (padding_round g.padding) (scales_of_chart frame.0) view.0 drawing
    (view_has rows top.object top.marks found.inside frame.0
    (views_in items_in_copy top.marks found.inside frame.0 (grid_here top.object found.inside) 0) view.0 here
    (λ vs is. views_have rows top.marks found.inside frame.0.names frame.0 (grid_here top.object found.inside) 0 vs here is) view.1) view.2

pub items_have_rows : ItemsHaveRows
items_have_rows g st picture rules draws =
    let p = picture_is g st picture draws in
    let top = outline_of g in
    let stores = values_of_stores st.stores in
    let names = drawing_named g stores st.params st.sources p.drawing p.drawn in
    let found = first_some (facts_of st.sources top.object top.marks names.0) (drawn_from_facts items_in_copy g top) p.drawing names.2 in
    let rows : UnitLists = rows_in g st in
    let same : (unit : ℕ) → rows unit ≡ rows_found unit top found.0 = λ unit.
    ap (λ (o : Option Names).
    unwrap_or (o >>= λ names. facts_of st.sources top.object top.marks names >>= λ found. Some (rows_found unit top found)) []) names.1
    ∙ ap (λ (o : Option CopyFound). unwrap_or (o >>= λ found. Some (rows_found unit top found)) []) found.1 in
    let drawn = drawn_has g rows found.0 p.drawing (λ unit key there. subst (λ r. IsThere r key) (sym (same unit)) there) found.2 in
    let all = brushed_have rows (plots_of g) (inverts_in g p.drawing) st.stores p.drawing.scene picture.scene drawn p.brushed in
    all_of_each _ picture.scene.panels
    (each_weaker (PanelHas rows) (λ (panel : Panel). All (HasRow rows) panel.items)
    (λ panel h. all_of_each (HasRow rows) panel.items h) picture.scene.panels all)
