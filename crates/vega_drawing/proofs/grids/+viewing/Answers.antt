use Rattle.std.proofs.Common.{◌≡◌, ◌+◌, ◌<◌, ◌≤◌, suc, [], map, ap, sym, ◌∙◌, subst, add-one, rules, arith}
use Rattle.std.specs.Prelude.{All, IsTrue, OnOk, length}
use Rattle.std.specs.List.{AllZip, enumerate_from}
use Rattle.std.proofs.lemmas.List.{drop_all}
use denote.Param.Weighed.{most, at_most}
use Rattle.expr_eval.specs.Answers.{Evaluates}
use Rattle.fixed_num.specs.Ranges.{all_found}
use Rattle.vega_scales.specs.Scales.{is_built, FitsScale, KeepsBounds}
use Rattle.vega_spec.specs.declared.scales.Scale.{Scale as VegaScale}
use Rattle.vega_spec.specs.declared.spec.Group.{out-Group}
use Rattle.vega_spec.specs.declared.spec.VgMark.{out-VgMark, size-VgMark}
use Rattle.vega_copies.specs.declared.facts.CopyFacts.{out-CopyFacts}
use Rattle.vega_copies.specs.declared.facts.MarkFacts.{out-MarkFacts}
use Rattle.vega_copies.specs.inner.Outlined.{marks_in, group_object, object_numbered}
use Rattle.vega_copies.proofs.SeenFacts.{group_fits}
use Rattle.vega_drawing.specs.Frames.{of_no_chart}
use Rattle.vega_drawing.specs.Scales.{and_outer, own_scales, spot_of}
use Rattle.vega_drawing.specs.inner.Drawn.{MayShow, copies_from, copy_in_frame}
use Rattle.vega_drawing.specs.inner.Framed.{frame_seen, found_in_frame}
use Rattle.vega_drawing.specs.inner.Kept.{scale_seen, axis_seen, kept_seen, IsKeptScale, AreKeptScales, AreKeptAxes}
use Rattle.vega_drawing.specs.inner.Placed.{cell_seen, view_at, view_entered, view_scaled, AddsViews}
use Rattle.vega_drawing.proofs.EnteredLemmas.{none_hidden}
use Rattle.vega_drawing.proofs.GridLemmas.{CellsLeft, marks_begin, facts_within, mark_here, marks_next, marks_stop, marks_end, mark_of_group}
use Rattle.vega_drawing.proofs.GridLemmas.{mark_of_none, adds_none, group_cells, plain_cells, cells_begin, copy_here, spot_within}
use Rattle.vega_drawing.proofs.GridLemmas.{cells_next, cells_stop, cells_end, cells_count}
use Rattle.vega_drawing.proofs.LayoutLemmas.{grid_ends, grid_stops}
use Rattle.vega_drawing.proofs.SetLemmas.{within_frame}
use Rattle.vega_drawing.proofs.ShownLemmas.{object_shown, shows_inside}
use Rattle.vega_drawing.proofs.ViewLemmas.{past_is_frame, view_past, not_past, headed_frame, view_is_entered, named_scaled, plot_inside, grid_inside}
use Rattle.vega_drawing.proofs.grids.+viewing.Goals as goal

-- the grid of an object

pub grid_view-returns-in_ok-grid_round-in-Ok-clause-value : goal.grid_view-returns-in_ok-grid_round-in-Ok-clause-value
grid_view-returns-in_ok-grid_round-in-Ok-clause-value g t c =
    grid_ends (g.M.MarkItems.items c.args.maker.now) (g.M.MarkItems.lists c.args.maker.now) c.args.frame.now
    (object_numbered c.args.numbers.number (out-Group c.args.group.now)) c.args.layout.now
    c.args.numbers.unit (suc c.args.numbers.number) (c.args.numbers.number + 1)
    (marks_in (out-Group c.args.group.now)) c.marks_in.result.now c.args.found.now c.in-Some.grid c.marks_in.ensures (add-one c.args.numbers.number)
    c.in-Some.ensures.value c.in-Ok.cells c.in_ok-grid_round-in-Ok.field-0 c.in-Ok.ensures.value c.in_ok-grid_round-in-Ok.ensures.value

pub grid_view-returns-in-Err-clause-value : goal.grid_view-returns-in-Err-clause-value
grid_view-returns-in-Err-clause-value g t c =
    grid_stops (g.M.MarkItems.items c.args.maker.now) (g.M.MarkItems.lists c.args.maker.now) c.args.frame.now
    (object_numbered c.args.numbers.number (out-Group c.args.group.now)) c.args.layout.now
    c.args.numbers.unit (suc c.args.numbers.number) (c.args.numbers.number + 1)
    (marks_in (out-Group c.args.group.now)) c.marks_in.result.now c.args.found.now c.in-Some.grid c.marks_in.ensures (add-one c.args.numbers.number)
    c.in-Some.ensures.value c.in-Err.error c.in-Err.ensures.value

-- the cells of marks

pub cells_of-loop-mark-init : goal.cells_of-loop-mark-init
cells_of-loop-mark-init g t c =
    marks_begin (g.M.MarkItems.items c.args.maker.now) (g.M.MarkItems.lists c.args.maker.now)
    c.args.frame.now c.args.grid c.args.numbers.unit c.args.numbers.number
    c.args.marks.now c.args.found.now c.new-cells.result c.new-cells.ensures c.requires.marks c.requires.few c.requires.count

pub cells_of-bounds-found-at : goal.cells_of-bounds-found-at
cells_of-bounds-found-at g t c =
    facts_within _ _ _ _ _ _ _ _ c.args.marks.now c.loop-mark.mark-index c.mark-item.result c.args.found.now _ c.loop-mark-test.true c.mark-item.is
    c.loop-mark.invariant

pub cells_of-push_mark-requires : goal.cells_of-push_mark-requires
cells_of-push_mark-requires g t c =
    let smaller : size-VgMark c.mark-item.result ≤ most size-VgMark c.args.marks.now =
    subst (λ m. size-VgMark m ≤ most size-VgMark c.args.marks.now) (sym c.mark-item.is)
    (at_most size-VgMark c.args.marks.now c.loop-mark.mark-index c.mark-item.result c.loop-mark-test.true) in
    let here =
    mark_here _ _ _ _ _ _ _ _ c.args.marks.now c.loop-mark.mark-index c.mark-item.result c.args.found.now _ c.loop-mark-test.true c.mark-item.is
    c.loop-mark.invariant c.index-found-at.result c.index-found-at.is in
    λ κs lives. (search rules, (lives, (c.requires.sound, (c.requires.frame, (here.show, (here.few, (c.requires.columns, here.room)))))))

pub cells_of-returns-in-Err-clause-value : goal.cells_of-returns-in-Err-clause-value
cells_of-returns-in-Err-clause-value g t c =
    marks_stop _ _ _ _ _ _ _ _ c.args.marks.now c.loop-mark.mark-index c.mark-item.result c.args.found.now _ c.loop-mark-test.true c.mark-item.is
    c.loop-mark.invariant c.index-found-at.result c.index-found-at.is c.push_mark.new.cells c.in-Err.error c.in-Err.ensures.value

pub cells_of-count_marks_of-next_unit-requires : goal.cells_of-count_marks_of-next_unit-requires
cells_of-count_marks_of-next_unit-requires g t c =
    let here =
    mark_here _ _ _ _ _ _ _ _ c.args.marks.now c.loop-mark.mark-index c.mark-item.result c.args.found.now _ c.loop-mark-test.true c.mark-item.is
    c.loop-mark.invariant c.index-found-at.result c.index-found-at.is in
    let units = here.few.units in
    record { few = omega (arith, units) }

pub cells_of-overflow_add-next_unit : goal.cells_of-overflow_add-next_unit
cells_of-overflow_add-next_unit g t c =
    let here =
    mark_here _ _ _ _ _ _ _ _ c.args.marks.now c.loop-mark.mark-index c.mark-item.result c.args.found.now _ c.loop-mark-test.true c.mark-item.is
    c.loop-mark.invariant c.index-found-at.result c.index-found-at.is in
    let units = here.few.units in
    let count = c.count_marks_of-next_unit.ensures in
    omega (arith, units, count)

pub cells_of-count_groups_of-next_number-requires : goal.cells_of-count_groups_of-next_number-requires
cells_of-count_groups_of-next_number-requires g t c =
    let here =
    mark_here _ _ _ _ _ _ _ _ c.args.marks.now c.loop-mark.mark-index c.mark-item.result c.args.found.now _ c.loop-mark-test.true c.mark-item.is
    c.loop-mark.invariant c.index-found-at.result c.index-found-at.is in
    let numbers = here.few.numbers in
    record { few = omega (arith, numbers) }

pub cells_of-overflow_add-next_number : goal.cells_of-overflow_add-next_number
cells_of-overflow_add-next_number g t c =
    let here =
    mark_here _ _ _ _ _ _ _ _ c.args.marks.now c.loop-mark.mark-index c.mark-item.result c.args.found.now _ c.loop-mark-test.true c.mark-item.is
    c.loop-mark.invariant c.index-found-at.result c.index-found-at.is in
    let numbers = here.few.numbers in
    let count = c.count_groups_of-next_number.ensures in
    omega (arith, numbers, count)

pub cells_of-loop-mark-preserved : goal.cells_of-loop-mark-preserved
cells_of-loop-mark-preserved g t c =
    marks_next _ _ _ _ _ _ _ _ c.args.marks.now c.loop-mark.mark-index c.mark-item.result c.args.found.now _ c.loop-mark-test.true c.mark-item.is
    c.loop-mark.invariant c.index-found-at.result c.index-found-at.is c.push_mark.new.cells
    (c.loop-mark.next_unit + c.count_marks_of-next_unit.result) (c.loop-mark.next_number + c.count_groups_of-next_number.result)
    c.in-Ok.ensures.value c.in-Ok.ensures.count (c.in-Ok.ensures.legends c.loop-mark.invariant.legends)
    (ap (λ n. c.loop-mark.next_unit + n) c.count_marks_of-next_unit.ensures)
    (ap (λ n. c.loop-mark.next_number + n) c.count_groups_of-next_number.ensures)

pub cells_of-returns-clause-value : goal.cells_of-returns-clause-value
cells_of-returns-clause-value g t c =
    marks_end _ _ _ _ _ _ _ _ _ _ _ (drop_all c.loop-mark.mark-index c.args.marks.now c.loop-mark-test.false) c.loop-mark.invariant

-- the cells of one mark

pub push_mark-push_cells-requires : goal.push_mark-push_cells-requires
push_mark-push_cells-requires g t c =
    let group = sym c.is_group.ensures ∙ c.if-is_group.true in λ κs lives. (
      search rules,
      (
        lives,
        (
          c.requires.sound,
          (
            c.requires.frame,
            (
              c.requires.marks.kept,
              (
                group_fits c.args.mark.now c.args.here.now.facts.now group c.requires.marks.fit,
                (c.requires.few, (group, (c.requires.columns, c.requires.within))),
              ),
            ),
          ),
        ),
      ),
    )

pub push_mark-returns-then-is_group-clause-value : goal.push_mark-returns-then-is_group-clause-value
push_mark-returns-then-is_group-clause-value g t c =
    let items = g.M.MarkItems.items c.args.maker.now in
    let lists = g.M.MarkItems.lists c.args.maker.now in
    subst (AddsViews {X = Unit {0}} c.push_cells.result c.args.cells.now c.push_cells.new.cells)
    (mark_of_group items (frame_seen lists c.args.frame.now) c.args.grid c.args.mark.now
    c.args.here.now.numbers.unit c.args.here.now.numbers.number (length c.args.cells.now)
    (copies_from lists c.args.frame.now c.args.here.now.place 0 (out-MarkFacts c.args.here.now.facts.now).copies)
    (sym c.is_group.ensures ∙ c.if-is_group.true)) c.push_cells.ensures.value

pub push_mark-returns-then-is_group-clause-count : goal.push_mark-returns-then-is_group-clause-count
push_mark-returns-then-is_group-clause-count g t c =
    subst (λ n. OnOk c.push_cells.result (length c.push_cells.new.cells ≡ length c.args.cells.now + n))
    (group_cells c.args.mark.now (length (out-MarkFacts c.args.here.now.facts.now).copies) (sym c.is_group.ensures ∙ c.if-is_group.true))
    c.push_cells.ensures.count

pub push_mark-returns-else-is_group-clause-value : goal.push_mark-returns-else-is_group-clause-value
push_mark-returns-else-is_group-clause-value g t c =
    let items = g.M.MarkItems.items c.args.maker.now in
    let lists = g.M.MarkItems.lists c.args.maker.now in
    adds_none c.args.cells.now _
    (mark_of_none items (frame_seen lists c.args.frame.now) c.args.grid c.args.mark.now
    c.args.here.now.numbers.unit c.args.here.now.numbers.number (length c.args.cells.now)
    (copies_from lists c.args.frame.now c.args.here.now.place 0 (out-MarkFacts c.args.here.now.facts.now).copies)
    (sym c.is_group.ensures ∙ c.if-is_group.false))

pub push_mark-returns-else-is_group-clause-count : goal.push_mark-returns-else-is_group-clause-count
push_mark-returns-else-is_group-clause-count g t c =
    let none = plain_cells c.args.mark.now (length (out-MarkFacts c.args.here.now.facts.now).copies) (sym c.is_group.ensures ∙ c.if-is_group.false) in
    omega (arith, none)

-- the copies of a group

pub push_cells-loop-at-init : goal.push_cells-loop-at-init
push_cells-loop-at-init g t c =
    let items = g.M.MarkItems.items c.args.maker.now in
    let lists = g.M.MarkItems.lists c.args.maker.now in
    let frame = c.args.frame.now in
    let grid = c.args.grid in
    let here = c.args.here.now in
    let unit = here.numbers.unit in
    let number = here.numbers.number in
    let mark = c.args.mark.now in
    let old = c.args.cells.now in
    let all = (out-MarkFacts here.facts.now).copies in
    subst (λ copies. CellsLeft items lists frame grid unit number here.place mark
    (all_found (map (cell_seen items (frame_seen lists frame) grid unit number (out-VgMark mark))
    (enumerate_from (length old) (copies_from lists frame here.place 0 all))))
    (length all) 0 copies old old) (sym c.as_slice-copies.ensures)
    (cells_begin items lists frame grid unit number here.place mark all old c.requires.copies)

pub push_cells-cell_view-requires : goal.push_cells-cell_view-requires
push_cells-cell_view-requires g t c =
    let copy =
    copy_here _ _ _ _ _ _ _ _ _ _ _ c.as_slice-copies.result.now c.index-copies-at.result _ _ c.loop-at-test.true c.index-copies-at.is c.loop-at.invariant in
    λ κs lives. (search rules, (lives, (c.requires.sound, (c.requires.frame, (c.requires.kept, (copy, (c.requires.few, c.requires.group)))))))

pub push_cells-loop-at-preserved : goal.push_cells-loop-at-preserved
push_cells-loop-at-preserved g t c =
    cells_next _ _ _ _ _ _ _ _ _ _ _ c.as_slice-copies.result.now c.index-copies-at.result _ _ c.loop-at-test.true c.index-copies-at.is c.loop-at.invariant
    c.spot_of-spot.result (c.spot_of-spot.ensures ∙ ap (spot_of c.args.grid.columns c.args.grid.cells) c.len.ensures)
    c.in-Ok.view c.push.new.self c.in-Ok.ensures.value c.in-Ok.ensures.legends c.in_ok-push-in-Ok.ensures.ok

pub push_cells-returns-in-Err-clause-value : goal.push_cells-returns-in-Err-clause-value
push_cells-returns-in-Err-clause-value g t c =
    cells_stop _ _ _ _ _ _ _ _ _ _ _ c.as_slice-copies.result.now c.index-copies-at.result _ _ c.loop-at-test.true c.index-copies-at.is c.loop-at.invariant
    c.spot_of-spot.result (c.spot_of-spot.ensures ∙ ap (spot_of c.args.grid.columns c.args.grid.cells) c.len.ensures)
    _ c.in-Err.error c.in-Err.ensures.value

pub push_cells-spot_of-spot-requires-clause-within : goal.push_cells-spot_of-spot-requires-clause-within
push_cells-spot_of-spot-requires-clause-within g t c =
    subst (λ n. n < c.args.grid.cells) (sym c.len.ensures)
    (spot_within _ _ _ _ _ _ _ _ _ _ _ c.as_slice-copies.result.now c.index-copies-at.result _ _ c.loop-at-test.true c.index-copies-at.is c.loop-at.invariant
    c.requires.within)

pub push_cells-returns-clause-value : goal.push_cells-returns-clause-value
push_cells-returns-clause-value g t c =
    cells_end _ _ _ _ _ _ _ _ _ _ _ _ _ _ (drop_all c.loop-at.at c.as_slice-copies.result.now c.loop-at-test.false) c.loop-at.invariant

pub push_cells-returns-clause-count : goal.push_cells-returns-clause-count
push_cells-returns-clause-count g t c =
    cells_count _ _ _ _ _ _ _ _ _ _ _ _ _ _ (drop_all c.loop-at.at c.as_slice-copies.result.now c.loop-at-test.false) c.loop-at.invariant

-- a copy, and what stands round it

pub cell_view-copy_view-requires-in-Some : goal.cell_view-copy_view-requires-in-Some
cell_view-copy_view-requires-in-Some g t c = λ κs lives. (
  search rules,
  (
    lives,
    (
      c.requires.sound,
      (
        past_is_frame c.args.outer.now c.args.spot c.as_slice.result c.as_slice-in-Some.result
            (ap (map scale_seen) c.as_slice.ensures ∙ c.in_ok-scales-in-Some.ensures.value) c.requires.frame
            (subst AreKeptScales (sym c.as_slice.ensures) c.in_ok-scales-in-Some.ensures.kept)
            (subst AreKeptAxes (sym c.as_slice-in-Some.ensures) c.in_ok-axes-in-Some.ensures.kept),
        (c.requires.kept, (c.requires.copy, (c.requires.few, c.requires.group))),
      ),
    ),
  ),
)

pub cell_view-returns-in-None-clause-value : goal.cell_view-returns-in-None-clause-value
cell_view-returns-in-None-clause-value g t c =
    let items = g.M.MarkItems.items c.args.maker.now in
    let lists = g.M.MarkItems.lists c.args.maker.now in
    subst (λ frame. Evaluates c.copy_view.result
    (view_at items frame c.args.here.now.numbers.unit c.args.here.now.numbers.number (out-VgMark c.args.mark.now)
    (copy_in_frame lists c.args.outer.now c.args.here.now.step c.args.here.now.facts.now)))
    (not_past (group_object c.args.here.now.numbers.number (out-VgMark c.args.mark.now)) c.args.spot (frame_seen lists c.args.outer.now) c.in-None.ensures)
    c.copy_view.ensures.value

pub cell_view-returns-in_ok-axes-in-Some-clause-value : goal.cell_view-returns-in_ok-axes-in-Some-clause-value
cell_view-returns-in_ok-axes-in-Some-clause-value g t c =
    let items = g.M.MarkItems.items c.args.maker.now in
    let lists = g.M.MarkItems.lists c.args.maker.now in
    subst (Evaluates c.copy_view-in-Some.result)
    (view_past c.args.outer.now c.args.spot c.as_slice.result c.as_slice-in-Some.result
    (ap (map scale_seen) c.as_slice.ensures ∙ c.in_ok-scales-in-Some.ensures.value) items lists
    c.args.here.now.numbers.unit c.args.here.now.numbers.number (out-VgMark c.args.mark.now)
    (copy_in_frame lists c.args.outer.now c.args.here.now.step c.args.here.now.facts.now) c.in-Some.field-0.now
    (ap (map axis_seen) c.as_slice-in-Some.ensures ∙ c.in_ok-axes-in-Some.ensures.value) c.in-Some.ensures) c.copy_view-in-Some.ensures.value

-- a copy to which a step leads

pub copy_view-returns-clause-value : goal.copy_view-returns-clause-value
copy_view-returns-clause-value g t c =
    let items = g.M.MarkItems.items c.args.maker.now in
    let lists = g.M.MarkItems.lists c.args.maker.now in
    let outer = c.args.outer.now in
    let here = c.args.here.now in
    let unit = here.numbers.unit in
    let number = here.numbers.number in
    let m = out-VgMark c.args.mark.now in
    let shown = c.as_slice-shown.result.now in
    subst (Evaluates c.entered_view.result)
    ((λ i. view_entered items lists outer (c.entered_by-entered.ensures i).path.now (c.entered_by-entered.ensures i).levels.now
    (c.entered_by-entered.ensures i).cells shown unit number m here.facts.now)
    ∙ view_is_entered items lists outer unit number m here.facts.now here.step c.as_slice-steps.result.now c.as_slice-signals.result.now c.slice_of.result
    shown (c.as_slice-steps.ensures ∙ c.in_ok-path.ensures) (ap (map (λ l. l.now)) c.as_slice-signals.ensures ∙ c.in_ok-levels.ensures)
    (c.slice_of.ensures ∙ c.in_ok-cells.ensures) (c.as_slice-shown.ensures ∙ c.in_ok-headers.ensures)) c.entered_view.ensures.value

-- a copy whose names are known

pub entered_view-named_view-requires : goal.entered_view-named_view-requires
entered_view-named_view-requires g t c = λ κs lives. (
  search rules,
  (
    lives,
    (
      c.requires.sound,
      (
        headed_frame c.args.outer.now c.args.entered.now.path c.args.entered.now.levels c.args.entered.now.cells c.args.headers c.requires.frame,
        (c.requires.kept, (c.requires.copy, (c.requires.few, c.requires.group))),
      ),
    ),
  ),
)

pub named_view-kept_scales-requires-clause-built : goal.named_view-kept_scales-requires-clause-built
named_view-kept_scales-requires-clause-built g t c =
    subst (All (λ (s : VegaScale). IsTrue (is_built s))) (sym c.scales_in.ensures)
    (object_shown c.args.mark.now c.requires.group c.requires.kept 0).scales

pub named_view-kept_scales-requires-clause-bounds : goal.named_view-kept_scales-requires-clause-bounds
named_view-kept_scales-requires-clause-bounds g t c =
    subst (All KeepsBounds) (sym c.scales_in.ensures) (object_shown c.args.mark.now c.requires.group c.requires.kept 0).bounds

pub named_view-kept_scales-requires-clause-fits : goal.named_view-kept_scales-requires-clause-fits
named_view-kept_scales-requires-clause-fits g t c =
    subst (λ scales. AllZip FitsScale scales c.as_slice.result.now) (sym c.scales_in.ensures)
    (subst (AllZip FitsScale (group_object 0 (out-VgMark c.args.mark.now)).scales) (sym c.as_slice.ensures) c.requires.copy.domains)

pub named_view-scaled_view-requires : goal.named_view-scaled_view-requires
named_view-scaled_view-requires g t c = λ κs lives. (
  search rules,
  (
    lives,
    (
      c.requires.sound,
      (
        c.requires.frame,
        (
          subst (MayShow (marks_in (out-Group (out-VgMark c.args.mark.now).group))) (sym c.as_slice-inside.ensures)
              (shows_inside c.args.mark.now c.requires.group c.requires.kept c.args.here.now.facts.now c.requires.copy),
          (object_shown c.args.mark.now c.requires.group c.requires.kept c.args.here.now.numbers.number, (c.requires.few, c.requires.group)),
        ),
      ),
    ),
  ),
)

pub named_view-returns-then-is_empty-clause-value : goal.named_view-returns-then-is_empty-clause-value
named_view-returns-then-is_empty-clause-value g t c =
    let items = g.M.MarkItems.items c.args.maker.now in
    let lists = g.M.MarkItems.lists c.args.maker.now in
    let named = frame_seen lists c.args.named.now in
    let m = out-VgMark c.args.mark.now in
    let copy = out-CopyFacts c.args.here.now.facts.now in
    let nothing : c.in_ok-own.own ≡ [] = c.is_empty.ensures.0 c.if-is_empty.true in
    let own : map kept_seen c.in_ok-own.own ≡ own_scales of_no_chart (group_object 0 m).scales copy.domains =
    c.in_ok-own.ensures.value ∙ (λ i. own_scales of_no_chart (c.scales_in.ensures i) (c.as_slice.ensures i)) in
    subst (Evaluates c.scaled_view.result)
    ((λ i. view_scaled items named c.args.here.now.numbers.unit c.args.here.now.numbers.number m
    (found_in_frame lists c.args.named.now 0 (c.as_slice-inside.ensures i)))
    ∙ named_scaled items named c.args.here.now.numbers.unit c.args.here.now.numbers.number m
    copy.domains (found_in_frame lists c.args.named.now 0 copy.inside) named.scales
    (none_hidden named.scales (own_scales of_no_chart (group_object 0 m).scales copy.domains) (sym own ∙ ap (map kept_seen) nothing)))
    c.scaled_view.ensures.value

pub named_view-own_set_of-requires-clause-kept : goal.named_view-own_set_of-requires-clause-kept
named_view-own_set_of-requires-clause-kept g t c = subst (All IsKeptScale) (sym c.as_slice-mine.ensures) c.in_ok-own.ensures.kept

pub named_view-scaled_view-requires-2 : goal.named_view-scaled_view-requires-2
named_view-scaled_view-requires-2 g t c = λ κs lives. (
  search rules,
  (
    lives,
    (
      c.requires.sound,
      (
        within_frame c.args.named.now _ _ c.as_slice-mine.result.now _ c.requires.frame
            (subst AreKeptScales (sym c.as_slice-seen.ensures) c.in_ok-scales.ensures.kept)
            (ap (map scale_seen) c.as_slice-seen.ensures ∙ c.in_ok-scales.ensures.value) c.in_ok-set.ensures.value c.in_ok-set.ensures.sound
            c.in_ok-indexed.ensures,
        (
          subst (MayShow (marks_in (out-Group (out-VgMark c.args.mark.now).group))) (sym c.as_slice-inside.ensures)
              (shows_inside c.args.mark.now c.requires.group c.requires.kept c.args.here.now.facts.now c.requires.copy),
          (object_shown c.args.mark.now c.requires.group c.requires.kept c.args.here.now.numbers.number, (c.requires.few, c.requires.group)),
        ),
      ),
    ),
  ),
)

pub named_view-returns-clause-value : goal.named_view-returns-clause-value
named_view-returns-clause-value g t c =
    let items = g.M.MarkItems.items c.args.maker.now in
    let lists = g.M.MarkItems.lists c.args.maker.now in
    let named = frame_seen lists c.args.named.now in
    let m = out-VgMark c.args.mark.now in
    let copy = out-CopyFacts c.args.here.now.facts.now in
    subst (Evaluates c.scaled_view-2.result)
    ((λ i. view_scaled items (record named { scales = map scale_seen c.as_slice-seen.result.now }) c.args.here.now.numbers.unit c.args.here.now.numbers.number m
    (found_in_frame lists c.args.named.now 0 (c.as_slice-inside.ensures i)))
    ∙ named_scaled items named c.args.here.now.numbers.unit c.args.here.now.numbers.number m copy.domains (found_in_frame lists c.args.named.now 0 copy.inside)
    (map scale_seen c.as_slice-seen.result.now)
    (ap (map scale_seen) c.as_slice-seen.ensures ∙ c.in_ok-scales.ensures.value
    ∙ ap (and_outer named.scales) (ap (map kept_seen) c.as_slice-mine.ensures ∙ c.in_ok-own.ensures.value
    ∙ (λ i. own_scales of_no_chart (c.scales_in.ensures i) (c.as_slice.ensures i))))) c.scaled_view-2.ensures.value

-- a grid or a plot

pub scaled_view-returns-in-Some-clause-value : goal.scaled_view-returns-in-Some-clause-value
scaled_view-returns-in-Some-clause-value g t c =
    let lists = g.M.MarkItems.lists c.args.maker.now in
    subst (Evaluates c.inner_grid_view.result)
    (grid_inside (g.M.MarkItems.items c.args.maker.now) (frame_seen lists c.args.scaled.now)
    c.args.numbers.unit c.args.numbers.number (out-VgMark c.args.mark.now)
    (found_in_frame lists c.args.scaled.now 0 c.args.found.now) c.in-Some.layout c.in-Some.is) c.inner_grid_view.ensures.value

pub scaled_view-returns-in-None-clause-value : goal.scaled_view-returns-in-None-clause-value
scaled_view-returns-in-None-clause-value g t c =
    let lists = g.M.MarkItems.lists c.args.maker.now in
    subst (Evaluates c.inner_plot_view.result)
    (plot_inside (g.M.MarkItems.items c.args.maker.now) (frame_seen lists c.args.scaled.now)
    c.args.numbers.unit c.args.numbers.number (out-VgMark c.args.mark.now)
    (found_in_frame lists c.args.scaled.now 0 c.args.found.now) c.in-None.is) c.inner_plot_view.ensures.value
