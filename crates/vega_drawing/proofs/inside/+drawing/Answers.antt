use Rattle.std.proofs.Common.{◌≡◌, ◌+◌, ◌^◌, ◌<◌, ◌≤◌, [], suc, drop, map, refl, sym, ap, ◌∙◌, subst, arith, add-one}
use Rattle.std.specs.Prelude.{All, IsTrue}
use Rattle.std.specs.List.{AllZip}
use Rattle.std.proofs.lemmas.List.{drop_all}
use denote.Param.Weighed.{most, at_most}
use Rattle.mark_encode.specs.declared.channels.ChannelName.TheVariants as channel
use Rattle.vega_scales.specs.Scales.{is_built, FitsScale, KeepsBounds}
use Rattle.vega_spec.specs.declared.scales.Scale.{Scale as VegaScale}
use Rattle.vega_spec.specs.declared.spec.Group.{out-Group}
use Rattle.vega_spec.specs.declared.spec.VgMark.{out-VgMark, size-VgMark}
use Rattle.vega_copies.specs.declared.facts.CopyFacts.{out-CopyFacts}
use Rattle.vega_copies.specs.declared.facts.MarkFacts.{out-MarkFacts}
use Rattle.vega_copies.specs.inner.Outlined.{marks_from, marks_in, group_object, AreFew}
use Rattle.vega_copies.proofs.DepthLemmas.{inside_smaller}
use Rattle.vega_copies.proofs.StandLemmas.{few_inside}
use Rattle.vega_drawing.specs.Frames.{of_no_chart}
use Rattle.vega_drawing.specs.Insides.{drawn_in}
use Rattle.vega_drawing.specs.Scales.{and_outer, own_scales}
use Rattle.vega_drawing.specs.inner.Drawn.{inside_seen, MayShow, copies_from, placed_from, drawn_entered, drawn_group, drawn_framed, DrawsMore}
use Rattle.vega_drawing.specs.inner.Framed.{frame_seen, found_in_frame}
use Rattle.vega_drawing.specs.inner.Kept.{kept_seen, scale_seen, IsKeptScale, AreKeptScales}
use Rattle.vega_drawing.proofs.DrawnLemmas.{stops_drawing, nothing_left, facts_within, next_shows, next_few, marks_fit, groups_fit}
use Rattle.vega_drawing.proofs.DrawnLemmas.{unit_fits, number_fits, next_drawn, next_stops, group_one, plain_one}
use Rattle.vega_drawing.proofs.EnteredLemmas.{moved_frame, entered_frame, no_x, no_y, framed_at, behind_guides, group_numbered, none_hidden, scaled_with}
use Rattle.vega_drawing.proofs.EnteredLemmas.{copy_entered, copies_begun, next_copy, copy_drawn, copy_ends, no_copies_left}
use Rattle.vega_drawing.proofs.SetLemmas.{within_frame}
use Rattle.vega_drawing.proofs.ShownLemmas.{object_shown, shows_inside}
use Rattle.vega_drawing.proofs.inside.+drawing.Goals as goal

-- marks, one after the other

pub draw_all-loop-mark-init : goal.draw_all-loop-mark-init
draw_all-loop-mark-init g t c = record { show = c.requires.marks; few = c.requires.few; draws = refl; kept = λ inside. inside }

pub draw_all-draw_one-requires : goal.draw_all-draw_one-requires
draw_all-draw_one-requires g t c =
    let smaller : size-VgMark c.mark-item.result ≤ most size-VgMark c.args.marks.now =
    subst (λ m. size-VgMark m ≤ most size-VgMark c.args.marks.now) (sym c.mark-item.is)
    (at_most size-VgMark c.args.marks.now c.loop-mark.mark-index c.mark-item.result c.loop-mark-test.true) in λ κs lives. (
      omega (arith, smaller),
      (
        lives,
        (
          c.requires.sound,
          (
            c.requires.frame,
            (
              next_shows _ _ _ _ _ _ _ _ c.args.marks.now c.loop-mark.mark-index c.mark-item.result c.args.found.now _ c.loop-mark-test.true c.mark-item.is
                  c.loop-mark.invariant c.index-found-at.result c.index-found-at.is,
              next_few _ _ _ _ _ _ _ _ c.args.marks.now c.loop-mark.mark-index c.mark-item.result c.args.found.now _ c.loop-mark-test.true c.mark-item.is
                  c.loop-mark.invariant c.index-found-at.result c.index-found-at.is,
            ),
          ),
        ),
      ),
    )

pub draw_all-bounds-found-at : goal.draw_all-bounds-found-at
draw_all-bounds-found-at g t c =
    facts_within _ _ _ _ _ _ _ _ c.args.marks.now c.loop-mark.mark-index c.mark-item.result c.args.found.now _ c.loop-mark-test.true c.mark-item.is
    c.loop-mark.invariant

pub draw_all-returns-in-Err-clause-value : goal.draw_all-returns-in-Err-clause-value
draw_all-returns-in-Err-clause-value g t c =
    let items = g.M.MarkItems.items c.args.maker.now in
    let lists = g.M.MarkItems.lists c.args.maker.now in
    next_stops _ _ _ _ _ _ _ _ c.args.marks.now c.loop-mark.mark-index c.mark-item.result c.args.found.now c.loop-mark.out c.loop-mark-test.true
    c.mark-item.is c.loop-mark.invariant c.index-found-at.result c.index-found-at.is
    c.in-Err.error c.draw_one.new.out (inside_seen c.args.out.now)
    (drawn_in items (marks_from c.args.numbers.unit c.args.numbers.number c.args.marks.now)
    (found_in_frame lists c.args.frame.now 0 c.args.found.now) (frame_seen lists c.args.frame.now))
    refl c.in-Err.ensures.value c.draw_one.new.out c.args.out.now

pub draw_all-count_marks_of-next_unit-requires : goal.draw_all-count_marks_of-next_unit-requires
draw_all-count_marks_of-next_unit-requires g t c = record {
  few =
      marks_fit _ _ _ _ _ _ _ _ c.args.marks.now c.loop-mark.mark-index c.mark-item.result c.args.found.now _ c.loop-mark-test.true c.mark-item.is
      c.loop-mark.invariant c.index-found-at.result c.index-found-at.is;
}

pub draw_all-overflow_add-next_unit : goal.draw_all-overflow_add-next_unit
draw_all-overflow_add-next_unit g t c =
    let fits : c.loop-mark.next_unit + c.count_marks_of-next_unit.result < 2 ^ 32 =
    unit_fits _ _ _ _ _ _ _ _ c.args.marks.now c.loop-mark.mark-index c.mark-item.result c.args.found.now _ c.loop-mark-test.true c.mark-item.is
    c.loop-mark.invariant c.index-found-at.result c.index-found-at.is
    c.count_marks_of-next_unit.result c.count_marks_of-next_unit.ensures in
    omega arith

pub draw_all-count_groups_of-next_number-requires : goal.draw_all-count_groups_of-next_number-requires
draw_all-count_groups_of-next_number-requires g t c = record {
  few =
      groups_fit _ _ _ _ _ _ _ _ c.args.marks.now c.loop-mark.mark-index c.mark-item.result c.args.found.now _ c.loop-mark-test.true c.mark-item.is
      c.loop-mark.invariant c.index-found-at.result c.index-found-at.is;
}

pub draw_all-overflow_add-next_number : goal.draw_all-overflow_add-next_number
draw_all-overflow_add-next_number g t c =
    let fits : c.loop-mark.next_number + c.count_groups_of-next_number.result < 2 ^ 32 =
    number_fits _ _ _ _ _ _ _ _ c.args.marks.now c.loop-mark.mark-index c.mark-item.result c.args.found.now _ c.loop-mark-test.true c.mark-item.is
    c.loop-mark.invariant c.index-found-at.result c.index-found-at.is
    c.count_groups_of-next_number.result c.count_groups_of-next_number.ensures in
    omega arith

pub draw_all-loop-mark-preserved : goal.draw_all-loop-mark-preserved
draw_all-loop-mark-preserved g t c =
    next_drawn _ _ _ _ _ _ _ _ c.args.marks.now c.loop-mark.mark-index c.mark-item.result c.args.found.now _ c.loop-mark-test.true c.mark-item.is
    c.loop-mark.invariant c.index-found-at.result c.index-found-at.is
    c.draw_one.new.out c.count_marks_of-next_unit.result c.count_groups_of-next_number.result c.in-Ok.ensures.value c.in-Ok.ensures.kept
    c.count_marks_of-next_unit.ensures c.count_groups_of-next_number.ensures

pub draw_all-returns-clause-value : goal.draw_all-returns-clause-value
draw_all-returns-clause-value g t c =
    nothing_left _ _ _ _ _ _ _ _ (drop c.loop-mark.mark-index c.args.marks.now) (drop c.loop-mark.at c.args.found.now) c.loop-mark.out
    (drop_all c.loop-mark.mark-index c.args.marks.now c.loop-mark-test.false) c.loop-mark.invariant

pub draw_all-returns-clause-kept : goal.draw_all-returns-clause-kept
draw_all-returns-clause-kept g t c = c.loop-mark.invariant.kept

-- one mark

pub draw_one-draw_group-requires : goal.draw_one-draw_group-requires
draw_one-draw_group-requires g t c =
    λ κs lives.
    (omega arith, (lives, (c.requires.sound, (c.requires.frame, (c.requires.marks, (c.requires.few, sym c.is_group.ensures ∙ c.if-is_group.true))))))

pub draw_one-returns-then-is_group-clause-value : goal.draw_one-returns-then-is_group-clause-value
draw_one-returns-then-is_group-clause-value g t c =
    let items = g.M.MarkItems.items c.args.maker.now in
    let lists = g.M.MarkItems.lists c.args.maker.now in
    subst (DrawsMore {X = Unit {0}} c.draw_group.result c.args.out.now c.draw_group.new.out)
    (sym (group_one items (frame_seen lists c.args.frame.now) c.args.here.now.numbers.unit c.args.here.now.numbers.number c.args.mark.now
    (copies_from lists c.args.frame.now c.args.here.now.place 0 (out-MarkFacts c.args.here.now.facts.now).copies)
    (sym c.is_group.ensures ∙ c.if-is_group.true))) c.draw_group.ensures.value

pub draw_one-returns-then-is_group-clause-kept : goal.draw_one-returns-then-is_group-clause-kept
draw_one-returns-then-is_group-clause-kept g t c = c.draw_group.ensures.kept

pub draw_one-returns-else-is_group-clause-value : goal.draw_one-returns-else-is_group-clause-value
draw_one-returns-else-is_group-clause-value g t c =
    let items = g.M.MarkItems.items c.args.maker.now in
    let lists = g.M.MarkItems.lists c.args.maker.now in
    subst (DrawsMore {X = Unit {0}} c.draw_mark.result c.args.out.now c.draw_mark.new.out)
    (sym (plain_one items (frame_seen lists c.args.frame.now) c.args.here.now.numbers.unit c.args.here.now.numbers.number c.args.mark.now
    (copies_from lists c.args.frame.now c.args.here.now.place 0 (out-MarkFacts c.args.here.now.facts.now).copies)
    (sym c.is_group.ensures ∙ c.if-is_group.false))) c.draw_mark.ensures.value

pub draw_one-returns-else-is_group-clause-kept : goal.draw_one-returns-else-is_group-clause-kept
draw_one-returns-else-is_group-clause-kept g t c = c.draw_mark.ensures.kept

-- the copies of a group

pub draw_group-loop-at-init : goal.draw_group-loop-at-init
draw_group-loop-at-init g t c =
    copies_begun (g.M.MarkItems.items c.args.maker.now) (g.M.MarkItems.lists c.args.maker.now) c.args.frame.now
    c.args.out.now c.args.here.now.numbers.unit c.args.here.now.numbers.number
    c.args.here.now.place c.args.mark.now c.args.here.now.facts.now c.as_slice-copies.result.now c.as_slice-copies.ensures c.requires.group c.requires.marks

pub draw_group-draw_copy-requires : goal.draw_group-draw_copy-requires
draw_group-draw_copy-requires g t c = λ κs lives. (
  omega arith,
  (
    lives,
    (
      c.requires.sound,
      (
        c.requires.frame,
        (
          c.requires.marks.kept,
          (
            next_copy _ _ _ _ _ _ _ _ _ _ c.as_slice-copies.result.now c.index-copies-at.result _ c.loop-at-test.true c.index-copies-at.is c.loop-at.invariant,
            (c.requires.few, c.requires.group),
          ),
        ),
      ),
    ),
  ),
)

pub draw_group-loop-at-preserved : goal.draw_group-loop-at-preserved
draw_group-loop-at-preserved g t c =
    copy_drawn _ _ _ _ _ _ _ _ _ _ c.as_slice-copies.result.now c.index-copies-at.result _ c.loop-at-test.true c.index-copies-at.is c.loop-at.invariant
    c.draw_copy.new.out c.in-Ok.ensures.value c.in-Ok.ensures.kept

pub draw_group-returns-in-Err-clause-value : goal.draw_group-returns-in-Err-clause-value
draw_group-returns-in-Err-clause-value g t c =
    let items = g.M.MarkItems.items c.args.maker.now in
    let lists = g.M.MarkItems.lists c.args.maker.now in
    copy_ends _ _ _ _ _ _ _ _ _ _ c.as_slice-copies.result.now c.index-copies-at.result _ c.loop-at-test.true c.index-copies-at.is c.loop-at.invariant
    c.in-Err.error c.draw_copy.new.out c.args.out.now c.draw_copy.new.out (inside_seen c.args.out.now)
    (drawn_group items (frame_seen lists c.args.frame.now) c.args.here.now.numbers.unit c.args.here.now.numbers.number (out-VgMark c.args.mark.now)
    (copies_from lists c.args.frame.now c.args.here.now.place 0 (out-MarkFacts c.args.here.now.facts.now).copies)) refl
    c.in-Err.ensures.value

pub draw_group-returns-clause-value : goal.draw_group-returns-clause-value
draw_group-returns-clause-value g t c =
    no_copies_left _ _ _ _ _ _ _ _ _ _ (drop c.loop-at.at c.as_slice-copies.result.now) c.loop-at.out
    (drop_all c.loop-at.at c.as_slice-copies.result.now c.loop-at-test.false) c.loop-at.invariant

pub draw_group-returns-clause-kept : goal.draw_group-returns-clause-kept
draw_group-returns-clause-kept g t c = c.loop-at.invariant.kept

-- a copy of a group

pub draw_copy-draw_entered-requires : goal.draw_copy-draw_entered-requires
draw_copy-draw_entered-requires g t c = λ κs lives. (
  omega arith,
  (
    lives,
    (
      c.requires.sound,
      (
        c.requires.frame,
        (
          shows_inside c.args.mark.now c.requires.group c.requires.kept c.args.here.now.facts.now c.requires.copy,
          (
            c.requires.copy,
            (object_shown c.args.mark.now c.requires.group c.requires.kept c.args.here.now.numbers.number, (c.requires.few, c.requires.group)),
          ),
        ),
      ),
    ),
  ),
)

pub draw_copy-returns-clause-value : goal.draw_copy-returns-clause-value
draw_copy-returns-clause-value g t c =
    let items = g.M.MarkItems.items c.args.maker.now in
    let lists = g.M.MarkItems.lists c.args.maker.now in
    let outer = c.args.outer.now in
    let here = c.args.here.now in
    let unit = here.numbers.unit in
    let number = here.numbers.number in
    let m = out-VgMark c.args.mark.now in
    subst (DrawsMore {X = Unit {0}} c.draw_entered.result c.args.out.now c.draw_entered.new.out)
    ((λ i. drawn_entered items lists outer (c.entered_by-entered.ensures i).path.now (c.entered_by-entered.ensures i).levels.now
    (c.entered_by-entered.ensures i).cells unit number m here.facts.now)
    ∙ copy_entered items lists outer unit number m here.facts.now here.step c.as_slice-steps.result.now c.as_slice-signals.result.now c.slice_of.result
    (c.as_slice-steps.ensures ∙ c.in_ok-path.ensures) (ap (map (λ l. l.now)) c.as_slice-signals.ensures ∙ c.in_ok-levels.ensures)
    (c.slice_of.ensures ∙ c.in_ok-cells.ensures))
    c.draw_entered.ensures.value

pub draw_copy-returns-clause-kept : goal.draw_copy-returns-clause-kept
draw_copy-returns-clause-kept g t c = c.draw_entered.ensures.kept

-- a copy whose names are known

pub draw_entered-draw_named-requires : goal.draw_entered-draw_named-requires
draw_entered-draw_named-requires g t c = λ κs lives. (
  omega arith,
  (
    lives,
    (
      c.requires.sound,
      (
        entered_frame c.args.outer.now c.args.entered.now.path c.args.entered.now.levels c.args.entered.now.cells c.requires.frame,
        (c.requires.marks, (c.requires.copy, (c.requires.object, (c.requires.few, c.requires.group)))),
      ),
    ),
  ),
)

pub draw_entered-returns-clause-value : goal.draw_entered-returns-clause-value
draw_entered-returns-clause-value g t c = c.draw_named.ensures.value

pub draw_entered-returns-clause-kept : goal.draw_entered-returns-clause-kept
draw_entered-returns-clause-kept g t c = c.draw_named.ensures.kept

-- a copy with its own scales

pub draw_named-kept_scales-requires-clause-built : goal.draw_named-kept_scales-requires-clause-built
draw_named-kept_scales-requires-clause-built g t c =
    subst (All (λ (s : VegaScale). IsTrue (is_built s))) (sym c.scales_in.ensures) c.requires.object.scales

pub draw_named-kept_scales-requires-clause-bounds : goal.draw_named-kept_scales-requires-clause-bounds
draw_named-kept_scales-requires-clause-bounds g t c = subst (All KeepsBounds) (sym c.scales_in.ensures) c.requires.object.bounds

pub draw_named-kept_scales-requires-clause-fits : goal.draw_named-kept_scales-requires-clause-fits
draw_named-kept_scales-requires-clause-fits g t c =
    subst (λ scales. AllZip FitsScale scales c.as_slice.result.now) (sym c.scales_in.ensures)
    (subst (AllZip FitsScale (group_object 0 (out-VgMark c.args.mark.now)).scales) (sym c.as_slice.ensures) c.requires.copy.domains)

pub draw_named-draw_framed-requires : goal.draw_named-draw_framed-requires
draw_named-draw_framed-requires g t c =
    λ κs lives. (omega arith, (lives, (c.requires.sound, (c.requires.frame, (c.requires.marks, (c.requires.object, (c.requires.few, c.requires.group)))))))

pub draw_named-returns-then-is_empty-clause-value : goal.draw_named-returns-then-is_empty-clause-value
draw_named-returns-then-is_empty-clause-value g t c =
    let items = g.M.MarkItems.items c.args.maker.now in
    let lists = g.M.MarkItems.lists c.args.maker.now in
    let named = frame_seen lists c.args.named.now in
    let m = out-VgMark c.args.mark.now in
    let copy = out-CopyFacts c.args.here.now.facts.now in
    let nothing : c.in_ok-own.own ≡ [] = c.is_empty.ensures.0 c.if-is_empty.true in
    let own : map kept_seen c.in_ok-own.own ≡ own_scales of_no_chart (group_object 0 m).scales copy.domains =
    c.in_ok-own.ensures.value ∙ (λ i. own_scales of_no_chart (c.scales_in.ensures i) (c.as_slice.ensures i)) in
    subst (DrawsMore {X = Unit {0}} c.draw_framed.result c.args.out.now c.draw_framed.new.out)
    (scaled_with items named c.args.here.now.numbers.unit c.args.here.now.numbers.number m
    copy.domains (found_in_frame lists c.args.named.now 0 copy.inside) named.scales
    (none_hidden named.scales (own_scales of_no_chart (group_object 0 m).scales copy.domains) (sym own ∙ ap (map kept_seen) nothing)))
    c.draw_framed.ensures.value

pub draw_named-returns-then-is_empty-clause-kept : goal.draw_named-returns-then-is_empty-clause-kept
draw_named-returns-then-is_empty-clause-kept g t c = c.draw_framed.ensures.kept

pub draw_named-and_outer-requires-clause-own : goal.draw_named-and_outer-requires-clause-own
draw_named-and_outer-requires-clause-own g t c = subst (All IsKeptScale) (sym c.as_slice-mine.ensures) c.in_ok-own.ensures.kept

pub draw_named-own_set_of-requires-clause-kept : goal.draw_named-own_set_of-requires-clause-kept
draw_named-own_set_of-requires-clause-kept g t c = subst (All IsKeptScale) (sym c.as_slice-mine.ensures) c.in_ok-own.ensures.kept

pub draw_named-draw_framed-requires-2 : goal.draw_named-draw_framed-requires-2
draw_named-draw_framed-requires-2 g t c = λ κs lives. (
  omega arith,
  (
    lives,
    (
      c.requires.sound,
      (
        within_frame c.args.named.now _ _ c.as_slice-mine.result.now _ c.requires.frame
            (subst AreKeptScales (sym c.as_slice-seen.ensures) c.in_ok-scales.ensures.kept)
            (ap (map scale_seen) c.as_slice-seen.ensures ∙ c.in_ok-scales.ensures.value) c.in_ok-set.ensures.value c.in_ok-set.ensures.sound
            c.in_ok-indexed.ensures,
        (c.requires.marks, (c.requires.object, (c.requires.few, c.requires.group))),
      ),
    ),
  ),
)

pub draw_named-returns-clause-value : goal.draw_named-returns-clause-value
draw_named-returns-clause-value g t c =
    let items = g.M.MarkItems.items c.args.maker.now in
    let lists = g.M.MarkItems.lists c.args.maker.now in
    let named = frame_seen lists c.args.named.now in
    let m = out-VgMark c.args.mark.now in
    let copy = out-CopyFacts c.args.here.now.facts.now in
    subst (DrawsMore {X = Unit {0}} c.draw_framed-2.result c.args.out.now c.draw_framed-2.new.out)
    (scaled_with items named c.args.here.now.numbers.unit c.args.here.now.numbers.number m copy.domains (found_in_frame lists c.args.named.now 0 copy.inside)
    (map scale_seen c.as_slice-seen.result.now)
    (ap (map scale_seen) c.as_slice-seen.ensures ∙ c.in_ok-scales.ensures.value
    ∙ ap (and_outer named.scales) (ap (map kept_seen) c.as_slice-mine.ensures ∙ c.in_ok-own.ensures.value
    ∙ (λ i. own_scales of_no_chart (c.scales_in.ensures i) (c.as_slice.ensures i))))) c.draw_framed-2.ensures.value

pub draw_named-returns-clause-kept : goal.draw_named-returns-clause-kept
draw_named-returns-clause-kept g t c = c.draw_framed-2.ensures.kept

-- a copy at the place that it encodes

pub draw_framed-returns-in-Err-clause-value : goal.draw_framed-returns-in-Err-clause-value
draw_framed-returns-in-Err-clause-value g t c =
    let items = g.M.MarkItems.items c.args.maker.now in
    let lists = g.M.MarkItems.lists c.args.maker.now in
    let frame = frame_seen lists c.args.frame.now in
    let m = out-VgMark c.args.mark.now in
    let found = found_in_frame lists c.args.frame.now 0 (out-CopyFacts c.args.here.now.facts.now).inside in
    stops_drawing c.in-Err.error (placed_from frame (group_object 0 m) channel.X frame.x)
    (drawn_framed items frame c.args.here.now.numbers.unit c.args.here.now.numbers.number m found) c.args.out.now c.args.out.now c.in-Err.ensures
    (no_x items frame c.args.here.now.numbers.unit c.args.here.now.numbers.number m found)

pub draw_framed-returns-in-Err-place_from-clause-value : goal.draw_framed-returns-in-Err-place_from-clause-value
draw_framed-returns-in-Err-place_from-clause-value g t c =
    let items = g.M.MarkItems.items c.args.maker.now in
    let lists = g.M.MarkItems.lists c.args.maker.now in
    let frame = frame_seen lists c.args.frame.now in
    let m = out-VgMark c.args.mark.now in
    let found = found_in_frame lists c.args.frame.now 0 (out-CopyFacts c.args.here.now.facts.now).inside in
    stops_drawing c.in-Err-place_from.error (placed_from frame (group_object 0 m) channel.Y frame.y)
    (drawn_framed items frame c.args.here.now.numbers.unit c.args.here.now.numbers.number m found) c.args.out.now c.args.out.now c.in-Err-place_from.ensures
    (no_y items frame c.args.here.now.numbers.unit c.args.here.now.numbers.number m found)

pub draw_framed-draw_guides-requires-clause-frame : goal.draw_framed-draw_guides-requires-clause-frame
draw_framed-draw_guides-requires-clause-frame g t c = moved_frame c.args.frame.now c.in-Ok.x c.in-Ok-place_from.y c.requires.frame

pub draw_framed-draw_guides-requires-clause-axes : goal.draw_framed-draw_guides-requires-clause-axes
draw_framed-draw_guides-requires-clause-axes g t c = c.requires.object.axes

pub draw_framed-overflow_add-inside : goal.draw_framed-overflow_add-inside
draw_framed-overflow_add-inside g t c =
    let fits : c.args.here.now.numbers.number + 1 < 2 ^ 32 =
    group_numbered c.args.here.now.numbers.unit c.args.here.now.numbers.number c.args.mark.now c.requires.group c.requires.few in
    omega arith

pub draw_framed-draw_all-requires : goal.draw_framed-draw_all-requires
draw_framed-draw_all-requires g t c =
    let smaller : most size-VgMark c.marks_in.result.now < size-VgMark c.args.mark.now =
    subst (λ marks. most size-VgMark marks < size-VgMark c.args.mark.now) (sym c.marks_in.ensures) (inside_smaller c.args.mark.now) in λ κs lives. (
      omega (arith, smaller),
      (
        lives,
        (
          c.requires.sound,
          (
            moved_frame c.args.frame.now c.in-Ok.x c.in-Ok-place_from.y c.requires.frame,
            (
              subst (λ found. MayShow c.marks_in.result.now found) (sym c.as_slice.ensures)
                  (subst (λ marks. MayShow marks (out-CopyFacts c.args.here.now.facts.now).inside) (sym c.marks_in.ensures) c.requires.marks),
              subst (λ n. AreFew c.args.here.now.numbers.unit n c.marks_in.result.now) (sym (add-one c.args.here.now.numbers.number))
                  (subst (AreFew c.args.here.now.numbers.unit (suc c.args.here.now.numbers.number)) (sym c.marks_in.ensures)
                  (few_inside c.args.here.now.numbers.unit c.args.here.now.numbers.number c.args.mark.now c.requires.group c.requires.few)),
            ),
          ),
        ),
      ),
    )

pub draw_framed-returns-clause-value : goal.draw_framed-returns-clause-value
draw_framed-returns-clause-value g t c =
    let items = g.M.MarkItems.items c.args.maker.now in
    let lists = g.M.MarkItems.lists c.args.maker.now in
    let frame = frame_seen lists c.args.frame.now in
    let m = out-VgMark c.args.mark.now in
    let found = found_in_frame lists c.args.frame.now 0 (out-CopyFacts c.args.here.now.facts.now).inside in
    let here = record frame { x = c.in-Ok.x; y = c.in-Ok-place_from.y } in
    subst (DrawsMore {X = Unit {0}} c.draw_all.result c.args.out.now c.draw_all.new.out)
    (sym (framed_at items frame c.args.here.now.numbers.unit c.args.here.now.numbers.number m found
    c.in-Ok.x c.in-Ok-place_from.y c.in-Ok.ensures c.in-Ok-place_from.ensures))
    (behind_guides c.draw_all.result c.args.out.now c.draw_guides.new.out c.draw_all.new.out (group_object c.args.here.now.numbers.number m) here
    (drawn_in items (marks_from c.args.here.now.numbers.unit (suc c.args.here.now.numbers.number) (marks_in (out-Group m.group))) found here)
    c.in_ok-draw_guides.ensures.value
    (subst (DrawsMore {X = Unit {0}} c.draw_all.result c.draw_guides.new.out c.draw_all.new.out)
    (λ i. drawn_in items (marks_from c.args.here.now.numbers.unit (add-one c.args.here.now.numbers.number i) (c.marks_in.ensures i))
    (found_in_frame lists c.args.frame.now 0 (c.as_slice.ensures i)) here) c.draw_all.ensures.value))

pub draw_framed-returns-clause-kept : goal.draw_framed-returns-clause-kept
draw_framed-returns-clause-kept g t c = λ inside. c.draw_all.ensures.kept (c.in_ok-draw_guides.ensures.kept inside)
