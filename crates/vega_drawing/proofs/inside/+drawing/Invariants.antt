use Rattle.std.proofs.Common.{drop}
use Rattle.std.specs.Option.{option_map}
use Rattle.vega_spec.specs.declared.spec.VgMark.{out-VgMark}
use Rattle.vega_copies.specs.declared.facts.MarkFacts.{out-MarkFacts}
use Rattle.vega_copies.specs.inner.Outlined.{marks_from}
use Rattle.vega_drawing.specs.Insides.{and_inside, drawn_in}
use Rattle.vega_drawing.specs.inner.Drawn.{inside_seen, copies_from, drawn_group}
use Rattle.vega_drawing.specs.inner.Framed.{frame_seen, found_in_frame}
use Rattle.vega_drawing.proofs.DrawnLemmas.{MarksLeft}
use Rattle.vega_drawing.proofs.EnteredLemmas.{CopiesLeft}
use Rattle.vega_drawing.proofs.inside.+drawing.Given as goal

abbrev pub invariant-draw_all-loop-mark : goal.invariant-draw_all-loop-mark
invariant-draw_all-loop-mark g l =
    let items = g.M.MarkItems.items l.maker in
    let lists = g.M.MarkItems.lists l.maker in
    MarksLeft items lists l.frame l.initial.out
    (option_map (and_inside (inside_seen l.initial.out))
    (drawn_in items (marks_from l.fn.numbers.unit l.fn.numbers.number l.marks) (found_in_frame lists l.frame 0 l.found) (frame_seen lists l.frame)))
    l.next_unit l.next_number l.at (drop l.mark-index l.marks) (drop l.at l.found) l.out

abbrev pub invariant-draw_group-loop-at : goal.invariant-draw_group-loop-at
invariant-draw_group-loop-at g l =
    let items = g.M.MarkItems.items l.maker in
    let lists = g.M.MarkItems.lists l.maker in
    CopiesLeft items lists l.frame l.initial.out
    (option_map (and_inside (inside_seen l.initial.out))
    (drawn_group items (frame_seen lists l.frame) l.here.numbers.unit l.here.numbers.number (out-VgMark l.mark)
    (copies_from lists l.frame l.here.place 0 (out-MarkFacts l.here.facts.now).copies)))
    l.here.numbers.unit l.here.numbers.number l.here.place l.mark l.at (drop l.at l.copies) l.out
