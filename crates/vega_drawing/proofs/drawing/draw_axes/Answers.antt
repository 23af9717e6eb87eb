use Rattle.std.proofs.Common.{Err, Ok, sym, subst}
use Rattle.fixed_num.specs.Ranges.{◌>>=◌}
use Rattle.expr_eval.specs.Answers.{Evaluates}
use Rattle.vega_spec.specs.declared.spec.Group.{out-Group}
use Rattle.vega_copies.specs.declared.facts.CopyFacts.{out-CopyFacts}
use Rattle.vega_copies.specs.inner.Outlined.{marks_in}
use Rattle.vega_drawing.specs.declared.frames.Frame.{Frame}
use Rattle.vega_drawing.specs.inner.Drawn.{MayShow}
use Rattle.vega_drawing.specs.inner.Framed.{frame_seen, found_in_frame, IsFrame}
use Rattle.vega_drawing.specs.inner.Placed.{grid_of_object}
use Rattle.vega_drawing.specs.inner.Topped.{top_of, drawn_view}
use Rattle.vega_drawing.proofs.TopLemmas.{top_is_frame, top_few, top_shows, goes_on, stops}
use Rattle.vega_drawing.proofs.drawing.draw_axes.Goals as goal

pub grid_view-requires-clause-frame : goal.grid_view-requires-clause-frame
grid_view-requires-clause-frame g c =
    subst IsFrame (sym c.top_frame-frame.ensures)
    (top_is_frame _ c.args.top.now.values c.args.top.now.scales c.args.set c.args.axes
    c.args.top.now.cells _ c.args.size c.args.size c.requires.top.scales c.requires.set
    c.requires.scales c.requires.axes c.requires.size c.requires.size)

pub grid_view-requires-clause-marks : goal.grid_view-requires-clause-marks
grid_view-requires-clause-marks g c =
    subst (MayShow (marks_in (out-Group c.args.top.now.g.now.group))) (sym c.as_slice.ensures)
    (top_shows c.args.top.now.g.now c.requires.top.kept c.args.top.now.facts.now c.requires.top.fits)

pub grid_view-requires-clause-few : goal.grid_view-requires-clause-few
grid_view-requires-clause-few g c = top_few c.args.top.now.g.now c.requires.top.kept

pub view_drawn-requires-clause-frame : goal.view_drawn-requires-clause-frame
view_drawn-requires-clause-frame g c =
    subst IsFrame (sym c.top_frame-frame.ensures)
    (top_is_frame _ c.args.top.now.values c.args.top.now.scales c.args.set c.args.axes
    c.args.top.now.cells _ c.args.size c.args.size c.requires.top.scales c.requires.set
    c.requires.scales c.requires.axes c.requires.size c.requires.size)

pub returns-in-Ok : goal.returns-in-Ok
returns-in-Ok g c =
    let items = g.M.MarkItems.items c.args.maker.now in
    let lists = g.M.MarkItems.lists c.args.maker.now in
    let spec = c.args.top.now.g.now in
    let inside = (out-CopyFacts c.args.top.now.facts.now).inside in
    let drawn : Frame → Type 0 = λ frame. Evaluates c.view_drawn.result
    (grid_of_object items (top_of spec).object c.args.layout.now (top_of spec).marks (found_in_frame lists frame 0 inside) (frame_seen lists frame)
    >>= drawn_view spec (frame_seen lists frame)) in
    subst drawn c.top_frame-frame.ensures
    (goes_on c.view_drawn.result _ (drawn_view spec (frame_seen lists c.top_frame-frame.result)) c.in-Ok.view
    (subst (λ found. Evaluates (Ok c.in-Ok.view) (grid_of_object items (top_of spec).object c.args.layout.now (top_of spec).marks
    (found_in_frame lists c.top_frame-frame.result 0 found) (frame_seen lists c.top_frame-frame.result))) c.as_slice.ensures c.in-Ok.ensures.value)
    c.view_drawn.ensures)

pub returns-in-Err : goal.returns-in-Err
returns-in-Err g c =
    let items = g.M.MarkItems.items c.args.maker.now in
    let lists = g.M.MarkItems.lists c.args.maker.now in
    let spec = c.args.top.now.g.now in
    let inside = (out-CopyFacts c.args.top.now.facts.now).inside in
    let drawn : Frame → Type 0 = λ frame. Evaluates (Err c.in-Err.error)
    (grid_of_object items (top_of spec).object c.args.layout.now (top_of spec).marks (found_in_frame lists frame 0 inside) (frame_seen lists frame)
    >>= drawn_view spec (frame_seen lists frame)) in
    subst drawn c.top_frame-frame.ensures
    (stops c.in-Err.error _ (drawn_view spec (frame_seen lists c.top_frame-frame.result))
    (subst (λ found. Evaluates (Err c.in-Err.error) (grid_of_object items (top_of spec).object c.args.layout.now (top_of spec).marks
    (found_in_frame lists c.top_frame-frame.result 0 found) (frame_seen lists c.top_frame-frame.result))) c.as_slice.ensures c.in-Err.ensures.value))
