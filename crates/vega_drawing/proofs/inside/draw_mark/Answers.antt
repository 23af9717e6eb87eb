use Rattle.std.proofs.Common.{ap}
use Rattle.std.specs.Option.{option_map}
use Rattle.vega_spec.specs.declared.spec.VgMark.{out-VgMark}
use Rattle.vega_copies.specs.inner.Outlined.{plain_of}
use Rattle.vega_drawing.specs.Insides.{items_inside}
use Rattle.vega_drawing.specs.inner.Framed.{frame_seen}
use Rattle.vega_drawing.proofs.DrawnLemmas.{adds_items, stops_drawing}
use Rattle.vega_drawing.proofs.inside.draw_mark.Goals as goal

pub returns-in-Err-clause-value : goal.returns-in-Err-clause-value
returns-in-Err-clause-value g c =
    let made = g.M.MarkItems.items c.args.maker.now c.args.unit (plain_of (out-VgMark c.args.mark.now))
    (frame_seen (g.M.MarkItems.lists c.args.maker.now) c.args.frame.now) in
    stops_drawing c.in-Err.error made (option_map items_inside made) c.args.out.now c.args.out.now c.in-Err.ensures (ap (option_map items_inside))

pub returns-clause-value : goal.returns-clause-value
returns-clause-value g c = adds_items c.args.out.now c.in-Ok.items c.add_items.new.items _ c.in-Ok.ensures c.in_ok-add_items.ensures
