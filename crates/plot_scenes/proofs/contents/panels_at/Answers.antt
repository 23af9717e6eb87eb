use Rattle.std.specs.Vec.Iter.{into_iter_items}
use Rattle.plot_scenes.proofs.PanelLemmas.{one_place, no_place}
use Rattle.plot_scenes.proofs.contents.panels_at.Goals as goal

pub loop-part-preserved : goal.loop-part-preserved
loop-part-preserved c =
    one_place c.loop-part.panels c.push.new.self _ c.in_ok-panel_at-in-Some-place_at.field-0 c.args.padding c.in-Some.part
    (into_iter_items c.next.new.self) (into_iter_items c.loop-part.part-iterator) c.args.places.now c.in-Some-place_at.place c.len.result
    c.len.ensures c.in-Some-place_at.ensures c.in_ok-panel_at-in-Some-place_at.ensures c.in_ok-push-in-Some-place_at.ensures.ok
    c.in-Some.ensures.steps.0 c.loop-part.invariant

pub returns-in-None-place_at : goal.returns-in-None-place_at
returns-in-None-place_at c =
    no_place c.loop-part.panels _ c.args.padding (into_iter_items c.loop-part.part-iterator) c.args.places.now c.len.result c.len.ensures
    c.in-None-place_at.ensures c.loop-part.invariant
