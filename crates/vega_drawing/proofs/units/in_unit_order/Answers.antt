use Rattle.std.proofs.Common.{ap, ◌∙◌, rules}
use Rattle.std.proofs.lemmas.List.Sorted.{answers_always}
use Rattle.vega_drawing.specs.Units.{unit_of, in_unit_order}
use Rattle.plot_scenes.proofs.OrderLemmas.{sort_gives}
use Rattle.vega_drawing.proofs.UnitLemmas.{by_unit_total}
use Rattle.vega_drawing.proofs.units.in_unit_order.Goals as goal

pub returns : goal.returns
returns c =
    c.from_vec.ensures
    ∙ sort_gives by_unit_total c.into_vec-items.result.items c.sort_by_key.new.self.items
    (c.in_ok-sort_by_key.ensures.sorted unit_of (answers_always _ _ _ (λ f a r g called. search rules)))
    (c.in_ok-sort_by_key.ensures.stable unit_of (answers_always _ _ _ (λ f a r g called. search rules)))
    ∙ ap in_unit_order c.into_vec-items.ensures
