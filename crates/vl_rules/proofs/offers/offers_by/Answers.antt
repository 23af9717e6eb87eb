use Rattle.vl_rules.specs.Offers.{offer_among}
use Rattle.vl_rules.specs.inner.Shown.{part_shown}
use Rattle.vl_rules.proofs.ShownLemmas.{made_more}
use Rattle.vl_rules.proofs.offers.offers_by.Goals as goal

pub loop-part-preserved : goal.loop-part-preserved
loop-part-preserved c =
    made_more part_shown (offer_among c.args.across.now c.args.down.now) c.args.parts.now c.loop-part.part-index c.part-item.result c.in_ok-offer_at.field-0
    _ _ _ c.loop-part-test.true c.part-item.is c.in_ok-offer_at.ensures c.in_ok-push.ensures.ok c.loop-part.invariant
