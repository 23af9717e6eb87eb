use Rattle.vl_rules.proofs.LeadLemmas.{giving_more}
use Rattle.vl_rules.proofs.leads.giving_trail.Goals as goal

pub loop-led-preserved : goal.loop-led-preserved
loop-led-preserved c =
    giving_more c.args.code c.args.views.now c.loop-led.led-index c.led-item.result c.loop-led.trail.now _ _ c.loop-led-test.true c.led-item.is
    c.or_giving-trail.ensures c.loop-led.invariant
