use Rattle.std.proofs.Common.{arith, sym, ◌-◌}
use Rattle.mark_encode.proofs.ScaleLemmas.{one_leads}
use Rattle.mark_encode.proofs.scales.first_places.Goals as goal

pub loop-left-preserved : goal.loop-left-preserved
loop-left-preserved c = (
  omega arith,
  one_leads c.loop-left.places c.put.new.places c.args.scales.now (c.loop-left.left - 1) c.loop-left.left c.index-scales-left.result
      (omega arith) (sym c.index-scales-left.is) (omega arith) c.in_ok-put.ensures c.loop-left.invariant.1,
)
