use Rattle.std.proofs.Common.{arith, sym, ◌-◌}
use Rattle.expr_eval.proofs.StoreLemmas.{one_leads}
use Rattle.expr_eval.proofs.stores.first_places.Goals as goal

pub loop-left-preserved : goal.loop-left-preserved
loop-left-preserved c = (
  omega arith,
  one_leads c.loop-left.places c.put.new.places c.args.stores.now (c.loop-left.left - 1) c.loop-left.left c.index-stores-left.result
      (omega arith) (sym c.index-stores-left.is) (omega arith) c.in_ok-put.ensures c.loop-left.invariant.1,
)
