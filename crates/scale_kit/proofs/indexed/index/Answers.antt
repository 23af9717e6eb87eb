use Rattle.std.proofs.Common.{arith, sym, ◌-◌}
use Rattle.scale_kit.proofs.IndexLemmas.{one_before}
use Rattle.scale_kit.proofs.indexed.index.Goals as goal

pub loop-left-preserved : goal.loop-left-preserved
loop-left-preserved c =
    let put = c.in_ok-put_copy.ensures in (
      omega arith,
      one_before c.loop-left.places c.put_copy.new.places c.args.cells.now (c.loop-left.left - 1) c.loop-left.left c.index-cells-left.result
          c.index-cells-left.result (omega arith) (sym c.index-cells-left.is) (omega arith) put c.loop-left.invariant.1,
    )
