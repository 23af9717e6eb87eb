use Rattle.std.proofs.Common.{arith, refl}
use Rattle.vega_rules.proofs.FoldLemmas.{tells_none, tells_more, folds_more}
use Rattle.vega_rules.proofs.folds.sooner_folds.Goals as goal

pub loop-part-init : goal.loop-part-init
loop-part-init c = record { tells = tells_none c.no_numbers-known.result c.no_numbers-known.ensures; same = refl }

pub loop-part-preserved : goal.loop-part-preserved
loop-part-preserved c =
    let ps = c.args.parts.now in
    record {
      tells = tells_more ps c.loop-part.known c.keep.new.known c.loop-part.part-index c.part-item.result (omega arith) c.part-item.is
          c.in_ok-keep.ensures c.loop-part.invariant.tells;
      same = folds_more ps c.loop-part.known c.loop-part.part-index c.part-item.result c.loop-part.so_far c.in_ok-so_far.so_far _
          (omega arith) c.part-item.is
          c.loop-part.invariant.tells c.in_ok-so_far.ensures c.loop-part.invariant.same;
    }
