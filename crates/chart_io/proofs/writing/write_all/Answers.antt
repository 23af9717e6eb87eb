use Rattle.std.proofs.Common.{arith, length-take, length-drop}
use Rattle.chart_io.proofs.Written.{appended_more, appended_some}
use Rattle.chart_io.proofs.writing.write_all.Goals as goal

pub loop-at-preserved : goal.loop-at-preserved
loop-at-preserved g c =
    let taken = c.in-Ok.ensures.within.1 in
    let short = simp (length-take, length-drop) at taken in
    record {
      counted = omega (arith, c.in-Ok.ensures.counted);
      within = omega arith;
      written = appended_more _ _ _ _ c.loop-at.at _ _ (omega arith) c.loop-at.invariant.written c.in-Ok.ensures.appended;
    }

pub returns-in-Err-clause-prefix : goal.returns-in-Err-clause-prefix
returns-in-Err-clause-prefix g c = appended_some _ _ _ _ c.loop-at.at c.loop-at.invariant.written c.in-Err.ensures.stays
