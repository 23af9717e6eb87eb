use Rattle.std.proofs.Common.{arith, ap, length, ◌∷◌, []}
use Rattle.std.proofs.lemmas.List.{length-append}
use Rattle.plain_windows.proofs.FirstLemmas.{none_seen, seen_more, count_more, counted_more, few_more}
use Rattle.plain_windows.proofs.firsts.firsts.Goals as goal

pub loop-cell-init : goal.loop-cell-init
loop-cell-init c = record {
  long = ap length c.in_ok-counts.ensures;
  each = λ k below. absurd (omega (arith, below));
  count = omega arith;
  few = omega arith;
  seen = λ q. none_seen c.new-seen.result q c.new-seen.ensures.empty;
}

pub loop-cell-preserved : goal.loop-cell-preserved
loop-cell-preserved c =
    let cells = c.args.cells.now in
    let i = c.loop-cell.cell-index in
    let cell = c.cell-item.result in
    let old = c.loop-cell.invariant in
    record {
      long =
          omega (arith, ap length c.in_ok-push.ensures.ok, length-append c.loop-cell.counts (c.loop-cell.n ∷ []), old.long);
      each = counted_more cells c.loop-cell.counts c.push.new.self i c.loop-cell.n old.long old.each old.count c.in_ok-push.ensures.ok;
      count =
          count_more cells i cell c.loop-cell-test.true c.cell-item.is c.loop-cell.n _ _ old.count (old.seen cell)
          c.in_ok-n.ensures.value;
      few = few_more _ c.loop-cell.n _ _ c.in_ok-n.ensures.value old.few;
      seen = λ q.
          seen_more cells i cell c.loop-cell-test.true c.cell-item.is q _ _ (c.in_ok-n.ensures.seen q) (old.seen q);
    }
