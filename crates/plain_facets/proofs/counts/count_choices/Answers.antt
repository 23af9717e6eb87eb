use Rattle.std.proofs.Common.{◌-◌, ◌*◌, ◌^◌, ◌≤◌, min, sym, ap, ◌∙◌, subst, arith}
use Rattle.plain_facets.proofs.CountLemmas.{below, one_list_more, all_lists}
use Rattle.plain_facets.proofs.counts.count_choices.Goals as goal

pub loop-cells-preserved : goal.loop-cells-preserved
loop-cells-preserved c = record {
  counts =
      one_list_more (2 ^ 128 - 1) c.args.lists.now c.loop-cells.cells-index c.loop-cells.count c.cells-item.result _ _ c.loop-cells-test.true c.cells-item.is
      (c.saturating_mul-count.ensures ∙ ap (λ n. min (c.loop-cells.count * n) (2 ^ 128 - 1)) c.len.ensures) c.loop-cells.invariant.counts;
  few = subst (λ n. n ≤ 2 ^ 128 - 1) (sym c.saturating_mul-count.ensures) (below (2 ^ 128 - 1) _);
}

pub returns : goal.returns
returns c =
    all_lists (2 ^ 128 - 1) c.args.lists.now c.loop-cells.cells-index c.loop-cells.count _
    (omega arith) c.loop-cells.invariant.few c.loop-cells.invariant.counts
