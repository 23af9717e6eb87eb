use Rattle.std.proofs.Common.{◌≤◌, length, subst, sym, take_all, All, arith}
use Rattle.std.proofs.lemmas.List.Elements.{All-more}
use Rattle.plain_windows.specs.inner.Totals.{AddsLittle, AreSmall, no_total, totals_from}
use Rattle.plain_windows.proofs.TotalLemmas.{totals_more, totals_all, totals_small}
use Rattle.plain_windows.proofs.totals.totals.Goals as goal

pub loop-at-preserved : goal.loop-at-preserved
loop-at-preserved c =
    let cells = c.args.cells.now in
    let cell = c.index-cells-at.result in
    record {
      filled = totals_more cells c.loop-at.at cell c.loop-at.total c.total_after-total.result c.loop-at.totals c.push.new.self
          (totals_from no_total cells) c.loop-at-test.true c.index-cells-at.is c.total_after-total.ensures.value c.in_ok-push.ensures.ok
          c.loop-at.invariant.filled;
      bound = c.total_after-total.ensures.bound;
      little = All-more AddsLittle cells c.loop-at.at cell c.loop-at-test.true c.loop-at.invariant.little
          (subst AddsLittle c.index-cells-at.is c.total_after-total.ensures.cell);
    }

pub returns-clause-bound : goal.returns-clause-bound
returns-clause-bound c =
    let cells = c.args.cells.now in
    let past : length cells ≤ c.loop-at.at = omega (arith, c.loop-at-test.false) in
    let all = subst (All AddsLittle) (take_all c.loop-at.at cells past) c.loop-at.invariant.little in
    subst AreSmall
    (sym (totals_all cells c.loop-at.at c.loop-at.total c.loop-at.totals c.push-2.new.self (totals_from no_total cells) past
    c.in_ok-push-2.ensures.ok c.loop-at.invariant.filled))
    (totals_small cells all c.requires)
