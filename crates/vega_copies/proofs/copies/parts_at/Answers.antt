use Rattle.std.proofs.Common.{arith}
use Rattle.vega_copies.specs.inner.Copied.{part_at}
use Rattle.vega_copies.proofs.CopyLemmas.{pair_more, pairs_ended}
use Rattle.vega_copies.proofs.copies.parts_at.Goals as goal

pub loop-at-preserved : goal.loop-at-preserved
loop-at-preserved c =
    let all = c.min-at-end.ensures in
    let some = c.loop-at-test.true in
    pair_more (part_at c.args.copy) c.args.names.now c.args.tables.now c.loop-at.at c.index-names-at.result c.index-tables-at.result c.loop-at.parts _ _
    (grind (arith, all, some)) (grind (arith, all, some)) c.index-names-at.is c.index-tables-at.is c.in_ok-push_part.ensures c.loop-at.invariant

pub returns : goal.returns
returns c =
    let all = c.min-at-end.ensures in
    let over = c.loop-at-test.false in
    pairs_ended (part_at c.args.copy) c.args.names.now c.args.tables.now c.loop-at.at c.loop-at.parts _ (grind (arith, all, over)) c.loop-at.invariant
