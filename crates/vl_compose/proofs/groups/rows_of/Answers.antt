use Rattle.std.proofs.Common.{get_or}
use Rattle.std.proofs.lemmas.List.{get_or_default}
use Rattle.vl_compose.proofs.GroupLemmas.{rows_more}
use Rattle.vl_compose.proofs.groups.rows_of.Goals as goal

pub loop-unit-preserved : goal.loop-unit-preserved
loop-unit-preserved c = rows_more c.args.all.now c.loop-unit.unit-index (get_or c.args.all.now c.loop-unit.unit-index _) _ _ _ c.loop-unit-test.true
    (get_or_default c.args.all.now c.loop-unit.unit-index _ _ c.loop-unit-test.true) c.in_ok-grow.ensures.same c.in_ok-put.ensures c.loop-unit.invariant
