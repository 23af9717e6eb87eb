use Rattle.std.proofs.Common.{get_or}
use Rattle.std.proofs.lemmas.List.{get_or_default}
use Rattle.vl_compose.proofs.GroupLemmas.{one_group, row_is}
use Rattle.vl_compose.proofs.groups.push_groups.Goals as goal

pub loop-unit-preserved : goal.loop-unit-preserved
loop-unit-preserved c = one_group c.args.code c.args.all.now c.loop-unit.unit-index
    (get_or c.args.all.now c.loop-unit.unit-index _) _ _ _ _ c.loop-unit-test.true
    (get_or_default c.args.all.now c.loop-unit.unit-index _ _ c.loop-unit-test.true)
    (row_is _ _ _ _ c.args.all.now c.row_at-row.ensures c.as_slice.ensures.value c.in_ok-rows.ensures) c.in_ok-push_group.ensures c.loop-unit.invariant
