use Rattle.std.proofs.Common.{◌∙◌, ◌<◌, length, get_or, ap, sym, subst, Some, Err}
use Rattle.std.proofs.lemmas.List.{get_or_default}
use Rattle.expr_eval.specs.Answers.{Evaluates}
use Rattle.expr_eval.proofs.Several.{stops_all, all_more}
use Rattle.plain_rows.proofs.Keys.{small_id}
use Rattle.plain_groups.specs.inner.GroupPlaces.{group_at}
use Rattle.plain_groups.proofs.GroupLemmas.{at_head}
use Rattle.plain_groups.proofs.group_rows.rows_of_heads.Goals as goal

pub group_at-requires-clause-id : goal.group_at-requires-clause-id
group_at-requires-clause-id c =
    small_id c.args.rows.now _ c.index-rows-head.result c.requires.rows (c.requires.heads c.loop-head.head-index 0 c.loop-head-test.true) c.index-rows-head.is

pub returns-in-Err : goal.returns-in-Err
returns-in-Err c =
    let inside : get_or c.args.heads.now c.loop-head.head-index 0 < length c.args.rows.now = c.requires.heads c.loop-head.head-index 0 c.loop-head-test.true in
    stops_all (group_at c.args.g.now c.args.rows.now c.args.members.now) c.args.heads.now
    c.loop-head.head-index (get_or c.args.heads.now c.loop-head.head-index 0)
    c.loop-head-test.true (get_or_default c.args.heads.now c.loop-head.head-index 0 _ c.loop-head-test.true) c.in-Err.error
    (subst (Evaluates (Err c.in-Err.error))
    (at_head c.args.g.now c.args.rows.now c.args.members.now _ c.index-rows-head.result c.index-members-head.result c.as_slice.result.now inside
    c.requires.len c.index-rows-head.is c.index-members-head.is c.as_slice.ensures) c.in-Err.ensures)

pub loop-head-preserved : goal.loop-head-preserved
loop-head-preserved c =
    let inside : get_or c.args.heads.now c.loop-head.head-index 0 < length c.args.rows.now = c.requires.heads c.loop-head.head-index 0 c.loop-head-test.true in
    all_more (group_at c.args.g.now c.args.rows.now c.args.members.now) c.args.heads.now
    c.loop-head.head-index (get_or c.args.heads.now c.loop-head.head-index 0)
    c.loop-head.out c.in-Ok.row c.loop-head-test.true (get_or_default c.args.heads.now c.loop-head.head-index 0 _ c.loop-head-test.true) c.loop-head.invariant
    (sym (at_head c.args.g.now c.args.rows.now c.args.members.now _ c.index-rows-head.result c.index-members-head.result c.as_slice.result.now inside
    c.requires.len c.index-rows-head.is c.index-members-head.is c.as_slice.ensures) ∙ c.in-Ok.ensures)
    ∙ ap Some (sym c.in_ok-push-in-Ok.ensures.ok)
