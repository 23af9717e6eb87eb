use Rattle.std.proofs.Common.{◌++◌, length, arith, ap, ◌∙◌}
use Rattle.plain_engine.specs.inner.Edits.{edited}
use Rattle.plain_engine.specs.inner.Undo.{marked, restored}
use Rattle.plain_engine.proofs.SettleLemmas.{marks_restore, marks_count}
use Rattle.plain_engine.proofs.placing.commit.Goals as goal

pub invariant_of-result : goal.invariant_of-result
invariant_of-result c =
    let rows = c.into_vec-old.ensures ∙ c.replace.ensures.value in
    let marks = c.from_vec-2.ensures ∙ c.settle.ensures.marks
    ∙ (λ i. c.in_ok-marks.ensures.items i ++ marked (c.into_vec.ensures i) (rows i)) in
    let count = ap length marks ∙ marks_count c.args.edits c.args.rows.now c.requires in
    let room = c.in_ok-spare.ensures.exact ∙ c.len-4.ensures in
    record { room = omega (arith, count, room) }

pub returns-clause-back : goal.returns-clause-back
returns-clause-back c =
    let old = c.into_vec-old.ensures ∙ c.replace.ensures.value in
    let marks = c.from_vec-2.ensures ∙ c.settle.ensures.marks
    ∙ (λ i. c.in_ok-marks.ensures.items i ++ marked (c.into_vec.ensures i) (old i)) in
    let rows = c.from_vec.ensures ∙ c.add_all.ensures ∙ (λ i. c.settle.ensures.rows i ++ c.into_vec-2.ensures i)
    ∙ (λ i. (c.in_ok-kept.ensures.items i ++ edited (c.into_vec.ensures i) (old i)) ++ c.args.more) in
    (λ i. restored (marks i) (rows i)) ∙ marks_restore c.args.edits c.args.rows.now c.args.more c.requires
