use Rattle.plain_rows.proofs.FoldLemmas.{branch_at}
use Rattle.plain_rows.proofs.folds.push_folded.Goals as goal

pub folded_row-requires-clause-branch : goal.folded_row-requires-clause-branch
folded_row-requires-clause-branch c =
    branch_at c.args.f.now c.args.row.now c.loop-at.at (rw c.as_slice-field-items.ensures at c.loop-at-test.true) c.requires.branches
