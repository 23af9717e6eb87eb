use Rattle.plain_rows.proofs.FoldLemmas.{folded_are_rows}
use Rattle.plain_rows.proofs.folds.fold.Goals as goal

pub returns-clause-rows : goal.returns-clause-rows
returns-clause-rows c =
    folded_are_rows c.args.f.now c.args.rows.now c.requires.rows c.requires.few c.folded_rows.result (rw c.as_slice.ensures at c.folded_rows.ensures)
