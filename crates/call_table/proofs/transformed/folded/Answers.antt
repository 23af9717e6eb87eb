use Rattle.call_table.proofs.FoldLemmas.{room, few_made, made_below}
use Rattle.call_table.proofs.transformed.folded.Goals as goal

pub fold-requires-clause-branches : goal.fold-requires-clause-branches
fold-requires-clause-branches c =
    room c.args.how.now c.args.rows.now c.args.most c.requires.branches (rw c.len-fields.ensures at c.if-fields-gt1000.false) c.if-most-gt1000.false

pub fold-requires-clause-few : goal.fold-requires-clause-few
fold-requires-clause-few c =
    few_made c.args.how.now c.args.rows.now (rw c.len-fields.ensures at c.if-fields-gt1000.false) (rw c.len.ensures at c.if-len-gt1000.false)

pub returns-clause-branches : goal.returns-clause-branches
returns-clause-branches c = made_below c.args.how.now c.args.rows.now c.args.most c.in_ok-fold.field-0 c.requires.branches c.in_ok-fold.ensures.made
