use Rattle.std.proofs.Common.{length, ap}
use Rattle.vega_lists.proofs.KeyLemmas.{small_branches, few_rows}
use Rattle.vega_lists.proofs.transforms.folded.Goals as goal

pub fold-requires-clause-branches : goal.fold-requires-clause-branches
fold-requires-clause-branches c =
    let (n, fits, most) = c.requires.folds in
    small_branches c.in_ok-how.how n (length c.args.f.now.fields) c.args.rows.now fits most (ap (λ how. length how.fields) c.in_ok-how.ensures)

pub fold-requires-clause-few : goal.fold-requires-clause-few
fold-requires-clause-few c =
    let (n, fits, most) = c.requires.folds in
    few_rows c.in_ok-how.how n (length c.args.f.now.fields) c.args.rows.now fits most (ap (λ how. length how.fields) c.in_ok-how.ensures)
