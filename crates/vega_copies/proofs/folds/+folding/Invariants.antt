use Rattle.std.proofs.Common.{◌≡◌, drop, map}
use Rattle.vega_copies.specs.Fitting.{folds_fit_in}
use Rattle.vega_copies.specs.inner.Outlined.{marks_of}
use Rattle.vega_copies.specs.inner.Tested.{products_at}
use Rattle.vega_copies.proofs.folds.+folding.Given as goal

abbrev pub invariant-folds_fit_in-loop-mark : goal.invariant-folds_fit_in-loop-mark
invariant-folds_fit_in-loop-mark l =
    let outer = products_at (map (λ level. level.now) l.outer) in
    folds_fit_in outer (marks_of (drop l.mark-index l.marks)) ≡ folds_fit_in outer (marks_of l.marks)
