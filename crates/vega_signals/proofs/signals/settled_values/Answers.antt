use Rattle.std.proofs.Common.{sym, subst}
use Rattle.vega_lists.specs.Products.{FoldsFit, no_folds}
use Rattle.vega_lists.proofs.OuterLemmas.{none_fit}
use Rattle.vega_signals.proofs.RowLemmas.{no_rows}
use Rattle.vega_signals.proofs.signals.settled_values.Goals as goal

pub own_values-requires-clause-lists : goal.own_values-requires-clause-lists
own_values-requires-clause-lists g c = λ name. no_rows

pub own_values-requires-clause-folds : goal.own_values-requires-clause-folds
own_values-requires-clause-folds g c =
    (no_folds, (λ name. none_fit 1), subst (FoldsFit no_folds) (sym c.data_of-sets.ensures) c.requires.folds)
