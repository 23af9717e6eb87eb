use Rattle.std.proofs.Common.{[], lit≤, arith}
use Rattle.plain_rows.specs.Rows.{AreRows}
use Rattle.vega_lists.specs.Products.{no_folds}
use Rattle.vega_signal_tests.proofs.inner.values_inside.Goals as goal

-- no rows are rows
no_rows : AreRows []
no_rows = record {
  rise = λ i j key less below. absurd (omega (arith, below));
  small_ids = λ k key below. absurd (omega (arith, below));
  few = lit≤ tt;
}

pub own_values-requires-clause-lists : goal.own_values-requires-clause-lists
own_values-requires-clause-lists g c = λ name. no_rows

pub own_values-requires-clause-kept : goal.own_values-requires-clause-kept
own_values-requires-clause-kept g c = λ k set below. absurd (omega (arith, below))

pub own_values-requires-clause-folds : goal.own_values-requires-clause-folds
own_values-requires-clause-folds g c = (
  no_folds,
  (λ name. record {
    few = lit≤ tt;
    branches = λ k key below. absurd (omega (arith, below));
  }),
  tt,
)
