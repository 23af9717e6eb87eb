use Rattle.std.proofs.Common.{◌≡◌, drop}
use Rattle.mark_encode.specs.Values.{first_met}
use Rattle.mark_encode.specs.inner.Scaled.{scaled_all}
use Rattle.mark_encode.proofs.values.first_met_over.Given as goal

abbrev pub invariant-loop-value : goal.invariant-loop-value
invariant-loop-value g l =
    first_met (g.R.RowReader.cells l.row) (g.P.ParamReader.values l.params) (scaled_all (drop l.value-index l.values))
    ≡ first_met (g.R.RowReader.cells l.row) (g.P.ParamReader.values l.params) (scaled_all l.values)
