use Rattle.std.proofs.Common.{true, Some, sym, ap, ◌∙◌}
use Rattle.cell_value.specs.Datum.{cell_at}
use Rattle.mark_encode.specs.inner.Scaled.{scaled_all}
use Rattle.mark_encode.proofs.FixedLemmas.{number_is}
use Rattle.mark_encode.proofs.numbers.far_shown.Goals as goal

pub returns-in-Some : goal.returns-in-Some
returns-in-Some g c =
    number_is (cell_at c.args.row.now) (g.P.ParamReader.values c.args.params.now) true (scaled_all c.args.numbers.now.values) _
    (sym c.args.numbers.now.kept ∙ c.in-Some.is) ∙ ap Some (sym c.once_more.ensures)
