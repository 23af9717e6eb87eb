use Rattle.std.proofs.Common.{Some, sym, ap, ◌∙◌}
use Rattle.cell_value.specs.Datum.{cell_at}
use Rattle.mark_encode.specs.inner.Scaled.{scaled_all}
use Rattle.mark_encode.proofs.FixedLemmas.{color_is}
use Rattle.mark_encode.proofs.colors.paint_shown.Goals as goal

pub returns-in_ok-once_more-in-Some : goal.returns-in_ok-once_more-in-Some
returns-in_ok-once_more-in-Some g c =
    color_is (cell_at c.args.row.now) (g.P.ParamReader.values c.args.params.now) (scaled_all c.args.colors.now.values) _
    (sym c.args.colors.now.kept ∙ c.in-Some.is) ∙ ap Some (sym c.in_ok-once_more-in-Some.ensures)
