use Rattle.std.proofs.Common.{sym, refl, ◌∙◌}
use Rattle.cell_value.specs.Datum.{cell_at}
use Rattle.mark_shapes.specs.Symbols.{symbol_of}
use Rattle.mark_encode.specs.inner.Scaled.{scaled_all}
use Rattle.mark_encode.specs.inner.Fixed.{fixed_color}
use Rattle.mark_encode.proofs.FixedLemmas.{made_of_color}
use Rattle.mark_encode.proofs.colors.form_for.Goals as goal

pub returns-in-Some : goal.returns-in-Some
returns-in-Some g c =
    made_of_color (cell_at c.args.row.now) (g.P.ParamReader.values c.args.params.now) symbol_of (scaled_all c.args.forms.now.values)
    (fixed_color (scaled_all c.args.forms.now.values)) c.in-Some.form refl (sym c.args.forms.now.kept ∙ c.in-Some.is)
