use Rattle.std.proofs.Common.{false, sym, refl, ◌∙◌}
use Rattle.cell_value.specs.Datum.{cell_at}
use Rattle.mark_encode.specs.inner.Scaled.{scaled_all}
use Rattle.mark_encode.specs.inner.Fixed.{fixed_number}
use Rattle.mark_encode.proofs.FixedLemmas.{size_is}
use Rattle.mark_encode.proofs.numbers.size_for.Goals as goal

pub returns-in-Some : goal.returns-in-Some
returns-in-Some g c =
    size_is (cell_at c.args.row.now) (g.P.ParamReader.values c.args.params.now) (scaled_all c.args.sizes.now.values)
    (fixed_number false (scaled_all c.args.sizes.now.values)) c.in-Some.size refl (sym c.args.sizes.now.kept ∙ c.in-Some.is)
