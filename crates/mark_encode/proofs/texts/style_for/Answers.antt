use Rattle.std.proofs.Common.{false, sym, refl, ◌∙◌}
use Rattle.cell_value.specs.Datum.{cell_at}
use Rattle.mark_encode.specs.inner.Scaled.{scaled_all}
use Rattle.mark_encode.specs.inner.Fixed.{fixed_number, fixed_color}
use Rattle.mark_encode.proofs.FixedLemmas.{style_is}
use Rattle.mark_encode.proofs.texts.style_for.Goals as goal

pub returns-in-Some : goal.returns-in-Some
returns-in-Some g c =
    let sizes = scaled_all c.args.style.now.size in
    let aligns = scaled_all c.args.style.now.align in
    let baselines = scaled_all c.args.style.now.baseline in
    style_is (cell_at c.args.row.now) (g.P.ParamReader.values c.args.params.now) sizes aligns baselines
    (fixed_number false sizes) (fixed_color aligns) (fixed_color baselines) c.in-Some.found refl refl refl
    (sym c.args.style.now.kept ∙ c.in-Some.is)
