use Rattle.std.proofs.Common.{refl}
use Rattle.std.proofs.Common.{◌++◌, append_assoc, sym}
use Rattle.svg_text.specs.SceneText.{stroke_text, opacity_text}
use Rattle.svg_text.proofs.Steps.{prints_begun, prints_then}
use Rattle.svg_text.proofs.scene_text.put_paint.Goals as goal

pub returns-in_err-put_fill : goal.returns-in_err-put_fill
returns-in_err-put_fill g c = let item =
    c.args.item.now in prints_begun (stroke_text item.shape item.stroke item.stroke_width ++ opacity_text item.opacity) _
    (sym (append_assoc _ (stroke_text item.shape item.stroke item.stroke_width) (opacity_text item.opacity))) c.from_residual.ensures.0
    c.in_err-put_fill.ensures

pub returns-in_err-put_stroke : goal.returns-in_err-put_stroke
returns-in_err-put_stroke g c =
    prints_begun (opacity_text c.args.item.now.opacity) _ refl c.from_residual-in_err-put_stroke.ensures.0
    (prints_then c.in_ok-put_fill.ensures c.in_err-put_stroke.ensures)

pub returns : goal.returns
returns g c = prints_then (prints_then c.in_ok-put_fill.ensures c.in_ok-put_stroke.ensures) c.put_opacity.ensures
