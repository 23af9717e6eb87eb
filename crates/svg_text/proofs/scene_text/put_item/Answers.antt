use Rattle.std.proofs.Common.{refl}
use Rattle.std.proofs.Common.{◌++◌, append_assoc, sym}
use Rattle.std.specs.Prelude.{codes}
use Rattle.svg_text.specs.SceneText.{shape_text, paint_text, end_text}
use Rattle.svg_text.proofs.Steps.{prints_begun, prints_then}
use Rattle.svg_text.proofs.scene_text.put_item.Goals as goal

pub returns-in_err-put_shape : goal.returns-in_err-put_shape
returns-in_err-put_shape g c =
    prints_begun (paint_text c.args.item.now ++ end_text c.args.item.now.shape) _
    (sym (append_assoc (codes "<" ++ shape_text c.args.item.now.shape) (paint_text c.args.item.now) (end_text c.args.item.now.shape)))
    c.from_residual.ensures.0 c.in_err-put_shape.ensures

pub returns-in_err-put_paint : goal.returns-in_err-put_paint
returns-in_err-put_paint g c =
    prints_begun (end_text c.args.item.now.shape) _ refl c.from_residual-in_err-put_paint.ensures.0
    (prints_then c.in_ok-put_shape.ensures c.in_err-put_paint.ensures)

pub returns : goal.returns
returns g c = prints_then (prints_then c.in_ok-put_shape.ensures c.in_ok-put_paint.ensures) c.put_end.ensures
