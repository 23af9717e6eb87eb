use Rattle.std.proofs.Common.{refl}
use Rattle.svg_text.specs.SceneText.{weight_text}
use Rattle.svg_text.proofs.Steps.{prints_begun, prints_same, prints_then}
use Rattle.svg_text.proofs.shapes.put_letters.Goals as goal

pub returns-in_err-put_font : goal.returns-in_err-put_font
returns-in_err-put_font g c = prints_begun (weight_text c.args.bold) _ (rw (c.anchor_word.ensures, c.pixels.ensures) refl)
    c.from_residual.ensures.0 c.in_err-put_font.ensures

pub returns : goal.returns
returns g c = prints_same (rw (c.anchor_word.ensures, c.pixels.ensures) refl) (prints_then c.in_ok-put_font.ensures c.put_weight.ensures)
