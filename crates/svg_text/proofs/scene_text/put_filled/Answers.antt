use Rattle.std.proofs.Common.{◌++◌, append_assoc, sym}
use Rattle.std.specs.Prelude.{codes}
use Rattle.svg_text.specs.SceneText.{xml_text}
use Rattle.svg_text.proofs.Steps.{prints_begun, prints_same, prints_then}
use Rattle.svg_text.proofs.scene_text.put_filled.Goals as goal

pub returns-in_err-put_text : goal.returns-in_err-put_text
returns-in_err-put_text g c =
    prints_begun (xml_text c.args.fill.now ++ codes "\"") _ (sym (append_assoc (codes " fill=\"") (xml_text c.args.fill.now) (codes "\"")))
    c.from_residual.ensures.0 c.in_err-put_text.ensures

pub returns : goal.returns
returns g c =
    prints_same (sym (append_assoc (codes " fill=\"") (xml_text c.args.fill.now) (codes "\"")))
    (prints_then c.in_ok-put_text.ensures c.put_quoted.ensures)
