use Rattle.std.proofs.Common.{refl}
use Rattle.std.proofs.Common.{◌++◌, append_assoc, sym}
use Rattle.std.specs.Prelude.{codes}
use Rattle.std.specs.List.{flat_map}
use Rattle.svg_text.specs.SceneText.{panel_text, head_text}
use Rattle.svg_text.proofs.Steps.{prints_begun, prints_same, prints_then}
use Rattle.svg_text.proofs.scene_text.put_scene.Goals as goal

pub returns-in_err-put_head : goal.returns-in_err-put_head
returns-in_err-put_head g c = prints_begun (flat_map panel_text c.args.scene.now.panels ++ codes "</svg>\n") _
    (sym (append_assoc (head_text c.args.scene.now.width c.args.scene.now.height) (flat_map panel_text c.args.scene.now.panels)
    (codes "</svg>\n"))) c.from_residual.ensures.0 c.in_err-put_head.ensures

pub returns-in_err-put_panels : goal.returns-in_err-put_panels
returns-in_err-put_panels g c =
    prints_begun (codes "</svg>\n") _ (rw c.as_slice.ensures refl) c.from_residual-in_err-put_panels.ensures.0
    (prints_then c.in_ok-put_head.ensures c.in_err-put_panels.ensures)

pub returns : goal.returns
returns g c = prints_same (rw c.as_slice.ensures refl) (prints_then (prints_then c.in_ok-put_head.ensures c.in_ok-put_panels.ensures)
    c.put_text.ensures)
