use Rattle.std.proofs.Common.{refl, [], ◌∷◌, ◌++◌}
use Rattle.svg_text.specs.SceneText.{path_text}
use Rattle.svg_text.proofs.Steps.{prints_begun, prints_then}
use Rattle.svg_text.proofs.shapes.put_path.Goals as goal

pub returns-in_err-put_text : goal.returns-in_err-put_text
returns-in_err-put_text g c = prints_begun (path_text c.args.points.now ++ 34 ∷ []) _ refl c.from_residual.ensures.0
    c.in_err-put_text.ensures

pub returns-in_err-put_points : goal.returns-in_err-put_points
returns-in_err-put_points g c =
    prints_begun (34 ∷ []) _ refl c.from_residual-in_err-put_points.ensures.0
    (prints_then c.in_ok-put_text.ensures c.in_err-put_points.ensures)
