use Rattle.std.proofs.Common.{refl}
use Rattle.svg_text.specs.SceneText.{letters_text}
use Rattle.svg_text.proofs.Steps.{prints_begun}
use Rattle.svg_text.proofs.shapes.put_words.Goals as goal

pub returns-in_err-put_start : goal.returns-in_err-put_start
returns-in_err-put_start g c =
    prints_begun (letters_text c.args.anchor c.args.size c.args.bold) _ refl c.from_residual.ensures.0 c.in_err-put_start.ensures
