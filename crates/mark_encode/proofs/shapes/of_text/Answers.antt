use Rattle.mark_encode.specs.Texts.{text_for}
use Rattle.mark_encode.proofs.shapes.of_text.Goals as goal

pub returns : goal.returns
returns c = λ i. text_for (c.in_ok-text.ensures i)
