use Rattle.mark_encode.specs.Rects.{rect_for}
use Rattle.mark_encode.proofs.shapes.of_rect.Goals as goal

pub returns : goal.returns
returns c = λ i. rect_for (c.in_ok-rect.ensures.across i) (c.in_ok-rect.ensures.down i)
