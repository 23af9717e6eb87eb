use Rattle.std.proofs.Common.{refl}
use Rattle.svg_text.proofs.Steps.{prints_no_text, no_stroke}
use Rattle.svg_text.proofs.scene_text.put_stroke.Goals as goal

pub returns-in-Words-default : goal.returns-in-Words-default
returns-in-Words-default g c = prints_no_text c.args.out.now c.args.page.now _ (rw c.in-Words-default.is-0 refl)

pub returns-in_default-None : goal.returns-in_default-None
returns-in_default-None g c =
    prints_no_text c.args.out.now c.args.page.now _
    (rw c.in_default-None.is-1 (no_stroke c.args.item.now.shape c.args.item.now.stroke_width))
