use Rattle.std.proofs.Common.{refl}
use Rattle.svg_text.proofs.Steps.{prints_no_text}
use Rattle.svg_text.proofs.scene_text.put_fill.Goals as goal

pub returns-in-Line-default : goal.returns-in-Line-default
returns-in-Line-default g c = prints_no_text c.args.out.now c.args.page.now _ (rw c.in-Line-default.is-0 refl)
