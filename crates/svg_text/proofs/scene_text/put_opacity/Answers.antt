use Rattle.std.proofs.Common.{◌≡◌, pos, rules}
use Rattle.svg_text.proofs.Steps.{prints_no_text, opaque}
use Rattle.svg_text.proofs.scene_text.put_opacity.Goals as goal

pub returns-then-millionths-eq1000000 : goal.returns-then-millionths-eq1000000
returns-then-millionths-eq1000000 g c =
    prints_no_text c.args.out.now c.args.page.now _ (let e : c.args.opacity ≡ pos 1000000 = search rules in opaque c.args.opacity e)
