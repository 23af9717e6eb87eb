use Rattle.std.proofs.Common.{[]}
use Rattle.svg_text.proofs.Steps.{prints_nothing, prints_more}
use Rattle.svg_text.proofs.page.put.Goals as goal

pub returns-then-has_room : goal.returns-then-has_room
returns-then-has_room g c =
    rw c.add.ensures (prints_more {text = []} c.args.bytes.now (prints_nothing c.args.out.now c.args.page.now _))
