use Rattle.std.proofs.Common.{arith, length, ◌-◌, length-take, length-drop}
use Rattle.svg_text.proofs.Steps.{prints_nothing, prints_piece, prints_some}
use Rattle.svg_text.proofs.page.put_parts.Goals as goal

pub loop-at-init : goal.loop-at-init
loop-at-init g c = record { within = omega arith; printed = prints_nothing c.args.out.now c.args.page.now _ }

pub returns-in_err-make_room : goal.returns-in_err-make_room
returns-in_err-make_room g c =
    prints_some c.args.bytes.now c.loop-at.at c.from_residual.ensures.0 c.loop-at.invariant.printed c.in_err-make_room.ensures.prints

pub loop-at-preserved : goal.loop-at-preserved
loop-at-preserved g c =
    let bytes = c.args.bytes.now in
    let room = length bytes - c.loop-at.at in
    let count = simp (length-take, length-drop) at c.fill-at.ensures.count in
    record {
      within = omega (arith, count, c.loop-at-test.true);
      printed = rw c.fill-at.ensures.filled (prints_piece bytes c.loop-at.at c.fill-at.result room (omega (arith, count))
          c.loop-at.invariant.printed c.in_ok-make_room.ensures.prints);
    }
