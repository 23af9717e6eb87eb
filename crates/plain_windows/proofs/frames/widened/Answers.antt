use Rattle.std.proofs.Common.{map, arith}
use Rattle.cell_value.specs.Datum.{datum_of}
use Rattle.plain_windows.proofs.PeerLemmas.{some_widened}
use Rattle.plain_windows.proofs.frames.widened.Goals as goal

pub returns-clause-frame : goal.returns-clause-frame
returns-clause-frame c =
    some_widened c.args.sort.now (map datum_of c.args.rows.now) c.args.places.now c.requires.listed c.args.frame c.requires.within
    (omega (arith, c.if-frame.false)) (datum_of c.row_at-first.result.now) (datum_of c.row_at-last.result.now) _
    c.row_at-first.ensures.row c.row_at-last.ensures.row c.in_ok-front.ensures.value c.in_ok-front-2.ensures.value
