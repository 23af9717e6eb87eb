use Rattle.std.proofs.Common.{◌+◌, ◌-◌, ◌/◌, ◌∙◌, sym, map, arith}
use Rattle.cell_value.specs.Datum.{datum_of}
use Rattle.plain_windows.proofs.PeerLemmas.{behind_middle, before_middle}
use Rattle.plain_windows.proofs.peers.nearer.Goals as goal

pub returns-then-branch-clause-between : goal.returns-then-branch-clause-between
returns-then-branch-clause-between c =
    behind_middle c.args.sort.now (map datum_of c.args.rows.now) c.args.places.now c.requires.listed c.args.through
    (datum_of c.args.x.now) c.args.between.0 c.args.between.1 (c.args.between.0 + (c.args.between.1 - c.args.between.0) / 2)
    (datum_of c.row_at.result.now) c.row_at.ensures.row (omega arith) (omega (arith, c.requires.apart)) c.requires.between
    (sym c.in_ok-in_front.ensures ∙ c.if-branch.true)

pub returns-else-branch-clause-between : goal.returns-else-branch-clause-between
returns-else-branch-clause-between c =
    before_middle c.args.sort.now (map datum_of c.args.rows.now) c.args.places.now c.requires.listed c.args.through
    (datum_of c.args.x.now) c.args.between.0 c.args.between.1 (c.args.between.0 + (c.args.between.1 - c.args.between.0) / 2)
    (datum_of c.row_at.result.now) c.row_at.ensures.row (omega arith) (omega (arith, c.requires.apart)) c.requires.between
    (sym c.in_ok-in_front.ensures ∙ c.if-branch.false)
