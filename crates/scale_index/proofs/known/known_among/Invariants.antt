use Rattle.std.proofs.Common.{take}
use Rattle.scale_index.specs.inner.Known.{AreKnown}
use Rattle.scale_index.proofs.known.known_among.Given as goal

abbrev pub invariant-loop-cell : goal.invariant-loop-cell
invariant-loop-cell l = AreKnown l.scale (take l.cell-index l.cells) l.known
