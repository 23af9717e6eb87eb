use Rattle.std.proofs.Common.{◌≡◌, drop}
use Rattle.vega_copies.specs.inner.Alike.{is_one_of}
use Rattle.vega_copies.proofs.alike.is_one_of.Given as goal

abbrev pub invariant-loop-other : goal.invariant-loop-other
invariant-loop-other l = is_one_of (drop l.other-index l.names) l.name ≡ is_one_of l.names l.name
