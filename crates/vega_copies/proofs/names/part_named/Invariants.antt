use Rattle.std.proofs.Common.{◌≡◌, drop}
use Rattle.vega_copies.specs.inner.Levels.{part_named}
use Rattle.vega_copies.proofs.names.part_named.Given as goal

abbrev pub invariant-loop-part : goal.invariant-loop-part
invariant-loop-part l = part_named (drop l.part-index l.parts) l.name ≡ part_named l.parts l.name
