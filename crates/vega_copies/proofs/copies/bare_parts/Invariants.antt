use Rattle.std.proofs.Common.{◌≡◌, ◌++◌, map, zip, drop}
use Rattle.vega_copies.specs.inner.Counted.{bare_named}
use Rattle.vega_copies.proofs.copies.bare_parts.Given as goal

abbrev pub invariant-loop-at : goal.invariant-loop-at
invariant-loop-at l = l.parts ++ map bare_named (drop l.at (zip l.names l.lists)) ≡ map bare_named (zip l.names l.lists)
