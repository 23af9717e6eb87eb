use Rattle.std.proofs.Common.{◌≡◌, drop}
use Rattle.vega_assemble.specs.Drags.{is_copied}
use Rattle.vega_assemble.proofs.drags.is_copied.Given as goal

abbrev pub invariant-loop-s : goal.invariant-loop-s
invariant-loop-s l =
    is_copied (drop l.s-index l.selections) l.number ≡ is_copied l.selections l.number
