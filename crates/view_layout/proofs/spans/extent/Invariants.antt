use Rattle.std.proofs.Common.{◌≡◌, take}
use Rattle.view_layout.proofs.spans.extent.Given as goal
use Rattle.view_layout.proofs.GridLemmas.{reach}

abbrev pub invariant-loop-span : goal.invariant-loop-span
invariant-loop-span l = l.end ≡ reach l.gap l.initial.end (take l.span-index l.others)
