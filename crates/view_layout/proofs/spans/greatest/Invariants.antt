use Rattle.std.proofs.Common.{◌≡◌, drop}
use Rattle.std.specs.Prelude.{fold}
use Rattle.view_layout.specs.Grid.{larger, greatest}
use Rattle.view_layout.proofs.spans.greatest.Given as goal

abbrev pub invariant-loop-span : goal.invariant-loop-span
invariant-loop-span l = fold larger l.found (drop l.span-index l.spans) ≡ greatest l.spans
