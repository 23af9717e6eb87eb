use Rattle.std.proofs.Common.{◌≡◌, take}
use Rattle.vega_parts.specs.Selections.{texts_of}
use Rattle.vega_parts.proofs.selections.texts_of.Given as goal

abbrev pub invariant-loop-item : goal.invariant-loop-item
invariant-loop-item l = l.out ≡ texts_of (take l.item-index l.items)
