use Rattle.std.proofs.Common.{◌≡◌, ◌++◌, drop, map}
use Rattle.cell_value.specs.declared.cell.Cell.TheVariants.{Number}
use Rattle.guide_kit.proofs.ticks.cells_of.Given as goal

abbrev pub invariant-loop-number : goal.invariant-loop-number
invariant-loop-number l = l.cells ++ map Number (drop l.number-index l.numbers) ≡ map Number l.numbers
