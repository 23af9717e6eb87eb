use Rattle.std.proofs.Common.{◌≡◌, map, take}
use Rattle.cell_value.specs.declared.cell.Cell.TheVariants.{Text}
use Rattle.domain_kit.proofs.entries.texts.Given as goal

abbrev pub invariant-loop-word : goal.invariant-loop-word
invariant-loop-word l = l.cells ≡ map (λ word. Text word.now) (take l.word-index l.words)
