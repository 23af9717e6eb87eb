use Rattle.mark_encode.specs.Symbols.{symbol_for}
use Rattle.mark_encode.proofs.shapes.of_symbol.Goals as goal

pub returns : goal.returns
returns c = λ i. symbol_for (c.in_ok-symbol.ensures i)
