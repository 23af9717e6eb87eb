use Rattle.std.proofs.Common.{◌≡◌, drop}
use Rattle.chart_opening.specs.Schemas.{contains_text}
use Rattle.chart_opening.proofs.schemas.contains_text.Given as goal

abbrev pub invariant-loop-i : goal.invariant-loop-i
invariant-loop-i l = contains_text l.part (drop l.i l.text) ≡ contains_text l.part l.text
