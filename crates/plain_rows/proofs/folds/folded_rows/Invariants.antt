use Rattle.std.proofs.Common.{◌≡◌, ◌++◌, drop}
use Rattle.plain_rows.specs.Folds.{folded}
use Rattle.plain_rows.proofs.folds.folded_rows.Given as goal

abbrev pub invariant-loop-row : goal.invariant-loop-row
invariant-loop-row l = l.out ++ folded l.f (drop l.row-index l.rows) ≡ folded l.f l.rows
