use Rattle.std.proofs.Common.{◌≡◌, ◌++◌, drop}
use Rattle.plain_rows.specs.Folds.{folded_of}
use Rattle.plain_rows.proofs.FoldLemmas.{made_from}
use Rattle.plain_rows.proofs.folds.push_folded.Given as goal

abbrev pub invariant-loop-at : goal.invariant-loop-at
invariant-loop-at l = l.out ++ made_from l.f l.row l.at (drop l.at l.f.fields) ≡ l.initial.out ++ folded_of l.f l.row
