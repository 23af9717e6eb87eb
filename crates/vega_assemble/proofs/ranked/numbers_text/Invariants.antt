use Rattle.std.proofs.Common.{◌≡◌, drop}
use Rattle.std.specs.List.{enumerate_from, fold}
use Rattle.vega_assemble.specs.Ranked.{numbers_text, with_number}
use Rattle.vega_assemble.proofs.ranked.numbers_text.Given as goal

abbrev pub invariant-loop-place : goal.invariant-loop-place
invariant-loop-place l =
    fold (with_number l.stem) l.e (enumerate_from l.place (drop l.place l.fields)) ≡ numbers_text l.stem l.fields
