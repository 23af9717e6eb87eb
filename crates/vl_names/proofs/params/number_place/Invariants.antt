use Rattle.std.proofs.Common.{◌≡◌, ◌==◌, drop}
use Rattle.std.specs.List.{position_from}
use Rattle.vl_names.proofs.params.number_place.Given as goal

abbrev pub invariant-loop-place : goal.invariant-loop-place
invariant-loop-place l = position_from (λ n. n == l.number) l.place (drop l.place l.numbers) ≡ position_from (λ n. n == l.number) 0 l.numbers
