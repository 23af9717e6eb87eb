use Rattle.std.proofs.Common.{◌≡◌, drop}
use Rattle.std.specs.Prelude.{◌==◌}
use Rattle.std.specs.List.{list_all}
use Rattle.vega_assemble.proofs.drags.are_all.Given as goal

abbrev pub invariant-loop-number : goal.invariant-loop-number
invariant-loop-number l =
    list_all (λ m. m == l.n) (drop l.number-index l.numbers) ≡ list_all (λ m. m == l.n) l.numbers
