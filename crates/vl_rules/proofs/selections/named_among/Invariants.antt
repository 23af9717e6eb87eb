use Rattle.std.proofs.Common.{◌≡◌, ◌==◌, ◌++◌, drop}
use Rattle.std.specs.Prelude.{filter}
use Rattle.std.specs.List.{list_any}
use Rattle.vl_rules.proofs.selections.named_among.Given as goal

abbrev pub invariant-loop-code : goal.invariant-loop-code
invariant-loop-code l =
    l.out ++ filter (λ code. list_any (λ c. c == code) l.named) (drop l.code-index l.codes) ≡ filter (λ code. list_any (λ c. c == code) l.named) l.codes
