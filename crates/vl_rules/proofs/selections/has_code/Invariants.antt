use Rattle.std.proofs.Common.{◌≡◌, ◌==◌, drop}
use Rattle.std.specs.List.{list_any}
use Rattle.vl_rules.proofs.selections.has_code.Given as goal

abbrev pub invariant-loop-c : goal.invariant-loop-c
invariant-loop-c l =
    list_any (λ c. c == l.code) (drop l.c-index l.codes) ≡ list_any (λ c. c == l.code) l.codes
