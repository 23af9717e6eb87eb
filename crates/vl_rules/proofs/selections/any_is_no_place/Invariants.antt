use Rattle.std.proofs.Common.{◌≡◌, not, drop}
use Rattle.std.specs.List.{list_any}
use Rattle.vl_rules.specs.Selections.{is_place}
use Rattle.vl_rules.proofs.selections.any_is_no_place.Given as goal

abbrev pub invariant-loop-code : goal.invariant-loop-code
invariant-loop-code l =
    list_any (λ code. not (is_place code)) (drop l.code-index l.codes) ≡ list_any (λ code. not (is_place code)) l.codes
