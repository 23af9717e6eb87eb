use Rattle.std.proofs.Common.{◌≡◌, not, drop}
use Rattle.std.specs.List.{list_any}
use Rattle.vl_rules.specs.Selections.{spot_for}
use Rattle.vl_rules.specs.Standings.{same_home}
use Rattle.vl_rules.proofs.selections.differ_in_scale.Given as goal

abbrev pub invariant-loop-code : goal.invariant-loop-code
invariant-loop-code l =
    list_any (λ code. not (same_home (spot_for code l.a).home (spot_for code l.b).home)) (drop l.code-index l.codes)
    ≡ list_any (λ code. not (same_home (spot_for code l.a).home (spot_for code l.b).home)) l.codes
