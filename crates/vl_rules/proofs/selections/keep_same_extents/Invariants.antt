use Rattle.std.proofs.Common.{◌≡◌, drop}
use Rattle.vl_rules.specs.Selections.{keep_same_extents}
use Rattle.vl_rules.proofs.selections.keep_same_extents.Given as goal

abbrev pub invariant-loop-code : goal.invariant-loop-code
invariant-loop-code l =
    keep_same_extents (drop l.code-index l.codes) l.a l.b ≡ keep_same_extents l.codes l.a l.b
