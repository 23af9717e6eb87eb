use Rattle.std.proofs.Common.{◌≡◌, drop}
use Rattle.std.specs.List.{list_any}
use Rattle.scale_infer.specs.Kinds.{says_ordinal}
use Rattle.scale_infer.proofs.kinds.any_says_ordinal.Given as goal

abbrev pub invariant-loop-one : goal.invariant-loop-one
invariant-loop-one l = list_any says_ordinal (drop l.one-index l.said) ≡ list_any says_ordinal l.said
