use Rattle.std.proofs.Common.{◌≡◌, drop}
use Rattle.scale_infer.specs.Said.{first_given}
use Rattle.scale_infer.specs.Kinds.{place_kind}
use Rattle.scale_infer.proofs.kinds.first_place_kind.Given as goal

abbrev pub invariant-loop-one : goal.invariant-loop-one
invariant-loop-one l = first_given place_kind (drop l.one-index l.said) ≡ first_given place_kind l.said
