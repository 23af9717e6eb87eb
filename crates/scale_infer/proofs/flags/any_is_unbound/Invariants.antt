use Rattle.std.proofs.Common.{◌≡◌, drop}
use Rattle.std.specs.List.{list_any}
use Rattle.scale_infer.specs.Said.{is_unbound}
use Rattle.scale_infer.proofs.flags.any_is_unbound.Given as goal

abbrev pub invariant-loop-one : goal.invariant-loop-one
invariant-loop-one l = list_any is_unbound (drop l.one-index l.said) ≡ list_any is_unbound l.said
