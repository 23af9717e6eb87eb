use Rattle.std.proofs.Common.{◌≡◌, ◌++◌, drop}
use Rattle.std.specs.List.{flat_map}
use Rattle.unit_plan.specs.Branches.{branches_of}
use Rattle.unit_plan.specs.inner.Lent.{branches_shown}
use Rattle.unit_plan.proofs.branches.push_several.Given as goal

abbrev pub invariant-loop-channel : goal.invariant-loop-channel
invariant-loop-channel l =
    branches_shown l.out ++ flat_map branches_of (drop l.channel-index l.channels) ≡ branches_shown l.fn.out ++ flat_map branches_of l.channels
