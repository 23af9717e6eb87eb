use Rattle.std.proofs.Common.{◌≡◌, ◌++◌, drop, map}
use Rattle.std.specs.Prelude.{filter}
use Rattle.vl_compose.specs.Sharing.{leads, group_at, groups_among}
use Rattle.vl_compose.proofs.groups.push_groups.Given as goal

abbrev pub invariant-loop-unit : goal.invariant-loop-unit
invariant-loop-unit l =
    l.groups ++ map (group_at l.code l.all) (filter (leads l.all) (drop l.unit-index l.all)) ≡ l.fn.groups ++ groups_among l.code l.all
