use Rattle.std.proofs.Common.{◌≡◌, ◌++◌, drop, map}
use Rattle.std.specs.List.{flat_map}
use Rattle.vl_compose.specs.Shown.{unit_shown}
use Rattle.vl_compose.specs.Sharing.{shared_by}
use Rattle.vl_compose.proofs.groups.push_all.Given as goal

abbrev pub invariant-loop-code : goal.invariant-loop-code
invariant-loop-code l = l.groups ++ flat_map (shared_by (map unit_shown l.units)) (drop l.code-index l.codes)
    ≡ l.fn.groups ++ flat_map (shared_by (map unit_shown l.units)) l.codes
