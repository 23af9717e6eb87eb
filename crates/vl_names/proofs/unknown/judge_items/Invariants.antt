use Rattle.std.proofs.Common.{◌≡◌, drop, map}
use Rattle.vl_trails.specs.Judging.{after}
use Rattle.vl_names.specs.Filters.{items_from}
use Rattle.vl_names.specs.Unknown.{transform_faults, transforms_faults}
use Rattle.vl_names.specs.inner.Looked.{known_shown}
use Rattle.vl_names.proofs.unknown.judge_items.Given as goal

abbrev pub invariant-loop-number : goal.invariant-loop-number
invariant-loop-number l =
    after l.j (items_from l.number (map (transform_faults (known_shown l.known)) (drop l.number l.transforms)) l.j.trail)
    ≡ after l.fn.j (transforms_faults (known_shown l.known) l.transforms l.fn.j.trail)
