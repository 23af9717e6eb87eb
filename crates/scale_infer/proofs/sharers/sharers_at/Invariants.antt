use Rattle.std.proofs.Common.{◌≡◌, ◌++◌, drop, map}
use Rattle.std.specs.List.{filter_map}
use Rattle.vl_compose.specs.Shown.{unit_shown}
use Rattle.scale_infer.specs.Scales.{sharer_at}
use Rattle.scale_infer.proofs.sharers.sharers_at.Given as goal

abbrev pub invariant-loop-number : goal.invariant-loop-number
invariant-loop-number l = l.sharers ++ filter_map (sharer_at (map unit_shown l.units) l.channel) (drop l.number-index l.numbers)
    ≡ filter_map (sharer_at (map unit_shown l.units) l.channel) l.numbers
