use Rattle.std.proofs.Common.{◌≡◌, map}
use Rattle.std.specs.List.{range_with_len}
use Rattle.domain_kit.specs.Entries.{ramp_entry}
use Rattle.domain_kit.proofs.entries.ramp_entries.Given as goal

abbrev pub invariant-loop-k : goal.invariant-loop-k
invariant-loop-k l = l.entries ≡ map (ramp_entry l.n) (range_with_len 0 l.k)
