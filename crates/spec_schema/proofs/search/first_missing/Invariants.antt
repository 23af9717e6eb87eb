use Rattle.std.proofs.Common.{◌≡◌, ◌+◌, length, drop, flat_map}
use Rattle.std.specs.List.{enumerate_from}
use Rattle.spec_schema.specs.Faults.{missing_fault, member_names, first}
use Rattle.spec_schema.proofs.search.first_missing.Given as goal

abbrev pub invariant-loop-number : goal.invariant-loop-number
invariant-loop-number l =
    first (flat_map (missing_fault (member_names l.members)) (enumerate_from (length l.members + l.number) (drop l.number l.rules))) ≡
    first (flat_map (missing_fault (member_names l.members)) (enumerate_from (length l.members) l.rules))
