use Rattle.std.proofs.Common.{◌≡◌, ◌++◌, [], take, drop}
use Rattle.vega_parts.specs.Selections.{entries_parts}
use Rattle.vega_parts.proofs.selections.push_entries_parts.Given as goal

abbrev pub invariant-loop-i : goal.invariant-loop-i
invariant-loop-i l =
    l.out ++ entries_parts l.concerned (take l.i l.entries) (drop l.i l.entries)
    ≡ l.initial.out ++ entries_parts l.concerned [] l.entries
