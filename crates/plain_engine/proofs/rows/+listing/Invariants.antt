use Rattle.std.proofs.Common.{◌≡◌, ◌++◌, map, drop}
use Rattle.vega_spec.specs.declared.spec.VgMark.{out-VgMark}
use Rattle.vega_copies.specs.inner.Made.{levels_behind}
use Rattle.vega_copies.specs.inner.Outlined.{marks_of}
use Rattle.plain_engine.specs.inner.Rows.{entries_of, entries_of_copies, seen}
use Rattle.plain_engine.proofs.RowLemmas.{EntriesLeft}
use Rattle.plain_engine.proofs.rows.+listing.Given as goal

abbrev pub invariant-push_inside-loop-mark : goal.invariant-push_inside-loop-mark
invariant-push_inside-loop-mark l =
    EntriesLeft l.names (map seen l.initial.out ++ entries_of l.names.sources.now l.first (marks_of l.marks) (levels_behind l.names.levels.now) l.made)
    (drop l.mark-index l.marks) (drop l.at l.made) l.unit (map seen l.out)

abbrev pub invariant-push_copies-loop-copy : goal.invariant-push_copies-loop-copy
invariant-push_copies-loop-copy l =
    map seen l.out
    ++ entries_of_copies l.names.sources.now l.unit (out-VgMark l.mark) (levels_behind l.names.levels.now) (drop l.copy-index l.copies)
    ≡ map seen l.initial.out ++ entries_of_copies l.names.sources.now l.unit (out-VgMark l.mark) (levels_behind l.names.levels.now) l.copies
