use Rattle.std.proofs.Common.{◌≡◌, ◌++◌, ◌+◌, ◌≤◌, drop, length, map, zip}
use Rattle.std.specs.Vec.Iter.{into_iter_items}
use Rattle.chart_opening.specs.Opening.{count_rows, sources_from}
use Rattle.chart_opening.proofs.states.sources_with.Given as goal

abbrev pub invariant-loop-of_source : goal.invariant-loop-of_source
invariant-loop-of_source l =
    (l.sources ++ sources_from l.first (zip (map (λ s. s.now) (drop l.index l.sets)) (into_iter_items l.of_source-iterator))
    ≡ sources_from 1 (zip (map (λ s. s.now) l.sets) l.fn.rows))
    × (l.first + count_rows (into_iter_items l.of_source-iterator) ≤ 200001)
    × (l.index + length (into_iter_items l.of_source-iterator) ≡ length l.sets)
