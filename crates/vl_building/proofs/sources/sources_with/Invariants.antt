use Rattle.std.proofs.Common.{◌≡◌, ◌++◌, drop}
use Rattle.std.specs.List.{enumerate_from, filter_map}
use Rattle.vl_building.specs.Sources.{source_at, sources_with}
use Rattle.vl_building.specs.inner.Finding.{found_by}
use Rattle.vl_building.proofs.sources.sources_with.Given as goal

abbrev pub invariant-loop-number : goal.invariant-loop-number
invariant-loop-number l =
    l.out ++ filter_map (source_at (found_by l.finders l.datasets l.all)) (enumerate_from l.number (drop l.number l.all))
    ≡ sources_with (found_by l.finders l.datasets l.all) l.all
