use Rattle.std.proofs.Common.{map, take}
use Rattle.std.specs.List.{AllZip}
use Rattle.cell_value.specs.Datum.{datum_of}
use Rattle.plain_windows.specs.inner.Aids.{AreAids}
use Rattle.plain_windows.proofs.aids.all_aids.Given as goal

abbrev pub invariant-loop-list : goal.invariant-loop-list
invariant-loop-list l = AllZip (AreAids l.w (map datum_of l.rows)) (take l.list-index l.lists) l.aids
