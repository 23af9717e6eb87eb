use Rattle.std.proofs.Common.{map, sym, subst, arith}
use Rattle.std.proofs.lemmas.List.{length-map}
use Rattle.std.specs.List.{AllZip}
use Rattle.cell_value.specs.Datum.{datum_of}
use Rattle.plain_windows.specs.inner.Aids.{AreAids}
use Rattle.plain_windows.proofs.WindowLemmas.{are_seen}
use Rattle.plain_windows.proofs.windows.by_partitions.Goals as goal

pub windowed_rows-requires-clause-seen : goal.windowed_rows-requires-clause-seen
windowed_rows-requires-clause-seen c =
    let rows = c.args.rows.now in
    let seen = map datum_of rows in
    are_seen c.args.w.now seen c.args.lists.now c.args.homes.now c.args.ranks.now c.requires.partitions
    (omega (arith, c.requires.rows.few, length-map rows datum_of, length-map rows (λ keyed. keyed.key))) c.as_slice.result.now
    (subst (AllZip (AreAids c.args.w.now seen) c.args.lists.now) (sym c.as_slice.ensures) c.in_ok-aids.ensures)
