use Rattle.std.proofs.Common.{◌≡◌, ◌+◌, ◌∙◌, ap, map, filter, length, get_or, arith, false}
use Rattle.cell_value.specs.Datum.{datum_of}
use Rattle.plain_groups.specs.Aggregates.{count_cell}
use Rattle.plain_orders.specs.Partitions.{datum_at, data_at}
use Rattle.plain_windows.specs.inner.Views.{in_front}
use Rattle.plain_windows.proofs.CellLemmas.{dense_is, count_within, count_small}
use Rattle.plain_windows.proofs.cells.dense_rank.Goals as goal

pub bounds-counted-below : goal.bounds-counted-below
bounds-counted-below c =
    count_within (map datum_of c.args.rows.now) c.args.places.now c.args.sort.now c.requires.listed c.args.counted.now c.requires.counted
    c.in_ok-below.below c.in_ok-below.ensures.within

pub overflow_add-counted : goal.overflow_add-counted
overflow_add-counted c =
    let small = count_small (map datum_of c.args.rows.now) c.args.places.now c.args.sort.now c.requires.listed c.args.counted.now
    c.requires.counted c.in_ok-below.below c.in_ok-below.ensures.within in omega (arith, small, c.requires.listed.few)

pub count_cell-requires : goal.count_cell-requires
count_cell-requires c =
    let small = count_small (map datum_of c.args.rows.now) c.args.places.now c.args.sort.now c.requires.listed c.args.counted.now
    c.requires.counted c.in_ok-below.below c.in_ok-below.ensures.within in omega (arith, small, c.requires.listed.few)

pub returns : goal.returns
returns c = λ frame op number.
    let seen = map datum_of c.args.rows.now in
    let all = data_at seen c.args.places.now in
    let sort = c.args.sort.now in
    let x = datum_at seen (get_or c.args.places.now c.args.rank 0) in
    let is : c.in_ok-below.below ≡ length (filter (in_front sort false x) all) =
    c.in_ok-below.ensures.value ∙ ap (λ x. length (filter (in_front sort false x) all)) c.row_at.ensures.row in
    c.count_cell.ensures
    ∙ ap (λ n. count_cell (n + 1)) (ap (λ l. get_or l c.in_ok-below.below 0) c.requires.counted
    ∙ dense_is seen c.args.places.now sort c.requires.listed x c.in_ok-below.below is c.in_ok-below.ensures.within)
