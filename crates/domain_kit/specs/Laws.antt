-- What holds of domains whose numbers and cells are counted.
use Rattle.std.specs.Prelude.{◌≡◌, ℕ, ℤ, Option, List, ◌++◌, map}
use Rattle.std.specs.List.{list_any}
use Rattle.std.specs.Option.{option_map}
use Rattle.std.specs.Ordering.{int_eq}
use Rattle.fixed_num.specs.Ranges.{all_found}
use Rattle.cell_value.specs.declared.cell.Cell.{Cell}
use Rattle.cell_value.specs.Cell.{cell_cmp, same_cells}
use Rattle.tick_kit.specs.Domains.{ascending, extent_of}
use Rattle.plain_groups.specs.Aggregates.{aggregate_of}
use Rattle.domain_kit.specs.declared.keyed.Entry.{Entry}
use Rattle.domain_kit.specs.Cells.{in_first_order}
use Rattle.domain_kit.specs.Counting.{ends_of, extent_between}
use Rattle.domain_kit.specs.Orders.{entry, keys_of, values_under, all_ranked}

-- the same numbers, in whatever order and however often each
abbrev pub AreSameNumbers : List ℤ → List ℤ → Type 0
AreSameNumbers ms ns = (n : ℤ) → list_any (int_eq n) ms ≡ list_any (int_eq n) ns

-- the same cells likewise
abbrev pub AreSameCells : List Cell → List Cell → Type 0
AreSameCells cs ds = (c : Cell) → list_any (same_cells c) cs ≡ list_any (same_cells c) ds

-- numbers have the extent between their ends
abbrev pub EndsGiveTheExtent : Type 0
EndsGiveTheExtent = (ns : List ℤ) → extent_between (ends_of ns) ≡ extent_of ns

-- the same numbers have the same ends
abbrev pub SameNumbersEndAlike : Type 0
SameNumbersEndAlike = (ms ns : List ℤ) → AreSameNumbers ms ns → ends_of ms ≡ ends_of ns

-- the same cells stand alike in their order
abbrev pub SameCellsStandAlike : Type 0
SameCellsStandAlike = (cs ds : List Cell) → AreSameCells cs ds → ascending cell_cmp cs ≡ ascending cell_cmp ds

-- of lists one behind the other the distinct cells are those of the distinct cells of each
abbrev pub FirstsAreOfFirsts : Type 0
FirstsAreOfFirsts = (cs ds : List Cell) → in_first_order (in_first_order cs ++ in_first_order ds) ≡ in_first_order (cs ++ ds)

-- keys rank by what an operation gives over the values of each, however these and the keys are known
abbrev pub RanksAreByKeys : Type 0
RanksAreByKeys =
    (op : ℕ) (entries : List Entry) (keys : List Cell) (rank : Cell → Option Cell) → AreSameCells keys (keys_of entries)
    → ((key : Cell) → rank key ≡ aggregate_of op (values_under entries key))
    → all_found (map (λ key. option_map (λ r. entry r key) (rank key)) (ascending cell_cmp keys)) ≡ all_ranked op entries
