-- Groups.
use Rattle.std.proofs.Common.{◌≡◌, ℕ, ◌+◌, ◌<◌, Bool, true, false, cond, not, List, [], ◌∷◌, length, map, get_or, Option, Some, refl, sym, ap, ap₂, ◌∙◌, arith}
use Rattle.std.proofs.lemmas.List.{get_or_default, length-map}
use Rattle.std.specs.Option.{option_map}
use Rattle.cell_value.specs.declared.state.Keyed.{Keyed}
use Rattle.cell_value.specs.Datum.{cell_at}
use Rattle.fixed_num.specs.Ranges.{all_found}
use Rattle.plain_rows.specs.declared.transforms.GroupOf.{GroupOf}
use Rattle.plain_rows.proofs.Lists.{seen_twice}
use Rattle.plain_groups.specs.Groups.{alike, group_of}
use Rattle.plain_groups.specs.GroupRows.{op_cells, group_row, aggregated}
use Rattle.plain_groups.specs.inner.Places.{key_cells, leaders, leader_of, heads_from, members_from, rows_at}
use Rattle.plain_groups.specs.inner.GroupPlaces.{group_at}
use Rattle.plain_groups.proofs.PlaceLemmas.{alike_keys}
use Rattle.plain_groups.proofs.MemberLemmas.{heads_first, group_led}
use Rattle.std.specs.Prelude.{count_by}
use Rattle.std.proofs.lemmas.List.Sums.{sum_by-cons}
use Rattle.cell_value.specs.Cell.{same_cells}
use Rattle.std.specs.Option.{option_map_or}
use Rattle.std.proofs.lemmas.Option.{slice_get_past}
use Rattle.cell_value.specs.declared.cell.Cell.{Cell}
use Rattle.cell_value.specs.declared.cell.Cell.TheVariants.{Null}
use Rattle.plain_groups.specs.Aggregates.{aggregates, aggregate_of}

-- no aggregate has a code past the table
pub no_aggregate : (op : ℕ) (cells : List Cell) → 11 < op → aggregate_of op cells ≡ Some Null
unfolding aggregates
no_aggregate op cells h =
    ap (λ (entry : Option (List ℕ × (List Cell → Option Cell))). option_map_or (λ e. e.1 cells) entry (Some Null))
    (slice_get_past aggregates op (omega arith))

-- each cell is null or isn't
pub count_both : (cells : List Cell) → count_by (λ cell. not (same_cells cell Null)) cells + count_by (λ cell. same_cells cell Null) cells ≡ length cells
count_both [] = refl
count_both (cell ∷ cells) =
    omega (
      arith,
      sum_by-cons (λ c. cond (not (same_cells c Null)) 1 0) cell cells,
      sum_by-cons (λ c. cond (same_cells c Null) 1 0) cell cells,
      count_both cells,
      one_of (same_cells cell Null),
    )
  where
    one_of : (b : Bool) → cond (not b) 1 0 + cond b 1 0 ≡ 1
    one_of true = refl
    one_of false = refl

pub leaders_long : (f : Keyed → List Cell) (rows : List Keyed) → length (leaders (map f rows)) ≡ length rows
leaders_long f rows = length-map (map f rows) (leader_of (map f rows)) ∙ length-map rows f

-- what is computed at a head
pub at_head : (g : GroupOf) (rows : List Keyed) (members : List (List ℕ)) (head : ℕ) (first : Keyed) (list places : List ℕ)
    → head < length rows → length members ≡ length rows
    → first ≡ get_or rows head first → list ≡ get_or members head list → places ≡ list
    → option_map (group_row g first) (op_cells cell_at g.ops (rows_at rows places)) ≡ group_at g rows members head
at_head g rows members head first list places inside long is there same =
    ap₂ (λ row l. option_map (group_row g row) (op_cells cell_at g.ops (rows_at rows l)))
    (is ∙ get_or_default rows head first _ inside)
    (same ∙ there ∙ get_or_default members head list [] (omega (arith, long, inside)))

-- what is given at the heads is a row for each group
pub groups_given : (g : GroupOf) (rows : List Keyed) (members : List (List ℕ)) (heads : List ℕ)
    → heads ≡ heads_from 0 (leaders (map (key_cells g.groupby) rows))
    → ((p : ℕ) → p < length rows → get_or members p [] ≡ members_from p 0 (leaders (map (key_cells g.groupby) rows)))
    → all_found (map (group_at g rows members) heads) ≡ aggregated g rows
groups_given g rows members heads are there =
    ap (λ l. all_found (map (group_at g rows members) l)) (are ∙ ap (heads_from 0) seen)
    ∙ ap all_found (heads_first (key_cells g.groupby) (alike cell_at g.groupby) (alike_keys cell_at g.groupby) rows (group_at g rows members)
    (λ first. option_map (group_row g first) (op_cells cell_at g.ops (group_of cell_at g.groupby rows first))) agree 0 rows refl)
  where
    seen : leaders (map (key_cells g.groupby) rows) ≡ map (λ x. leader_of (map (key_cells g.groupby) rows) (key_cells g.groupby x)) rows
    seen = seen_twice (leader_of (map (key_cells g.groupby) rows)) (key_cells g.groupby) rows

    agree : (i : ℕ) (x : Keyed) → i < length rows → x ≡ get_or rows i x → leader_of (map (key_cells g.groupby) rows) (key_cells g.groupby x) ≡ i
        → group_at g rows members i ≡ option_map (group_row g x) (op_cells cell_at g.ops (group_of cell_at g.groupby rows x))
    agree i x below is itself =
        ap₂ (λ row group. option_map (group_row g row) (op_cells cell_at g.ops group))
        (get_or_default rows i _ x below ∙ sym is)
        (ap (rows_at rows) (there i below ∙ ap (members_from i 0) seen)
        ∙ group_led (key_cells g.groupby) (alike cell_at g.groupby) (alike_keys cell_at g.groupby) rows i x below is itself)
