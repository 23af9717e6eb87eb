-- Totals as they run, and those of frames.
use Rattle.std.proofs.Common.{◌≡◌, ℕ, zero, suc, ◌+◌, ◌-◌, ◌<◌, ◌≤◌, ℤ, pos}
use Rattle.std.proofs.Common.{negsuc, ◌+ℤ◌, ◌-ℤ◌, int_lt, Bool, true, false, cond, List, [], ◌∷◌}
use Rattle.std.proofs.Common.{append_assoc, ◌++◌, map, length, take, drop, get_or, Option}
use Rattle.std.proofs.Common.{Some, None, unsigned_abs, arith, refl, sym, ap, ap₂, ◌∙◌, subst, All}
use Rattle.std.specs.Prelude.{sum_by, nat_lt, ◌==◌, ◌*◌}
use Rattle.std.specs.List.{cons_option}
use Rattle.std.proofs.lemmas.Bool.{ltb-true, ltb-false, ne_eqb, cond-false}
use Rattle.std.specs.Option.{option_map, option_map_or}
use Rattle.std.proofs.lemmas.Int.{ints}
use Rattle.std.proofs.Math.Seq.{take-add}
use Rattle.std.proofs.lemmas.List.{drop_more, drop_all, take-map, drop-map, length-map, length-take, length-drop}
use Rattle.std.proofs.lemmas.List.Sums.{sum_by-cons, sum_by-append}
use Rattle.std.proofs.lemmas.List.Elements.{All-head, All-tail, All-take, All-drop}
use Rattle.fixed_num.specs.Number.{limit, rounded}
use Rattle.fixed_num.specs.Ranges.{in_range}
use Rattle.cell_value.specs.declared.cell.Cell.{Cell}
use Rattle.cell_value.specs.declared.cell.Cell.TheVariants.{Null, Number}
use Rattle.cell_value.specs.Cell.{same_cells}
use Rattle.cell_value.specs.Datum.{Datum}
use Rattle.expr_eval.specs.Numbers.{the_number, number_or_null}
use Rattle.plain_rows.specs.declared.transforms.OpOf.{OpOf}
use Rattle.plain_groups.specs.Aggregates.{aggregates, aggregate_of, count_cell, numbers_among, sum_of, mean_of}
use Rattle.plain_rows.specs.Rows.{most_listed}
use Rattle.plain_groups.specs.GroupRows.{read_by}
use Rattle.plain_groups.proofs.GroupLemmas.{count_both}
use Rattle.plain_windows.specs.declared.frames.Frame.{Frame}
use Rattle.plain_windows.specs.declared.totals.Total.{Total}
use Rattle.plain_windows.specs.inner.Views.{part}
use Rattle.plain_windows.specs.inner.Totals.{up_of, down_of, one_if_number, one_if_null, no_total, total_after, totals_from, totals_of, total_of}
use Rattle.plain_windows.specs.inner.Totals.{AddsLittle, AtMostSo, AreSmall, total_between, total_at, total_in, sum_cell, mean_cell}

module _ (f : Total → ℕ) (g : Cell → ℕ) (more : (t : Total) (cell : Cell) → f (total_after t cell) ≡ f t + g cell) where
  at_place : (t : Total) (cells : List Cell) (k : ℕ) (d : Total) → k ≤ length cells
      → f (get_or (totals_from t cells) k d) ≡ f t + sum_by g (take k cells)
  at_place t [] zero d l = omega arith
  at_place t [] (suc k) d l = absurd (omega (arith, l))
  at_place t (cell ∷ cells) zero d l = omega arith
  at_place t (cell ∷ cells) (suc k) d l =
      let later = at_place (total_after t cell) cells k d (omega (arith, l)) in
      omega (arith, later, more t cell, sum_by-cons g cell (take k cells))

  between_places : (t : Total) (cells : List Cell) (from to : ℕ) (d : Total) → from ≤ to → to ≤ length cells
      → f (get_or (totals_from t cells) to d) - f (get_or (totals_from t cells) from d) ≡ sum_by g (take (to - from) (drop from cells))
  between_places t cells from to d order l =
      let parts : to ≡ from + (to - from) = omega (arith, order) in
      let split : sum_by g (take to cells) ≡ sum_by g (take from cells) + sum_by g (take (to - from) (drop from cells)) =
      ap (λ k. sum_by g (take k cells)) parts
      ∙ ap (sum_by g) (take-add from (to - from) cells)
      ∙ sum_by-append g (take from cells) (take (to - from) (drop from cells)) in
      omega (arith, split, at_place t cells to d l, at_place t cells from d (omega (arith, order, l)))

-- a list of results with one more, where the rest is still to come
pub filled_more : {X Y : Type 0} (f : X → Y) (xs : List X) (i : ℕ) (x : X) (ys : List Y) (y : Y) (more : List Y) → i < length xs
    → x ≡ get_or xs i x → ys ++ map f (drop i xs) ≡ map f xs → y ≡ f x → more ≡ ys ++ y ∷ [] → more ++ map f (drop (i + 1) xs) ≡ map f xs
filled_more f xs i x ys y more l at before is pushed =
    ap (λ l. l ++ map f (drop (i + 1) xs)) pushed ∙ append_assoc ys (y ∷ []) (map f (drop (i + 1) xs))
    ∙ ap (λ z. ys ++ (z ∷ map f (drop (i + 1) xs))) (is ∙ ap f at)
    ∙ sym (ap (λ l. ys ++ map f l) (drop_more xs i x l)) ∙ before

-- one total more
pub totals_more : (cells : List Cell) (i : ℕ) (cell : Cell) (t next : Total) (totals more whole : List Total) → i < length cells
    → cell ≡ get_or cells i cell → next ≡ total_after t cell → more ≡ totals ++ t ∷ []
    → totals ++ totals_from t (drop i cells) ≡ whole → more ++ totals_from next (drop (i + 1) cells) ≡ whole
totals_more cells i cell t next totals more whole below at is pushed before =
    let rest = drop (i + 1) cells in
    ap (λ l. l ++ totals_from next rest) pushed ∙ append_assoc totals (t ∷ []) (totals_from next rest)
    ∙ ap (λ n. totals ++ (t ∷ totals_from n rest)) is
    ∙ ap (λ c. totals ++ (t ∷ totals_from (total_after t c) rest)) at
    ∙ ap (λ l. totals ++ totals_from t l) (sym (drop_more cells i cell below)) ∙ before

pub totals_all : (cells : List Cell) (i : ℕ) (t : Total) (totals more whole : List Total) → length cells ≤ i → more ≡ totals ++ t ∷ []
    → totals ++ totals_from t (drop i cells) ≡ whole → more ≡ whole
totals_all cells i t totals more whole past pushed before =
    pushed ∙ ap (λ l. totals ++ totals_from t l) (sym (drop_all i cells past)) ∙ before

parts_of : (a b : Total) (u d m n : ℕ) → b.up - a.up ≡ u → b.down - a.down ≡ d → b.numbers - a.numbers ≡ m → b.nulls - a.nulls ≡ n
    → total_between a b ≡ record { up = u; down = d; numbers = m; nulls = n }
parts_of a b u d m n e f g h = cc

-- the totals at two places tell what the cells between them are together
between_is : (cells : List Cell) (from to : ℕ) → from ≤ to → to ≤ length cells
    → total_between (total_at (totals_from no_total cells) from) (total_at (totals_from no_total cells) to)
    ≡ total_of (take (to - from) (drop from cells))
between_is cells from to order within =
    parts_of (total_at (totals_from no_total cells) from) (total_at (totals_from no_total cells) to) _ _ _ _
    (between_places (λ t. t.up) up_of (λ t cell. refl) no_total cells from to no_total order within)
    (between_places (λ t. t.down) down_of (λ t cell. refl) no_total cells from to no_total order within)
    (between_places (λ t. t.numbers) one_if_number (λ t cell. refl) no_total cells from to no_total order within)
    (between_places (λ t. t.nulls) one_if_null (λ t cell. refl) no_total cells from to no_total order within)

abbrev cells_read : List Datum → OpOf → List Cell
cells_read rows op = map (λ (other : Datum). read_by op other.cell) rows

-- the totals tell what the cells of a frame are together
pub total_is : (rows : List Datum) (op : OpOf) (totals : List Total) (frame : Frame) → totals ≡ totals_of rows op → frame.to ≤ length rows
    → total_in frame totals ≡ total_of (map (λ (other : Datum). read_by op other.cell) (part frame rows))
total_is rows op totals frame are short =
    ap (total_in frame) are ∙ either (nat_lt frame.from frame.to) refl ∙ ap total_of (sym seen)
  where
    seen : map (λ (other : Datum). read_by op other.cell) (part frame rows) ≡ part frame (cells_read rows op)
    seen =
        sym (take-map (λ (other : Datum). read_by op other.cell) (frame.to - frame.from) (drop frame.from rows))
        ∙ ap (take (frame.to - frame.from)) (sym (drop-map (λ (other : Datum). read_by op other.cell) frame.from rows))

    within : frame.to ≤ length (cells_read rows op)
    within = omega (arith, short, length-map rows (λ (other : Datum). read_by op other.cell))

    either : (b : Bool) → nat_lt frame.from frame.to ≡ b
        → cond b (total_between (total_at (totals_from no_total (cells_read rows op)) frame.from)
        (total_at (totals_from no_total (cells_read rows op)) frame.to)) no_total
        ≡ total_of (part frame (cells_read rows op))
    either true e =
        let order : frame.from ≤ frame.to = omega (arith, ltb-true frame.from frame.to e) in
        between_is (cells_read rows op) frame.from frame.to order within
    either false e =
        let none : frame.to - frame.from ≡ 0 = omega (arith, ltb-false frame.from frame.to e) in
        sym (ap (λ k. total_of (take k (drop frame.from (cells_read rows op)))) none)

natural : (n : ℕ) (b : Bool) → nat_lt n 0 ≡ b → pos n ≡ pos (cond b 0 n) -ℤ pos (cond b n 0)
natural n true e = let less : n < 0 = ltb-true n 0 e in absurd (omega (arith, less))
natural n false e = omega (arith, ints)

-- the sum of numbers by those of both sides of zero
sums_so : (cells : List Cell) → sum_of (numbers_among cells) ≡ pos (sum_by up_of cells) -ℤ pos (sum_by down_of cells)
sums_so [] = refl
sums_so (cell ∷ cells) =
    pick (the_number cell) (sums_so cells)
    ∙ ap₂ (λ a b. pos a -ℤ pos b) (sym (sum_by-cons up_of cell cells)) (sym (sum_by-cons down_of cell cells))
  where
    signed : (v : ℤ) → v ≡ pos (cond (int_lt v (pos 0)) 0 (unsigned_abs v)) -ℤ pos (cond (int_lt v (pos 0)) (unsigned_abs v) 0)
    signed (pos n) = natural n (nat_lt n 0) refl
    signed (negsuc n) = omega (arith, ints)

    joined : (v s : ℤ) (u d most least : ℕ) → v ≡ pos u -ℤ pos d → s ≡ pos most -ℤ pos least
        → v +ℤ s ≡ pos (u + most) -ℤ pos (d + least)
    joined v s u d most least e f = omega (arith, ints, e, f)

    pick : (o : Option ℤ) → sum_of (numbers_among cells) ≡ pos (sum_by up_of cells) -ℤ pos (sum_by down_of cells)
        → sum_of (cons_option o (numbers_among cells))
        ≡ pos (option_map_or (λ v. cond (int_lt v (pos 0)) 0 (unsigned_abs v)) o 0 + sum_by up_of cells)
        -ℤ pos (option_map_or (λ v. cond (int_lt v (pos 0)) (unsigned_abs v) 0) o 0 + sum_by down_of cells)
    pick None h =
        let up : sum_by up_of cells ≡ 0 + sum_by up_of cells = omega arith in
        let down : sum_by down_of cells ≡ 0 + sum_by down_of cells = omega arith in
        h ∙ ap₂ (λ a b. pos a -ℤ pos b) up down
    pick (Some v) h =
        joined v (sum_of (numbers_among cells)) (cond (int_lt v (pos 0)) 0 (unsigned_abs v)) (cond (int_lt v (pos 0)) (unsigned_abs v) 0)
        (sum_by up_of cells) (sum_by down_of cells) (signed v) h

pub length_totals : (t : Total) (cells : List Cell) → length (totals_from t cells) ≡ length cells + 1
length_totals t [] = refl
length_totals t (cell ∷ cells) = let later = length_totals (total_after t cell) cells in omega (arith, later)

-- what little cells are together
little : (cell : Cell) → AddsLittle cell → (up_of cell ≤ one_if_number cell * limit) × (down_of cell ≤ one_if_number cell * limit)
little cell l = pick (the_number cell) l.up l.down
  where
    pick : (o : Option ℤ) → option_map_or (λ v. cond (int_lt v (pos 0)) 0 (unsigned_abs v)) o 0 ≤ limit
        → option_map_or (λ v. cond (int_lt v (pos 0)) (unsigned_abs v) 0) o 0 ≤ limit
        → (option_map_or (λ v. cond (int_lt v (pos 0)) 0 (unsigned_abs v)) o 0 ≤ option_map_or (λ v. 1) o 0 * limit)
        × (option_map_or (λ v. cond (int_lt v (pos 0)) (unsigned_abs v) 0) o 0 ≤ option_map_or (λ v. 1) o 0 * limit)
    pick None u d = (omega arith, omega arith)
    pick (Some v) u d = (omega (arith, u), omega (arith, d))

at_most_one : (cell : Cell) → (one_if_number cell ≤ 1) × (one_if_null cell ≤ 1)
at_most_one cell = (pick (the_number cell), choose (same_cells cell Null))
  where
    pick : (o : Option ℤ) → option_map_or (λ v. 1) o 0 ≤ 1
    pick None = omega arith
    pick (Some v) = omega arith

    choose : (b : Bool) → cond b 1 0 ≤ 1
    choose true = omega arith
    choose false = omega arith

total_small : (cells : List Cell) → All AddsLittle cells → AtMostSo (total_of cells) (length cells)
total_small [] are = record { up = omega arith; down = omega arith; numbers = omega arith; nulls = omega arith }
total_small (cell ∷ cells) are =
    let later = total_small cells (All-tail AddsLittle cell cells are) in
    let one = little cell (All-head AddsLittle cell cells are) in
    let most = at_most_one cell in
    let up = sum_by-cons up_of cell cells in
    let down = sum_by-cons down_of cell cells in
    let numbers = sum_by-cons one_if_number cell cells in
    let nulls = sum_by-cons one_if_null cell cells in
    record {
      up = omega (arith, later.up, one.0, up, numbers);
      down = omega (arith, later.down, one.1, down, numbers);
      numbers = omega (arith, later.numbers, most.0, numbers);
      nulls = omega (arith, later.nulls, most.1, nulls);
    }

pub totals_small : (cells : List Cell) → All AddsLittle cells → length cells ≤ most_listed → AreSmall (totals_from no_total cells)
totals_small cells are few = record {
  each = λ i k order below.
      let within : k ≤ length cells = omega (arith, below, length_totals no_total cells) in
      let part = take (k - i) (drop i cells) in
      let short : length part ≤ most_listed = omega (arith, length-take (k - i) (drop i cells), length-drop i cells, few) in
      let so = total_small part (All-take AddsLittle (k - i) (drop i cells) (All-drop AddsLittle i cells are)) in
      subst (λ t. AtMostSo t most_listed) (sym (between_is cells i k order within))
      (record { up = so.up; down = so.down; numbers = omega (arith, so.numbers, short); nulls = omega (arith, so.nulls, short) });
}

pub totals_long : (rows : List Datum) (op : OpOf) (totals : List Total) → totals ≡ totals_of rows op → length totals ≡ length rows + 1
totals_long rows op totals are =
    let cells = map (λ (other : Datum). read_by op other.cell) rows in
    ap length are
    ∙ length_totals no_total cells ∙ ap (λ n. n + 1) (length-map rows (λ (other : Datum). read_by op other.cell))

pub part_long : (rows : List Datum) (frame : Frame) (read : Datum → Cell) → frame.to ≤ length rows
    → frame.to - frame.from ≡ length (map read (part frame rows))
part_long rows frame read short =
    omega (
      arith,
      length-map (part frame rows) read,
      length-take (frame.to - frame.from) (drop frame.from rows),
      length-drop frame.from rows,
      short,
    )

pub counts_rows : (cells : List Cell) (n : ℕ) → n ≡ length cells → Some (count_cell n) ≡ aggregate_of 0 cells
unfolding aggregates
counts_rows cells n e = ap (λ n. Some (count_cell n)) e

pub counts_missing : (cells : List Cell) (t : Total) → t ≡ total_of cells → Some (count_cell t.nulls) ≡ aggregate_of 2 cells
unfolding aggregates
counts_missing cells t e = ap (λ (t : Total). Some (count_cell t.nulls)) e

pub counts_valid : (cells : List Cell) (t : Total) (n : ℕ) → t ≡ total_of cells → n ≡ length cells
    → Some (count_cell (n - t.nulls)) ≡ aggregate_of 1 cells
unfolding aggregates
counts_valid cells t n e f =
    ap (λ n. Some (count_cell n)) (omega (arith, f, count_both cells, ap (λ (t : Total). t.nulls) e))

pub sums_numbers : (cells : List Cell) (t : Total) → t ≡ total_of cells → sum_cell t ≡ aggregate_of 4 cells
unfolding aggregates
sums_numbers cells t e = ap sum_cell e ∙ ap (λ z. option_map Number (in_range z)) (sym (sums_so cells))

-- the mean by the totals
length_numbers : (cells : List Cell) → length (numbers_among cells) ≡ sum_by one_if_number cells
length_numbers [] = refl
length_numbers (cell ∷ cells) = pick (the_number cell) (length_numbers cells) ∙ sym (sum_by-cons one_if_number cell cells)
  where
    pick : (o : Option ℤ) → length (numbers_among cells) ≡ sum_by one_if_number cells
        → length (cons_option o (numbers_among cells)) ≡ option_map_or (λ v. 1) o 0 + sum_by one_if_number cells
    pick None h = omega (arith, h)
    pick (Some v) h = omega (arith, h)

abbrev mean_by : ℤ → ℕ → Cell
mean_by sum n = cond (n == 0) Null (Number (rounded sum n))

mean_is : (ns : List ℤ) → mean_by (sum_of ns) (length ns) ≡ number_or_null (mean_of ns)
mean_is [] = refl
mean_is (n ∷ ns) =
    let some : (suc (length ns) == 0) ≡ false = ne_eqb (suc (length ns)) 0 (λ e. omega (arith, e)) in
    cond-false (suc (length ns) == 0) Null (Number (rounded (sum_of (n ∷ ns)) (suc (length ns)))) some

pub means_numbers : (cells : List Cell) (t : Total) → t ≡ total_of cells → Some (mean_cell t) ≡ aggregate_of 5 cells
unfolding aggregates
means_numbers cells t e =
    ap (λ (t : Total). Some (mean_cell t)) e
    ∙ ap Some (ap₂ mean_by (sym (sums_so cells)) (sym (length_numbers cells)) ∙ mean_is (numbers_among cells))

pub averages_numbers : (cells : List Cell) (t : Total) → t ≡ total_of cells → Some (mean_cell t) ≡ aggregate_of 6 cells
unfolding aggregates
averages_numbers cells t e = means_numbers cells t e
