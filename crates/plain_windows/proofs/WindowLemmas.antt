-- Rows with what windows give.
use Rattle.std.proofs.Common.{◌≡◌, ℕ, ◌<◌, ◌≤◌, List, [], map, length, get_or, zip, Option, Some, None, Result, Ok, Err, IfOk, arith, refl}
use Rattle.std.proofs.Common.{sym, ap, ap₂, ◌∙◌, subst, take}
use Rattle.std.specs.Option.{option_map}
use Rattle.std.proofs.lemmas.List.{length-map, get_or-map, get_or_default, length-take}
use Rattle.std.specs.List.{AllZip}
use Rattle.std.proofs.lemmas.Slice.Zip.{get_or-zip, length-zip, AllZip-long}
use Rattle.cell_value.specs.declared.state.Keyed.{Keyed}
use Rattle.cell_value.specs.Datum.{Datum, datum_of}
use Rattle.expr_eval.specs.declared.error.EvalError.{EvalError}
use Rattle.expr_eval.specs.Answers.{Evaluates}
use Rattle.plain_rows.specs.declared.transforms.OpOf.{OpOf}
use Rattle.plain_rows.specs.declared.transforms.WindowOf.{WindowOf}
use Rattle.plain_rows.specs.Rows.{AreRows, AreKeys, most_listed}
use Rattle.plain_rows.specs.Lookups.{with_cells, data_with_cells}
use Rattle.plain_rows.proofs.Lists.{all_seen}
use Rattle.plain_rows.proofs.LookupLemmas.{reads_cells, key_stays}
use Rattle.plain_groups.proofs.KeyLemmas.{same_keys_made}
use Rattle.plain_orders.specs.Orders.{partition_of, rows_before}
use Rattle.plain_orders.specs.Partitions.{datum_at, data_at, StandsAt, ArePartitions}
use Rattle.plain_windows.specs.Windows.{window_cells, windowed, data_windowed}
use Rattle.plain_windows.specs.declared.aids.Aid.{Aid}
use Rattle.plain_windows.specs.inner.Aids.{IsAid, AreAids}
use Rattle.plain_windows.specs.inner.Seen.{AreSeen}
use Rattle.plain_windows.specs.inner.Views.{AreListed, frame_rows, view_with, cells_by}
use Rattle.plain_windows.proofs.PeerLemmas.{are_listed}
use Rattle.plain_windows.proofs.AidLemmas.{zip_at}

-- an operation and its number at a place
pub op_there : (ops : List OpOf) (params : List ℕ) (at : ℕ) (op : OpOf) → at < length ops → length params ≡ length ops
    → op ≡ get_or ops at op → (op, get_or params at 0) ≡ get_or (zip ops params) at (op, get_or params at 0)
op_there ops params at op below long e =
    let n = get_or params at 0 in
    let inside : at < length params = omega (arith, below, long) in
    ap₂ (λ (o : OpOf) (m : ℕ). (o, m)) e (get_or_default params at 0 n inside) ∙ sym (get_or-zip ops params at (op, n) below inside)

pub zip_within : (ops : List OpOf) (params : List ℕ) (at : ℕ) → at < length ops → length params ≡ length ops → at < length (zip ops params)
zip_within ops params at below long = omega (arith, below, long, length-zip ops params)

pub zip_short : (ops : List OpOf) (params : List ℕ) (n : ℕ) → length ops ≤ n → length (zip ops params) ≤ n
zip_short ops params n past = omega (arith, past, length-zip ops params)

module _ (w : WindowOf) (rows : List Datum) (lists : List (List ℕ)) (homes ranks : List ℕ)
    (are : ArePartitions w.groupby w.sort rows lists homes ranks) (few : length rows ≤ most_listed) where
  module _ (i : ℕ) (below : i < length rows) where
    abbrev list : List ℕ
    list = get_or lists (get_or homes i 0) []

    abbrev rank : ℕ
    rank = get_or ranks i 0

    stands : StandsAt w.groupby w.sort rows list rank i
    stands = are.stands i below

    abbrev own : List Datum
    own = partition_of w.groupby w.sort rows (datum_at rows i)

    listed_there : AreListed w.sort rows list
    listed_there =
        are_listed w.groupby w.sort rows list rank i stands (are.places (get_or homes i 0) (are.home i below))
        (omega (arith, are.few (get_or homes i 0) (are.home i below), few))

    rank_is : rank ≡ length (rows_before w.sort own (datum_at rows i))
    rank_is =
        omega (
          arith,
          ap length stands.before,
          length-map (take rank list) (datum_at rows),
          length_front rank list stands.within,
        )
      where
        length_front : {X : Type 0} (k : ℕ) (xs : List X) → k < length xs → length (take k xs) ≡ k
        length_front k xs l = omega (arith, length-take k xs, l)

    cells_there : cells_by w.ops w.params (view_with w.sort (data_at rows list) (datum_at rows i) rank
        (frame_rows w (data_at rows list) rank))
        ≡ window_cells w rows (datum_at rows i)
    cells_there =
        ap₂ (λ (p : List Datum) (k : ℕ). cells_by w.ops w.params (view_with w.sort p (datum_at rows i) k (frame_rows w p k)))
        stands.partition rank_is

  -- partitions give what the operations see
  pub are_seen : (aids : List (List Aid)) → AllZip (AreAids w rows) lists aids → AreSeen w rows lists aids homes ranks
  are_seen aids so = record {
    homes_long = are.homes_long;
    ranks_long = are.ranks_long;
    aided_long = AllZip-long (AreAids w rows) lists aids so;
    home = are.home;
    listed = listed_there;
    rank = λ i below. (are.stands i below).within;
    itself = λ i below. (are.stands i below).itself;
    aids = λ i below. zip_at (AreAids w rows) lists aids (get_or homes i 0) [] [] so (are.home i below) (omega (arith, (are.stands i below).within));
    cells = cells_there;
  }

module _ (w : WindowOf) (rows : List Keyed) (lists : List (List ℕ)) (aids : List (List Aid)) (homes ranks : List ℕ)
    (are : AreSeen w (map datum_of rows) lists aids homes ranks) (i : ℕ) (row : Keyed) (found list : List ℕ)
    (below : i < length rows) (at : row ≡ get_or rows i row) (of : found ≡ get_or lists (get_or homes i 0) found) (is : list ≡ found) where
  abbrev seen : List Datum
  seen = map datum_of rows

  within : i < length seen
  within = omega (arith, below, length-map rows datum_of)

  row_seen : datum_at seen i ≡ datum_of row
  row_seen = get_or-map datum_of rows i row _ below ∙ ap datum_of (sym at)

  list_is : get_or lists (get_or homes i 0) [] ≡ list
  list_is = get_or_default lists (get_or homes i 0) [] found (are.home i within) ∙ sym of ∙ sym is

  pub listed_in : AreListed w.sort seen list
  listed_in = subst (AreListed w.sort seen) list_is (are.listed i within)

  pub rank_in : get_or ranks i 0 < length list
  rank_in = subst (λ (l : List ℕ). get_or ranks i 0 < length l) list_is (are.rank i within)

  pub aids_in : (own : List Aid) → own ≡ get_or aids (get_or homes i 0) own → AllZip (IsAid w.sort (data_at seen list)) w.ops own
  aids_in own e =
      let home = get_or homes i 0 in
      let same : own ≡ get_or aids home [] = e ∙ get_or_default aids home own [] (omega (arith, are.home i within, are.aided_long)) in
      subst (AllZip (IsAid w.sort (data_at seen list)) w.ops) (sym same)
      (subst (λ l. AllZip (IsAid w.sort (data_at seen l)) w.ops (get_or aids home [])) list_is (are.aids i within))

  abbrev rank_there : ℕ
  rank_there = get_or ranks i 0

  pub cells_in : cells_by w.ops w.params (view_with w.sort (data_at seen list) (datum_at seen (get_or list rank_there 0)) rank_there
      (frame_rows w (data_at seen list) rank_there)) ≡ window_cells w seen (datum_of row)
  cells_in =
      let rank = rank_there in
      let itself : get_or list rank 0 ≡ i = ap (λ l. get_or l rank 0) (sym list_is) ∙ are.itself i within in
      ap (λ k. cells_by w.ops w.params (view_with w.sort (data_at seen list) (datum_at seen k) rank
      (frame_rows w (data_at seen list) rank))) itself
      ∙ ap (λ (l : List ℕ). cells_by w.ops w.params (view_with w.sort (data_at seen l) (datum_at seen i) rank
      (frame_rows w (data_at seen l) rank))) (sym list_is)
      ∙ are.cells i within ∙ ap (window_cells w seen) row_seen

-- the rows with what windows give read as those as they are read
mapped : {A B C : Type 0} (f : A → C) (h : A → B) (see : B → C) (same : (a : A) → f a ≡ see (h a)) (o : Option A)
    → option_map f o ≡ option_map see (option_map h o)
mapped f h see same None = refl
mapped f h see same (Some a) = ap Some (same a)

pub window_reads : (w : WindowOf) (rows : List Keyed) → data_windowed w (map datum_of rows) ≡ option_map (map datum_of) (windowed w rows)
window_reads w rows =
    all_seen datum_of datum_of (λ row. option_map (with_cells row) (window_cells w (map datum_of rows) (datum_of row)))
    (λ row. option_map (data_with_cells row) (window_cells w (map datum_of rows) row))
    (λ row. mapped (data_with_cells (datum_of row)) (with_cells row) datum_of (λ cells. sym (reads_cells cells row))
    (window_cells w (map datum_of rows) (datum_of row)))
    rows

pub windowed_are_rows : (w : WindowOf) (rows : List Keyed) → AreRows rows → (result : Result (List Keyed) EvalError)
    → Evaluates result (windowed w rows) → IfOk result AreRows
windowed_are_rows w rows are (Ok ys) e =
    subst AreKeys (sym (same_keys_made with_cells (λ row. window_cells w (map datum_of rows) (datum_of row))
    (λ x cells. key_stays cells x) rows ys e)) are
windowed_are_rows w rows are (Err e) h = tt
