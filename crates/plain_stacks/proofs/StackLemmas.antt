-- Where the values of rows begin and end, by the sums of their partitions.
use Rattle.std.proofs.Common.{◌≡◌, ℕ, ◌<◌, suc, zero, ℤ, pos, List, [], ◌∷◌, map, fold, length, take, get_or, All, Option}
use Rattle.std.proofs.Common.{Some, None, Result, Ok, Err, IfOk, arith, refl, sym, ap, ap₂, ◌∙◌, subst}
use Rattle.std.specs.Option.{option_map, option_map_or}
use Rattle.std.specs.Int.{int_max}
use Rattle.std.proofs.lemmas.List.{length-map, get_or-map, get_or_default}
use Rattle.std.proofs.lemmas.List.Elements.{All-head, All-tail}
use Rattle.fixed_num.specs.Ranges.{all_found, in_range}
use Rattle.cell_value.specs.declared.state.Keyed.{Keyed}
use Rattle.cell_value.specs.Datum.{Datum, datum_of}
use Rattle.expr_eval.specs.declared.error.EvalError.{EvalError}
use Rattle.expr_eval.specs.Answers.{Evaluates}
use Rattle.expr_eval.specs.Numbers.{the_number}
use Rattle.plain_rows.specs.declared.transforms.StackOf.{StackOf}
use Rattle.plain_rows.specs.Rows.{AreRows, AreKeys}
use Rattle.plain_rows.specs.Lookups.{with_cells, data_with_cells}
use Rattle.plain_rows.proofs.Lists.{all_seen}
use Rattle.plain_rows.proofs.LookupLemmas.{reads_cells, key_stays}
use Rattle.plain_groups.specs.Aggregates.{sum_of}
use Rattle.plain_groups.specs.inner.Places.{row_at}
use Rattle.plain_groups.proofs.KeyLemmas.{same_keys_made}
use Rattle.plain_orders.specs.Orders.{partition_of, rows_before}
use Rattle.plain_orders.specs.Partitions.{datum_at, data_at, StandsAt, ArePartitions}
use Rattle.plain_stacks.specs.declared.sums.Sums.{Sums}
use Rattle.plain_stacks.specs.Spans.{size, sum_before, no_span, span_of}
use Rattle.plain_stacks.specs.Stacks.{amount, whole_of, greatest_whole, row_span_with, span_cells, stacked_with, data_stacked_with}
use Rattle.plain_stacks.specs.inner.Sums.{sums_of, values_at, sums_at, AreSummed}
use Rattle.plain_stacks.proofs.SumLemmas.{before_at, befores_long, whole_is}

-- two lists that are told alike
maps_agree : {A B C : Type 0} (f : A → C) (g : B → C) (a : A) (b : B) (xs : List A) (ys : List B) → length xs ≡ length ys
    → ((i : ℕ) → i < length ys → f (get_or xs i a) ≡ g (get_or ys i b)) → map f xs ≡ map g ys
maps_agree f g a b [] [] long agree = refl
maps_agree f g a b [] (y ∷ ys) long agree = absurd (omega (arith, long))
maps_agree f g a b (x ∷ xs) [] long agree = absurd (omega (arith, long))
maps_agree f g a b (x ∷ xs) (y ∷ ys) long agree =
    ap₂ (λ c cs. c ∷ cs) (agree 0 (omega arith)) (maps_agree f g a b xs ys (omega (arith, long))
    (λ i below. agree (suc i) (omega (arith, below))))

module _ (s : StackOf) (rows : List Keyed) where
  abbrev seen : List Datum
  seen = map datum_of rows

  abbrev amounts : List ℤ
  amounts = map (λ row. amount s.field (datum_of row)) rows

  wide : length seen ≡ length rows
  wide = length-map rows datum_of

  amount_at : (p : ℕ) → p < length seen → get_or amounts p (pos 0) ≡ amount s.field (datum_at seen p)
  amount_at p below =
      get_or-map (λ row. amount s.field (datum_of row)) rows p (row_at rows p) (pos 0) (omega (arith, below, wide))
      ∙ ap (amount s.field) (sym (get_or-map datum_of rows p (row_at rows p) _ (omega (arith, below, wide))))

  values_shown : (places : List ℕ) → All (λ p. p < length seen) places
      → values_at amounts places ≡ map (amount s.field) (data_at seen places)
  values_shown [] all = refl
  values_shown (p ∷ places) all =
      ap₂ (λ v vs. v ∷ vs) (amount_at p (All-head (λ p. p < length seen) p places all))
      (values_shown places (All-tail (λ p. p < length seen) p places all))

  take_map : {A B : Type 0} (f : A → B) (k : ℕ) (xs : List A) → take k (map f xs) ≡ map f (take k xs)
  take_map f zero xs = refl
  take_map f (suc k) [] = refl
  take_map f (suc k) (x ∷ xs) = ap (λ l. f x ∷ l) (take_map f k xs)

  module _ (lists : List (List ℕ)) (homes ranks : List ℕ) (are : ArePartitions s.groupby s.sort seen lists homes ranks) where
    abbrev sums : List Sums
    sums = map (λ list. sums_of s.offset (values_at amounts list)) lists

    module _ (i : ℕ) (below : i < length seen) where
      abbrev home : ℕ
      home = get_or homes i 0

      abbrev rank : ℕ
      rank = get_or ranks i 0

      abbrev list : List ℕ
      list = get_or lists home []

      abbrev values : List ℤ
      values = values_at amounts list

      stands : StandsAt s.groupby s.sort seen list rank i
      stands = are.stands i below

      abbrev own : List Datum
      own = partition_of s.groupby s.sort seen (datum_at seen i)

      sums_are : sums_at sums home ≡ sums_of s.offset values
      sums_are = get_or-map (λ list. sums_of s.offset (values_at amounts list)) lists home [] _ (are.home i below)

      shown : values ≡ map (amount s.field) (data_at seen list)
      shown = values_shown list (are.places home (are.home i below))

      values_long : length values ≡ length list
      values_long = length-map list (λ place. get_or amounts place (pos 0))

      whole_so : (sums_at sums home).whole ≡ in_range (whole_of s.field own)
      whole_so =
          ap (λ (sums : Sums). sums.whole) sums_are
          ∙ ap in_range (whole_is values ∙ ap (λ vs. sum_of (map size vs)) (shown ∙ ap (map (amount s.field)) stands.partition))

      value_so : get_or values rank (pos 0) ≡ amount s.field (datum_at seen i)
      value_so =
          get_or-map (λ place. get_or amounts place (pos 0)) list rank 0 (pos 0) stands.within
          ∙ ap (λ p. get_or amounts p (pos 0)) stands.itself ∙ amount_at i below

      front_so : take rank values ≡ map (amount s.field) (rows_before s.sort own (datum_at seen i))
      front_so =
          ap (take rank) shown ∙ take_map (amount s.field) rank (data_at seen list)
          ∙ ap (map (amount s.field)) (take_map (datum_at seen) rank list ∙ stands.before)

      before_so : get_or (sums_at sums home).before rank None
          ≡ in_range (sum_before s.offset (map (amount s.field) (rows_before s.sort own (datum_at seen i)))
          (amount s.field (datum_at seen i)))
      before_so =
          ap (λ (sums : Sums). get_or sums.before rank None) sums_are
          ∙ before_at s.offset [] values rank (omega (arith, values_long, stands.within))
          ∙ ap₂ (λ l v. in_range (sum_before s.offset l v)) front_so value_so

      rank_within : rank < length (sums_at sums home).before
      rank_within =
          omega (
            arith,
            ap (λ (sums : Sums). length sums.before) sums_are,
            befores_long s.offset (pos 0) (pos 0) values,
            values_long,
            stands.within,
          )

    greatest_so : option_map (fold int_max (pos 0)) (all_found (map (λ home. (sums_at sums home).whole) homes)) ≡ greatest_whole s seen
    greatest_so =
        ap (λ l. option_map (fold int_max (pos 0)) (all_found l))
        (maps_agree (λ home. (sums_at sums home).whole)
        (λ row. in_range (whole_of s.field (partition_of s.groupby s.sort seen row))) 0 _ homes seen are.homes_long
        (λ i below. whole_so i below))

    -- the sums of partitions give where the values of rows begin and end
    pub are_summed : (greatest : Option ℤ) → AreSummed s seen homes ranks sums greatest
    are_summed greatest = record {
      homes_long = are.homes_long;
      ranks_long = are.ranks_long;
      home = λ i below. omega (arith, are.home i below, length-map lists (λ list. sums_of s.offset (values_at amounts list)));
      rank = rank_within;
      span = λ i below.
          ap₂ (λ b w. option_map_or (span_of s.offset b w greatest) (the_number ((datum_at seen i).cell s.field)) (Some no_span))
          (before_so i below) (whole_so i below);
    }

  -- sums that were computed so do
  pub summed_so : (lists : List (List ℕ)) (homes ranks : List ℕ) (are : ArePartitions s.groupby s.sort seen lists homes ranks)
      (added : List ℤ) (found : List Sums) (greatest : Option ℤ)
      → added ≡ amounts → found ≡ map (λ list. sums_of s.offset (values_at added list)) lists
      → AreSummed s seen homes ranks found greatest
  summed_so lists homes ranks are added found greatest e f =
      subst (λ l. AreSummed s seen homes ranks l greatest)
      (sym (f ∙ ap (λ l. map (λ list. sums_of s.offset (values_at l list)) lists) e))
      (are_summed lists homes ranks are greatest)

  -- the greatest of these sums is the greatest whole
  pub greatest_is : (lists : List (List ℕ)) (homes ranks : List ℕ) (are : ArePartitions s.groupby s.sort seen lists homes ranks)
      (added : List ℤ) (found : List Sums) (greatest : Option ℤ)
      → added ≡ amounts → found ≡ map (λ list. sums_of s.offset (values_at added list)) lists
      → greatest ≡ option_map (fold int_max (pos 0)) (all_found (map (λ home. (sums_at found home).whole) homes))
      → greatest ≡ greatest_whole s seen
  greatest_is lists homes ranks are added found greatest e f is =
      let same : found ≡ map (λ list. sums_of s.offset (values_at amounts list)) lists = f
      ∙ ap (λ l. map (λ list. sums_of s.offset (values_at l list)) lists) e in
      is ∙ ap (λ l. option_map (fold int_max (pos 0)) (all_found (map (λ home. (sums_at l home).whole) homes))) same
      ∙ greatest_so lists homes ranks are

  pub homes_within : (lists : List (List ℕ)) (homes ranks : List ℕ) (are : ArePartitions s.groupby s.sort seen lists homes ranks)
      (added : List ℤ) (found : List Sums)
      → found ≡ map (λ list. sums_of s.offset (values_at added list)) lists → All (λ home. home < length found) homes
  homes_within lists homes ranks are added found f = λ k d within.
      let inside = are.home k (omega (arith, within, are.homes_long)) in
      omega (
        arith,
        inside,
        get_or_default homes k 0 d within,
        ap length f,
        length-map lists (λ list. sums_of s.offset (values_at added list)),
      )

  pub places_within : (lists : List (List ℕ)) (homes ranks : List ℕ) (are : ArePartitions s.groupby s.sort seen lists homes ranks)
      (added : List ℤ) → added ≡ amounts
      → (k : ℕ) → k < length lists → All (λ place. place < length added) (get_or lists k [])
  places_within lists homes ranks are added e k below =
      subst (λ m. All (λ place. place < m) (get_or lists k []))
      (wide ∙ sym (ap length e ∙ length-map rows (λ row. amount s.field (datum_of row)))) (are.places k below)

-- the stacked rows read as the stacked rows as they are read
mapped : {A B C : Type 0} (f : A → C) (h : A → B) (see : B → C) (same : (a : A) → f a ≡ see (h a)) (o : Option A)
    → option_map f o ≡ option_map see (option_map h o)
mapped f h see same None = refl
mapped f h see same (Some a) = ap Some (same a)

pub stack_reads : (s : StackOf) (greatest : Option ℤ) (rows : List Keyed)
    → data_stacked_with s greatest (map datum_of rows) ≡ option_map (map datum_of) (stacked_with s greatest rows)
stack_reads s greatest rows =
    all_seen datum_of datum_of (λ row. option_map (λ span. with_cells row (span_cells s span))
    (row_span_with s greatest (map datum_of rows) (datum_of row)))
    (λ row. option_map (λ span. data_with_cells row (span_cells s span)) (row_span_with s greatest (map datum_of rows) row))
    (λ row. mapped (λ span. data_with_cells (datum_of row) (span_cells s span)) (λ span. with_cells row (span_cells s span)) datum_of
    (λ span. sym (reads_cells (span_cells s span) row))
    (row_span_with s greatest (map datum_of rows) (datum_of row)))
    rows

pub stacked_are_rows : (s : StackOf) (greatest : Option ℤ) (rows : List Keyed) → AreRows rows → (result : Result (List Keyed) EvalError)
    → Evaluates result (stacked_with s greatest rows) → IfOk result AreRows
stacked_are_rows s greatest rows are (Ok ys) e =
    subst AreKeys (sym (same_keys_made (λ row span. with_cells row (span_cells s span))
    (λ row. row_span_with s greatest (map datum_of rows) (datum_of row)) (λ x span. key_stays (span_cells s span) x) rows ys e)) are
stacked_are_rows s greatest rows are (Err e) h = tt
