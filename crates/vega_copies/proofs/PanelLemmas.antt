-- Plots in facets, from the copies that have rows and the number of the others.
use Rattle.std.proofs.Common.{◌≡◌, ℕ, zero, suc, ◌+◌, ◌*◌, ◌<◌, ◌≤◌, ◌||◌, min, Bool, true, false, cond, Option, Some, None, List, [], ◌∷◌}
use Rattle.std.proofs.Common.{◌++◌, map, flat_map, zip, length, replicate, is_some, eqb, Result, Err, refl, sym, ap, ap₂, ◌∙◌, subst, arith}
use Rattle.std.proofs.Common.{mul_comm, mul-one, suc-mul, zero-mul}
use Rattle.std.specs.List.{sum}
use Rattle.std.specs.Option.{option_map, option_map_or}
use Rattle.std.proofs.lemmas.Bool.{eqb-true, false_from_ne_true}
use Rattle.std.proofs.lemmas.List.{map-append, length-map}
use Rattle.std.proofs.lemmas.List.Elements.{filter-append}
use Rattle.std.proofs.lemmas.List.Sums.{sum_by-cons}
use Rattle.fixed_num.specs.Ranges.{◌>>=◌, all_found}
use Rattle.cell_value.specs.declared.cell.Cell.{Cell}
use Rattle.cell_value.specs.Datum.{Datum}
use Rattle.cell_value.specs.State.{Dataset}
use Rattle.expr_eval.specs.declared.error.EvalError.{EvalError}
use Rattle.expr_eval.specs.declared.error.EvalError.TheVariants.{Overflow, Memory}
use Rattle.expr_eval.specs.Answers.{Evaluates}
use Rattle.plain_facets.specs.Facets.{part_of, is_key, key_of, cells_of_copies, cells_with_rows, count_without_rows}
use Rattle.plain_facets.specs.declared.copies.DividedBy.{DividedBy}
use Rattle.plain_facets.specs.Laws.{total}
use Rattle.plain_facets.proofs.CountLemmas.{capped_product}
use Rattle.plain_facets.proofs.SumLemmas.{total-cons, copies_are_summed}
use Rattle.vega_spec.specs.declared.marks.Facet.{Facet}
use Rattle.vega_spec.specs.declared.orders.Sort.{Sort}
use Rattle.vega_spec.specs.declared.spec.Group.{Group, out-Group}
use Rattle.vega_spec.specs.declared.spec.VgMark.{VgMark, VgMark-F, out-VgMark}
use Rattle.vega_lists.specs.Orders.{texts_in}
use Rattle.vega_lists.specs.Scopes.{Scope}
use Rattle.vega_copies.specs.declared.copies.CopyOf.{CopyOf}
use Rattle.vega_copies.specs.Outlines.{Object, facet_in}
use Rattle.vega_copies.specs.Scopes.{Names, names_in_object}
use Rattle.vega_copies.specs.Facets.{Copy, only_copy, copy_with, part_named, copies_by, copies_of, divided_by, rows_divided, with_parts}
use Rattle.vega_copies.specs.Panels.{plots_in_facets}
use Rattle.vega_copies.specs.inner.Alike.{are_alike}
use Rattle.vega_copies.specs.inner.Outlined.{marks_in, marks_of, is_group, group_object}
use Rattle.vega_copies.specs.inner.Copied.{copy_seen}
use Rattle.vega_copies.specs.inner.Counted.{most_counted, counted, is_panel, plots_inside, plots_in_copy, plots_of_copy, plots_of_all, with_bare}
use Rattle.vega_copies.specs.inner.Counted.{with_rows_by, without_rows_by, copies_with_rows, count_bare, bare_part, bare_by, bare_copy}
use Rattle.vega_copies.proofs.AlikeLemmas.{copies_alike}
use Rattle.vega_copies.proofs.OutlineLemmas.{group_first}
use Rattle.vega_copies.proofs.CountLemmas.{counted_from, below, capped, seen_twice, plots_held}

-- ---- sums over copies

abbrev plus : Option ℕ → Option ℕ → Option ℕ
plus a b = a >>= λ m. b >>= λ n. Some (m + n)

split_none : {X : Type 0} (xs ys : List X) → xs ++ ys ≡ [] → (xs ≡ []) × (ys ≡ [])
split_none [] ys e = (refl, e)
split_none (x ∷ xs) ys e = absurd (cc)

-- what a copy counts depends on its parts
module _ (scope : Scope) (count : Copy → Option ℕ) (by_parts : (a b : Copy) → a.parts ≡ b.parts → count a ≡ count b) where
  parts_none : (f : Facet) (key : List Cell) (own lists : List (List ℕ)) → part_of f.groupby key (flat_map scope lists) ≡ []
      → map (part_named scope f key) (zip own lists) ≡ map bare_part (zip own lists)
  parts_none f key [] lists e = refl
  parts_none f key (n ∷ ns) [] e = refl
  parts_none f key (n ∷ ns) (l ∷ ls) e =
      let both = split_none (part_of f.groupby key (scope l)) (part_of f.groupby key (flat_map scope ls))
      (sym (filter-append (λ row. is_key (key_of f.groupby row) key) (scope l) (flat_map scope ls)) ∙ e) in
      ap₂ (λ (rows : List Datum) (parts : List Dataset). record { name = n; rows = rows } ∷ parts) both.0 (parts_none f key ns ls both.1)

  summed_by : (sort : Option Sort) (f : Facet)
      → total (map count (copies_by scope sort f))
      ≡ total (map count (with_rows_by scope sort f) ++ replicate (without_rows_by scope sort f) (count (bare_by f)))
  summed_by sort f =
      ap total (sym (seen_twice count (copy_with scope f) (cells_of_copies (divided_by sort f) (rows_divided scope f))))
      ∙ copies_are_summed (divided_by sort f) (rows_divided scope f) (λ key. count (copy_with scope f key)) (count (bare_by f))
      (λ key none. by_parts (copy_with scope f key) (bare_by f) (parts_none f key (texts_in f.name) (texts_in f.data_) none))
      ∙ ap (λ l. total (l ++ replicate (without_rows_by scope sort f) (count (bare_by f))))
      (seen_twice count (copy_with scope f) (cells_with_rows (divided_by sort f) (rows_divided scope f)))

  copies_summed : (o : Object)
      → total (map count (copies_of scope o)) ≡ total (map count (copies_with_rows scope o) ++ replicate (count_bare scope o) (count (bare_copy o.facet)))
  copies_summed o = by_facet o.facet
    where
      by_facet : (f : Option Facet) → total (map count (option_map_or (copies_by scope o.sort) f (only_copy ∷ [])))
          ≡ total (map count (option_map_or (with_rows_by scope o.sort) f (only_copy ∷ []))
          ++ replicate (option_map_or (without_rows_by scope o.sort) f 0) (count (option_map_or bare_by f only_copy)))
      by_facet None = refl
      by_facet (Some f) = summed_by o.sort f

-- ---- counts that stop at the greatest number

capped_plus : (c : ℕ) (first others : Option ℕ) (rest : List (Option ℕ))
    → ((n : ℕ) → counted_from (min (c + min n most_counted) most_counted) rest
    ≡ option_map (λ b. min (min (c + min n most_counted) most_counted + b) most_counted) others)
    → counted_from c (counted first ∷ rest) ≡ option_map (λ n. min (c + n) most_counted) (plus first others)
capped_plus c None others rest h = refl
capped_plus c (Some a) None rest h = h a
capped_plus c (Some a) (Some b) rest h = h a ∙ ap Some (capped most_counted c a b)

counted_total : {X : Type 0} (f : X → Option ℕ) (xs : List X) (c : ℕ) → c ≤ most_counted
    → counted_from c (map (λ x. counted (f x)) xs) ≡ option_map (λ n. min (c + n) most_counted) (total (map f xs))
counted_total f [] c small = ap Some (ended most_counted c small)
  where
    ended : (most c : ℕ) → c ≤ most → c ≡ min (c + 0) most
    ended most c small = grind (arith, small)
counted_total f (x ∷ xs) c small =
    capped_plus c (f x) (total (map f xs)) (map (λ x. counted (f x)) xs)
    (λ n. counted_total f xs (min (c + min n most_counted) most_counted) (below most_counted (c + min n most_counted)))
    ∙ ap (option_map (λ n. min (c + n) most_counted)) (sym (total-cons (f x) (map f xs)))

from_nothing : (o : Option ℕ) → option_map (λ n. min (0 + n) most_counted) o ≡ counted o
from_nothing None = refl
from_nothing (Some n) = ap (λ k. Some (min k most_counted)) (omega arith)

-- some copies of a group, one after the other
pub copies_count : (sources : List Dataset) (in_facet in_grid : Bool) (m : VgMark-F Group VgMark) (names : Names) (copies : List CopyOf)
    → counted_from 0 (map (plots_held sources in_facet in_grid m names) copies)
    ≡ counted (total (plots_of_all sources in_facet in_grid m names (map copy_seen copies)))
copies_count sources in_facet in_grid m names copies =
    ap (counted_from 0) (seen_twice (λ (c : Copy). counted (plots_of_copy sources in_facet in_grid m names c)) copy_seen copies)
    ∙ counted_total (plots_of_copy sources in_facet in_grid m names) (map copy_seen copies) 0 (omega arith)
    ∙ from_nothing (total (plots_of_all sources in_facet in_grid m names (map copy_seen copies)))

-- ---- with copies that have no rows

total-append : (xs ys : List (Option ℕ)) → total (xs ++ ys) ≡ plus (total xs) (total ys)
total-append [] ys = from_zero (total ys)
  where
    from_zero : (o : Option ℕ) → o ≡ plus (Some 0) o
    from_zero None = refl
    from_zero (Some n) = ap Some (omega arith)
total-append (x ∷ xs) ys =
    total-cons x (xs ++ ys) ∙ ap (plus x) (total-append xs ys) ∙ grouped x (total xs) (total ys) ∙ ap (λ o. plus o (total ys)) (sym (total-cons x xs))
  where
    grouped : (a b c : Option ℕ) → plus a (plus b c) ≡ plus (plus a b) c
    grouped None b c = refl
    grouped (Some m) None c = refl
    grouped (Some m) (Some n) None = refl
    grouped (Some m) (Some n) (Some k) = ap Some (omega arith)

total-replicate : (n q : ℕ) → total (replicate n (Some q)) ≡ Some (n * q)
total-replicate zero q = ap Some (sym (zero-mul q))
total-replicate (suc n) q = total-cons (Some q) (replicate n (Some q)) ∙ ap (plus (Some q)) (total-replicate n q) ∙ ap Some (one_more n q)
  where
    one_more : (n q : ℕ) → q + n * q ≡ suc n * q
    one_more n q = omega (arith, suc-mul n q)

with_none : (n : ℕ) (o : Option ℕ) → plus o (total (replicate (suc n) None)) ≡ None
with_none n None = refl
with_none n (Some k) = refl

both_capped : (most s n q : ℕ) → min (min s most + min (min n most * min q most) most) most ≡ min (s + n * q) most
both_capped most s n q = ap (λ k. min (min s most + k) most) (product n q) ∙ summed most s (n * q)
  where
    summed : (most s k : ℕ) → min (min s most + min k most) most ≡ min (s + k) most
    summed most s k = grind arith

    product : (n q : ℕ) → min (min n most * min q most) most ≡ min (n * q) most
    product n q =
        capped_product most n (min q most) ∙ ap (λ k. min k most) (mul_comm n (min q most)) ∙ capped_product most q n ∙ ap (λ k. min k most) (mul_comm q n)

not_none : (n : ℕ) → 0 < n → eqb n 0 ≡ false
not_none n h = false_from_ne_true (eqb n 0) (λ e. absurd (omega (arith, h, eqb-true n 0 e)))

-- a count with that of some copies, by that of one of them
pub with_each_bare : (plots copies each product whole : ℕ) (bare : Option ℕ) → 0 < copies → bare ≡ Some each → product ≡ min (copies * each) most_counted
    → whole ≡ min (plots + product) most_counted → with_bare plots copies bare ≡ Some whole
with_each_bare plots copies each product whole bare some is of_all together =
    (λ i. cond (not_none copies some i) (Some plots) (option_map (λ n. min (plots + min (copies * n) most_counted) most_counted) (is i)))
    ∙ ap Some (ap (λ k. min (plots + k) most_counted) (sym of_all) ∙ sym together)

-- and what stops one of them stops it
pub bare_stops : (plots copies : ℕ) (bare : Option ℕ) (error : EvalError) → 0 < copies → Evaluates {X = ℕ} (Err error) bare
    → Evaluates {X = ℕ} (Err error) (with_bare plots copies bare)
bare_stops plots copies bare Overflow some stops =
    λ i. cond (not_none copies some i) (Some plots) (option_map (λ n. min (plots + min (copies * n) most_counted) most_counted) (stops i))
bare_stops plots copies bare Memory some stops = tt

-- what copies without rows add to a count
pub bare_added : (found : List (Option ℕ)) (bare : Option ℕ) (n copies plots : ℕ) → counted (total found) ≡ Some plots → copies ≡ min n most_counted
    → with_bare plots copies (counted bare) ≡ counted (total (found ++ replicate n bare))
bare_added found bare n copies plots e is =
    ap (λ k. with_bare plots k (counted bare)) is ∙ by_number n ∙ ap counted (sym (total-append found (replicate n bare)))
  where
    plots_of : (o : Option ℕ) → counted o ≡ Some plots → (s : ℕ) × (o ≡ Some s) × (plots ≡ min s most_counted)
    plots_of None h = absurd (cc)
    plots_of (Some s) h = (s, refl, cc)

    some_left : (n : ℕ) → eqb (min (suc n) most_counted) 0 ≡ false
    some_left n = not_none (min (suc n) most_counted) (positive most_counted n (omega arith))
      where
        positive : (most n : ℕ) → 0 < most → 0 < min (suc n) most
        positive most n h = grind (arith, h)

    with_each : (n : ℕ) (b : Option ℕ) (o : Option ℕ) → (s : ℕ) × (o ≡ Some s) × (plots ≡ min s most_counted)
        → option_map (λ k. min (plots + min (min (suc n) most_counted * k) most_counted) most_counted) (counted b)
        ≡ counted (plus o (total (replicate (suc n) b)))
    with_each n None o (s, at, capped) = sym (ap counted (with_none n o))
    with_each n (Some q) o (s, at, capped) =
        ap (λ p. Some (min (p + min (min (suc n) most_counted * min q most_counted) most_counted) most_counted)) capped
        ∙ ap Some (both_capped most_counted s (suc n) q)
        ∙ sym (ap₂ (λ a b. counted (plus a b)) at (total-replicate (suc n) q))

    nothing_added : (o : Option ℕ) → o ≡ plus o (Some 0)
    nothing_added None = refl
    nothing_added (Some s) = ap Some (omega arith)

    by_number : (n : ℕ) → with_bare plots (min n most_counted) (counted bare) ≡ counted (plus (total found) (total (replicate n bare)))
    by_number zero =
        ap (λ k. with_bare plots k (counted bare)) (none most_counted) ∙ sym e ∙ ap counted (nothing_added (total found))
      where
        none : (most : ℕ) → min 0 most ≡ 0
        none most = grind arith
    by_number (suc n) =
        ap (λ b. cond b (Some plots) (option_map (λ k. min (plots + min (min (suc n) most_counted * k) most_counted) most_counted) (counted bare)))
        (some_left n)
        ∙ with_each n bare (total found) (plots_of (total found) e)

-- ---- the plots of a group

module _ {X : Type 0} (b : Bool) (f : X → Option ℕ) where
  sums : (xs : List X) → (all_found (map f xs) >>= λ ns. Some (cond b (length ns) 0 + sum ns + 0))
      ≡ total (map (λ x. option_map (λ n. cond b 1 0 + n) (f x)) xs)
  sums [] = none b
    where
      none : (b : Bool) → Some (cond b 0 0 + 0 + 0) ≡ Some 0
      none true = refl
      none false = refl
  sums (x ∷ xs) =
      by_first b (f x) (all_found (map f xs)) ∙ ap (plus (option_map (λ n. cond b 1 0 + n) (f x))) (sums xs)
      ∙ sym (total-cons (option_map (λ n. cond b 1 0 + n) (f x)) (map (λ x. option_map (λ n. cond b 1 0 + n) (f x)) xs))
    where
      by_first : (b : Bool) (o : Option ℕ) (others : Option (List ℕ))
          → ((o >>= λ n. others >>= λ ns. Some (n ∷ ns)) >>= λ ns. Some (cond b (length ns) 0 + sum ns + 0))
          ≡ plus (option_map (λ n. cond b 1 0 + n) o) (others >>= λ ns. Some (cond b (length ns) 0 + sum ns + 0))
      by_first b None others = refl
      by_first b (Some n) None = refl
      by_first true (Some n) (Some ns) = let parts = sum_by-cons (λ k. k) n ns in ap Some (omega (arith, parts))
      by_first false (Some n) (Some ns) = let parts = sum_by-cons (λ k. k) n ns in ap Some (omega (arith, parts))

module _ (sources : List Dataset) (m : VgMark) (in_facet in_grid : Bool) (names : Names) (e : is_group (out-VgMark m) ≡ true) where
  abbrev count : Bool → Copy → Option ℕ
  count deeper copy = plots_of_copy sources deeper in_grid (out-VgMark m) names copy

  -- those of all its copies
  group_total : plots_in_facets sources (marks_of (m ∷ [])) in_facet in_grid names
      ≡ total (map (count (in_facet || is_some (facet_in (out-VgMark m).from))) (copies_of names.lists (group_object 0 (out-VgMark m))))
  group_total =
      ap (λ ms. plots_in_facets sources ms in_facet in_grid names) (group_first m (marks_of []) e)
      ∙ sums (is_panel (in_facet || is_some (facet_in (out-VgMark m).from)) in_grid (out-VgMark m))
      (plots_in_copy sources (in_facet || is_some (facet_in (out-VgMark m).from)) (out-VgMark m) names) (copies_of names.lists (group_object 0 (out-VgMark m)))

  -- what stops one of its copies stops it
  pub one_copy_stops : (before : List Copy) (copy : Copy) (behind : List Copy) (error : EvalError)
      → before ++ copy ∷ behind ≡ copies_of names.lists (group_object 0 (out-VgMark m))
      → Evaluates {X = ℕ} (Err error) (plots_of_copy sources (in_facet || is_some (facet_in (out-VgMark m).from)) in_grid (out-VgMark m) names copy)
      → Evaluates {X = ℕ} (Err error) (plots_in_facets sources (marks_of (m ∷ [])) in_facet in_grid names)
  one_copy_stops before copy behind Memory are stops = tt
  one_copy_stops before copy behind Overflow are stops =
      let deeper : Bool = in_facet || is_some (facet_in (out-VgMark m).from) in
      group_total ∙ ap (λ copies. total (map (count deeper) copies)) (sym are)
      ∙ ap total (map-append (count deeper) before (copy ∷ behind))
      ∙ total-append (map (count deeper) before) (map (count deeper) (copy ∷ behind))
      ∙ ap (plus (total (map (count deeper) before)))
      (total-cons (count deeper copy) (map (count deeper) behind) ∙ ap (λ o. plus o (total (map (count deeper) behind))) stops)
      ∙ nothing_behind (total (map (count deeper) before))
    where
      nothing_behind : (o : Option ℕ) → plus o None ≡ None
      nothing_behind None = refl
      nothing_behind (Some k) = refl

  -- what its copies count is what it counts, in a facet or not
  pub group_counts : (deeper : Bool) (result : Result ℕ EvalError) → deeper ≡ (in_facet || is_some (facet_in (out-VgMark m).from))
      → Evaluates result (counted (total (plots_of_all sources deeper in_grid (out-VgMark m) names (copies_of names.lists (group_object 0 (out-VgMark m))))))
      → Evaluates result (counted (plots_in_facets sources (marks_of (m ∷ [])) in_facet in_grid names))
  group_counts deeper result deep counts =
      subst (λ o. Evaluates result (counted o)) (sym group_total)
      (subst (λ d. Evaluates result (counted (total (map (count d) (copies_of names.lists (group_object 0 (out-VgMark m))))))) deep counts)

module _ (sources : List Dataset) (m : VgMark) (deeper in_grid : Bool) (names : Names) where
  abbrev here : Copy → Option ℕ
  here copy = plots_of_copy sources deeper in_grid (out-VgMark m) names copy

  by_parts : (a b : Copy) → a.parts ≡ b.parts → here a ≡ here b
  by_parts a b same =
      ap (λ (parts : List Dataset). option_map (λ n. cond (is_panel deeper in_grid (out-VgMark m)) 1 0 + n)
      (names_in_object sources (record names { lists = with_parts parts names.lists })
      (group_object 0 (out-VgMark m)) >>= plots_inside sources deeper (out-VgMark m))) same

  abbrev all_here : List (Option ℕ)
  all_here = plots_of_all sources deeper in_grid (out-VgMark m) names (copies_of names.lists (group_object 0 (out-VgMark m)))

  abbrev bare_here : Option ℕ
  bare_here = here (bare_copy (facet_in (out-VgMark m).from))

  -- copies that are alike
  pub alike_plots : (copies : ℕ) → are_alike (group_object 0 (out-VgMark m)) (marks_of (marks_in (out-Group (out-VgMark m).group))) ≡ true
      → copies ≡ min (length (copies_of names.lists (group_object 0 (out-VgMark m)))) most_counted
      → with_bare 0 copies (counted (plots_of_copy sources deeper in_grid (out-VgMark m) names (bare_copy (facet_in (out-VgMark m).from))))
      ≡ counted (total (plots_of_all sources deeper in_grid (out-VgMark m) names (copies_of names.lists (group_object 0 (out-VgMark m)))))
  alike_plots copies alike many =
      bare_added [] bare_here (length (copies_of names.lists (group_object 0 (out-VgMark m)))) copies 0 refl many
      ∙ ap (λ l. counted (total l)) (sym (copies_alike sources m deeper in_grid names alike))

  module _ (with_rows : List CopyOf) (are : map copy_seen with_rows ≡ copies_with_rows names.lists (group_object 0 (out-VgMark m))) where
    abbrev found : List (Option ℕ)
    found = plots_of_all sources deeper in_grid (out-VgMark m) names (map copy_seen with_rows)

    abbrev bare_many : ℕ
    bare_many = count_bare names.lists (group_object 0 (out-VgMark m))

    -- those that have rows, and as many as the others are
    parted : total all_here ≡ total (found ++ replicate bare_many bare_here)
    parted =
        copies_summed names.lists here by_parts (group_object 0 (out-VgMark m))
        ∙ ap (λ copies. total (map here copies ++ replicate bare_many bare_here)) (sym are)

    pub each_plots : (without_rows plots : ℕ) → without_rows ≡ min (count_bare names.lists (group_object 0 (out-VgMark m))) most_counted
        → counted (total (plots_of_all sources deeper in_grid (out-VgMark m) names (map copy_seen with_rows))) ≡ Some plots
        → with_bare plots without_rows (counted (plots_of_copy sources deeper in_grid (out-VgMark m) names (bare_copy (facet_in (out-VgMark m).from))))
        ≡ counted (total (plots_of_all sources deeper in_grid (out-VgMark m) names (copies_of names.lists (group_object 0 (out-VgMark m)))))
    each_plots without_rows plots many are_plots = bare_added found bare_here bare_many without_rows plots are_plots many ∙ ap counted (sym parted)

    pub each_stops : (error : EvalError)
        → Evaluates {X = ℕ} (Err error) (counted (total (plots_of_all sources deeper in_grid (out-VgMark m) names (map copy_seen with_rows))))
        → Evaluates {X = ℕ} (Err error)
        (counted (total (plots_of_all sources deeper in_grid (out-VgMark m) names (copies_of names.lists (group_object 0 (out-VgMark m))))))
    each_stops Memory stops = tt
    each_stops Overflow stops =
        ap counted (parted ∙ total-append found (replicate bare_many bare_here)) ∙ none_with (total found) (total (replicate bare_many bare_here)) stops
      where
        none_with : (a b : Option ℕ) → counted a ≡ None → counted (plus a b) ≡ None
        none_with None b h = refl
        none_with (Some k) b h = absurd (cc)

-- ---- how many copies there are

module _ (d : DividedBy) (rows : List Datum) where
  all_ones : (keys : List (List Cell)) → total (map (λ (key : List Cell). Some 1) keys) ≡ Some (length keys)
  all_ones [] = refl
  all_ones (k ∷ ks) = total-cons (Some 1) (map (λ (key : List Cell). Some 1) ks) ∙ ap (plus (Some 1)) (all_ones ks) ∙ ap Some (omega arith)

  both_kinds : length (cells_of_copies d rows) ≡ length (cells_with_rows d rows) + count_without_rows d rows
  both_kinds =
      same (sym (all_ones (cells_of_copies d rows))
      ∙ copies_are_summed d rows (λ key. Some 1) (Some 1) (λ key none. refl)
      ∙ total-append (map (λ (key : List Cell). Some 1) (cells_with_rows d rows)) (replicate (count_without_rows d rows) (Some 1))
      ∙ ap₂ plus (all_ones (cells_with_rows d rows)) (total-replicate (count_without_rows d rows) 1)
      ∙ ap (λ n. Some (length (cells_with_rows d rows) + n)) (mul-one (count_without_rows d rows)))
    where
      same : {a b : ℕ} → Some a ≡ Some b → a ≡ b
      same e = cc

  -- those with rows and those without
  pub all_cells : (with_rows : List (List Cell)) (without count n : ℕ)
      → with_rows ≡ cells_with_rows d rows → without ≡ min (count_without_rows d rows) most_counted
      → n ≡ length with_rows → count ≡ min (n + without) most_counted → count ≡ min (length (cells_of_copies d rows)) most_counted
  all_cells with_rows without count n are others long is =
      is ∙ ap₂ (λ a b. min (a + b) most_counted) (long ∙ ap length are) others
      ∙ capped_sum most_counted (length (cells_with_rows d rows)) (count_without_rows d rows)
      ∙ ap (λ k. min k most_counted) (sym both_kinds)
    where
      capped_sum : (most a b : ℕ) → min (a + min b most) most ≡ min (a + b) most
      capped_sum most a b = grind arith

pub copies_long : (scope : Scope) (sort : Option Sort) (f : Facet)
    → length (copies_by scope sort f) ≡ length (cells_of_copies (divided_by sort f) (rows_divided scope f))
copies_long scope sort f = length-map (cells_of_copies (divided_by sort f) (rows_divided scope f)) (copy_with scope f)
