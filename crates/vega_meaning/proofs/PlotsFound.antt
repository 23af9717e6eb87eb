-- The plot that has a mark is the stretch in which the mark stands.
use Rattle.std.proofs.Common.{◌≡◌, ◌≢◌, ℕ, zero, suc, ◌+◌, ◌-◌, ◌<◌, ◌≤◌, nat_lt, not, ◌&&◌, ◌||◌, Bool, true, false, cond, Option, Some}
use Rattle.std.proofs.Common.{None, List, [], ◌∷◌, ◌++◌, map, refl, sym, ap, ap₂, subst, ◌∙◌, arith}
use Rattle.std.specs.Prelude.{find, slice_get, ◌==◌}
use Rattle.std.specs.Option.{option_or, option_map_or}
use Rattle.std.specs.List.{list_any}
use Rattle.std.proofs.lemmas.Bool.{ltb-true, ltb-false, false_from_ne_true}
use Rattle.std.proofs.lemmas.Bool.Decides.{Decides-eqb, nat_tests}
use Rattle.std.proofs.lemmas.List.Folds.{find-append}
use Rattle.selection_events.specs.declared.selection.PlotOf.{PlotOf}
use Rattle.selection_events.specs.Places.{has_unit}
use Rattle.vega_selections.specs.declared.plots.Span.{Span}
use Rattle.vega_selections.specs.Plots.{numbers_from, plot_at, numbered}
use Rattle.vega_meaning.specs.Times.{scales_at}
use Rattle.vega_meaning.proofs.Stretches.{Stretch, span_of, scaled_of}

-- ---- the stretch of a mark

-- the stretch in which the mark of a number stands, where the marks are numbered from 0
abbrev pub stretch_at : List Stretch → ℕ → Option Stretch
stretch_at [] k = None
stretch_at (s ∷ ss) k = cond (nat_lt k s.size) (Some s) (stretch_at ss (k - s.size))

-- how many marks there are in stretches
abbrev pub total : List Stretch → ℕ
total [] = 0
total (s ∷ ss) = s.size + total ss

less : (a b : ℕ) → a < b → nat_lt a b ≡ true
less a b h = grind (arith, nat_tests)

not_less : (a b : ℕ) → b ≤ a → nat_lt a b ≡ false
not_less a b h = grind (arith, nat_tests)

-- among the first of two lists
pub at_first : (xs ys : List Stretch) (k : ℕ) (s : Stretch) → stretch_at xs k ≡ Some s → stretch_at (xs ++ ys) k ≡ Some s
at_first [] ys k s is = absurd (cc is)
at_first (x ∷ xs) ys k s is = by_size (nat_lt k x.size) is (λ e. at_first xs ys (k - x.size) s e)
  where
    by_size : (b : Bool) → cond b (Some x) (stretch_at xs (k - x.size)) ≡ Some s
        → (stretch_at xs (k - x.size) ≡ Some s → stretch_at (xs ++ ys) (k - x.size) ≡ Some s)
        → cond b (Some x) (stretch_at (xs ++ ys) (k - x.size)) ≡ Some s
    by_size true e later = e
    by_size false e later = later e

minus_size : (n a k : ℕ) → (n + a + k) - n ≡ a + k
minus_size n a k = omega arith

-- among the second
pub at_later : (xs ys : List Stretch) (k : ℕ) → stretch_at (xs ++ ys) (total xs + k) ≡ stretch_at ys k
at_later [] ys k = ap (stretch_at ys) (nothing_more k)
  where
    nothing_more : (k : ℕ) → 0 + k ≡ k
    nothing_more k = omega arith
at_later (x ∷ xs) ys k =
    ap (λ b. cond b (Some x) (stretch_at (xs ++ ys) ((x.size + total xs + k) - x.size))) (not_less (x.size + total xs + k) x.size (omega arith))
    ∙ ap (stretch_at (xs ++ ys)) (minus_size x.size (total xs) k) ∙ at_later xs ys k

-- the scales there
pub scales_there : (ss : List Stretch) (k : ℕ) → scales_at (map scaled_of ss) k ≡ option_map_or (λ (s : Stretch). s.scales) (stretch_at ss k) []
scales_there [] k = refl
scales_there (s ∷ ss) k = by_size (nat_lt k s.size) (scales_there ss (k - s.size))
  where
    by_size : (b : Bool) → scales_at (map scaled_of ss) (k - s.size) ≡ option_map_or (λ (x : Stretch). x.scales) (stretch_at ss (k - s.size)) []
        → cond b s.scales (scales_at (map scaled_of ss) (k - s.size))
        ≡ option_map_or (λ (x : Stretch). x.scales) (cond b (Some s) (stretch_at ss (k - s.size))) []
    by_size true later = refl
    by_size false later = later

-- ---- numbers

abbrev has : ℕ → List ℕ → Bool
has u units = list_any (λ x. x == u) units

same_number : (a b : ℕ) → a ≡ b → (a == b) ≡ true
same_number a b e = (Decides-eqb a b).1 e

other_number : (a b : ℕ) → a ≢ b → (a == b) ≡ false
other_number a b h = false_from_ne_true (a == b) (λ e. h ((Decides-eqb a b).0 e))

or_later : (a b : Bool) → b ≡ true → (a || b) ≡ true
or_later true b e = refl
or_later false b e = e

pub has_number : (size n k : ℕ) → k < size → has (n + k) (numbers_from n size) ≡ true
has_number zero n k h = absurd (omega (arith, h))
has_number (suc count) n zero h = ap (λ b. b || has (n + zero) (numbers_from (n + 1) count)) (same_number n (n + zero) (omega arith))
has_number (suc count) n (suc k) h =
    let same : (n + 1) + k ≡ n + suc k = omega arith in
    or_later (n == n + suc k) (has (n + suc k) (numbers_from (n + 1) count))
    (subst (λ u. has u (numbers_from (n + 1) count) ≡ true) same (has_number count (n + 1) k (omega (arith, h))))

no_number : (size n u : ℕ) → ((k : ℕ) → k < size → n + k ≢ u) → has u (numbers_from n size) ≡ false
no_number zero n u h = refl
no_number (suc count) n u h =
    ap₂ (λ a b. a || b) (other_number n u (λ e. h 0 (omega arith) (omega (arith, e))))
    (no_number count (n + 1) u (λ k below e. h (suc k) (omega (arith, below)) (omega (arith, e))))

-- ---- plots

abbrev spans : List Stretch → List Span
spans ss = map span_of ss

abbrev plot_from : ℕ → Span → PlotOf
plot_from n s = record { units = numbers_from n s.size; facet = s.facet }

-- the plot that a span is, if it has marks, has a number or not
one_plot : (n : ℕ) (s : Span) (b : Bool) (p : PlotOf → Bool) → (s.is_plot && not (s.size == 0)) ≡ b
    → find p (plot_at n s) ≡ cond b (cond (p (plot_from n s)) (Some (plot_from n s)) None) None
one_plot n s b p is =
    ap (λ t. find p (cond t (plot_from n s ∷ []) [])) is ∙ each b
  where
    each : (b : Bool) → find p (cond b (plot_from n s ∷ []) [])
        ≡ cond b (cond (p (plot_from n s)) (Some (plot_from n s)) None) None
    each true = refl
    each false = refl

without : (n : ℕ) (s : Span) (u : ℕ) → has u (numbers_from n s.size) ≡ false → (b : Bool) → (s.is_plot && not (s.size == 0)) ≡ b
    → find (has_unit u) (plot_at n s) ≡ None
without n s u none true is =
    one_plot n s true (has_unit u) is
    ∙ ap (λ t. cond t (Some (plot_from n s)) None) none
without n s u none false is = one_plot n s false (has_unit u) is

-- a number before those of the plots is in none
below_none : (ss : List Stretch) (n u : ℕ) → u < n → find (has_unit u) (numbered n (spans ss)) ≡ None
below_none [] n u h = refl
below_none (s ∷ ss) n u h =
    find-append (has_unit u) (plot_at n (span_of s)) (numbered (n + s.size) (spans ss))
    ∙ ap₂ (λ a b. option_or a b)
    (without n (span_of s) u (no_number s.size n u (λ k below e. absurd (omega (arith, h, e)))) (s.is_plot && not (s.size == 0)) refl)
    (below_none ss (n + s.size) u (omega (arith, h)))

-- where a mark stands: in this stretch, with all marks of this plot
pub record IsFound (ss : List Stretch) (n k : ℕ) (plot : PlotOf) : Type 0 where
  pub stretch : Stretch
  pub there : stretch_at ss k ≡ Some stretch
  pub facet : plot.facet ≡ stretch.facet
  pub least : ℕ
  pub first : slice_get plot.units 0 ≡ Some (n + least)
  pub same : stretch_at ss least ≡ Some stretch

first_number : (n size k : ℕ) → k < size → slice_get (numbers_from n size) 0 ≡ Some (n + 0)
first_number n zero k h = absurd (omega (arith, h))
first_number n (suc count) k h = ap Some (no_more n)
  where
    no_more : (n : ℕ) → n ≡ n + 0
    no_more n = omega arith

here_found : (s : Stretch) (ss : List Stretch) (n k : ℕ) (plot : PlotOf) → k < s.size → plot_from n (span_of s) ≡ plot
    → IsFound (s ∷ ss) n k plot
here_found s ss n k plot within is =
    subst (IsFound (s ∷ ss) n k) is (record {
      stretch = s;
      there = ap (λ b. cond b (Some s) (stretch_at ss (k - s.size))) (less k s.size within);
      facet = refl;
      least = 0;
      first = first_number n s.size k within;
      same = ap (λ b. cond b (Some s) (stretch_at ss (0 - s.size))) (less 0 s.size (omega (arith, within)));
    })

later_found : (s : Stretch) (ss : List Stretch) (n k : ℕ) (plot : PlotOf) → s.size ≤ k → IsFound ss (n + s.size) (k - s.size) plot → IsFound (s ∷ ss) n k plot
later_found s ss n k plot past h = record {
  stretch = h.stretch;
  there = ap (λ b. cond b (Some s) (stretch_at ss (k - s.size))) (not_less k s.size past) ∙ h.there;
  facet = h.facet;
  least = s.size + h.least;
  first = h.first ∙ ap Some (regrouped n s.size h.least);
  same =
      ap (λ b. cond b (Some s) (stretch_at ss ((s.size + h.least) - s.size))) (not_less (s.size + h.least) s.size (omega arith))
      ∙ ap (stretch_at ss) (less_size s.size h.least) ∙ h.same;
}
  where
    regrouped : (a b c : ℕ) → a + b + c ≡ a + (b + c)
    regrouped a b c = omega arith

    less_size : (a b : ℕ) → (a + b) - a ≡ b
    less_size a b = omega arith

none_here : (a b : Option PlotOf) (plot : PlotOf) → a ≡ None → option_or a b ≡ Some plot → b ≡ Some plot
none_here a b plot none is = ap (λ o. option_or o b) (sym none) ∙ is

pub found : (ss : List Stretch) (n k : ℕ) (plot : PlotOf) → find (has_unit (n + k)) (numbered n (spans ss)) ≡ Some plot → IsFound ss n k plot
found [] n k plot is = absurd (cc is)
found (s ∷ ss) n k plot is =
    by_size (nat_lt k s.size) refl
    (sym (find-append (has_unit (n + k)) (plot_at n (span_of s)) (numbered (n + s.size) (spans ss))) ∙ is) (λ k2 e. found ss (n + s.size) k2 plot e)
  where
    by_kind : (b : Bool) → k < s.size → (s.is_plot && not (s.size == 0)) ≡ b
        → option_or (find (has_unit (n + k)) (plot_at n (span_of s))) (find (has_unit (n + k)) (numbered (n + s.size) (spans ss))) ≡ Some plot
        → IsFound (s ∷ ss) n k plot
    by_kind true within kind e =
        let one = one_plot n (span_of s) true (has_unit (n + k)) kind
        ∙ ap (λ t. cond t (Some (plot_from n (span_of s))) None) (has_number s.size n k within) in
        let is_one = ap (λ o. option_or o (find (has_unit (n + k)) (numbered (n + s.size) (spans ss)))) (sym one) ∙ e in
        here_found s ss n k plot within (cc is_one)
    by_kind false within kind e =
        let rest = none_here (find (has_unit (n + k)) (plot_at n (span_of s))) (find (has_unit (n + k)) (numbered (n + s.size) (spans ss))) plot
        (one_plot n (span_of s) false (has_unit (n + k)) kind) e in
        absurd (cc (sym (below_none ss (n + s.size) (n + k) (omega (arith, within))) ∙ rest))

    by_size : (b : Bool) → nat_lt k s.size ≡ b
        → option_or (find (has_unit (n + k)) (plot_at n (span_of s))) (find (has_unit (n + k)) (numbered (n + s.size) (spans ss))) ≡ Some plot
        → ((k2 : ℕ) → find (has_unit (n + s.size + k2)) (numbered (n + s.size) (spans ss)) ≡ Some plot → IsFound ss (n + s.size) k2 plot)
        → IsFound (s ∷ ss) n k plot
    by_size true small e later = by_kind (s.is_plot && not (s.size == 0)) (ltb-true k s.size small) refl e
    by_size false large e later =
        let past = ltb-false k s.size large in
        let none = without n (span_of s) (n + k) (no_number s.size n (n + k) (λ j below same. absurd (omega (arith, past, below, same))))
        (s.is_plot && not (s.size == 0)) refl in
        let rest = none_here (find (has_unit (n + k)) (plot_at n (span_of s))) (find (has_unit (n + k)) (numbered (n + s.size) (spans ss))) plot none e in
        let same : n + k ≡ n + s.size + (k - s.size) = omega (arith, past) in
        later_found s ss n k plot past
        (later (k - s.size) (subst (λ u. find (has_unit u) (numbered (n + s.size) (spans ss)) ≡ Some plot) same rest))
