-- That what a scale scales fits it, and that the scale over it is one.
use Rattle.std.proofs.Common.{◌≡◌, ℕ, zero, suc, ℤ, pos, neg_ℤ, ◌≤ℤ◌, ◌<ℤ◌, int_lt, Bool, true, false, Option, Some, None, IsTrue, IfSome, List, [], ◌∷◌}
use Rattle.std.proofs.Common.{if◌then◌else◌, refl, ap, subst, arith}
use Rattle.std.proofs.lemmas.Int.{ints, clamps}
use Rattle.std.specs.Prelude.{filter_map, ◌==◌}
use Rattle.std.specs.Int.{int_min, int_max}
use Rattle.std.specs.Option.{option_map, option_map_or}
use Rattle.fixed_num.specs.Number.{limit, floored, ceiled}
use Rattle.fixed_num.specs.Ranges.{◌>>=◌, in_range}
use Rattle.time_calc.specs.Instants.{first_instant, last_instant, instant_number}
use Rattle.cell_value.specs.declared.cell.Cell.{Cell}
use Rattle.cell_value.specs.declared.cell.Cell.TheVariants.{Null, Flag, Number, Text, Pair}
use Rattle.expr_syntax.specs.declared.expr.Expr.{Expr}
use Rattle.expr_eval.specs.Plain.{null_row}
use Rattle.expr_eval.specs.Value.{value_of}
use Rattle.expr_eval.specs.Values.{Values}
use Rattle.tick_kit.specs.Domains.{least, greatest, extent_of, with_zero}
use Rattle.tick_kit.specs.Steps.{step_of, span_of, widened as widened_once, widened_times, nice_of}
use Rattle.tick_kit.proofs.RangeLemmas.{floored_below, ceiled_above}
use Rattle.scale_kit.specs.declared.scale.Scale.TheVariants.{Linear, Time, Band, Point, Ramp}
use Rattle.scale_kit.specs.Scale.{IsScale, IsRange, IsPixel, AreInstants}
use Rattle.domain_kit.specs.declared.counting.Counting.{Counting}
use Rattle.domain_kit.specs.Counting.{counted, extent_among, pair_in, numbers_or_instants, cut_in_time, widened, widened_as_asked}
use Rattle.domain_kit.specs.Entries.{color_from, color_to}
use Rattle.vega_spec.specs.declared.domains.Domain.{Domain}
use Rattle.vega_spec.specs.declared.scales.Scale.{Scale}
use Rattle.vega_lists.specs.Scopes.{Scope}
use Rattle.vega_scales.specs.declared.scaled.Scaled.{Scaled}
use Rattle.vega_scales.specs.declared.scaled.Scaled.TheVariants as scaled
use Rattle.vega_scales.specs.Domains.{cells_of_domain, counting_in, raw_domain, extent_of_domain, widened_domain, continuous_domain}
use Rattle.vega_scales.specs.Ranges.{padding_of}
use Rattle.vega_scales.specs.Scales.{is_discrete, is_ordinal, is_time, is_set, is_ramp, takes_zero, ends_of, band, between, banded, ordinal_over}
use Rattle.vega_scales.specs.Scales.{cells_of_scale, numbers_of_scale, domain_of, scale_over, is_built, KeepsBounds, FitsScale}
use Rattle.vega_scales.proofs.ScaleLemmas.{padding_kept, ends_of_kept, entries_fit, entries_there, not_ordinal}
use Rattle.vega_scales.proofs.TimeLemmas.{numbers_in_time}

-- two numbers, the lesser first
abbrev Rises : ℤ × ℤ → Type 0
Rises ends = ends.0 ≤ℤ ends.1

-- ---- widened to round numbers

in_range_is : (x y : ℤ) → in_range x ≡ Some y → x ≡ y
in_range_is x y h = by_tests (int_lt x (neg_ℤ (pos limit))) (int_lt (pos limit) x) h
  where
    by_tests : (below above : Bool) → (if below then None else (if above then None else Some x)) ≡ Some y → x ≡ y
    by_tests true above e = cc
    by_tests false true e = cc
    by_tests false false e = cc

floored_by_none : (m : ℤ) → floored m (pos 0) ≡ pos 0
unfolding floored
floored_by_none m = omega (arith, ints)

ceiled_by_none : (m : ℤ) → ceiled m (pos 0) ≡ pos 0
unfolding ceiled
ceiled_by_none m = ap neg_ℤ (floored_by_none (neg_ℤ m))

taken_outward : (a b : ℤ) (step : ℕ) → a ≤ℤ b → floored a (pos step) ≤ℤ ceiled b (pos step)
taken_outward a b zero h = let low = floored_by_none a in let high = ceiled_by_none b in omega (arith, ints, low, high)
taken_outward a b (suc s) h =
    let some : pos 0 <ℤ pos (suc s) = omega (arith, ints) in
    let low = floored_below a (pos (suc s)) some in
    let high = ceiled_above b (pos (suc s)) some in
    omega (arith, ints, low, high, h)

both : (low high : Option ℤ) (wider : ℤ × ℤ) → (low >>= λ a. high >>= λ b. Some (a, b)) ≡ Some wider → (low ≡ Some wider.0) × (high ≡ Some wider.1)
both None high wider e = absurd (cc e)
both (Some a) None wider e = absurd (cc e)
both (Some a) (Some b) wider e = (cc, cc)

by_step : (ends wider : ℤ × ℤ) → Rises ends → (o : Option ℕ)
    → (o >>= λ step. in_range (floored ends.0 (pos step)) >>= λ low. in_range (ceiled ends.1 (pos step)) >>= λ high. Some (low, high)) ≡ Some wider
    → Rises wider
by_step ends wider rise None e = absurd (cc e)
by_step ends wider rise (Some step) e =
    let parts = both (in_range (floored ends.0 (pos step))) (in_range (ceiled ends.1 (pos step))) wider e in
    let low = in_range_is (floored ends.0 (pos step)) wider.0 parts.0 in
    let high = in_range_is (ceiled ends.1 (pos step)) wider.1 parts.1 in
    let order = taken_outward ends.0 ends.1 step rise in
    omega (arith, ints, low, high, order)

widened_rises : (count : ℕ) (ends wider : ℤ × ℤ) → Rises ends → widened_once count ends ≡ Some wider → Rises wider
widened_rises count ends wider rise e = by_step ends wider rise (step_of (span_of ends) count) e

times_rise : (n count : ℕ) (ends wide : ℤ × ℤ) → Rises ends → widened_times n count ends ≡ Some wide → Rises wide
times_rise zero count ends wide rise e = let same : ends ≡ wide = cc e in subst Rises same rise
times_rise (suc n) count ends wide rise e = once (widened_once count ends) refl e (λ wider w f. times_rise n count wider wide w f)
  where
    once : (o : Option (ℤ × ℤ)) → widened_once count ends ≡ o → (o >>= λ wider. widened_times n count wider) ≡ Some wide
        → ((wider : ℤ × ℤ) → Rises wider → widened_times n count wider ≡ Some wide → Rises wide) → Rises wide
    once None is f rest = absurd (cc f)
    once (Some wider) is f rest = rest wider (widened_rises count ends wider rise is) f

nice_rises : (ends wide : ℤ × ℤ) → Rises ends → nice_of 10 ends ≡ Some wide → Rises wide
nice_rises ends wide rise e = by_test (int_lt ends.0 ends.1) e
  where
    by_test : (b : Bool) → (if b then widened_times 10 10 ends else Some ends) ≡ Some wide → Rises wide
    by_test true f = times_rise 10 10 ends wide rise f
    by_test false f = let same : ends ≡ wide = cc f in subst Rises same rise

-- what rises of each that is given
all_rise : (o : Option (ℤ × ℤ)) → ((wide : ℤ × ℤ) → o ≡ Some wide → Rises wide) → IfSome o Rises
all_rise None h = tt
all_rise (Some wide) h = h wide refl

cut_keeps : (a b x y : ℤ) → x ≤ℤ y → int_max a (int_min x b) ≤ℤ int_max a (int_min y b)
cut_keeps a b x y h = omega (arith, ints, clamps, h)

cut_keeps_order : (x y : ℤ) → x ≤ℤ y → cut_in_time x ≤ℤ cut_in_time y
cut_keeps_order x y h = cut_keeps (instant_number first_instant) (instant_number last_instant) x y h

cut_rises : (o : Option (ℤ × ℤ)) → IfSome o Rises → IfSome (option_map (λ (wide : ℤ × ℤ). (cut_in_time wide.0, cut_in_time wide.1)) o) Rises
cut_rises None h = tt
cut_rises (Some wide) h = cut_keeps_order wide.0 wide.1 h

wide_rises : (of_time : Bool) (ends : ℤ × ℤ) → Rises ends → IfSome (widened of_time ends) Rises
wide_rises true ends rise = cut_rises (nice_of 10 ends) (all_rise (nice_of 10 ends) (λ wide is. nice_rises ends wide rise is))
wide_rises false ends rise = all_rise (nice_of 10 ends) (λ wide is. nice_rises ends wide rise is)

zero_rises : (ends : ℤ × ℤ) → Rises ends → Rises (with_zero ends)
zero_rises ends rise = omega (arith, ints, clamps, rise)

as_asked_rises : (of_time zero_in is_nice : Bool) (ends : ℤ × ℤ) → Rises ends → IfSome (widened_as_asked of_time zero_in is_nice ends) Rises
as_asked_rises of_time true true ends rise = wide_rises of_time (with_zero ends) (zero_rises ends rise)
as_asked_rises of_time false true ends rise = wide_rises of_time ends rise
as_asked_rises of_time true false ends rise = zero_rises ends rise
as_asked_rises of_time false false ends rise = rise

-- ---- the extent of cells

least_low : (m : ℤ) (ns : List ℤ) → least m ns ≤ℤ m
least_low m [] = omega (arith, ints)
least_low m (n ∷ ns) = omega (arith, ints, clamps)

greatest_high : (m : ℤ) (ns : List ℤ) → m ≤ℤ greatest m ns
greatest_high m [] = omega (arith, ints)
greatest_high m (n ∷ ns) = omega (arith, ints, clamps)

extent_rises : (ns : List ℤ) → Rises (extent_of ns)
extent_rises [] = omega (arith, ints)
extent_rises (m ∷ ms) = let low = least_low m ms in let high = greatest_high m ms in omega (arith, ints, low, high)

among_rise : (counting : Counting) (cells : List Cell) → Rises (extent_among counting cells)
among_rise counting cells = extent_rises (filter_map (counted counting) cells)

pair_rises : (counting : Counting) (cell : Cell) → IfSome (pair_in counting cell) Rises
pair_rises counting Null = tt
pair_rises counting (Flag b) = tt
pair_rises counting (Number n) = tt
pair_rises counting (Text t) = tt
pair_rises counting (Pair a b) = among_rise counting (Number a ∷ Number b ∷ [])

-- ---- the numbers of a scale

mapped : {X Y : Type 0} (P : Y → Type 0) (f : X → Y) → ((x : X) → P (f x)) → (o : Option X) → IfSome (option_map f o) P
mapped P f each None = tt
mapped P f each (Some x) = each x

after : (o : Option (ℤ × ℤ)) (f : ℤ × ℤ → Option (ℤ × ℤ)) → IfSome o Rises → ((ends : ℤ × ℤ) → Rises ends → IfSome (f ends) Rises) → IfSome (o >>= f) Rises
after None f h each = tt
after (Some ends) f h each = each ends h

given_or : (given : Option (Option (ℤ × ℤ))) (rest : Option (ℤ × ℤ)) → IfSome given (λ found. IfSome found Rises) → IfSome rest Rises
    → IfSome (given >>= λ found. option_map_or Some found rest) Rises
given_or None rest h i = tt
given_or (Some None) rest h i = i
given_or (Some (Some ends)) rest h i = h

module _ (values : Values) (scope : Scope) where
  raw_rises : (of_time : Bool) (raw : Option Expr) → IfSome (raw_domain values of_time raw) (λ found. IfSome found Rises)
  raw_rises of_time None = tt
  raw_rises of_time (Some e) =
      mapped (λ (found : Option (ℤ × ℤ)). IfSome found Rises) (pair_in (numbers_or_instants of_time)) (pair_rises (numbers_or_instants of_time))
      (value_of null_row values e)

  domain_rises : (of_time : Bool) (raw : Option Expr) (zero_in is_nice : Bool) (d : Domain)
      → IfSome (continuous_domain values scope of_time raw zero_in is_nice d) Rises
  domain_rises of_time raw zero_in is_nice d =
      given_or (raw_domain values of_time raw) (widened_domain values scope of_time zero_in is_nice d) (raw_rises of_time raw)
      (after (extent_of_domain values scope of_time d) (widened_as_asked of_time zero_in is_nice)
      (mapped Rises (extent_among (counting_in of_time d)) (among_rise (counting_in of_time d)) (cells_of_domain values scope d))
      (as_asked_rises of_time zero_in is_nice))

  numbers_rise : (s : Scale) (ends : ℤ × ℤ) → numbers_of_scale values scope s ≡ Some ends → Rises ends
  numbers_rise s ends e =
      subst (λ (o : Option (ℤ × ℤ)). IfSome o Rises) e (domain_rises (is_time s) s.domain_raw (takes_zero s) (is_set s.nice) s.domain)

  cells_fit : (s : Scale) → is_discrete s ≡ true → (o : Option (List Cell)) (d : Scaled) → option_map scaled.Cells o ≡ Some d → FitsScale s d
  cells_fit s discrete None d e = absurd (cc e)
  cells_fit s discrete (Some cells) d e = let same : scaled.Cells cells ≡ d = cc e in subst (FitsScale s) same discrete

  numbers_fit : (s : Scale) → is_discrete s ≡ false → (o : Option (ℤ × ℤ)) → numbers_of_scale values scope s ≡ o → (d : Scaled)
      → option_map between o ≡ Some d → FitsScale s d
  numbers_fit s other None is d e = absurd (cc e)
  numbers_fit s other (Some ends) is d e =
      let same : between ends ≡ d = cc e in
      subst (FitsScale s) same (other, numbers_rise s ends is, numbers_in_time values scope s ends is)

  by_kind : (s : Scale) (b : Bool) → is_discrete s ≡ b → (d : Scaled)
      → (if b then option_map scaled.Cells (cells_of_scale values scope s) else option_map between (numbers_of_scale values scope s)) ≡ Some d → FitsScale s d
  by_kind s true discrete d e = cells_fit s discrete (cells_of_scale values scope s) d e
  by_kind s false other d e = numbers_fit s other (numbers_of_scale values scope s) refl d e

  -- what a scale scales fits it
  pub domain_fits : (s : Scale) (d : Scaled) → domain_of values scope s ≡ Some d → FitsScale s d
  domain_fits s d e = by_kind s (is_discrete s) refl d e

-- ---- the scale over it

over_is : (ramp of_time : Bool) (from to : List ℕ) (ends numbers : ℤ × ℤ) → IsRange ends → Rises numbers → (IsTrue of_time → AreInstants numbers)
    → IsScale (if ramp then Ramp of_time numbers.0 numbers.1 from to
    else (if of_time then Time numbers.0 numbers.1 ends.0 ends.1 else Linear numbers.0 numbers.1 ends.0 ends.1))
over_is true of_time from to ends numbers range rise instants = (rise, instants)
over_is false true from to ends numbers range rise instants = (rise, instants refl, range)
over_is false false from to ends numbers range rise instants = (rise, range)

bands_are : (s : Scale) (cells : List Cell) (ends : ℤ × ℤ) → KeepsBounds s → IsRange ends → (b : Bool)
    → IsScale (if b then Band cells (padding_of s.padding_inner s.padding) (padding_of s.padding_outer s.padding) ends.0 ends.1
    else Point cells (padding_of s.padding_outer s.padding) ends.0 ends.1)
bands_are s cells ends kept range true =
    (padding_kept s.padding_inner s.padding kept.inner kept.both, padding_kept s.padding_outer s.padding kept.outer kept.both, range)
bands_are s cells ends kept range false = (padding_kept s.padding_outer s.padding kept.outer kept.both, range)

module _ (s : Scale) (width height : ℤ) (built : IsTrue (is_built s)) (kept : KeepsBounds s) (w : IsPixel width) (h : IsPixel height) where
  cells_are : (cells : List Cell) (b : Bool) → is_ordinal s ≡ b → IsScale (if b then ordinal_over s cells else banded s (ends_of s width height) cells)
  cells_are cells true is = entries_there (is_set s.reverse) s.range cells (entries_fit s built is)
  cells_are cells false is = bands_are s cells (ends_of s width height) kept (ends_of_kept s width height kept w h is) (s.type_ == band)

  -- the scale over what fits it is one
  pub scale_is : (d : Scaled) → FitsScale s d → IsScale (scale_over s width height d)
  scale_is (scaled.Cells cells) fits = cells_are cells (is_ordinal s) refl
  scale_is (scaled.Between a b) fits =
      over_is (is_ramp s.range) (is_time s) (color_from (is_set s.reverse)) (color_to (is_set s.reverse)) (ends_of s width height) (a, b)
      (ends_of_kept s width height kept w h (not_ordinal s fits.0)) fits.1 fits.2
