-- Why one pass finds the extent of numbers, and that numbers that are cut stay in order.
use Rattle.std.proofs.Common.{◌≡◌, ℕ, ℤ, ◌+◌, ◌<◌, ◌≤ℤ◌, List, [], ◌∷◌, length, drop, get_or, Option, Some, None, refl, sym, ap, ◌∙◌, arith}
use Rattle.std.specs.Prelude.{filter_map}
use Rattle.std.specs.Int.{int_min, int_max}
use Rattle.std.specs.List.{cons_option}
use Rattle.std.proofs.lemmas.Int.{ints, clamps}
use Rattle.std.proofs.lemmas.List.{drop_more}
use Rattle.time_calc.specs.Instants.{instant_number, first_instant, last_instant}
use Rattle.cell_value.specs.declared.cell.Cell.{Cell}
use Rattle.tick_kit.specs.Domains.{least, greatest}
use Rattle.domain_kit.specs.Counting.{cut_in_time}
use Rattle.domain_kit.specs.inner.Extents.{with_number, extent_behind}

least-of_lesser : (a n : ℤ) (ns : List ℤ) → least (int_min a n) ns ≡ int_min a (least n ns)
least-of_lesser a n [] = refl
least-of_lesser a n (m ∷ ms) = omega (arith, ints, clamps)

greatest-of_greater : (a n : ℤ) (ns : List ℤ) → greatest (int_max a n) ns ≡ int_max a (greatest n ns)
greatest-of_greater a n [] = refl
greatest-of_greater a n (m ∷ ms) = omega (arith, ints, clamps)

pub extent_one_more : (ends : Option (ℤ × ℤ)) (n : Option ℤ) (ns : List ℤ)
    → extent_behind (with_number ends n) ns ≡ extent_behind ends (cons_option n ns)
extent_one_more ends None ns = refl
extent_one_more None (Some n) ns = refl
extent_one_more (Some ends) (Some n) ns = λ i. (least-of_lesser ends.0 n ns i, greatest-of_greater ends.1 n ns i)

-- one cell more was looked at
pub extent_more : (f : Cell → Option ℤ) (cells : List Cell) (i : ℕ) (cell : Cell) (ends : Option (ℤ × ℤ)) (whole : ℤ × ℤ)
    → i < length cells → cell ≡ get_or cells i cell
    → extent_behind ends (filter_map f (drop i cells)) ≡ whole
    → extent_behind (with_number ends (f cell)) (filter_map f (drop (i + 1) cells)) ≡ whole
extent_more f cells i cell ends whole l at so_far =
    extent_one_more ends (f cell) (filter_map f (drop (i + 1) cells))
    ∙ ap (λ d. extent_behind ends (filter_map f d)) (sym (drop_more cells i cell l ∙ ap (λ x. x ∷ drop (i + 1) cells) (sym at)))
    ∙ so_far

cut_rises : (a b x y : ℤ) → x ≤ℤ y → int_max a (int_min x b) ≤ℤ int_max a (int_min y b)
cut_rises a b x y h = omega (arith, ints, clamps, h)

-- numbers that are cut stay in order
pub cut_keeps_order : (x y : ℤ) → x ≤ℤ y → cut_in_time x ≤ℤ cut_in_time y
cut_keeps_order x y h = cut_rises (instant_number first_instant) (instant_number last_instant) x y h
