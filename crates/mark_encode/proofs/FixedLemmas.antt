-- Why what channels show of every row is what they show of each.
use Rattle.std.proofs.Common.{◌≡◌, ℕ, ℤ, Bool, true, false, not, ◌≤◌, ◌<◌, length, get_or}
use Rattle.std.proofs.Common.{Option, Some, None, List, [], ◌∷◌, refl, sym, ap, ◌∙◌, arith}
use Rattle.std.specs.Prelude.{if◌then◌else◌}
use Rattle.std.specs.Option.{option_map, option_map_or, is_some}
use Rattle.std.proofs.lemmas.Bool.{false≢true}
use Rattle.fixed_num.specs.Ranges.{◌>>=◌, in_range}
use Rattle.cell_value.specs.declared.cell.Cell.{Cell}
use Rattle.cell_value.specs.Datum.{CellAt}
use Rattle.expr_syntax.specs.declared.expr.Expr.{Expr}
use Rattle.expr_eval.specs.Values.{Values}
use Rattle.expr_eval.specs.Value.{truth_of}
use Rattle.mark_shapes.specs.declared.shown.Shown.{Shown}
use Rattle.mark_shapes.specs.declared.shown.Shown.TheVariants.{Absent}
use Rattle.mark_shapes.specs.declared.texts.TextStyle.{TextStyle}
use Rattle.mark_shapes.specs.Shown.{shown}
use Rattle.mark_shapes.specs.Symbols.{radius_of, side_shown, symbol_about, symbol_of, symbol_with}
use Rattle.mark_shapes.specs.Texts.{style_of}
use Rattle.mark_encode.specs.declared.channels.Scaled.{Scaled}
use Rattle.mark_encode.specs.declared.sizes.SymbolSize.{SymbolSize}
use Rattle.mark_encode.specs.Channels.{ScaledValue}
use Rattle.mark_encode.specs.Values.{first_met, cell_from, number_by, number_for, number_shown, color_at, color_for, color_shown, shown_by}
use Rattle.mark_encode.specs.inner.Scaled.{scaled_of, scaled_all}
use Rattle.mark_encode.specs.inner.Fixed.{is_fixed, number_alone, fixed_number, color_alone, fixed_color}
use Rattle.mark_encode.specs.inner.Fixed.{sized, sized_of, symbol_sized, sized_by, symbol_when}

-- three tests that fail
all_fail : (a b c : Bool) → (if a then false else (if b then false else not c)) ≡ true → (a ≡ false) × (b ≡ false) × (c ≡ false)
all_fail true b c e = absurd (false≢true e)
all_fail false true c e = absurd (false≢true e)
all_fail false false true e = absurd (false≢true e)
all_fail false false false e = (refl, refl, refl)

module _ (cells : CellAt) (values : Values) where
  met : (test : Option Expr) → is_some test ≡ false → option_map_or (truth_of cells values) test (Some true) ≡ Some true
  met None off = refl
  met (Some test) off = absurd (false≢true (sym off))

  own : (signal : Option Expr) (field : Option (List ℕ)) (cell : Option Cell) → is_some signal ≡ false → is_some field ≡ false
      → cell_from cells values signal field cell ≡ Some cell
  own None None cell a b = refl
  own None (Some field) cell a b = absurd (false≢true (sym b))
  own (Some signal) field cell a b = absurd (false≢true (sym a))

  module _ (v : ScaledValue) (vs : List ScaledValue) (fixed : is_fixed v.value ≡ true) where
    abbrev fails : (is_some v.value.test ≡ false) × (is_some v.value.signal ≡ false) × (is_some v.value.field ≡ false)
    fails = all_fail (is_some v.value.test) (is_some v.value.signal) (is_some v.value.field) fixed

    -- the first value counts
    counts : first_met cells values (v ∷ vs) ≡ Some (Some v)
    counts = ap (λ o. o >>= λ met. if met then Some (Some v) else first_met cells values vs) (met v.value.test fails.0)

    number_counts : (far : Bool) → number_shown far cells values (v ∷ vs) ≡ option_map shown (number_by far v v.value.value)
    number_counts far =
        ap (λ o. o >>= shown_by (number_for far cells values)) counts
        ∙ ap (λ o. option_map shown (o >>= number_by far v)) (own v.value.signal v.value.field v.value.value fails.1 fails.2)

    color_counts : color_shown cells values (v ∷ vs) ≡ Some (shown (color_at v.scale v.value.band v.value.value))
    color_counts =
        ap (λ o. o >>= shown_by (color_for cells values)) counts
        ∙ ap (λ o. option_map shown (option_map (color_at v.scale v.value.band) o)) (own v.value.signal v.value.field v.value.value fails.1 fails.2)

  number_first : (far : Bool) (v : ScaledValue) (vs : List ScaledValue) (n : Shown ℤ) (b : Bool) → is_fixed v.value ≡ b
      → (if b then option_map shown (number_by far v v.value.value) else None) ≡ Some n → number_shown far cells values (v ∷ vs) ≡ Some n
  number_first far v vs n true fixed is = number_counts v vs fixed far ∙ is
  number_first far v vs n false fixed is = let off : None ≡ Some n = is in absurd (cc)

  -- the number that is shown of every row
  pub number_is : (far : Bool) (vs : List ScaledValue) (n : Shown ℤ) → fixed_number far vs ≡ Some n → number_shown far cells values vs ≡ Some n
  number_is far [] n is = is
  number_is far (v ∷ vs) n is = number_first far v vs n (is_fixed v.value) refl is

  color_first : (v : ScaledValue) (vs : List ScaledValue) (c : Shown (List ℕ)) (b : Bool) → is_fixed v.value ≡ b
      → (if b then Some (shown (color_at v.scale v.value.band v.value.value)) else None) ≡ Some c → color_shown cells values (v ∷ vs) ≡ Some c
  color_first v vs c true fixed is = color_counts v vs fixed ∙ is
  color_first v vs c false fixed is = let off : None ≡ Some c = is in absurd (cc)

  pub color_is : (vs : List ScaledValue) (c : Shown (List ℕ)) → fixed_color vs ≡ Some c → color_shown cells values vs ≡ Some c
  color_is [] c is = is
  color_is (v ∷ vs) c is = color_first v vs c (is_fixed v.value) refl is

  -- what is made of it
  pub size_is : (vs : List ScaledValue) (found : Option (Shown ℤ)) (size : Option SymbolSize) → fixed_number false vs ≡ found
      → sized_by found ≡ Some size → sized_by (number_shown false cells values vs) ≡ Some size
  size_is vs None size at is = let off : None ≡ Some size = is in absurd (cc)
  size_is vs (Some n) size at is = ap sized_by (number_is false vs n at) ∙ is

  pub made_of_color : {X : Type 0} (make : Shown (List ℕ) → X) (vs : List ScaledValue) (found : Option (Shown (List ℕ))) (x : X) → fixed_color vs ≡ found
      → option_map make found ≡ Some x → option_map make (color_shown cells values vs) ≡ Some x
  made_of_color make vs None x at is = let off : None ≡ Some x = is in absurd (cc)
  made_of_color make vs (Some c) x at is = ap (option_map make) (color_is vs c at) ∙ is

  -- how a text is set by what is shown of every row
  pub style_is : (sizes aligns baselines : List ScaledValue) (size : Option (Shown ℤ)) (align baseline : Option (Shown (List ℕ))) (style : TextStyle)
      → fixed_number false sizes ≡ size → fixed_color aligns ≡ align → fixed_color baselines ≡ baseline
      → (size >>= λ n. align >>= λ a. baseline >>= λ b. Some (style_of n a b)) ≡ Some style
      → (number_shown false cells values sizes >>= λ n. color_shown cells values aligns >>= λ a. color_shown cells values baselines >>= λ b.
      Some (style_of n a b)) ≡ Some style
  style_is sizes aligns baselines None align baseline style of_size of_align of_baseline is = let off : None ≡ Some style = is in absurd (cc)
  style_is sizes aligns baselines (Some n) None baseline style of_size of_align of_baseline is = let off : None ≡ Some style = is in absurd (cc)
  style_is sizes aligns baselines (Some n) (Some a) None style of_size of_align of_baseline is = let off : None ≡ Some style = is in absurd (cc)
  style_is sizes aligns baselines (Some n) (Some a) (Some b) style of_size of_align of_baseline is =
      ap (λ o. o >>= λ n. color_shown cells values aligns >>= λ a. color_shown cells values baselines >>= λ b. Some (style_of n a b))
      (number_is false sizes n of_size)
      ∙ ap (λ o. o >>= λ a. color_shown cells values baselines >>= λ b. Some (style_of n a b)) (color_is aligns a of_align)
      ∙ ap (λ o. o >>= λ b. Some (style_of n a b)) (color_is baselines b of_baseline)
      ∙ is

-- without values nothing is shown, and else the first counts
pub number_of_none : (far : Bool) (vs : List Scaled) → length vs < 1 → Some Absent ≡ fixed_number far (scaled_all vs)
number_of_none far [] none = refl
number_of_none far (v ∷ vs) none = absurd (omega (arith, none))

pub number_of_first : (far : Bool) (vs : List Scaled) (v : Scaled) → 1 ≤ length vs → v ≡ get_or vs 0 v
    → number_alone far (scaled_of v) ≡ fixed_number far (scaled_all vs)
number_of_first far [] v some is = absurd (omega (arith, some))
number_of_first far (first ∷ vs) v some is = ap (λ (v : Scaled). number_alone far (scaled_of v)) is

pub color_of_none : (vs : List Scaled) → length vs < 1 → Some Absent ≡ fixed_color (scaled_all vs)
color_of_none [] none = refl
color_of_none (v ∷ vs) none = absurd (omega (arith, none))

pub color_of_first : (vs : List Scaled) (v : Scaled) → 1 ≤ length vs → v ≡ get_or vs 0 v
    → color_alone (scaled_of v) ≡ fixed_color (scaled_all vs)
color_of_first [] v some is = absurd (omega (arith, some))
color_of_first (first ∷ vs) v some is = ap (λ (v : Scaled). color_alone (scaled_of v)) is

-- a symbol of a size, by the root of that
module _ (x y : Option ℤ) where
  by_radius : (side : ℤ) (r : Option ℤ) (form : Option (Shown (List ℕ)))
      → (option_map (λ r. Some (sized side r)) r >>= λ s. option_map symbol_of form >>= λ f. symbol_sized f s x y)
      ≡ (form >>= λ form. r >>= λ r. symbol_about (symbol_of form) side r x y)
  by_radius side None None = refl
  by_radius side None (Some form) = refl
  by_radius side (Some r) None = refl
  by_radius side (Some r) (Some form) = refl

  by_side : (side : Option ℤ) (form : Option (Shown (List ℕ)))
      → (sized_of side >>= λ s. option_map symbol_of form >>= λ f. symbol_sized f s x y)
      ≡ (form >>= λ form. symbol_with (symbol_of form) side x y)
  by_side None None = refl
  by_side None (Some form) = refl
  by_side (Some side) form = by_radius side (in_range (radius_of side)) form

-- a symbol by what its channels show
pub symbol_by_shown : (x y : Option (Option ℤ)) (size : Option (Shown ℤ)) (form : Option (Shown (List ℕ)))
    → symbol_when x y (sized_by size) (option_map symbol_of form)
    ≡ (x >>= λ x. y >>= λ y. size >>= λ size. form >>= λ form. symbol_with (symbol_of form) (side_shown size) x y)
symbol_by_shown None y size form = refl
symbol_by_shown (Some x) None size form = refl
symbol_by_shown (Some x) (Some y) None form = refl
symbol_by_shown (Some x) (Some y) (Some size) form = by_side x y (side_shown size) form
