-- Why the numbers of a scale stay within their bounds.
use Rattle.std.proofs.Common.{◌≡◌, ◌↔◌, ◌&&◌, ◌||◌, ◌==◌, if◌then◌else◌, not, Bool, true, false, ℤ, pos, Option, Some, None, List, [], ◌∷◌}
use Rattle.std.proofs.Common.{length, IfSome, IsTrue, unwrap_or, reverse, refl, sym, ap, ◌∙◌, subst, arith}
use Rattle.std.specs.Option.{option_map}
use Rattle.cell_value.specs.declared.cell.Cell.{Cell}
use Rattle.std.proofs.lemmas.Bool.Decides.{Decides-eqb}
use Rattle.std.proofs.lemmas.Int.{ints}
use Rattle.std.proofs.lemmas.List.{reverse-reverse}
use Rattle.std.proofs.lemmas.Option.{same_Some}
use Rattle.vega_spec.specs.declared.scales.Range.{Range}
use Rattle.vega_spec.specs.declared.scales.Range.TheVariants.{Cells, Width, Height, Category, Ramp, Symbol}
use Rattle.vega_spec.specs.declared.scales.Scale.{Scale}
use Rattle.scale_kit.specs.Scale.{IsPadding, IsPixel, IsRange}
use Rattle.vega_scales.specs.Ranges.{two_numbers, ends_in, turned, padding_of}
use Rattle.domain_kit.specs.Entries.{entries_turned, category_colors, symbol_shapes}
use Rattle.vega_scales.specs.Entries.{entries_of}
use Rattle.vega_scales.specs.Scales.{is_discrete, is_ordinal, is_set, ends_of, given_ends, has_entries, fits_range, is_built, ordinal}
use Rattle.vega_scales.specs.Scales.{KeepsBounds, band, point, between, domain_size, cells_of_scale, numbers_of_scale}
use Rattle.vega_scales.specs.Laws.{LengthIsSize}
use Rattle.vega_scales.specs.declared.scaled.Scaled.{Scaled}
use Rattle.vega_scales.specs.declared.scaled.Scaled.TheVariants as scaled

pub padding_kept : (own both : Option ℤ) → IfSome own IsPadding → IfSome both IsPadding → IsPadding (padding_of own both)
padding_kept (Some p) both h i = h
padding_kept None (Some p) h i = i
padding_kept None None h i = (omega (arith, ints), omega (arith, ints))

zero_pixel : IsPixel (pos 0)
zero_pixel = (omega (arith, ints), omega (arith, ints))

zero_range : IsRange (pos 0, pos 0)
zero_range = (zero_pixel, zero_pixel)

given_or_zero : (given : Option (ℤ × ℤ)) → IfSome given IsRange → IsRange (unwrap_or given (pos 0, pos 0))
given_or_zero None h = zero_range
given_or_zero (Some ends) h = h

ends_kept : (discrete : Bool) (width height : ℤ) (range : Range) → IfSome (given_ends range) IsRange → IsPixel width → IsPixel height
    → IsRange (unwrap_or (ends_in discrete width height range) (pos 0, pos 0))
ends_kept discrete width height (Cells cells) given w h = given_or_zero (two_numbers cells) given
ends_kept discrete width height Width given w h = (zero_pixel, w)
ends_kept true width height Height given w h = (zero_pixel, h)
ends_kept false width height Height given w h = (h, zero_pixel)
ends_kept discrete width height Category given w h = zero_range
ends_kept discrete width height Ramp given w h = zero_range
ends_kept discrete width height Symbol given w h = zero_range

turned_kept : (reverse : Bool) (ends : ℤ × ℤ) → IsRange ends → IsRange (turned reverse ends)
turned_kept true ends h = (h.1, h.0)
turned_kept false ends h = h

-- the ends of a scale's range are such as ranges have, where it isn't ordinal
pub ends_of_kept : (s : Scale) (width height : ℤ) → KeepsBounds s → IsPixel width → IsPixel height → is_ordinal s ≡ false
    → IsRange (ends_of s width height)
ends_of_kept s width height kept w h other =
    turned_kept (is_set s.reverse) _ (ends_kept (is_discrete s) width height s.range (kept.ends other) w h)

front : (a b : Bool) → (a && b) ≡ true → a ≡ true
front true b e = refl
front false b e = e

-- an ordinal scale that is built has a range of entries
pub entries_fit : (s : Scale) → IsTrue (is_built s) → is_ordinal s ≡ true → IsTrue (has_entries s.range)
entries_fit s built e =
    subst (λ k. fits_range k s.range ≡ true) ((Decides-eqb s.type_ ordinal).0 e) (front (fits_range s.type_ s.range) _ built)

-- only over no cells does such a range have no entries
some_there : (range : Range) (cells : List Cell) → IsTrue (has_entries range) → entries_of range (length cells) ≡ [] → cells ≡ []
unfolding category_colors symbol_shapes
some_there (Cells []) cells h e = cc
some_there (Cells (first ∷ others)) cells h e = cc
some_there Width cells h e = cc
some_there Height cells h e = cc
some_there Category cells h e = cc
some_there Ramp [] h e = refl
some_there Ramp (first ∷ others) h e = cc
some_there Symbol cells h e = cc

none_turned : (turned : Bool) (entries : List Cell) → entries_turned turned entries ≡ [] → entries ≡ []
none_turned false entries e = e
none_turned true entries e = sym (reverse-reverse entries) ∙ ap reverse e

-- turned round or not
pub entries_there : (turned : Bool) (range : Range) (cells : List Cell) → IsTrue (has_entries range)
    → entries_turned turned (entries_of range (length cells)) ≡ [] → cells ≡ []
entries_there turned range cells h e = some_there range cells h (none_turned turned (entries_of range (length cells)) e)

-- a list has entries exactly where it isn't empty
pub entries_or_none : (cells : List Cell) (b : Bool) → (IsTrue b ↔ (cells ≡ [])) → not b ≡ has_entries (Cells cells)
entries_or_none [] true h = refl
entries_or_none [] false h = sym (h.1 refl)
entries_or_none (first ∷ others) true h = let none : first ∷ others ≡ [] = h.0 refl in cc
entries_or_none (first ∷ others) false h = refl

-- a scale that isn't discrete isn't ordinal
other_kind : (a b c : Bool) → (a || (b || c)) ≡ false → c ≡ false
other_kind false false c e = e
other_kind false true c e = cc
other_kind true b c e = cc

pub not_ordinal : (s : Scale) → is_discrete s ≡ false → is_ordinal s ≡ false
not_ordinal s e = other_kind (s.type_ == band) (s.type_ == point) (s.type_ == ordinal) e

-- a scale that has a domain is as long as that
long_as : (discrete : Bool) (cells : Option (List Cell)) (numbers : Option (ℤ × ℤ)) (domain : Scaled)
    → (if discrete then option_map scaled.Cells cells else option_map between numbers) ≡ Some domain
    → (if discrete then option_map length cells else Some 2) ≡ Some (domain_size domain)
long_as true None numbers domain e = cc
long_as true (Some cells) numbers domain e = ap (λ d. Some (domain_size d)) (same_Some (scaled.Cells cells) domain e)
long_as false cells None domain e = cc
long_as false cells (Some numbers) domain e = ap (λ d. Some (domain_size d)) (same_Some (between numbers) domain e)

pub as_long : LengthIsSize
as_long values scope s domain e = long_as (is_discrete s) (cells_of_scale values scope s) (numbers_of_scale values scope s) domain e
