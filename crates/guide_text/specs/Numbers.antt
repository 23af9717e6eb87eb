-- Numbers by number formats.
use Rattle.std.specs.Prelude.{◌≡◌, refl, ℕ, ◌+◌, ◌-◌, ◌/◌, ◌^◌, Bool, true, false, List, [], ◌∷◌, ◌++◌, codes, ℤ, pos, negsuc, unsigned_abs, Option, Some, None}
use Rattle.std.specs.Prelude.{unwrap_or}
use Rattle.std.specs.Option.{option_map_or}
use Rattle.std.specs.Fmt.{decimal, digits}
use Rattle.fixed_num.specs.Number.{rounded, floor_quotient}
use Rattle.tick_kit.specs.Labels.{with_thousands, sign_of, fraction_of, in_units}
use Rattle.guide_text.specs.declared.formats.NumberKind.{NumberKind}
use Rattle.guide_text.specs.declared.formats.NumberKind.TheVariants.{Fixed, Whole, Percent}
use Rattle.guide_text.specs.declared.formats.NumberFormat.{NumberFormat}

-- how many decimals a format writes beside labels with so many of their own: those that it names; else `f` as many as the labels, and `%`
-- two fewer, as far as there are; else 6. `d` writes none.
abbrev pub decimals_for : NumberKind → Option ℕ → Option ℕ → ℕ
decimals_for Fixed named own = unwrap_or named (unwrap_or own 6)
decimals_for Whole named own = 0
decimals_for Percent named own = unwrap_or named (option_map_or (λ n. n - 2) own 6)

-- the places by which a number is moved to count hundredths
abbrev pub hundredths : NumberKind → ℕ
hundredths Fixed = 0
hundredths Whole = 0
hundredths Percent = 2

-- the sign at the end
abbrev pub mark_of : NumberKind → List ℕ
mark_of Fixed = []
mark_of Whole = []
mark_of Percent = codes "%"

-- a whole number, with a comma between thousands where that is asked
abbrev pub whole_of : Bool → ℕ → List ℕ
whole_of true n = with_thousands (decimal n)
whole_of false n = decimal n

-- a size that counts units of so many decimals
abbrev pub size_of : Bool → ℕ → ℕ → List ℕ
size_of comma decimals n = whole_of comma (n / 10 ^ decimals) ++ fraction_of decimals n

-- a number that counts units of so many decimals, with the sign of its kind
abbrev pub written : Bool → NumberKind → ℕ → ℤ → List ℕ
written comma kind decimals units = sign_of units ++ size_of comma decimals (unsigned_abs units) ++ mark_of kind

-- a number with so many decimals, rounded, the middle going upward; what rounds to zero has no sign
abbrev pub written_with : Bool → NumberKind → ℕ → ℤ → List ℕ
written_with comma kind decimals v = written comma kind decimals (in_units (decimals + hundredths kind) v)

-- a number by a format, beside labels with so many decimals of their own
unfoldable pub formatted : NumberFormat → Option ℕ → ℤ → List ℕ
formatted f own v = written_with f.comma f.kind (decimals_for f.kind f.decimals own) v

-- ---- worked examples

abbrev fixed : Bool → Option ℕ → NumberFormat
fixed comma decimals = record { comma = comma; decimals = decimals; kind = Fixed }

abbrev percent : Bool → Option ℕ → NumberFormat
percent comma decimals = record { comma = comma; decimals = decimals; kind = Percent }

with_two_decimals : (formatted (fixed true (Some 2)) None (pos 1234567000000) ≡ codes "1,234,567.00")
    × (formatted (fixed false (Some 2)) None (pos 1234567895000) ≡ codes "1234567.90")
unfolding formatted rounded floor_quotient digits
with_two_decimals = (refl, refl)

without_named_decimals : (formatted (fixed false None) None (pos 500000) ≡ codes "0.500000")
    × (formatted (fixed false None) (Some 1) (pos 500000) ≡ codes "0.5")
    × (formatted (percent false None) None (pos 500000) ≡ codes "50.000000%")
    × (formatted (percent false None) (Some 3) (pos 125000) ≡ codes "12.5%")
    × (formatted (percent false None) (Some 1) (pos 500000) ≡ codes "50%")
unfolding formatted rounded floor_quotient digits
without_named_decimals = (refl, refl, refl, refl, refl)

whole_numbers_have_none : formatted (record { comma = false; decimals = Some 2; kind = Whole }) (Some 1) (pos 2500000) ≡ codes "3"
unfolding formatted rounded floor_quotient digits
whole_numbers_have_none = refl

below_zero : (formatted (percent true (Some 0)) None (negsuc 49999999) ≡ 226 ∷ 136 ∷ 146 ∷ codes "5,000%")
    × (formatted (fixed false (Some 0)) None (negsuc 499999) ≡ codes "0")
unfolding formatted rounded floor_quotient digits
below_zero = (refl, refl)
