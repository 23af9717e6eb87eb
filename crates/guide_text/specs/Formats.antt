-- The formats of labels.
use Rattle.std.specs.Prelude.{◌≡◌, refl, ℕ, ◌==◌, ◌-◌, nat_le, Bool, true, false, ◌&&◌, if◌then◌else◌, List, [], ◌∷◌, codes, Option, Some, None}
use Rattle.std.specs.Option.{option_map}
use Rattle.guide_text.specs.declared.formats.NumberKind.{NumberKind}
use Rattle.guide_text.specs.declared.formats.NumberKind.TheVariants.{Fixed, Whole, Percent}
use Rattle.guide_text.specs.declared.formats.NumberFormat.{NumberFormat}

-- a number format ends with `f`, `d` or `%`
abbrev pub number_kind_of : List ℕ → Option NumberKind
number_kind_of (b ∷ []) = if b == 102 then Some Fixed else (if b == 100 then Some Whole else (if b == 37 then Some Percent else None))
number_kind_of other = None

-- a number format with this comma and these decimals, by its end
abbrev pub ending_with : Bool → Option ℕ → List ℕ → Option NumberFormat
ending_with comma decimals end = option_map (λ kind. record { comma = comma; decimals = decimals; kind = kind }) (number_kind_of end)

-- before its end may stand `.n`, with n one digit from 0 to 6
abbrev pub number_tail_of : Bool → List ℕ → Option NumberFormat
number_tail_of comma (b ∷ n ∷ rest) =
    if b == 46 then (if nat_le 48 n && nat_le n 54 then ending_with comma (Some (n - 48)) rest else None)
    else ending_with comma None (b ∷ n ∷ rest)
number_tail_of comma other = ending_with comma None other

-- the number format that a text is, if it is one: before all that may stand a `,`
unfoldable pub number_format_of : List ℕ → Option NumberFormat
number_format_of [] = None
number_format_of (b ∷ rest) = if b == 44 then number_tail_of true rest else number_tail_of false (b ∷ rest)

-- ---- worked examples

two_decimals : number_format_of (codes ",.2f") ≡ Some (record { comma = true; decimals = Some 2; kind = Fixed })
unfolding number_format_of
two_decimals = refl

a_percent_sign_alone : number_format_of (codes "%") ≡ Some (record { comma = false; decimals = None; kind = Percent })
unfolding number_format_of
a_percent_sign_alone = refl

whole_numbers : (number_format_of (codes "d") ≡ Some (record { comma = false; decimals = None; kind = Whole }))
    × (number_format_of (codes ",d") ≡ Some (record { comma = true; decimals = None; kind = Whole }))
unfolding number_format_of
whole_numbers = (refl, refl)

no_number_formats : (number_format_of [] ≡ None) × (number_format_of (codes ",") ≡ None) × (number_format_of (codes ".2") ≡ None)
    × (number_format_of (codes ".7f") ≡ None) × (number_format_of (codes "2f") ≡ None) × (number_format_of (codes "f,") ≡ None)
    × (number_format_of (codes "%%") ≡ None)
unfolding number_format_of
no_number_formats = (refl, refl, refl, refl, refl, refl, refl)
