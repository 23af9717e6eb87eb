-- Domains of numbers, laid over ranges. A domain and a range are each given by their ends.
use Rattle.std.specs.Prelude.{◌≡◌, refl, ◌*◌, ℤ, pos, negsuc, ◌+ℤ◌, ◌-ℤ◌, ◌*ℤ◌, int_lt, unsigned_abs, if◌then◌else◌}
use Rattle.std.specs.Int.{int_min, int_max}
use Rattle.fixed_num.specs.Number.{million, rounded, rounded_ratio, floor_quotient}

-- the middle of a range
abbrev pub middle : ℤ × ℤ → ℤ
middle range = range.0 +ℤ rounded (range.1 -ℤ range.0) 2

-- the place of a number: as far along the range as it is along the domain; the middle of the range where the domain is one point
abbrev pub place_of_number : ℤ × ℤ → ℤ × ℤ → ℤ → ℤ
place_of_number domain range v =
    if int_lt domain.0 domain.1
    then range.0 +ℤ rounded ((v -ℤ domain.0) *ℤ (range.1 -ℤ range.0)) (unsigned_abs (domain.1 -ℤ domain.0))
    else middle range

-- the number at a place: as far along the domain as the place is along the range
abbrev pub number_at_place : ℤ × ℤ → ℤ × ℤ → ℤ → ℤ
number_at_place domain range p = domain.0 +ℤ rounded_ratio ((p -ℤ range.0) *ℤ (domain.1 -ℤ domain.0)) (range.1 -ℤ range.0)

-- a number cut to a domain
abbrev pub cut_to : ℤ × ℤ → ℤ → ℤ
cut_to domain v = int_max domain.0 (int_min v domain.1)

-- The rules at work, on 0 to 55 over 200 down to 0, in millionths.

abbrev amounts : ℤ × ℤ
amounts = (pos 0, pos (55 * million))

abbrev upward : ℤ × ℤ
upward = (pos (200 * million), pos 0)

the_place_of_28 : place_of_number amounts upward (pos (28 * million)) ≡ pos 98181818
unfolding rounded floor_quotient
the_place_of_28 = refl

the_ends_of_the_domain : (place_of_number amounts upward (pos 0) ≡ pos (200 * million))
    × (place_of_number amounts upward (pos (55 * million)) ≡ pos 0)
unfolding rounded floor_quotient
the_ends_of_the_domain = (refl, refl)

below_the_domain : place_of_number amounts upward (negsuc 10999999) ≡ pos (240 * million)
unfolding rounded floor_quotient
below_the_domain = refl

one_point : place_of_number (pos (7 * million), pos (7 * million)) (pos 0, pos (200 * million)) (pos (9 * million)) ≡ pos (100 * million)
unfolding rounded floor_quotient
one_point = refl

the_number_at_50 : number_at_place (pos 0, pos (10 * million)) upward (pos (50 * million)) ≡ pos 7500000
unfolding rounded_ratio rounded floor_quotient
the_number_at_50 = refl

cut_to_the_domain : (cut_to amounts (negsuc 0) ≡ pos 0) × (cut_to amounts (pos 7) ≡ pos 7)
    × (cut_to amounts (pos (56 * million)) ≡ pos (55 * million))
cut_to_the_domain = (refl, refl, refl)
