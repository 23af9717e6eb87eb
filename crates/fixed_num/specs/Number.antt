-- Numbers are whole counts of millionths; every operation is rounded once.
use Rattle.std.specs.Prelude.{ℕ, ◌+◌, ◌*◌, ◌/◌, ◌^◌, ℤ, pos, negsuc, neg_ℤ, ◌+ℤ◌, ◌*ℤ◌, ◌≤ℤ◌, ◌≡◌, Bool, true, false, zero, suc, nat_le}
use Rattle.std.specs.Prelude.{if◌then◌else◌, unsigned_abs, refl}

-- the greatest count of millionths
abbrev pub limit : ℕ
limit = 10 ^ 21

-- a count of millionths in range
abbrev pub IsNumber : ℤ → Type 0
IsNumber m = (neg_ℤ (pos limit) ≤ℤ m) × (m ≤ℤ pos limit)

-- how many millionths one has
abbrev pub million : ℕ
million = 1000000

-- the whole number of this size, below zero where the flag is set
abbrev pub signed : Bool → ℕ → ℤ
signed false n = pos n
signed true n = neg_ℤ (pos n)

-- the greatest whole number not above p/q, for q > 0
unfoldable pub floor_quotient : ℤ → ℕ → ℤ
floor_quotient (pos n) q = pos (n / q)
floor_quotient (negsuc n) q = negsuc (n / q)

-- the whole number nearest to p/q, the middle going upward, for q > 0
unfoldable pub rounded : ℤ → ℕ → ℤ
rounded p q = floor_quotient (pos 2 *ℤ p +ℤ pos q) (2 * q)

-- the whole number nearest to p/q, where q may be negative
unfoldable pub rounded_ratio : ℤ → ℤ → ℤ
rounded_ratio p (pos q) = rounded p q
rounded_ratio p (negsuc n) = rounded (neg_ℤ p) (n + 1)

-- the greatest multiple of a step s > 0 not above m
unfoldable pub floored : ℤ → ℤ → ℤ
floored m (pos s) = floor_quotient m s *ℤ pos s
floored m (negsuc n) = m

-- the least multiple of a step s > 0 not below m
unfoldable pub ceiled : ℤ → ℤ → ℤ
ceiled m s = neg_ℤ (floored (neg_ℤ m) s)

-- t is the greatest number whose square, in millionths of millionths, is not above m
pub record IsRoot (m t : ℤ) : Type 0 where
  pub not_below_zero : pos 0 ≤ℤ t
  pub within : (t *ℤ t) ≤ℤ (m *ℤ pos million)
  pub greatest : (u : ℤ) → (u *ℤ u) ≤ℤ (m *ℤ pos million) → u ≤ℤ t

-- a root, or one more where that is not too great
abbrev pub larger_root : ℕ → ℕ → ℕ
larger_root n r = if nat_le ((r + 1) * (r + 1)) n then r + 1 else r

-- the whole square root of a number of at most so many digits in base four
abbrev pub square_root : ℕ → ℕ → ℕ
square_root zero n = 0
square_root (suc k) n = larger_root n (2 * square_root k (n / 4))

-- the root as a function, which a law proves to be the one that IsRoot asks for
unfoldable pub root_of : ℤ → ℤ
root_of m = pos (square_root 64 (unsigned_abs m * million))

a_half_goes_up : rounded (pos 5) 10 ≡ pos 1
unfolding rounded floor_quotient
a_half_goes_up = refl

a_negative_half_goes_up : rounded (negsuc 4) 10 ≡ pos 0
unfolding rounded floor_quotient
a_negative_half_goes_up = refl

below_a_negative_half : rounded (negsuc 5) 10 ≡ negsuc 0
unfolding rounded floor_quotient
below_a_negative_half = refl

three_halves_below_zero : rounded (negsuc 14) 10 ≡ negsuc 0
unfolding rounded floor_quotient
three_halves_below_zero = refl

a_third : rounded_ratio (pos 1000000) (negsuc 2) ≡ negsuc 333332
unfolding rounded_ratio rounded floor_quotient
a_third = refl

floored_below_zero : floored (negsuc 6) (pos 5) ≡ negsuc 9
unfolding floored floor_quotient
floored_below_zero = refl

ceiled_below_zero : ceiled (negsuc 6) (pos 5) ≡ negsuc 4
unfolding ceiled floored floor_quotient
ceiled_below_zero = refl

the_root_of_two : root_of (pos 2000000) ≡ pos 1414213
unfolding root_of
the_root_of_two = refl
