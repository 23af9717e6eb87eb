-- The size of a text, how far it stands below its place, and how far it is moved.
use Rattle.std.proofs.Common.{◌≡◌, ℕ, ◌*◌, ◌/◌, ◌%◌, ◌==◌, ◌&&◌, ◌≤◌, ℤ, pos, ◌≤ℤ◌, unsigned_abs, Bool, true, false, Option, refl, ap, ◌∙◌, arith}
use Rattle.std.proofs.lemmas.Int.{ints}
use Rattle.std.proofs.lemmas.Bool.{false≢true}
use Rattle.std.specs.Option.{SomeIff}
use Rattle.fixed_num.specs.Number.{million, rounded, floor_quotient, IsNumber}
use Rattle.fixed_num.specs.Ranges.{is_within, in_range}
use Rattle.fixed_num.proofs.RangeLemmas.{in_range_from_exact}
use Rattle.mark_shapes.specs.Texts.{is_font_size, middle_below}

pub middle_is : (size : ℕ) → middle_below size ≡ pos (size * 300000)
unfolding rounded floor_quotient
middle_is size = omega (arith, ints)

both : (a b : Bool) → (a && b) ≡ true → (a ≡ true) × (b ≡ true)
both true b e = (refl, e)
both false b e = absurd (false≢true e)

within : (low high n : ℤ) → is_within low high n ≡ true → (low ≤ℤ n) × (n ≤ℤ high)
within low high n e = (grind (arith, ints), grind (arith, ints))

-- a size of a text is at most 1,000
pub few_pixels : (n : ℤ) → is_font_size n ≡ true → unsigned_abs n / million ≤ 1000
few_pixels n e =
    let h = both (is_within (pos million) (pos (1000 * million)) n) (unsigned_abs n % million == 0) e in
    let w = within (pos million) (pos (1000 * million)) n h.0 in
    omega (arith, ints, w.0, w.1)

-- what is found where a count is in range
pub range_so : (o : Option ℤ) (m n : ℤ) → SomeIff o (IsNumber m) m → m ≡ n → o ≡ in_range n
range_so o m n is e = in_range_from_exact o m is ∙ ap in_range e
