-- What is in range.
use Rattle.std.proofs.Common.{◌≡◌, inl, inr, ℤ, pos, Option, Some, None, arith, sym, ap, ◌∙◌}
use Rattle.std.specs.Prelude.{int_div, int_rem, ◌-ℤ◌, ◌*ℤ◌, ◌≢◌}
use Rattle.std.specs.Option.{SomeIff}
pub use Rattle.fixed_num.proofs.RoundingLemmas.{floored_from_remainder}
use Rattle.std.proofs.lemmas.Int.{ints, quot-rem}
use Rattle.fixed_num.specs.Number.{IsNumber}
use Rattle.fixed_num.specs.Ranges.{in_range}
use Rattle.fixed_num.proofs.RangeLemmas.{is_number_or_not}
pub use Rattle.fixed_num.proofs.RangeLemmas.{in_range_at_number, in_range_elsewhere, in_range_from_exact}

-- what isn't out of range is in range
pub in_range_unless : (x : ℤ) → ((IsNumber x → ⊥) → ⊥) → in_range x ≡ Some x
in_range_unless x h = elim (is_number_or_not x) [
  | inl k ↦ in_range_at_number x k
  | inr none ↦ absurd (h none)
]

-- the same of a quotient, over what isn't 0
pub in_range_from_quotient : (o : Option ℤ) (x y : ℤ) → (y ≡ pos 0 → ⊥) → SomeIff o ((y ≢ pos 0) × IsNumber x) x → o ≡ in_range x
in_range_from_quotient None x y h exact = sym (in_range_elsewhere x (λ in_range. exact (h, in_range)))
in_range_from_quotient (Some z) x y h exact = ap Some exact.1 ∙ sym (in_range_at_number x exact.0.1)

pub rest_is : (x y : ℤ) → x -ℤ y *ℤ int_div x y ≡ int_rem x y
rest_is x y = omega (arith, ints, quot-rem x y)
