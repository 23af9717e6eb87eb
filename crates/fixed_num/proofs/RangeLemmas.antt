-- What is in range.
use Rattle.std.proofs.Common.{◌≡◌, ◌⊎◌, inl, inr, ℤ, pos, neg_ℤ, Bool, true, false, Option, Some, None, arith, refl, sym, ap, ◌∙◌}
use Rattle.std.specs.Prelude.{int_lt}
use Rattle.std.specs.Option.{SomeIff}
use Rattle.std.proofs.lemmas.Int.{ints}
use Rattle.fixed_num.specs.Number.{limit, IsNumber}
use Rattle.fixed_num.specs.Ranges.{in_range}

pub in_range_at_number : (x : ℤ) → IsNumber x → in_range x ≡ Some x
in_range_at_number x h = grind (arith, ints)

pub in_range_elsewhere : (x : ℤ) → (IsNumber x → ⊥) → in_range x ≡ None
in_range_elsewhere x h = grind (arith, ints)

-- an answer that is exact is what is in range
pub in_range_from_exact : (o : Option ℤ) (x : ℤ) → SomeIff o (IsNumber x) x → o ≡ in_range x
in_range_from_exact None x h = sym (in_range_elsewhere x h)
in_range_from_exact (Some y) x h = ap Some h.1 ∙ sym (in_range_at_number x h.0)

below_none : (x : ℤ) → int_lt x (neg_ℤ (pos limit)) ≡ true → IsNumber x → ⊥
below_none x e h = grind (arith, ints)

above_none : (x : ℤ) → int_lt (pos limit) x ≡ true → IsNumber x → ⊥
above_none x e h = grind (arith, ints)

between : (x : ℤ) → int_lt x (neg_ℤ (pos limit)) ≡ false → int_lt (pos limit) x ≡ false → IsNumber x
between x below above = (grind (arith, ints), grind (arith, ints))

by_tests : (x : ℤ) (below above : Bool) → int_lt x (neg_ℤ (pos limit)) ≡ below → int_lt (pos limit) x ≡ above
    → IsNumber x ⊎ (IsNumber x → ⊥)
by_tests x true above p q = inr (below_none x p)
by_tests x false true p q = inr (above_none x q)
by_tests x false false p q = inl (between x p q)

-- a count is a number or isn't
pub is_number_or_not : (x : ℤ) → IsNumber x ⊎ (IsNumber x → ⊥)
is_number_or_not x = by_tests x _ _ refl refl
