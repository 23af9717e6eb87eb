-- Squares in two parts, and their order.
use Rattle.std.proofs.Common.{◌≡◌, ℕ, ◌+◌, ◌-◌, ◌*◌, ◌/◌, ◌%◌, ◌^◌, ◌<◌, ◌≤◌, refl, ap, ◌∙◌, sym, ℤ, pos, negsuc, ◌+ℤ◌, Bool, arith, le-leb, leb, unsigned_abs}
use Rattle.std.specs.Prelude.{nat_le, int_le}
use Rattle.std.proofs.lemmas.Nat.{div-add-mod'}
use Rattle.std.proofs.lemmas.Bool.{leb-true}
use Rattle.std.proofs.lemmas.Bool.Decides.{same_from_decides}
use Rattle.std.proofs.Math.Nat.{mul-le-mul_left}
use Rattle.scene_tree.specs.Hits.{square}

square_from_parts : (n c w h l q m : ℕ) → w ≡ c * c → h * c + l ≡ n → q * w + m ≡ 2 * h * l * c + l * l → (h * h + q) * w + m ≡ n * n
square_from_parts n c w h l q m cut e f = omega (arith, ap (λ x. x * x) e, ap (λ x. h * h * x) cut)

-- the square of a number that is cut at c
pub square_is : (n c w : ℕ) → w ≡ c * c
    → (n / c * (n / c) + (2 * (n / c) * (n % c) * c + n % c * (n % c)) / w) * w + (2 * (n / c) * (n % c) * c + n % c * (n % c)) % w ≡ n * n
square_is n c w cut =
    square_from_parts n c w _ _ _ _ cut (div-add-mod' n c) (div-add-mod' (2 * (n / c) * (n % c) * c + n % c * (n % c)) w)

-- the higher part of a square
pub high_is_small : (n h l : ℕ) → n < 2 ^ 72 → h * 2 ^ 72 + l ≡ n * n → h ≤ n
high_is_small n h l below is = let small : n ≤ 2 ^ 72 = omega arith in omega (arith, mul-le-mul_left n small)

-- a sum of two squares and a third are in the order of their parts
pub order_of_parts : (a b c x u y v z w : ℕ) → x * 2 ^ 72 + u ≡ a → y * 2 ^ 72 + v ≡ b → z * 2 ^ 72 + w ≡ c → w < 2 ^ 72
    → leb (x + y + (u + v + (2 ^ 72 - 1 - w)) / 2 ^ 72) z ≡ leb (a + b) c
order_of_parts a b c x u y v z w first second third below =
    same_from_decides _ _
    (λ t. let h = leb-true (x + y + (u + v + (2 ^ 72 - 1 - w)) / 2 ^ 72) z t in omega arith, λ h. le-leb _ _ (omega arith))
    (λ t. leb-true (a + b) c t, λ h. le-leb _ _ h)

pub square_by_size : (z : ℤ) → square z ≡ pos (unsigned_abs z * unsigned_abs z)
square_by_size (pos n) = refl
square_by_size (negsuc n) = refl

-- squares are compared by the sizes of what is squared
pub circle_by_sizes : (x y r : ℤ) (a b c : ℕ) (t : Bool) → a ≡ unsigned_abs x → b ≡ unsigned_abs y → c ≡ unsigned_abs r
    → t ≡ nat_le (a * a + b * b) (c * c) → t ≡ int_le (square x +ℤ square y) (square r)
circle_by_sizes x y r a b c t is_a is_b is_c is =
    is ∙ (λ i. nat_le (is_a i * is_a i + is_b i * is_b i) (is_c i * is_c i))
    ∙ sym (λ i. int_le (square_by_size x i +ℤ square_by_size y i) (square_by_size r i))
