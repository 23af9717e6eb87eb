-- The first of a list.
use Rattle.std.proofs.Common.{◌≡◌, ℕ, zero, suc, ◌≤◌, List, [], ◌∷◌, ◌++◌, length, take, refl, ap, arith}

pub take_again : {X : Type 0} (n : ℕ) (xs : List X) → take n (take n xs) ≡ take n xs
take_again zero xs = refl
take_again (suc n) [] = refl
take_again (suc n) (x ∷ xs) = ap (λ ys. x ∷ ys) (take_again n xs)

-- what stands behind the first of some doesn't see what was cut
pub take_before : {X : Type 0} (n : ℕ) (xs ys : List X) → take n (take n xs ++ ys) ≡ take n (xs ++ ys)
take_before zero xs ys = refl
take_before (suc n) [] ys = refl
take_before (suc n) (x ∷ xs) ys = ap (λ zs. x ∷ zs) (take_before n xs ys)

-- enough are there
pub take_enough : {X : Type 0} (n : ℕ) (xs ys : List X) → n ≤ length xs → take n xs ≡ take n (xs ++ ys)
take_enough zero xs ys h = refl
take_enough (suc n) [] ys h = absurd (let no_room : suc n ≤ 0 = h in omega arith)
take_enough (suc n) (x ∷ xs) ys h =
    let less : n ≤ length xs = omega arith in
    ap (λ zs. x ∷ zs) (take_enough n xs ys less)

-- fewer of the first are the first
pub take_fewer : {X : Type 0} (n m : ℕ) (xs : List X) → n ≤ m → take n (take m xs) ≡ take n xs
take_fewer zero m xs h = refl
take_fewer (suc n) zero xs h = absurd (let no_room : suc n ≤ 0 = h in omega arith)
take_fewer (suc n) (suc m) [] h = refl
take_fewer (suc n) (suc m) (x ∷ xs) h =
    let less : n ≤ m = omega arith in
    ap (λ zs. x ∷ zs) (take_fewer n m xs less)
