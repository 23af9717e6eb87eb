-- Units of a period, of which those begin boundaries whose number is a multiple of n: the last boundary up to one, and the first after it.
use Rattle.std.proofs.Common.{◌≡◌, ℕ, ◌+◌, ◌-◌, ◌*◌, ◌/◌, ◌%◌, ◌<◌, ◌≤◌, min, Bool, true, false, refl, ap, ◌∙◌, subst, arith, inl, inr, ℤ, ◌≤ℤ◌, ◌<ℤ◌}
use Rattle.std.proofs.Math.Nat.{mul-mod_right, mul-add-mod_self_left, mod-eq_of_lt}
use Rattle.std.proofs.lemmas.Bool.{cases_lt}
use Rattle.std.proofs.lemmas.Int.{ints}

-- ---- multiples

floor_is : (n f : ℕ) → 0 < n → f - f % n ≡ n * (f / n)
floor_is n f h = omega arith

below_next : (n f : ℕ) → 0 < n → f < n * (f / n) + n
below_next n f h = omega arith

pub floor_multiple : (n f : ℕ) → 0 < n → (f - f % n) % n ≡ 0
floor_multiple n f h = ap (λ k. k % n) (floor_is n f h) ∙ mul-mod_right n (f / n)

pub next_multiple : (n f : ℕ) → 0 < n → (f - f % n + n) % n ≡ 0
next_multiple n f h =
    let one : n ≡ n * 1 = omega arith in
    ap (λ k. (k + n) % n) (floor_is n f h) ∙ mul-add-mod_self_left n (f / n) n ∙ ap (λ k. k % n) one ∙ mul-mod_right n 1

none_within : (n q k : ℕ) → n * q < k → k < n * q + n → 0 < k % n
none_within n q k low high =
    let e : k ≡ n * q + (k - n * q) = omega (arith, low) in
    let small : k - n * q < n = omega (arith, low, high) in
    let rest : k % n ≡ k - n * q = ap (λ x. x % n) e ∙ mul-add-mod_self_left n q (k - n * q) ∙ mod-eq_of_lt small in
    omega (arith, rest, low)

pub none_up_to : (n f k : ℕ) → 0 < n → f - f % n < k → k ≤ f → 0 < k % n
none_up_to n f k h low high =
    let e = floor_is n f h in let b = below_next n f h in
    none_within n (f / n) k (omega (arith, e, low)) (omega (arith, b, high))

pub none_after : (n f k : ℕ) → 0 < n → f < k → k < f - f % n + n → 0 < k % n
none_after n f k h low high =
    let e = floor_is n f h in
    none_within n (f / n) k (omega (arith, e, low)) (omega (arith, e, high))

-- ---- what is last and what is first

-- b is the last place up to i at which a test holds
pub record IsLastOf (B : ℤ → Bool) (i b : ℤ) : Type 0 where
  pub not_after : b ≤ℤ i
  pub hit : B b ≡ true
  pub none : (j : ℤ) → b <ℤ j → j ≤ℤ i → B j ≡ false

-- b is the first place after i at which a test holds, or past a limit
pub record IsFirstOf (B : ℤ → Bool) (limit i b : ℤ) : Type 0 where
  pub after : i <ℤ b
  pub hit : b ≤ℤ limit → B b ≡ true
  pub none : (j : ℤ) → i <ℤ j → j <ℤ b → B j ≡ false

pub not_true : (b : Bool) → (b ≡ true → b ≡ false) → b ≡ false
not_true true h = h refl
not_true false h = refl

-- within a period a test holds at the beginnings of the units whose number is a multiple of n
pub record Divides (B : ℤ → Bool) (at : ℕ → ℤ) (n count : ℕ) : Type 0 where
  pub grows : (a b : ℕ) → a < b → b ≤ count → at a <ℤ at b
  pub hits : (k : ℕ) → k < count → k % n ≡ 0 → B (at k) ≡ true
  pub only : (j : ℤ) → at 0 ≤ℤ j → j <ℤ at count → B j ≡ true → (k : ℕ) × (k < count) × (j ≡ at k) × (k % n ≡ 0)

module _ (B : ℤ → Bool) (at : ℕ → ℤ) (n count : ℕ) (d : Divides B at n count) where
  not_less : (a b : ℕ) → a ≤ b → b ≤ count → at a ≤ℤ at b
  not_less a b h l =
      elim (cases_lt a b) as (λ w. at a ≤ℤ at b) [
        | inl lt ↦ let g = d.grows a b lt l in omega (arith, ints, g)
        | inr ge ↦ let same : a ≡ b = omega (arith, h, ge) in let e : at a ≡ at b = ap at same in omega (arith, ints, e)
      ]

  -- where one unit begins after another, its number is greater
  later : (a b : ℕ) → a ≤ count → at a <ℤ at b → a < b
  later a b l h =
      elim (cases_lt a b) as (λ w. a < b) [
        | inl lt ↦ lt
        | inr ge ↦ let g = not_less b a ge l in absurd (omega (arith, ints, g, h))
      ]

  pub last_in : 0 < n → (f : ℕ) → f < count → (i : ℤ) → at f ≤ℤ i → i <ℤ at (f + 1) → IsLastOf B i (at (f - f % n))
  last_in some f inside i low high =
      let down : f - f % n ≤ f = omega arith in
      let start = not_less (f - f % n) f down (omega (arith, inside)) in
      let first = not_less 0 (f - f % n) (omega arith) (omega (arith, inside, down)) in
      let end = not_less (f + 1) count (omega (arith, inside)) (omega arith) in
      record {
        not_after = omega (arith, ints, start, low);
        hit = d.hits (f - f % n) (omega (arith, inside, down)) (floor_multiple n f some);
        none = λ j above upto. not_true (B j) (λ holds.
            let (k, below, is, multiple) = d.only j (omega (arith, ints, first, above)) (omega (arith, ints, upto, high, end)) holds in
            let over = later (f - f % n) k (omega (arith, inside, down)) (omega (arith, ints, above, is)) in
            let under = later k (f + 1) (omega (arith, below)) (omega (arith, ints, upto, high, is)) in
            let left = none_up_to n f k some over (omega (arith, under)) in
            absurd (omega (arith, left, multiple)));
      }

  pub first_in : 0 < n → (limit : ℤ) → (at count ≤ℤ limit → B (at count) ≡ true) → (f : ℕ) → f < count → (i : ℤ) → at f ≤ℤ i → i <ℤ at (f + 1) →
      IsFirstOf B limit i (at (min count (f - f % n + n)))
  first_in some limit ends f inside i low high =
      let g : ℕ = min count (f - f % n + n) in
      let least = below_next n f some in
      let floor = floor_is n f some in
      let up : f + 1 ≤ g = omega (arith, least, floor, inside) in
      let top : g ≤ count = omega arith in
      let next = not_less (f + 1) g up top in
      let end = not_less g count top (omega arith) in
      let start = not_less 0 f (omega arith) (omega (arith, inside)) in
      record {
        after = omega (arith, ints, next, high);
        hit = λ within. elim (cases_lt g count) as (λ w. B (at g) ≡ true) [
          | inl lt ↦ let is : g ≡ f - f % n + n = omega (arith, lt) in d.hits g lt (ap (λ k. k % n) is ∙ next_multiple n f some)
          | inr ge ↦
              let is : g ≡ count = omega (arith, ge, top) in
              let here : at count ≤ℤ limit = subst (λ (k : ℕ). at k ≤ℤ limit) is within in
              ap (λ k. B (at k)) is ∙ ends here
        ];
        none = λ j above before. not_true (B j) (λ holds.
            let (k, below, is, multiple) = d.only j (omega (arith, ints, start, low, above)) (omega (arith, ints, before, end)) holds in
            let over = later f k (omega (arith, inside)) (omega (arith, ints, low, above, is)) in
            let under = later k g (omega (arith, below)) (omega (arith, ints, before, is)) in
            let left = none_after n f k some over (omega (arith, under)) in
            absurd (omega (arith, left, multiple)));
      }
