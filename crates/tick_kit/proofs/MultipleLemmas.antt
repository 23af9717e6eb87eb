-- The multiples in a domain are all multiples in it.
use Rattle.std.proofs.Common.{◌≡◌, ℕ, zero, suc, ◌+◌, ◌*◌, ◌/◌, ◌<◌, ◌≤◌, ◌⊎◌, ℤ, pos, negsuc, ◌+ℤ◌, ◌-ℤ◌, ◌*ℤ◌, ◌≤ℤ◌, ◌<ℤ◌, unsigned_abs}
use Rattle.std.proofs.Common.{sym, ap, ◌∙◌, arith, inl, inr, ⊎_elim}
use Rattle.std.proofs.lemmas.Int.{ints}
use Rattle.std.proofs.lemmas.Bool.{cases_lt}
use Rattle.std.proofs.Math.IntN.{suc_ℤ, suc_ℤ-*ℤ}
use Rattle.std.proofs.Math.Nat.{div-add-mod', mul-le-mul_right}
use Rattle.tick_kit.proofs.TickLemmas.{cases_lt_int, counted}
use Rattle.tick_kit.proofs.RangeLemmas.{ceiled_above, ceiled_near}
use Rattle.fixed_num.specs.Number.{ceiled}
use Rattle.fixed_num.proofs.LawLemmas.{ceiled_is_multiple}
use Rattle.tick_kit.specs.Ticks.{numbers_apart, count_apart, multiples_in, AreAll, IsMultipleIn, MultiplesAreAll}
use Rattle.tick_kit.proofs.AllLemmas.{all_same, all_none, all_after}

-- multiples are at least a step apart
naturals_apart : (a b s : ℕ) → a * s < b * s → a * s + s ≤ b * s
naturals_apart a b s h =
    ⊎_elim
    (λ (l : a < b). let up : suc a ≤ b = omega arith in omega (arith, mul-le-mul_right s up))
    (λ (l : b ≤ a). absurd (omega (arith, h, mul-le-mul_right s l)))
    (cases_lt a b)

pub multiples_apart : (k t : ℤ) (s : ℕ) → (k *ℤ pos s) <ℤ (t *ℤ pos s) → ((k *ℤ pos s) +ℤ pos s) ≤ℤ (t *ℤ pos s)
multiples_apart (pos a) (pos b) s h =
    let below : a * s < b * s = omega (arith, ints, h) in let up = naturals_apart a b s below in omega (arith, ints, up)
multiples_apart (negsuc a) (pos b) s h = omega (arith, ints)
multiples_apart (pos a) (negsuc b) s h = absurd (omega (arith, ints, h))
multiples_apart (negsuc a) (negsuc b) s h =
    let below : suc b * s < suc a * s = omega (arith, ints, h) in let up = naturals_apart (suc b) (suc a) s below in omega (arith, ints, up)

-- a multiple from one number to before the n-th after it
record IsBetween (s : ℕ) (first : ℤ) (n : ℕ) (z : ℤ) : Type 0 where
  times : ℤ
  multiple : z ≡ times *ℤ pos s
  from : first ≤ℤ z
  before : z <ℤ (first +ℤ pos n *ℤ pos s)

apart_all : (n s : ℕ) (k first : ℤ) → pos 0 <ℤ pos s → first ≡ k *ℤ pos s → AreAll (IsBetween s first n) (numbers_apart n (pos s) first)
apart_all zero s k first some e =
    all_none _ (λ z b. let from = b.from in let before = b.before in omega (arith, ints, from, before))
apart_all (suc n) s k first some e =
    let next : first +ℤ pos s ≡ suc_ℤ k *ℤ pos s = ap (λ x. x +ℤ pos s) e ∙ sym (suc_ℤ-*ℤ k (pos s)) in
    all_after (IsBetween s first (suc n)) first (numbers_apart n (pos s) (first +ℤ pos s))
    (record { times = k; multiple = e; from = omega (arith, ints); before = omega (arith, ints, some) })
    (λ z b. from_first z b)
    (all_same (IsBetween s (first +ℤ pos s) n) (λ z. IsBetween s first (suc n) z × (first <ℤ z)) (numbers_apart n (pos s) (first +ℤ pos s))
    later back (apart_all n s (suc_ℤ k) (first +ℤ pos s) some next))
  where
    from_first : (z : ℤ) → IsBetween s first (suc n) z → (z ≡ first) ⊎ (first <ℤ z)
    from_first z b =
        let from = b.from in
        ⊎_elim (λ (l : first <ℤ z). inr l) (λ (l : z ≤ℤ first). inl (omega (arith, ints, from, l))) (cases_lt_int first z)

    later : (z : ℤ) → IsBetween s (first +ℤ pos s) n z → IsBetween s first (suc n) z × (first <ℤ z)
    later z b =
        let from = b.from in let before = b.before in (
          record { times = b.times; multiple = b.multiple; from = omega (arith, ints, from, some); before = omega (arith, ints, before) },
          omega (arith, ints, from, some),
        )

    back : (z : ℤ) → IsBetween s first (suc n) z × (first <ℤ z) → IsBetween s (first +ℤ pos s) n z
    back z b =
        let is = b.0.multiple in let before = b.0.before in let past = b.1 in
        let next = multiples_apart k b.0.times s (omega (arith, ints, e, is, past)) in
        record { times = b.0.times; multiple = is; from = omega (arith, ints, next, e, is); before = omega (arith, ints, before) }

-- the multiples up to before the one that would follow are those up to the end
up_to_end : (s : ℕ) (first high : ℤ) → pos 0 <ℤ pos s → first ≤ℤ (high +ℤ pos s)
    → (high +ℤ pos s) <ℤ (first +ℤ pos (count_apart (pos s) first high) *ℤ pos s +ℤ pos s)
up_to_end s first high some h =
    let room = unsigned_abs (high +ℤ pos s -ℤ first) in
    let below : room < room / s * s + s = room_below room s (omega (arith, ints, some)) in
    let product : pos (room / s) *ℤ pos s ≡ pos (room / s * s) = omega (arith, ints) in
    omega (arith, ints, h, below, product)
  where
    room_below : (room s : ℕ) → 0 < s → room < room / s * s + s
    room_below room s some = let parts = div-add-mod' room s in omega (arith, parts)

-- so many steps after a multiple is a multiple
later_multiple : (n s : ℕ) (k first : ℤ) → first ≡ k *ℤ pos s → (t : ℤ) × (first +ℤ pos n *ℤ pos s ≡ t *ℤ pos s)
later_multiple zero s k first e = (k, omega (arith, ints, e))
later_multiple (suc n) s k first e =
    let before = later_multiple n s k first e in
    let is = before.1 in
    let one_more : first +ℤ pos (suc n) *ℤ pos s ≡ (first +ℤ pos n *ℤ pos s) +ℤ pos s = omega (arith, ints) in
    (suc_ℤ before.0, one_more ∙ ap (λ x. x +ℤ pos s) is ∙ sym (suc_ℤ-*ℤ before.0 (pos s)))

in_domain : (s : ℕ) (domain : ℤ × ℤ) → pos 0 <ℤ pos s → domain.0 ≤ℤ domain.1
    → AreAll (IsMultipleIn (pos s) domain) (numbers_apart (count_apart (pos s) (ceiled domain.0 (pos s)) domain.1) (pos s) (ceiled domain.0 (pos s)))
in_domain s domain some h =
    let first = ceiled domain.0 (pos s) in
    let n = count_apart (pos s) first domain.1 in
    let is = ceiled_is_multiple domain.0 (pos s) some in
    all_same (IsBetween s first n) (IsMultipleIn (pos s) domain) (numbers_apart n (pos s) first)
    (λ z b. inside z b) (λ z m. between z m)
    (apart_all n s is.times first some is.multiple)
  where
    inside : (z : ℤ) → IsBetween s (ceiled domain.0 (pos s)) (count_apart (pos s) (ceiled domain.0 (pos s)) domain.1) z → IsMultipleIn (pos s) domain z
    inside z b =
        let above = ceiled_above domain.0 (pos s) some in
        let near = ceiled_near domain.0 (pos s) some in
        let first = ceiled_is_multiple domain.0 (pos s) some in
        let end = later_multiple (count_apart (pos s) (ceiled domain.0 (pos s)) domain.1) s first.times (ceiled domain.0 (pos s)) first.multiple in
        let ends = end.1 in
        let low : ceiled domain.0 (pos s) ≤ℤ (domain.1 +ℤ pos s) = omega (arith, ints, near, h) in
        let most = counted (pos s) (ceiled domain.0 (pos s)) domain.1 some low in
        let from = b.from in let before = b.before in let is = b.multiple in
        let past : (b.times *ℤ pos s) <ℤ (end.0 *ℤ pos s) = omega (arith, ints, before, is, ends) in
        let next = multiples_apart b.times end.0 s past in
        record {
          times = b.times;
          multiple = b.multiple;
          not_below = omega (arith, ints, above, from);
          not_above = omega (arith, ints, next, is, ends, most);
        }

    between : (z : ℤ) → IsMultipleIn (pos s) domain z → IsBetween s (ceiled domain.0 (pos s)) (count_apart (pos s) (ceiled domain.0 (pos s)) domain.1) z
    between z m =
        let near = ceiled_near domain.0 (pos s) some in
        let first = ceiled_is_multiple domain.0 (pos s) some in
        let low : ceiled domain.0 (pos s) ≤ℤ (domain.1 +ℤ pos s) = omega (arith, ints, near, h) in
        let end = up_to_end s (ceiled domain.0 (pos s)) domain.1 some low in
        let is = m.multiple in let from = m.not_below in let upto = m.not_above in let begins = first.multiple in
        let not_before : ceiled domain.0 (pos s) ≤ℤ z =
        ⊎_elim
        (λ (l : z <ℤ ceiled domain.0 (pos s)).
        let next = multiples_apart m.times first.times s (omega (arith, ints, l, is, begins)) in
        absurd (omega (arith, ints, next, near, from, is, begins)))
        (λ (l : ceiled domain.0 (pos s) ≤ℤ z). l)
        (cases_lt_int z (ceiled domain.0 (pos s))) in
        record { times = m.times; multiple = m.multiple; from = not_before; before = omega (arith, ints, end, upto) }

pub multiples_are_all : MultiplesAreAll
unfolding multiples_in
multiples_are_all (pos s) domain some h = in_domain s domain some h
multiples_are_all (negsuc s) domain some h = absurd (omega (arith, ints))
