-- Sums before values as they run.
use Rattle.std.proofs.Common.{◌≡◌, ℕ, ◌+◌, ◌<◌, zero, suc, Bool, true, false, cond, not, ℤ, pos, ◌+ℤ◌, List}
use Rattle.std.proofs.Common.{[], ◌∷◌, ◌++◌, map, filter, length, take, drop, get_or, Option, None, arith, refl, sym}
use Rattle.std.proofs.Common.{ap, ap₂, ◌∙◌, append_assoc}
use Rattle.std.specs.Prelude.{int_lt, ◌-ℤ◌, unsigned_abs, SomeIff}
use Rattle.std.proofs.lemmas.Int.{ints}
use Rattle.std.proofs.lemmas.List.{drop_more}
use Rattle.fixed_num.specs.Number.{IsNumber, rounded}
use Rattle.fixed_num.specs.Ranges.{in_range}
use Rattle.fixed_num.proofs.RangeLemmas.{in_range_from_exact}
use Rattle.plain_rows.specs.declared.transforms.Offset.{Offset}
use Rattle.plain_rows.specs.declared.transforms.Offset.TheVariants.{Zero, Normalize, Center}
use Rattle.plain_groups.specs.Aggregates.{sum_of}
use Rattle.plain_stacks.specs.Spans.{size, same_side, sum_before}
use Rattle.plain_stacks.specs.inner.Sums.{upward, downward, chosen, befores}

abbrev pub ups : List ℤ → ℤ
ups vs = sum_of (map upward vs)

abbrev pub downs : List ℤ → ℤ
downs vs = sum_of (map downward vs)

-- the sum of the values on the side of a value
side_sum : (v : ℤ) (xs : List ℤ) → sum_of (filter (same_side v) xs) ≡ cond (int_lt v (pos 0)) (downs xs) (ups xs)
side_sum v [] = either (int_lt v (pos 0))
  where
    either : (b : Bool) → pos 0 ≡ cond b (pos 0) (pos 0)
    either true = refl
    either false = refl
side_sum v (x ∷ xs) = pick (int_lt v (pos 0)) (int_lt x (pos 0)) (side_sum v xs)
  where
    pick : (b c : Bool) → sum_of (filter (same_side v) xs) ≡ cond b (downs xs) (ups xs)
        → sum_of (cond (cond b c (not c)) (x ∷ filter (same_side v) xs) (filter (same_side v) xs))
        ≡ cond b (cond c x (pos 0) +ℤ downs xs) (cond c (pos 0) x +ℤ ups xs)
    pick true true h = ap (λ z. x +ℤ z) h
    pick true false h = omega (arith, ints, h)
    pick false true h = omega (arith, ints, h)
    pick false false h = ap (λ z. x +ℤ z) h

-- how long values are together
sizes_sum : (xs : List ℤ) → sum_of (map size xs) ≡ ups xs -ℤ downs xs
sizes_sum [] = refl
sizes_sum (x ∷ xs) = pick (int_lt x (pos 0)) refl (sizes_sum xs)
  where
    pick : (c : Bool) → int_lt x (pos 0) ≡ c → sum_of (map size xs) ≡ ups xs -ℤ downs xs
        → size x +ℤ sum_of (map size xs) ≡ (cond c (pos 0) x +ℤ ups xs) -ℤ (cond c x (pos 0) +ℤ downs xs)
    pick true e h = omega (arith, ints, e, h)
    pick false e h = omega (arith, ints, e, h)

pub whole_is : (xs : List ℤ) → ups xs -ℤ downs xs ≡ sum_of (map size xs)
whole_is xs = sym (sizes_sum xs)

chosen_is : (offset : Offset) (xs : List ℤ) (v : ℤ) → chosen offset (ups xs) (downs xs) v ≡ sum_before offset xs v
chosen_is Zero xs v = sym (side_sum v xs)
chosen_is Normalize xs v = sym (sizes_sum xs)
chosen_is Center xs v = sym (sizes_sum xs)

sum_push : (f : ℤ → ℤ) (xs : List ℤ) (x : ℤ) → sum_of (map f (xs ++ x ∷ [])) ≡ sum_of (map f xs) +ℤ f x
sum_push f [] x = omega (arith, ints)
sum_push f (y ∷ ys) x = omega (arith, ints, sum_push f ys x)

append_nil : {X : Type 0} (l : List X) → l ++ [] ≡ l
append_nil [] = refl
append_nil (x ∷ l) = ap (λ l. x ∷ l) (append_nil l)

-- the sum before the value at a place
pub before_at : (offset : Offset) (done vs : List ℤ) (i : ℕ) → i < length vs
    → get_or (befores offset (ups done) (downs done) vs) i None ≡ in_range (sum_before offset (done ++ take i vs) (get_or vs i (pos 0)))
before_at offset done [] i below = absurd (omega (arith, below))
before_at offset done (v ∷ vs) zero below = ap in_range (chosen_is offset done v ∙ ap (λ l. sum_before offset l v) (sym (append_nil done)))
before_at offset done (v ∷ vs) (suc i) below =
    ap₂ (λ u d. get_or (befores offset u d vs) i None) (sym (sum_push upward done v)) (sym (sum_push downward done v))
    ∙ before_at offset (done ++ v ∷ []) vs i (omega (arith, below))
    ∙ ap (λ l. in_range (sum_before offset l (get_or vs i (pos 0)))) (append_assoc done (v ∷ []) (take i vs))

pub befores_long : (offset : Offset) (up down : ℤ) (vs : List ℤ) → length (befores offset up down vs) ≡ length vs
befores_long offset up down [] = refl
befores_long offset up down (v ∷ vs) = omega (arith, befores_long offset (up +ℤ upward v) (down +ℤ downward v) vs)

-- one value less is left
pub sum_left : (f : ℤ → ℤ) (vs : List ℤ) (i : ℕ) (v : ℤ) → i < length vs → v ≡ get_or vs i v
    → sum_of (map f (drop i vs)) ≡ f v +ℤ sum_of (map f (drop (i + 1) vs))
sum_left f vs i v below at =
    ap (λ l. sum_of (map f l)) (drop_more vs i v below) ∙ ap (λ x. f x +ℤ sum_of (map f (drop (i + 1) vs))) (sym at)

pub befores_left : (offset : Offset) (vs : List ℤ) (i : ℕ) (v up down more less : ℤ) (out new : List (Option ℤ)) (b : Option ℤ)
    (whole : List (Option ℤ)) → i < length vs → v ≡ get_or vs i v
    → more ≡ up +ℤ upward v → less ≡ down +ℤ downward v
    → b ≡ in_range (chosen offset up down v) → new ≡ out ++ b ∷ [] → out ++ befores offset up down (drop i vs) ≡ whole
    → new ++ befores offset more less (drop (i + 1) vs) ≡ whole
befores_left offset vs i v up down more less out new b whole below at upper lower is made so =
    ap₂ (λ u d. new ++ befores offset u d (drop (i + 1) vs)) upper lower
    ∙ ap (λ l. l ++ befores offset (up +ℤ upward v) (down +ℤ downward v) (drop (i + 1) vs)) (made ∙ ap (λ x. out ++ x ∷ []) is)
    ∙ append_assoc out (in_range (chosen offset up down v) ∷ []) (befores offset (up +ℤ upward v) (down +ℤ downward v) (drop (i + 1) vs))
    ∙ ap (λ l. out ++ befores offset up down l) (sym (drop_more vs i v below ∙ ap (λ x. x ∷ drop (i + 1) vs) (sym at)))
    ∙ so

-- a rounded quotient, by what it is the quotient of
pub rounded_same : (r p q g : ℤ) (n : ℕ) → r ≡ rounded p (unsigned_abs q) → p ≡ g → q ≡ pos n → r ≡ rounded g n
rounded_same r p q g n is e f = is ∙ ap₂ rounded e (ap unsigned_abs f)

-- what is found where a count is in range
pub range_so : (o : Option ℤ) (m n : ℤ) → SomeIff o (IsNumber m) m → m ≡ n → o ≡ in_range n
range_so o m n is e = in_range_from_exact o m is ∙ ap in_range e
