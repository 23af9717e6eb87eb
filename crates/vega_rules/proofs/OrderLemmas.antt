-- The earliest of several lists of faults.
use Rattle.std.proofs.Common.{◌≡◌, ℕ, Bool, true, false, List, [], ◌∷◌, ◌++◌, Option, Some, None, cond, refl, sym, ap, ◌∙◌, arith}
use Rattle.std.proofs.lemmas.Bool.Decides.{nat_tests}
use Rattle.std.specs.declared.cmp.Ordering.{Ordering}
use Rattle.std.specs.declared.cmp.Ordering.TheVariants.{Less, Equal, Greater}
use Rattle.std.specs.Ordering.{nat_cmp, is_lt, ordering_reverse}
use Rattle.std.specs.Cmp.Lexicographic.{slice_cmp}
use Rattle.std.proofs.lemmas.Cmp.{nat_list_cmp_total, same_from_slice_cmp}
use Rattle.spec_schema.specs.Order.{is_before}
use Rattle.vega_rules.specs.declared.fault.PlacedFault.{PlacedFault}
use Rattle.vega_rules.specs.Faults.{sooner, earliest}

abbrev order : List ℕ → List ℕ → Ordering
order = slice_cmp nat_cmp

before_is : (x y : List ℕ) → is_lt (order x y) ≡ is_before x y
before_is x y = same_from_slice_cmp nat_cmp is_lt is_before refl (λ _ _. refl) (λ _ _. refl) (λ x y xs ys o h. grind
    (arith, nat_tests)) x y (order x y) refl

less : (r : Ordering) → is_lt r ≡ true → r ≡ Less
less Less h = refl
less Equal h = absurd (cc)
less Greater h = absurd (cc)

is_less : (x y : List ℕ) → is_before x y ≡ true → order x y ≡ Less
is_less x y h = less _ (before_is x y ∙ h)

from_less : (x y : List ℕ) → order x y ≡ Less → is_before x y ≡ true
from_less x y h = sym (before_is x y) ∙ ap is_lt h

-- what is before one that is before a third is before that
through : (x y z : List ℕ) → is_before x y ≡ true → is_before y z ≡ true → is_before x z ≡ true
through x y z p q = from_less x z (nat_list_cmp_total.trans x y z (is_less x y p) (is_less y z q))

-- a third stands on one side or the other
beside : (x y z : List ℕ) → is_before x z ≡ true → is_before x y ≡ false → is_before y z ≡ true
beside x y z p q = by_order (order x y) refl
  where
    by_order : (r : Ordering) → order x y ≡ r → is_before y z ≡ true
    by_order Less is = absurd (let t : is_before x y ≡ true = from_less x y is in cc)
    by_order Equal is = from_less y z (sym (nat_list_cmp_total.congr x y z is) ∙ is_less x z p)
    by_order Greater is = from_less y z (nat_list_cmp_total.trans y x z (nat_list_cmp_total.antisymm y x
        ∙ ap ordering_reverse is) (is_less x z p))

three : (f g h : PlacedFault) (p q r : Bool) → is_before g.place f.place ≡ p → is_before h.place g.place ≡ q → is_before h.place f.place ≡ r
    → (p ≡ true → q ≡ true → r ≡ true) → (r ≡ true → q ≡ false → p ≡ true)
    → sooner (cond p (Some g) (Some f)) (Some h) ≡ sooner (Some f) (cond q (Some h) (Some g))
three f g h true true true pe qe re a b = rw (qe, re) refl
three f g h true true false pe qe re a b = absurd (let t = a refl refl in cc)
three f g h true false r pe qe re a b = rw (qe, pe) refl
three f g h false true r pe qe re a b = refl
three f g h false false true pe qe re a b = absurd (let t = b refl refl in cc)
three f g h false false false pe qe re a b = rw (pe, re) refl

pub sooner_assoc : (a b c : Option PlacedFault) → sooner (sooner a b) c ≡ sooner a (sooner b c)
sooner_assoc None b c = refl
sooner_assoc (Some f) None c = refl
sooner_assoc (Some f) (Some g) None = none (is_before g.place f.place)
  where
    none : (p : Bool) → sooner (cond p (Some g) (Some f)) None ≡ cond p (Some g) (Some f)
    none true = refl
    none false = refl
sooner_assoc (Some f) (Some g) (Some h) = three f g h _ _ _ refl refl refl (λ p q. through h.place g.place f.place q p)
    (λ r q. beside h.place g.place f.place r q)

pub earliest-append : (xs ys : List PlacedFault) → earliest (xs ++ ys) ≡ sooner (earliest xs) (earliest ys)
earliest-append [] ys = refl
earliest-append (x ∷ xs) ys = ap (sooner (Some x)) (earliest-append xs ys) ∙ sym (sooner_assoc (Some x) (earliest xs) (earliest ys))

-- the fault so far, then those of one more, and then the rest
pub one_more : (so_far next whole : Option PlacedFault) (xs ys : List PlacedFault) → next ≡ sooner so_far (earliest xs)
    → sooner so_far (earliest (xs ++ ys)) ≡ whole → sooner next (earliest ys) ≡ whole
one_more so_far next whole xs ys n h =
    ap (λ f. sooner f (earliest ys)) n ∙ sooner_assoc so_far (earliest xs) (earliest ys)
    ∙ ap (sooner so_far) (sym (earliest-append xs ys)) ∙ h

pub none_more : (so_far : Option PlacedFault) → sooner so_far None ≡ so_far
none_more None = refl
none_more (Some f) = refl

-- the earliest of the lists so far, and then of one more
pub then_faults : (so_far next : Option PlacedFault) (xs ys : List PlacedFault) → so_far ≡ earliest xs
    → next ≡ sooner so_far (earliest ys) → next ≡ earliest (xs ++ ys)
then_faults so_far next xs ys h n = n ∙ ap (λ f. sooner f (earliest ys)) h ∙ sym (earliest-append xs ys)

pub two_lists : (so_far next last : Option PlacedFault) (xs ys : List PlacedFault) → next ≡ sooner so_far (earliest xs)
    → last ≡ sooner next (earliest ys) → last ≡ sooner so_far (earliest (xs ++ ys))
two_lists so_far next last xs ys h n =
    n ∙ ap (λ f. sooner f (earliest ys)) h ∙ sooner_assoc so_far (earliest xs) (earliest ys)
    ∙ ap (sooner so_far) (sym (earliest-append xs ys))
