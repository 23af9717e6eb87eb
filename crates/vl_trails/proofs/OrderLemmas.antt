-- The earliest of several lists of faults.
use Rattle.std.proofs.Common.{◌≡◌, ◌+◌, ◌<◌, drop, get_or, length, ℕ, Bool, true, false, List, [], ◌∷◌, ◌++◌, map, Option, Some, None, cond}
use Rattle.std.proofs.Common.{refl, sym, ap, ◌∙◌, arith}
use Rattle.std.proofs.lemmas.Bool.Decides.{nat_tests}
use Rattle.std.proofs.lemmas.List.{drop_more}
use Rattle.std.specs.declared.cmp.Ordering.{Ordering}
use Rattle.std.specs.declared.cmp.Ordering.TheVariants.{Less, Equal, Greater}
use Rattle.std.specs.Ordering.{nat_cmp, is_lt, ordering_reverse}
use Rattle.std.specs.Cmp.Lexicographic.{slice_cmp}
use Rattle.std.proofs.lemmas.Cmp.{nat_list_cmp_total, same_from_slice_cmp}
use Rattle.json_exact.specs.declared.json.Json.{Json}
use Rattle.spec_schema.specs.declared.fault.Fault.{Fault}
use Rattle.spec_schema.specs.Order.{is_before, earlier}
use Rattle.vl_trails.specs.declared.fault.RuleFault.{RuleFault}
use Rattle.vl_trails.specs.Faults.{placed, earliest, earliest_placed}

abbrev order : List ℕ → List ℕ → Ordering
order = slice_cmp nat_cmp

before_is : (x y : List ℕ) → is_lt (order x y) ≡ is_before x y
before_is x y = same_from_slice_cmp nat_cmp is_lt is_before refl (λ _ _. refl) (λ _ _. refl) (λ x y xs ys o h. grind
    (arith, nat_tests)) x y (order x y) refl

less : (r : Ordering) → is_lt r ≡ true → r ≡ Less
less Less h = refl
less Equal h = absurd (cc)
less Greater h = absurd (cc)

is_less : (x y : List ℕ) → is_before x y ≡ true → order x y ≡ Less
is_less x y h = less _ (before_is x y ∙ h)

from_less : (x y : List ℕ) → order x y ≡ Less → is_before x y ≡ true
from_less x y h = sym (before_is x y) ∙ ap is_lt h

-- what is before one that is before a third is before that
pub through : (x y z : List ℕ) → is_before x y ≡ true → is_before y z ≡ true → is_before x z ≡ true
through x y z p q = from_less x z (nat_list_cmp_total.trans x y z (is_less x y p) (is_less y z q))

-- a third stands on one side or the other
pub beside : (x y z : List ℕ) → is_before x z ≡ true → is_before x y ≡ false → is_before y z ≡ true
beside x y z p q = by_order (order x y) refl
  where
    by_order : (r : Ordering) → order x y ≡ r → is_before y z ≡ true
    by_order Less is = absurd (let t : is_before x y ≡ true = from_less x y is in cc)
    by_order Equal is = from_less y z (sym (nat_list_cmp_total.congr x y z is) ∙ is_less x z p)
    by_order Greater is = from_less y z (nat_list_cmp_total.trans y x z (nat_list_cmp_total.antisymm y x
        ∙ ap ordering_reverse is) (is_less x z p))

three : (f g h : Fault) (p q r : Bool) → is_before g.place f.place ≡ p → is_before h.place g.place ≡ q → is_before h.place f.place ≡ r
    → (p ≡ true → q ≡ true → r ≡ true) → (r ≡ true → q ≡ false → p ≡ true)
    → earlier (cond p (Some g) (Some f)) (Some h) ≡ earlier (Some f) (cond q (Some h) (Some g))
three f g h true true true pe qe re a b = rw (qe, re) refl
three f g h true true false pe qe re a b = absurd (let t = a refl refl in cc)
three f g h true false r pe qe re a b = rw (qe, pe) refl
three f g h false true r pe qe re a b = refl
three f g h false false true pe qe re a b = absurd (let t = b refl refl in cc)
three f g h false false false pe qe re a b = rw (pe, re) refl

pub earlier_assoc : (a b c : Option Fault) → earlier (earlier a b) c ≡ earlier a (earlier b c)
earlier_assoc None b c = refl
earlier_assoc (Some f) None c = refl
earlier_assoc (Some f) (Some g) None = none (is_before g.place f.place)
  where
    none : (p : Bool) → earlier (cond p (Some g) (Some f)) None ≡ cond p (Some g) (Some f)
    none true = refl
    none false = refl
earlier_assoc (Some f) (Some g) (Some h) = three f g h _ _ _ refl refl refl (λ p q. through h.place g.place f.place q p)
    (λ r q. beside h.place g.place f.place r q)

earliest-append : (xs ys : List Fault) → earliest (xs ++ ys) ≡ earlier (earliest xs) (earliest ys)
earliest-append [] ys = refl
earliest-append (x ∷ xs) ys = ap (earlier (Some x)) (earliest-append xs ys) ∙ sym (earlier_assoc (Some x) (earliest xs) (earliest ys))

map-append : (tree : Json) (xs ys : List RuleFault) → map (placed tree) (xs ++ ys) ≡ map (placed tree) xs ++ map (placed tree) ys
map-append tree [] ys = refl
map-append tree (x ∷ xs) ys = ap (λ (fs : List Fault). placed tree x ∷ fs) (map-append tree xs ys)

pub placed-append : (tree : Json) (xs ys : List RuleFault)
    → earliest_placed tree (xs ++ ys) ≡ earlier (earliest_placed tree xs) (earliest_placed tree ys)
placed-append tree xs ys = ap earliest (map-append tree xs ys) ∙ earliest-append (map (placed tree) xs) (map (placed tree) ys)

pub none_more : (so_far : Option Fault) → earlier so_far None ≡ so_far
none_more None = refl
none_more (Some f) = refl

-- the fault so far, then those of one more, and then the rest
pub one_more : (tree : Json) (so_far next whole : Option Fault) (xs ys : List RuleFault) → next ≡ earlier so_far (earliest_placed tree xs)
    → earlier so_far (earliest_placed tree (xs ++ ys)) ≡ whole → earlier next (earliest_placed tree ys) ≡ whole
one_more tree so_far next whole xs ys n h =
    ap (λ f. earlier f (earliest_placed tree ys)) n ∙ earlier_assoc so_far (earliest_placed tree xs) (earliest_placed tree ys)
    ∙ ap (earlier so_far) (sym (placed-append tree xs ys)) ∙ h

-- the earliest of the lists so far, and then of one more
pub then_faults : (tree : Json) (so_far next : Option Fault) (xs ys : List RuleFault) → so_far ≡ earliest_placed tree xs
    → next ≡ earlier so_far (earliest_placed tree ys) → next ≡ earliest_placed tree (xs ++ ys)
then_faults tree so_far next xs ys h n = n ∙ ap (λ f. earlier f (earliest_placed tree ys)) h ∙ sym (placed-append tree xs ys)

pub two_lists : (tree : Json) (so_far next last : Option Fault) (xs ys : List RuleFault) → next ≡ earlier so_far (earliest_placed tree xs)
    → last ≡ earlier next (earliest_placed tree ys) → last ≡ earlier so_far (earliest_placed tree (xs ++ ys))
two_lists tree so_far next last xs ys h n =
    n ∙ ap (λ f. earlier f (earliest_placed tree ys)) h ∙ earlier_assoc so_far (earliest_placed tree xs) (earliest_placed tree ys)
    ∙ ap (earlier so_far) (sym (placed-append tree xs ys))

-- where there is no earliest fault, there is no fault
pub none_is_empty : (tree : Json) (faults : List RuleFault) → earliest_placed tree faults ≡ None → faults ≡ []
none_is_empty tree [] h = refl
none_is_empty tree (f ∷ fs) h = absurd (some_stays (earliest (map (placed tree) fs)) h)
  where
    some_stays : (rest : Option Fault) → earlier (Some (placed tree f)) rest ≡ None → ⊥
    some_stays None e = absurd (cc)
    some_stays (Some g) e = either (is_before g.place (placed tree f).place) e
      where
        either : (b : Bool) → cond b (Some g) (Some (placed tree f)) ≡ None → ⊥
        either true e = absurd (cc)
        either false e = absurd (cc)

-- the fault so far, then the one of a number, and then the rest
pub next_fault : (tree : Json) (faults : List RuleFault) (i : ℕ) (so_far next whole : Option Fault) (f : RuleFault) → i < length faults
    → f ≡ get_or faults i f → next ≡ earlier so_far (Some (placed tree f)) → earlier so_far (earliest_placed tree (drop i faults)) ≡ whole
    → earlier next (earliest_placed tree (drop (i + 1) faults)) ≡ whole
next_fault tree faults i so_far next whole f l is n h =
    let split : drop i faults ≡ f ∷ drop (i + 1) faults = drop_more faults i f l ∙ ap (λ (x : RuleFault). x ∷ drop (i + 1) faults) (sym is) in
    let rest : Option Fault = earliest_placed tree (drop (i + 1) faults) in
    ap (λ g. earlier g rest) n ∙ earlier_assoc so_far (Some (placed tree f)) rest
    ∙ ap (λ (fs : List RuleFault). earlier so_far (earliest_placed tree fs)) (sym split) ∙ h
