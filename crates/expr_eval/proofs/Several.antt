-- Several outcomes, one after another.
use Rattle.std.proofs.Common.{◌≡◌, ℕ, zero, suc, ◌+◌, ◌<◌, List, [], ◌∷◌, ◌++◌, length, take, get_or, Option, Some, None, refl, sym, ap}
use Rattle.std.proofs.Common.{◌∙◌, arith, add-one}
use Rattle.std.specs.Prelude.{map, sum_by, Err}
use Rattle.std.specs.Option.{option_map}
use Rattle.std.proofs.lemmas.List.{map-append}
use Rattle.std.proofs.lemmas.List.Sums.{sum_by_more, sum_by-take-le}
use Rattle.std.proofs.Math.Seq.{take-suc}
use Rattle.expr_eval.specs.declared.error.EvalError.{EvalError}
use Rattle.expr_eval.specs.declared.error.EvalError.TheVariants.{Overflow, Memory}
use Rattle.fixed_num.specs.Ranges.{◌>>=◌, all_found}
use Rattle.expr_eval.specs.Answers.{Evaluates, RisesBy}

after_first : {Y : Type 0} (rest whole : Option (List Y)) (x : Y) (ys : List Y) (y : Y) → (rest >>= λ xs. Some (x ∷ xs)) ≡ Some ys
    → ((zs : List Y) → rest ≡ Some zs → whole ≡ Some (zs ++ y ∷ [])) → (whole >>= λ xs. Some (x ∷ xs)) ≡ Some (ys ++ y ∷ [])
after_first None whole x ys y e h = cc
after_first (Some zs) whole x ys y e h = ap (λ w. w >>= λ xs. Some (x ∷ xs)) (h zs refl) ∙ ap (λ o. option_map (λ l. l ++ y ∷ []) o) e

-- one result more
one_more : {Y : Type 0} (results : List (Option Y)) (ys : List Y) (y : Y) → all_found results ≡ Some ys
    → all_found (results ++ Some y ∷ []) ≡ Some (ys ++ y ∷ [])
one_more [] ys y e = ap (λ o. option_map (λ l. l ++ y ∷ []) o) e
one_more (None ∷ results) ys y e = cc
one_more (Some x ∷ results) ys y e = after_first (all_found results) _ x ys y e (λ zs f. one_more results zs y f)

behind : {Y : Type 0} (o : Option Y) (rest : Option (List Y)) → rest ≡ None → (o >>= λ y. rest >>= λ ys. Some (y ∷ ys)) ≡ None
behind None rest e = refl
behind (Some y) rest e = ap (λ r. r >>= λ ys. Some (y ∷ ys)) e

-- where one is out of range, all are
pub none_behind : {X Y : Type 0} (v : X → Option Y) (xs : List X) (i : ℕ) (x : X) → i < length xs → x ≡ get_or xs i x → v x ≡ None
    → all_found (map v xs) ≡ None
none_behind v [] i x l at f = absurd (omega arith)
none_behind v (z ∷ xs) zero x l at f = ap (λ o. o >>= λ y. all_found (map v xs) >>= λ ys. Some (y ∷ ys)) (ap v (sym at) ∙ f)
none_behind v (z ∷ xs) (suc i) x l at f = behind (v z) (all_found (map v xs)) (none_behind v xs i x (omega arith) at f)

-- what stops one stops all
pub stops_all : {X Y : Type 0} (v : X → Option Y) (xs : List X) (i : ℕ) (x : X) → i < length xs → x ≡ get_or xs i x → (e : EvalError)
    → Evaluates {X = Y} (Err e) (v x) → Evaluates {X = List Y} (Err e) (all_found (map v xs))
stops_all v xs i x l at Overflow h = none_behind v xs i x l at h
stops_all v xs i x l at Memory h = tt

-- one value more
pub all_more : {X Y : Type 0} (v : X → Option Y) (xs : List X) (i : ℕ) (x : X) (ys : List Y) (y : Y) → i < length xs → x ≡ get_or xs i x
    → all_found (map v (take i xs)) ≡ Some ys → v x ≡ Some y → all_found (map v (take (i + 1) xs)) ≡ Some (ys ++ y ∷ [])
all_more v xs i x ys y l at e f =
    let more : take (i + 1) xs ≡ take i xs ++ x ∷ [] =
    ap (λ k. take k xs) (add-one i) ∙ take-suc xs i x l ∙ ap (λ z. take i xs ++ z ∷ []) (sym at) in
    ap (λ zs. all_found (map v zs)) more ∙ ap all_found (map-append v (take i xs) (x ∷ []))
    ∙ ap (λ o. all_found (map v (take i xs) ++ o ∷ [])) f
    ∙ one_more (map v (take i xs)) ys y e

-- steps of some, of one more, and of all
module _ {X : Type 0} (f : X → ℕ) (xs : List X) (i : ℕ) where
  pub steps_of_part : (a b : ℕ) → RisesBy (sum_by f (take i xs)) a b → RisesBy (sum_by f xs) a b
  steps_of_part a b r = record { never_falls = r.never_falls; bounded = omega (arith, r.bounded, sum_by-take-le f xs i) }

  pub steps_more : (x : X) (a b c : ℕ) → i < length xs → x ≡ get_or xs i x → RisesBy (sum_by f (take i xs)) a b → RisesBy (f x) b c
      → RisesBy (sum_by f (take (i + 1) xs)) a c
  steps_more x a b c l at r s = record {
    never_falls = omega (arith, r.never_falls, s.never_falls);
    bounded = omega (arith, r.bounded, s.bounded, sum_by_more f xs i x l, ap f at);
  }

pub steps_then_one : {X : Type 0} (f : X → ℕ) (xs : List X) (i : ℕ) (x : X) (a b c : ℕ) → i < length xs → x ≡ get_or xs i x
    → RisesBy (sum_by f (take i xs)) a b → RisesBy (f x) b c → RisesBy (sum_by f xs) a c
steps_then_one f xs i x a b c l at r s = steps_of_part f xs (i + 1) a c (steps_more f xs i x a b c l at r s)
