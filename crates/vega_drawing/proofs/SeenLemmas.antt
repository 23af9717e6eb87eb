-- Lists that grow by what each of others gives, and lists as they are seen.
use Rattle.std.proofs.Common.{◌≡◌, ℕ, ◌+◌, ◌<◌, ◌≤◌, Bool, true, false, cond, List, [], ◌∷◌, ◌++◌, map, length, drop, get_or, Option, Some}
use Rattle.std.proofs.Common.{None, Err, refl, sym, ap, ◌∙◌, subst, arith}
use Rattle.std.specs.List.{All, find}
use Rattle.std.proofs.lemmas.List.{append-nil, append_assoc, map-append, length-map, drop_more, get_or-map, at_drop_all}
use Rattle.std.proofs.lemmas.List.Elements.{All-get_or, All-head, All-tail}
use Rattle.fixed_num.specs.Ranges.{◌>>=◌, all_found}
use Rattle.fixed_num.proofs.FoundLemmas.{after, one_more}
use Rattle.expr_eval.specs.declared.error.EvalError.{EvalError}
use Rattle.expr_eval.specs.declared.error.EvalError.TheVariants.{Overflow, Memory}
use Rattle.expr_eval.specs.Answers.{Evaluates}

-- what a list gives that is made of two parts
abbrev pub IsMadeOf : {X Y : Type 0} → (List X → List Y) → Type 0
IsMadeOf {X} f = (xs ys : List X) → f (xs ++ ys) ≡ f xs ++ f ys

module _ {X Y : Type 0} (f : List X → List Y) (xs : List X) (i : ℕ) where
  -- one more
  pub one_more_added : (x : X) (old new whole : List Y) → IsMadeOf f → i < length xs → x ≡ get_or xs i x
      → old ++ f (drop i xs) ≡ whole → new ≡ old ++ f (x ∷ []) → new ++ f (drop (i + 1) xs) ≡ whole
  one_more_added x old new whole made within is before adds =
      ap (λ l. l ++ f (drop (i + 1) xs)) adds ∙ append_assoc old (f (x ∷ [])) (f (drop (i + 1) xs))
      ∙ ap (λ l. old ++ l) (sym (ap f (drop_more xs i x within ∙ ap (λ y. y ∷ drop (i + 1) xs) (sym is)) ∙ made (x ∷ []) (drop (i + 1) xs)))
      ∙ before

  -- no more
  pub all_added : (old whole : List Y) → f [] ≡ [] → length xs ≤ i → old ++ f (drop i xs) ≡ whole → old ≡ whole
  all_added old whole none past before = sym (append-nil old) ∙ ap (λ l. old ++ l) (sym (at_drop_all f xs i past ∙ none)) ∙ before

-- what holds of all that are seen holds of each
pub at_seen : {X Y : Type 0} (P : Y → Type 0) (see : X → Y) (xs : List X) (i : ℕ) (x : X) → i < length xs → x ≡ get_or xs i x
    → All P (map see xs) → P (see x)
at_seen P see xs i x within is all =
    let there : i < length (map see xs) = omega (arith, within, length-map xs see) in
    subst P (get_or-map see xs i x (see x) within ∙ ap see (sym is)) (All-get_or P (map see xs) i (see x) there all)

-- what holds of all holds of the one that is found
pub found_keeps : {X : Type 0} (P : X → Type 0) (p : X → Bool) (xs : List X) (x : X) → All P xs → find p xs ≡ Some x → P x
found_keeps P p [] x all e = absurd (cc)
found_keeps P p (y ∷ ys) x all e = here (p y) e (All-head P y ys all) (λ f. found_keeps P p ys x (All-tail P y ys all) f)
  where
    here : (b : Bool) → cond b (Some y) (find p ys) ≡ Some x → P y → (find p ys ≡ Some x → P x) → P x
    here true e h rest = let same : y ≡ x = cc in subst P same h
    here false e h rest = rest e

-- what is left is all, as long as there is nothing before it
none_before : {Y : Type 0} (o : Option (List Y)) → o ≡ after [] o
none_before None = refl
none_before (Some ys) = refl

-- results that are seen one by one
module _ {X Y Z : Type 0} (see : Y → Z) (one : X → Option Z) (xs : List X) where
  pub begun_seen : (done : List Y) → done ≡ [] → all_found (map one xs) ≡ after (map see done) (all_found (map one xs))
  begun_seen done none = none_before (all_found (map one xs)) ∙ ap (λ l. after (map see l) (all_found (map one xs))) (sym none)

  at : (i : ℕ) (x : X) → i < length xs → x ≡ get_or xs i x → all_found (map one (drop i xs))
      ≡ (one x >>= λ z. all_found (map one (drop (i + 1) xs)) >>= λ zs. Some (z ∷ zs))
  at i x within is = ap (λ l. all_found (map one l)) (drop_more xs i x within ∙ ap (λ y. y ∷ drop (i + 1) xs) (sym is))

  -- one more
  pub next_seen : (i : ℕ) (x : X) (done grown : List Y) (y : Y) (whole : Option (List Z)) → i < length xs → x ≡ get_or xs i x
      → whole ≡ after (map see done) (all_found (map one (drop i xs))) → one x ≡ Some (see y) → grown ≡ done ++ y ∷ []
      → whole ≡ after (map see grown) (all_found (map one (drop (i + 1) xs)))
  next_seen i x done grown y whole within is before this adds =
      before
      ∙ ap (after (map see done)) (at i x within is ∙ ap (λ o. o >>= λ z. all_found (map one (drop (i + 1) xs)) >>= λ zs. Some (z ∷ zs)) this)
      ∙ sym (one_more (map see done) (see y) (all_found (map one (drop (i + 1) xs))))
      ∙ ap (λ l. after l (all_found (map one (drop (i + 1) xs)))) (sym (ap (map see) adds ∙ map-append see done (y ∷ [])))

  -- all of them
  pub ended_seen : (i : ℕ) (done : List Y) (whole : Option (List Z)) → length xs ≤ i
      → whole ≡ after (map see done) (all_found (map one (drop i xs))) → whole ≡ Some (map see done)
  ended_seen i done whole past before =
      before ∙ ap (after (map see done)) (at_drop_all (λ l. all_found (map one l)) xs i past) ∙ ap Some (append-nil (map see done))

  -- an error at one is the whole's
  pub stopped_seen : (i : ℕ) (x : X) (done : List Z) (whole : Option (List Z)) (e : EvalError) → i < length xs → x ≡ get_or xs i x
      → whole ≡ after done (all_found (map one (drop i xs))) → Evaluates {X = Z} (Err e) (one x) → Evaluates {X = List Z} (Err e) whole
  stopped_seen i x done whole Overflow within is before told =
      before ∙ ap (after done) (at i x within is ∙ ap (λ o. o >>= λ z. all_found (map one (drop (i + 1) xs)) >>= λ zs. Some (z ∷ zs)) told)
  stopped_seen i x done whole Memory within is before told = tt

-- what a list that is seen gives
pub seen_twice_made : {X Y Z : Type 0} (f : Y → Z) (see : X → Y) → IsMadeOf (λ (xs : List X). map f (map see xs))
seen_twice_made f see xs ys = ap (map f) (map-append see xs ys) ∙ map-append f (map see xs) (map see ys)
