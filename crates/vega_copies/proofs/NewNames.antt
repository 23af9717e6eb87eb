-- Names that stand once each.
use Rattle.std.proofs.Common.{◌≡◌, ℕ, ◌<◌, Bool, true, false, cond, not, ◌&&◌, ◌||◌, List, [], ◌∷◌, ◌++◌, length, get_or, refl, sym, ap}
use Rattle.std.proofs.Common.{subst, ◌∙◌, append_assoc, arith}
use Rattle.std.specs.Prelude.{◌≢◌}
use Rattle.std.specs.List.{list_any, AllPairs}
use Rattle.std.specs.Str.{bytes_eq}
use Rattle.std.proofs.lemmas.Bool.Decides.{same_from_decides, Decides-like}
use Rattle.std.proofs.lemmas.List.{append-nil}
use Rattle.std.proofs.lemmas.List.Folds.{list_any_at}
use Rattle.std.proofs.lemmas.List.Quantifiers.{all_pairs_push}
use Rattle.std.proofs.lemmas.Slice.Eq.{bytes_eq-Decides}
use Rattle.vega_copies.specs.Tested.{are_new}

bytes_eq-flips : (x y : List ℕ) → bytes_eq x y ≡ bytes_eq y x
bytes_eq-flips x y = same_from_decides _ _ (bytes_eq-Decides x y) (Decides-like _ sym sym (bytes_eq-Decides y x))

chosen_or : (a b : Bool) → cond a true b ≡ (b || a)
chosen_or true true = refl
chosen_or true false = refl
chosen_or false true = refl
chosen_or false false = refl

-- a set with one more name
pub added : (q name field : List ℕ) (old new : Bool) → name ≡ field → new ≡ cond (bytes_eq name q) true old
    → new ≡ (old || bytes_eq q field)
added q name field old new same after =
    after ∙ chosen_or (bytes_eq name q) old ∙ ap (λ (b : Bool). old || b) (bytes_eq-flips name q ∙ ap (bytes_eq q) same)

both : (a b : Bool) → (not a && b) ≡ true → (a ≡ false) × (b ≡ true)
both true b h = absurd (cc)
both false b h = (refl, h)

apart_from : (before names : List (List ℕ)) → AllPairs (λ a b. a ≢ b) before → are_new before names ≡ true
    → AllPairs (λ a b. a ≢ b) (before ++ names)
apart_from before [] h e = subst (AllPairs (λ a b. a ≢ b)) (sym (append-nil before)) h
apart_from before (name ∷ names) h e =
    let parts = both (list_any (bytes_eq name) before) (are_new (before ++ name ∷ []) names) e in
    let other : (k : ℕ) (d : List ℕ) → k < length before → get_or before k d ≢ name = λ k d in_it same.
    let found : list_any (bytes_eq name) before ≡ true =
    list_any_at (bytes_eq name) before k d in_it ((bytes_eq-Decides name (get_or before k d)).1 (sym same)) in
    absurd (cc (found, parts.0)) in
    subst (AllPairs (λ a b. a ≢ b)) (append_assoc before (name ∷ []) names)
    (apart_from (before ++ name ∷ []) names (all_pairs_push (λ a b. a ≢ b) before name h other) parts.1)

-- names of which each is new are apart
pub apart : (names : List (List ℕ)) → are_new [] names ≡ true → AllPairs (λ a b. a ≢ b) names
apart names e = apart_from [] names (λ i j d less within. absurd (omega (arith, less, within))) e
