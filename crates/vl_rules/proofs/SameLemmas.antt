-- Sets of names.
use Rattle.std.proofs.Common.{◌≡◌, ℕ, ◌+◌, ◌<◌, Bool, true, false, cond, ◌||◌, List, length, take, get_or, refl, sym, ap, ◌∙◌}
use Rattle.std.specs.Str.{bytes_eq}
use Rattle.std.proofs.lemmas.Bool.Decides.{same_from_decides, Decides-like}
use Rattle.std.proofs.lemmas.List.Folds.{list_any_more}
use Rattle.std.proofs.lemmas.Slice.Eq.{bytes_eq-Decides}
use Rattle.vl_rules.specs.Selections.{is_among}

bytes_eq-flips : (x y : List ℕ) → bytes_eq x y ≡ bytes_eq y x
bytes_eq-flips x y = same_from_decides _ _ (bytes_eq-Decides x y) (Decides-like _ sym sym (bytes_eq-Decides y x))

chosen_or : (a b : Bool) → cond a true b ≡ (b || a)
chosen_or true true = refl
chosen_or true false = refl
chosen_or false true = refl
chosen_or false false = refl

-- a set with one more name
pub added : (q name one : List ℕ) (old new : Bool) → name ≡ one → new ≡ cond (bytes_eq name q) true old → new ≡ (old || bytes_eq q one)
added q name one old new same after =
    after ∙ chosen_or (bytes_eq name q) old ∙ ap (λ (b : Bool). old || b) (bytes_eq-flips name q ∙ ap (bytes_eq q) same)

pub one_more_name : (q : List ℕ) (names : List (List ℕ)) (i : ℕ) (d : List ℕ) → i < length names →
    is_among (take (i + 1) names) q ≡ (is_among (take i names) q || bytes_eq q (get_or names i d))
one_more_name q names i d lt = list_any_more (bytes_eq q) names i d lt
