-- Sets of names.
use Rattle.std.proofs.Common.{◌≡◌, ℕ, Bool, true, false, cond, ◌||◌, List, refl, sym, ap, ◌∙◌}
use Rattle.std.specs.Str.{bytes_eq}
use Rattle.std.proofs.lemmas.Bool.Decides.{same_from_decides, Decides-like}
use Rattle.std.proofs.lemmas.Slice.Eq.{bytes_eq-Decides}

bytes_eq-flips : (x y : List ℕ) → bytes_eq x y ≡ bytes_eq y x
bytes_eq-flips x y = same_from_decides _ _ (bytes_eq-Decides x y) (Decides-like _ sym sym (bytes_eq-Decides y x))

chosen_or : (a b : Bool) → cond a true b ≡ (b || a)
chosen_or true true = refl
chosen_or true false = refl
chosen_or false true = refl
chosen_or false false = refl

-- a set with one more name
pub added : (q name field : List ℕ) (old new : Bool) → name ≡ field → new ≡ cond (bytes_eq name q) true old → new ≡ (old || bytes_eq q field)
added q name field old new same after =
    after ∙ chosen_or (bytes_eq name q) old ∙ ap (λ (b : Bool). old || b) (bytes_eq-flips name q ∙ ap (bytes_eq q) same)

-- what a set with one more name tells beside the names that follow
pub or_later : (old new one rest whole : Bool) → new ≡ (old || one) → (old || (one || rest)) ≡ whole → (new || rest) ≡ whole
or_later true new one rest whole is before = ap (λ b. b || rest) is ∙ before
or_later false new one rest whole is before = ap (λ b. b || rest) is ∙ before
