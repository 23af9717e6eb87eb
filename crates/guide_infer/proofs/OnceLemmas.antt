-- Sets of names.
use Rattle.std.proofs.Common.{◌≡◌, ℕ, Bool, true, false, cond, ◌||◌, List, [], ◌∷◌, ◌++◌, refl, sym, ap, ◌∙◌, append_assoc}
use Rattle.std.proofs.lemmas.List.Folds.{list_any-append}
use Rattle.std.specs.List.{list_any}
use Rattle.std.specs.Str.{bytes_eq}
use Rattle.std.proofs.lemmas.Bool.Decides.{same_from_decides, Decides-like}
use Rattle.std.proofs.lemmas.Slice.Eq.{bytes_eq-Decides}
use Rattle.guide_infer.specs.Once.{once_behind}

bytes_eq-flips : (x y : List ℕ) → bytes_eq x y ≡ bytes_eq y x
bytes_eq-flips x y = same_from_decides _ _ (bytes_eq-Decides x y) (Decides-like _ sym sym (bytes_eq-Decides y x))

chosen_or : (a b : Bool) → cond a true b ≡ (b || a)
chosen_or true true = refl
chosen_or true false = refl
chosen_or false true = refl
chosen_or false false = refl

-- a set with one more name
pub added : (q name field : List ℕ) (old new : Bool) → name ≡ field → new ≡ cond (bytes_eq name q) true old → new ≡ (old || bytes_eq q field)
added q name field old new same after =
    after ∙ chosen_or (bytes_eq name q) old ∙ ap (λ (b : Bool). old || b) (bytes_eq-flips name q ∙ ap (bytes_eq q) same)

-- ---- names, each once

once_step : (b : Bool) (out rest : List (List ℕ)) (name : List ℕ) → list_any (bytes_eq name) out ≡ b
    → once_behind out (name ∷ rest) ≡ cond b (once_behind out rest) (name ∷ once_behind (out ++ name ∷ []) rest)
once_step b out rest name is = ap (λ t. cond t (once_behind out rest) (name ∷ once_behind (out ++ name ∷ []) rest)) is

-- a name that is there
pub known_name : (out : List (List ℕ)) (name : List ℕ) → list_any (bytes_eq name) out ≡ true
    → (rest : List (List ℕ)) → out ++ once_behind out rest ≡ out ++ once_behind out (name ∷ rest)
known_name out name is rest = ap (λ names. out ++ names) (sym (once_step true out rest name is))

-- one that isn't
pub new_name : (out more : List (List ℕ)) (name : List ℕ) → list_any (bytes_eq name) out ≡ false → more ≡ out ++ name ∷ []
    → (rest : List (List ℕ)) → more ++ once_behind more rest ≡ out ++ once_behind out (name ∷ rest)
new_name out more name is adds rest =
    ap (λ names. names ++ once_behind names rest) adds ∙ append_assoc out (name ∷ []) (once_behind (out ++ name ∷ []) rest)
    ∙ ap (λ names. out ++ names) (sym (once_step false out rest name is))

or_last : (a b : Bool) → (a || b) ≡ (a || (b || false))
or_last true b = refl
or_last false true = refl
or_last false false = refl

-- what a set tells with one more name
pub one_more_name : (out more : List (List ℕ)) (name q : List ℕ) (old new : Bool) → old ≡ list_any (bytes_eq q) out → more ≡ out ++ name ∷ []
    → new ≡ (old || bytes_eq q name) → new ≡ list_any (bytes_eq q) more
one_more_name out more name q old new before adds after =
    after ∙ ap (λ b. b || bytes_eq q name) before ∙ or_last (list_any (bytes_eq q) out) (bytes_eq q name)
    ∙ sym (list_any-append (bytes_eq q) out (name ∷ [])) ∙ ap (list_any (bytes_eq q)) (sym adds)
