-- Steps that may fail, taken apart.
use Rattle.std.proofs.Common.{◌≡◌, ℕ, ◌<◌, Bool, true, false, cond, List, [], ◌∷◌, ◌++◌, drop, Result, Ok, Err, refl, ap, subst, arith, inl}
use Rattle.std.proofs.Common.{inr, ◌⊎◌}
use Rattle.fixed_num.specs.Front.{Read, first}
use Rattle.fixed_num.specs.Steps.{◌>>=◌}

-- the value of a step that did not fail
pub bind_ok : {A B E : Type 0} (r : Result A E) (f : A → Result B E) (y : B) → (r >>= f) ≡ Ok y → (x : A) × (r ≡ Ok x) × (f x ≡ Ok y)
bind_ok (Ok x) f y e = (x, refl, e)
bind_ok (Err d) f y e = absurd cc

-- which way a test went
pub chosen : {A : Type 0} (b : Bool) (x y z : A) → cond b x y ≡ z → ((b ≡ true) × (x ≡ z)) ⊎ ((b ≡ false) × (y ≡ z))
chosen true x y z e = inl (refl, e)
chosen false x y z e = inr (refl, e)

-- a test that had to hold, and one that had not to
pub guarded : {A E : Type 0} (b : Bool) (k : E) (x : Result A E) (z : A) → cond b x (Err k) ≡ Ok z → (b ≡ true) × (x ≡ Ok z)
guarded true k x z e = (refl, e)
guarded false k x z e = absurd cc

pub unless : {A : Type 0} (b : Bool) (k : ℕ) (x : Result A ℕ) (z : A) → cond b (Err k) x ≡ Ok z → (b ≡ false) × (x ≡ Ok z)
unless true k x z e = absurd cc
unless false k x z e = (refl, e)

abbrev pub done : {A : Type 0} → A → Result A ℕ
done x = Ok x

pub ok_is : {A : Type 0} (x y : A) → done x ≡ done y → x ≡ y
ok_is x y e = cc

-- the word at the front that was read as x.0
pub record Takes {A : Type 0} (P : A → List ℕ → Type 0) (bytes : List ℕ) (x : A × List ℕ) : Type 0 where
  pub word : List ℕ
  pub parts : bytes ≡ word ++ x.1
  pub is : P x.0 word

abbrev pub Sound : {A : Type 0} → (A → List ℕ → Type 0) → (List ℕ → Read A) → Type 0
Sound {A} P element = (bytes : List ℕ) (x : A × List ℕ) → element bytes ≡ Ok x → Takes P bytes x

pub Sound-at : {A : Type 0} (P : A → List ℕ → Type 0) (bytes : List ℕ) (x y : A × List ℕ) → x ≡ y → Takes P bytes x → Takes P bytes y
Sound-at P bytes x y e t = subst (λ z. Takes P bytes z) e t

-- a list that begins with a byte
pub begins : (bytes : List ℕ) (b : ℕ) → 0 < b → first bytes ≡ b → bytes ≡ b ∷ drop 1 bytes
begins [] b some e = absurd (omega arith)
begins (c ∷ bytes) b some e = ap (λ (d : ℕ). d ∷ bytes) e
