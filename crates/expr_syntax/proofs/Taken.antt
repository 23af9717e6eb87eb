-- Steps that may fail, taken apart; and what was read from the front.
use Rattle.std.proofs.Common.{◌≡◌, Bool, true, false, cond, List, ◌++◌, Result, Ok, Err, refl, subst}
use Rattle.expr_syntax.specs.declared.token.Token.{Token}
use Rattle.fixed_num.specs.Steps.{◌>>=◌}
use Rattle.expr_syntax.specs.inner.Parser.{Read}

-- the value of a step that did not fail, handed on
pub step : {A B C : Type 0} (r : Result A (Unit {0})) (f : A → Result B (Unit {0})) (y : B) → (r >>= f) ≡ Ok y
    → ((x : A) → r ≡ Ok x → f x ≡ Ok y → C) → C
step (Ok x) f y e k = k x refl e
step (Err d) f y e k = absurd cc

-- a test and what was done where it held, handed on
pub test : {A C : Type 0} (b : Bool) (x y : Result A (Unit {0})) (z : A) → cond b x y ≡ Ok z → (b ≡ true → x ≡ Ok z → C)
    → (b ≡ false → y ≡ Ok z → C) → C
test true x y z e k l = k refl e
test false x y z e k l = l refl e

abbrev pub done : {A : Type 0} → A → Result A (Unit {0})
done x = Ok x

pub ok_is : {A : Type 0} (x y : A) → done x ≡ done y → x ≡ y
ok_is x y e = cc

-- the tokens at the front that were read as x.0
pub record Takes {A : Type 0} (P : A → List Token → Type 0) (tokens : List Token) (x : A × List Token) : Type 0 where
  pub front : List Token
  pub parts : tokens ≡ front ++ x.1
  pub is : P x.0 front

abbrev pub Sound : {A : Type 0} → (A → List Token → Type 0) → (List Token → Read A) → Type 0
Sound {A} P element = (tokens : List Token) (x : A × List Token) → element tokens ≡ Ok x → Takes P tokens x

pub Takes-at : {A : Type 0} (P : A → List Token → Type 0) (tokens : List Token) (x y : A × List Token) → done x ≡ done y → Takes P tokens x
    → Takes P tokens y
Takes-at P tokens x y e t = subst (λ z. Takes P tokens z) (ok_is x y e) t

-- the same front, read as something else
pub retaken : {A B : Type 0} (P : A → List Token → Type 0) (Q : B → List Token → Type 0) (tokens : List Token) (x : A × List Token)
    (y : B × List Token) → (b : B) → done (b, x.1) ≡ done y → ((front : List Token) → P x.0 front → Q b front) → Takes P tokens x
    → Takes Q tokens y
retaken P Q tokens x y b e q t = Takes-at Q tokens (b, x.1) y e (record { front = t.front; parts = t.parts; is = q t.front t.is })
