-- Steps that may fail, taken apart.
use Rattle.std.proofs.Common.{◌≡◌, ℕ, Bool, true, false, cond, List, Ok, refl}
use Rattle.expr_syntax.specs.inner.Scanner.{Read}

-- what holds on both ways
pub either_way : {A : Type 0} (P : A → Type 0) (b : Bool) (x y : A) → (b ≡ true → P x) → (b ≡ false → P y) → P (cond b x y)
either_way P true x y f g = f refl
either_way P false x y f g = g refl

abbrev pub done : {A : Type 0} → A × List ℕ → Read A
done x = Ok x

pub ok_is : {A : Type 0} (x y : A × List ℕ) → done x ≡ done y → x ≡ y
ok_is x y e = cc
