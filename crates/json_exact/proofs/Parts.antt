-- White space, texts, numbers and words: what is spelled is read, whatever may follow.
use Rattle.std.proofs.Common.{◌≡◌, ℕ, true, false, List, [], ◌∷◌, ◌++◌, refl, ◌∙◌, arith, inl, inr}
use Rattle.std.proofs.lemmas.Bool.{cases_Bool, cond-true, cond-false}
use Rattle.std.proofs.lemmas.Bool.Decides.{nat_tests}
use Rattle.json_exact.specs.Reading.{is_white, IsWhite}
use Rattle.fixed_num.specs.Front.{first, ends_number}
use Rattle.json_exact.specs.inner.Reader.{skip_white}

-- what may stand after a value
pub record Stops (rest : List ℕ) : Type 0 where
  pub no_white : is_white (first rest) ≡ false
  pub no_number : ends_number (first rest) ≡ true

-- ---- white space

pub skip_white-append : (before rest : List ℕ) → IsWhite before → skip_white (before ++ rest) ≡ skip_white rest
unfolding skip_white
skip_white-append [] rest w = refl
skip_white-append (b ∷ before) rest w = cond-true _ _ _ w.0 ∙ skip_white-append before rest w.1

pub skip_white-stop : (rest : List ℕ) → is_white (first rest) ≡ false → skip_white rest ≡ rest
unfolding skip_white
skip_white-stop [] e = refl
skip_white-stop (b ∷ rest) e = cond-false _ _ _ e

pub skip_white-again : (bytes : List ℕ) → skip_white (skip_white bytes) ≡ skip_white bytes
unfolding skip_white
skip_white-again [] = refl
skip_white-again (b ∷ rest) = elim (cases_Bool (is_white b)) [
  | inl e ↦ rw e (skip_white-again rest)
  | inr e ↦ rw e (cond-false _ _ _ e)
]

white-ends : (b : ℕ) → is_white b ≡ true → ends_number b ≡ true
white-ends b e = grind (arith, nat_tests)

-- white space and what may follow a value may follow a value
pub ends-append : (after rest : List ℕ) → IsWhite after → ends_number (first rest) ≡ true → ends_number (first (after ++ rest)) ≡ true
ends-append [] rest w e = e
ends-append (b ∷ after) rest w e = white-ends b w.0
