-- Where `://` stands in a text.
use Rattle.std.proofs.Common.{◌≡◌, ℕ, List, [], ◌∷◌, length, drop, refl, arith}
use Rattle.std.specs.Prelude.{◌==◌, true, false}
use Rattle.std.proofs.lemmas.Bool.Decides.{nat_tests}
use Rattle.vl_model.specs.Texts.{begins_far, is_far}

pub far_here : (bytes : List ℕ) → begins_far bytes ≡ true → is_far bytes ≡ true
far_here [] begins = begins
far_here (b ∷ bytes) begins = rw begins refl

pub far_further : (bytes : List ℕ) → begins_far bytes ≡ false → is_far (drop 1 bytes) ≡ is_far bytes
far_further [] isnt = refl
far_further (b ∷ bytes) isnt = rw isnt refl

pub far_nowhere : (bytes : List ℕ) → (length bytes == 0) ≡ true → is_far bytes ≡ false
far_nowhere [] none = refl
far_nowhere (b ∷ bytes) none = grind (arith, nat_tests)
