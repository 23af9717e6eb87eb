-- A text has parts exactly where it is a JSON number.
use Rattle.std.proofs.Common.{◌≡◌, ℕ, List, [], ◌∷◌, Some, Ok, Err, refl, sym, subst, ap, ◌∙◌}
use Rattle.std.proofs.lemmas.List.{append-nil}
use Rattle.fixed_num.specs.JsonNumber.{Parts, Spells}
use Rattle.fixed_num.specs.Front.{Read, parts_at}
use Rattle.fixed_num.proofs.Numerals.{parts_again, parts_sound as front_sound}
use Rattle.expr_syntax.specs.NumberText.{parts_of, parts_alone}

pub parts_found : (bytes : List ℕ) (p : Parts) → Spells bytes p → parts_of bytes ≡ Some p
unfolding parts_of
parts_found bytes p h = ap parts_alone (ap parts_at (sym (append-nil bytes)) ∙ parts_again bytes [] p h refl)

from_front : (bytes : List ℕ) (p : Parts) (r : Read Parts) → parts_at bytes ≡ r → parts_alone r ≡ Some p → Spells bytes p
from_front bytes p (Err left) e h = absurd cc
from_front bytes p (Ok (q, b ∷ rest)) e h = absurd cc
from_front bytes p (Ok (q, [])) e h =
    let same : q ≡ p = cc in
    let takes = front_sound bytes (q, []) e in
    let word : bytes ≡ takes.word = takes.parts ∙ append-nil takes.word in
    let spelled : List ℕ → Type 0 = λ w. Spells w q in
    subst (λ x. Spells bytes x) same (subst spelled (sym word) takes.is)

pub parts_sound : (bytes : List ℕ) (p : Parts) → parts_of bytes ≡ Some p → Spells bytes p
unfolding parts_of
parts_sound bytes p h = from_front bytes p (parts_at bytes) refl h
