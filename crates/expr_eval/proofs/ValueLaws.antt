-- Why the laws of values hold.
use Rattle.std.proofs.Common.{◌≡◌, ℕ, ℤ, pos, neg_ℤ, Bool, true, false, List, [], ◌∷◌, Option, Some, None, refl, sym, ◌∙◌, subst, arith}
use Rattle.std.specs.Prelude.{int_lt, if◌then◌else◌}
use Rattle.std.proofs.lemmas.Int.{ints}
use Rattle.fixed_num.specs.Number.{IsNumber, limit}
use Rattle.fixed_num.specs.JsonNumber.{Parts, Reads, decimal_value}
use Rattle.expr_syntax.specs.NumberText.{parts_of}
use Rattle.expr_syntax.proofs.NumberTexts.{parts_sound}
use Rattle.cell_value.specs.Cell.{truth}
use Rattle.fixed_num.specs.Ranges.{◌>>=◌, in_range}
use Rattle.expr_eval.specs.Laws.{SpellsItsNumber, IfOfValues}
use Rattle.expr_eval.specs.Table.{builtin_table}
use Rattle.expr_eval.proofs.NumberTexts.{by_parts, read_as}
use Rattle.expr_eval.proofs.RangeLemmas.{in_range_at_number}

inside : (x : ℤ) → int_lt x (neg_ℤ (pos limit)) ≡ false → int_lt (pos limit) x ≡ false → IsNumber x
inside x p q = grind (arith, ints)

by_tests : (x m : ℤ) (below above : Bool) → int_lt x (neg_ℤ (pos limit)) ≡ below → int_lt (pos limit) x ≡ above
    → (if below then None else (if above then None else Some x)) ≡ Some m → (m ≡ x) × IsNumber m
by_tests x m true above p q e = cc
by_tests x m false true p q e = cc
by_tests x m false false p q e = let same : m ≡ x = cc in (same, subst IsNumber (sym same) (inside x p q))

is_in_range : (x m : ℤ) → in_range x ≡ Some m → (m ≡ x) × IsNumber m
is_in_range x m e = by_tests x m _ _ refl refl e

picked : {X : Type 0} (b : Bool) (x y : X) → (if b then Some x else Some y) ≡ Some (if b then x else y)
picked true x y = refl
picked false x y = refl

from_parts : (text : List ℕ) (found : Option Parts) (m : ℤ) → parts_of text ≡ found
    → (found >>= λ parts. in_range (decimal_value parts)) ≡ Some m → Reads text m × IsNumber m
from_parts text None m p e = cc
from_parts text (Some parts) m p e = let within = is_in_range _ m e in ((parts, parts_sound text parts p, within.0), within.1)

pub spells_its_number : SpellsItsNumber
spells_its_number text m = (
  (λ e. from_parts text _ m refl (sym (by_parts text _ refl) ∙ e)),
  (λ h. read_as text m h.0 ∙ in_range_at_number m h.1),
)

pub if_of_values : IfOfValues
unfolding builtin_table
if_of_values [] = refl
if_of_values (a ∷ []) = refl
if_of_values (a ∷ b ∷ []) = refl
if_of_values (a ∷ b ∷ c ∷ []) = picked (truth a) b c
if_of_values (a ∷ b ∷ c ∷ d ∷ more) = refl
