-- The numbers that texts spell.
use Rattle.std.proofs.Common.{◌≡◌, ℤ, ℕ, List, Option, Some, None, refl, sym, ap, ◌∙◌}
use Rattle.fixed_num.specs.Number.{IsNumber}
use Rattle.fixed_num.specs.declared.reading.NumFault.{NumFault}
use Rattle.fixed_num.specs.declared.reading.NumFault.TheVariants.{Shape, Range}
use Rattle.fixed_num.specs.JsonNumber.{Parts, Reads, IsJsonNumber, decimal_value}
use Rattle.expr_syntax.specs.NumberText.{parts_of}
use Rattle.expr_syntax.proofs.NumberTexts.{parts_found, parts_sound}
use Rattle.fixed_num.specs.Ranges.{◌>>=◌, in_range}
use Rattle.expr_eval.specs.Numbers.{number_in_text}
use Rattle.expr_eval.proofs.RangeLemmas.{in_range_elsewhere, in_range_unless}

pub by_parts : (text : List ℕ) (found : Option Parts) → parts_of text ≡ found
    → number_in_text text ≡ (found >>= λ parts. in_range (decimal_value parts))
unfolding number_in_text
by_parts text found e = ap (λ (o : Option Parts). o >>= λ parts. in_range (decimal_value parts)) e

pub read_as : (text : List ℕ) (m : ℤ) → Reads text m → number_in_text text ≡ in_range m
read_as text m reads = by_parts text _ (parts_found text reads.0 reads.1) ∙ ap in_range (sym reads.2)

-- a number that was read
pub spelled : (text : List ℕ) (m : ℤ) → Reads text m → (((n : ℤ) × Reads text n × (IsNumber n → ⊥)) → ⊥) → Some m ≡ number_in_text text
spelled text m reads within = sym (read_as text m reads ∙ in_range_unless m (λ out. within (m, reads, out)))

-- a number that is out of range
pub too_far : (text : List ℕ) → ((n : ℤ) × Reads text n × (IsNumber n → ⊥)) → None ≡ number_in_text text
too_far text (n, reads, out) = sym (read_as text n reads ∙ in_range_elsewhere n out)

without_parts : (text : List ℕ) (found : Option Parts) → parts_of text ≡ found → (IsJsonNumber text → ⊥) → None ≡ number_in_text text
without_parts text None e h = sym (by_parts text None e)
without_parts text (Some parts) e h = absurd (h (parts, parts_sound text parts e))

-- a text that spells no number
pub no_number : (text : List ℕ) → (IsJsonNumber text → ⊥) → None ≡ number_in_text text
no_number text h = without_parts text _ refl h

-- what was not read
pub unread : (text : List ℕ) (fault : NumFault) → (fault ≡ Shape → IsJsonNumber text → ⊥)
    → (fault ≡ Range → (n : ℤ) × Reads text n × (IsNumber n → ⊥)) → None ≡ number_in_text text
unread text Shape shape range = no_number text (shape refl)
unread text Range shape range = too_far text (range refl)
