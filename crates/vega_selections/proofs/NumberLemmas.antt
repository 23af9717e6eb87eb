-- Numbers that follow each other.
use Rattle.std.proofs.Common.{◌≡◌, ℕ, suc, ◌+◌, ◌-◌, ◌<◌, ◌≤◌, List, [], ◌∷◌, ◌++◌, sym, ap, ap₂, ◌∙◌, append_assoc, arith}
use Rattle.vega_selections.specs.Plots.{numbers_from}

-- from the first number on
pub first_number : (unit size : ℕ) → numbers_from (unit + 0) (size - 0) ≡ numbers_from unit size
first_number unit size =
    let same : unit + 0 ≡ unit = omega arith in
    let all : size - 0 ≡ size = omega arith in
    ap₂ numbers_from same all

-- one of them, and then the others
pub one_number : (unit size at : ℕ) → at < size
    → numbers_from (unit + at) (size - at) ≡ (unit + at) ∷ numbers_from (unit + (at + 1)) (size - (at + 1))
one_number unit size at less =
    let more : size - at ≡ suc (size - (at + 1)) = omega (arith, less) in
    let next : unit + at + 1 ≡ unit + (at + 1) = omega arith in
    ap (numbers_from (unit + at)) more ∙ ap (λ n. (unit + at) ∷ numbers_from n (size - (at + 1))) next

-- one more is put behind some
pub more_numbers : (unit size at n : ℕ) (units more whole : List ℕ) → at < size → n ≡ unit + at → more ≡ units ++ n ∷ []
    → units ++ numbers_from (unit + at) (size - at) ≡ whole → more ++ numbers_from (unit + (at + 1)) (size - (at + 1)) ≡ whole
more_numbers unit size at n units more whole less same adds before =
    ap (λ us. us ++ numbers_from (unit + (at + 1)) (size - (at + 1))) adds
    ∙ append_assoc units (n ∷ []) (numbers_from (unit + (at + 1)) (size - (at + 1)))
    ∙ ap (λ m. units ++ m ∷ numbers_from (unit + (at + 1)) (size - (at + 1))) same
    ∙ ap (λ ns. units ++ ns) (sym (one_number unit size at less)) ∙ before

-- none is left
pub no_number : (unit size at : ℕ) → size ≤ at → numbers_from (unit + at) (size - at) ≡ []
no_number unit size at all =
    let none : size - at ≡ 0 = omega (arith, all) in
    ap (numbers_from (unit + at)) none
