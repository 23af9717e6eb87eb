-- Beginnings of what was to be written.
use Rattle.std.proofs.Common.{◌≡◌, ◌≤◌, ℕ, Option, Some, None, List, ◌++◌, length, take, sym, subst, arith}
use Rattle.std.proofs.Common.{length-append}
use Rattle.std.proofs.Math.Seq.{take-length, take-append_seam}
use Rattle.std.specs.Prelude.{IsSomeAnd}
use Rattle.chart_io.specs.Outside.{Kept, Appended, AppendedPrefix}

pub appended_is_prefix : (old now : Option (List ℕ)) (text : List ℕ) → Appended old now text → AppendedPrefix old now text
appended_is_prefix None now text written = tt
appended_is_prefix (Some held) now text written =
    let at : Option (List ℕ) → Type 0 = λ o. IsSomeAnd o (λ all. (length held ≤ length all) × (all ≡ take (length all) (held ++ text))) in
    let len = length-append held text in
    subst at (sym written) (omega arith, sym (take-length (held ++ text)))

pub kept_is_prefix : (old now : Option (List ℕ)) (text : List ℕ) → Kept old now → AppendedPrefix old now text
kept_is_prefix None now text kept = tt
kept_is_prefix (Some held) now text kept =
    let at : Option (List ℕ) → Type 0 = λ o. IsSomeAnd o (λ all. (length held ≤ length all) × (all ≡ take (length all) (held ++ text))) in
    subst at (sym kept) (omega arith, sym (take-append_seam held text))
