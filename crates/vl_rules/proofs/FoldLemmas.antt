-- How many rows folds make.
use Rattle.std.proofs.Common.{◌≡◌, ℕ, ◌+◌, ◌-◌, ◌*◌, ◌<◌, ◌≤◌, true, false, Some, List, [], ◌∷◌, cond, length, unwrap_or, sym, ◌∙◌, arith}
use Rattle.std.specs.Prelude.{nat_lt}
use Rattle.std.proofs.lemmas.Bool.Decides.{nat_tests}
use Rattle.vl_spec.specs.declared.transforms.Transform.{Transform}
use Rattle.vl_rules.specs.Folds.{fold_among, fold_trail, passing_from, rows_from}
use Rattle.vl_rules.specs.Leads.{LedAt}

-- a transform by which there are too many
pub passes : (number rows : ℕ) (t : Transform) (ts : List Transform) → 8 < rows * rows_from t → passing_from number rows (t ∷ ts) ≡ Some number
passes number rows t ts over =
    let more : nat_lt 8 (rows * rows_from t) ≡ true = grind (arith, nat_tests) in
    λ i. cond (more i) (Some number) (passing_from (number + 1) (rows * rows_from t) ts)

-- one by which there aren't
pub stays : (number rows : ℕ) (t : Transform) (ts : List Transform) → rows * rows_from t ≤ 8 →
    passing_from number rows (t ∷ ts) ≡ passing_from (number + 1) (rows * rows_from t) ts
stays number rows t ts few =
    let no_more : nat_lt 8 (rows * rows_from t) ≡ false = grind (arith, nat_tests) in
    λ i. cond (no_more i) (Some number) (passing_from (number + 1) (rows * rows_from t) ts)

-- how many transforms a view has
abbrev pub many_of : LedAt → ℕ
many_of l = length (unwrap_or l.view.transform [])

-- those of a view that come before
pub further : (l : LedAt) (others : List LedAt) (number many : ℕ) → many ≡ many_of l → many ≤ number →
    fold_among (l ∷ others) number ≡ fold_among others (number - many)
further l others number many is past =
    let no_more : nat_lt number many ≡ false = grind (arith, nat_tests) in
    (λ i. cond (nat_lt number (sym is i)) (fold_trail l.trail number) (fold_among others (number - sym is i)))
    ∙ (λ i. cond (no_more i) (fold_trail l.trail number) (fold_among others (number - many)))

-- that of the view itself
pub among : (l : LedAt) (others : List LedAt) (number many : ℕ) → many ≡ many_of l → number < many →
    fold_among (l ∷ others) number ≡ fold_trail l.trail number
among l others number many is within =
    let more : nat_lt number many ≡ true = grind (arith, nat_tests) in
    (λ i. cond (nat_lt number (sym is i)) (fold_trail l.trail number) (fold_among others (number - sym is i)))
    ∙ (λ i. cond (more i) (fold_trail l.trail number) (fold_among others (number - many)))
