-- What data give: their rows, or the first row that is bad.
use Rattle.std.specs.Prelude.{◌≡◌, refl, ℕ, suc, Option, Some, None, Result, Ok, Err, List, [], ◌∷◌, codes}
use Rattle.text_kit.specs.Answer.{GivesAs}
use Rattle.cell_value.specs.Row.{Cells}
use Rattle.data_rows.specs.declared.error.RowError.{RowError}
use Rattle.data_rows.specs.declared.error.RowError.TheVariants.{Fault, Memory}

-- a bad row: its number, counted from 0, and its first bad field, or an empty text where it is bad as a whole
abbrev pub Bad : Type 0
Bad = ℕ × List ℕ

-- what comes of reading one row: the row, or its first bad field
abbrev pub RowRead : Type 0
RowRead = Result Cells (List ℕ)

-- the same with the row's number
abbrev pub numbered : {X : Type 0} → ℕ → Result X (List ℕ) → Result X Bad
numbered n (Ok x) = Ok x
numbered n (Err field) = Err (n, field)

-- rows after a row, where there are rows
abbrev pub after_row : {X : Type 0} → X → Result (List X) Bad → Result (List X) Bad
after_row row (Ok rows) = Ok (row ∷ rows)
after_row row (Err bad) = Err bad

-- the rows of what was read, or the first of them that is bad, counted from n
abbrev pub all_rows : {X : Type 0} → ℕ → List (Result X (List ℕ)) → Result (List X) Bad
all_rows n [] = Ok []
all_rows n (Ok row ∷ others) = after_row row (all_rows (suc n) others)
all_rows n (Err field ∷ others) = Err (n, field)

-- a row, unless a field of it is bad
abbrev pub unless_bad : Option (List ℕ) → Cells → RowRead
unless_bad (Some field) row = Err field
unless_bad None row = Ok row

-- the bad row that an error names, none where memory was refused
abbrev pub bad_of : RowError → Option Bad
bad_of (Fault row field) = Some (row, field)
bad_of Memory = None

-- What was answered is what is given, unless memory was refused: so a row is named exactly where it is the first bad one.
abbrev pub GivesRows : {X : Type 0} → Result X RowError → Result X Bad → Type 0
GivesRows = GivesAs (λ answer. answer) bad_of

-- The rules at work.

good_rows : all_rows {X = ℕ} 0 (Ok 5 ∷ Ok 6 ∷ []) ≡ Ok (5 ∷ 6 ∷ [])
good_rows = refl

the_first_bad_row : all_rows {X = ℕ} 0 (Ok 5 ∷ Err (codes "a") ∷ Ok 6 ∷ Err (codes "b") ∷ []) ≡ Err (1, codes "a")
the_first_bad_row = refl
