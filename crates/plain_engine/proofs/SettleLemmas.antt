-- Why edits are put in place, and taken back.
use Rattle.std.proofs.Common.{◌≡◌, List, [], ◌∷◌, ◌++◌, length, refl, ap, arith}
use Rattle.cell_value.specs.declared.state.Keyed.{Keyed}
use Rattle.plain_engine.specs.declared.edits.Edit.{Edit}
use Rattle.plain_engine.specs.declared.edits.Edit.TheVariants.{Stay, Remove, Modify}
use Rattle.plain_engine.specs.inner.Edits.{edited}
use Rattle.plain_engine.specs.inner.Undo.{marked, restored}

-- what is made of rows is taken back by their marks
pub marks_restore : (edits : List Edit) (rows more : List Keyed) → length edits ≡ length rows
    → restored (marked edits rows) (edited edits rows ++ more) ≡ rows
marks_restore [] [] more e = refl
marks_restore [] (row ∷ rows) more e = absurd (omega (arith, e))
marks_restore (edit ∷ edits) [] more e = absurd (omega (arith, e))
marks_restore (Stay ∷ edits) (row ∷ rows) more e = ap (λ rest. row ∷ rest) (marks_restore edits rows more (omega (arith, e)))
marks_restore (Remove ∷ edits) (row ∷ rows) more e = ap (λ rest. row ∷ rest) (marks_restore edits rows more (omega (arith, e)))
marks_restore (Modify new ∷ edits) (row ∷ rows) more e = ap (λ rest. row ∷ rest) (marks_restore edits rows more (omega (arith, e)))

-- one row has one mark
pub marks_count : (edits : List Edit) (rows : List Keyed) → length edits ≡ length rows → length (marked edits rows) ≡ length rows
marks_count [] [] e = refl
marks_count [] (row ∷ rows) e = absurd (omega (arith, e))
marks_count (edit ∷ edits) [] e = refl
marks_count (edit ∷ edits) (row ∷ rows) e = let more = marks_count edits rows (omega (arith, e)) in omega (arith, more)
