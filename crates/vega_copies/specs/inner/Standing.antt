-- Marks that keep the rules where names stand for rows.
use Rattle.std.specs.Prelude.{List}
use Rattle.vega_spec.specs.declared.spec.VgMark.{VgMark}
use Rattle.vega_lists.specs.Inside.{RowsByName, AllKeysFit}
use Rattle.vega_lists.specs.Products.{Products}
use Rattle.vega_copies.specs.Outlines.{Marks}
use Rattle.vega_copies.specs.inner.Kept.{KeepsMarks, FoldsFitIn}
use Rattle.vega_copies.specs.inner.Outlined.{marks_of}

-- folds of marks fit over the rows for which names stand
abbrev pub MarksMayFold : RowsByName → Marks → Type 0
MarksMayFold rows marks = (products : Products) × AllKeysFit products rows × FoldsFitIn products marks

-- marks that keep the rules where names stand for these rows
pub record MayStand (rows : RowsByName) (marks : List VgMark) : Type 0 where
  pub kept : KeepsMarks (marks_of marks)
  pub folds : MarksMayFold rows (marks_of marks)
