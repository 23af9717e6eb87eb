-- How entries that are put in their places become those of a row.
use Rattle.std.proofs.Common.{◌≡◌, T, ℕ, List, [], ◌∷◌, sym, ap, subst, ◌∙◌}
use Rattle.std.specs.Ordering.{nat_cmp}
use Rattle.std.specs.Cmp.Lexicographic.{slice_cmp, nat_list_cmp_total}
use Rattle.std.specs.List.{fold}
use Rattle.std.specs.FinMap.{is_sorted, put, insert, from_sorted}
use Rattle.cell_value.specs.declared.cell.Cell.{Cell}
use Rattle.cell_value.specs.Row.{Cells, row_of}
use Rattle.cell_value.proofs.Place.{from_put, none_seen}

-- what is left to be put, from what stands
abbrev pub Left : List (List ℕ × Cell) → List (List ℕ × Cell) → Cells → Type 0
Left cells left whole = T (is_sorted (slice_cmp nat_cmp) cells) × (fold (λ row entry. insert row entry.0 entry.1) (from_sorted cells) left ≡ whole)

pub nothing_put : (cells entries : List (List ℕ × Cell)) → cells ≡ [] → Left cells entries (row_of entries)
nothing_put cells entries e = (
  subst (λ l. T (is_sorted (slice_cmp nat_cmp) l)) (sym e) tt,
  ap (λ l. fold (λ row entry. insert row entry.0 entry.1) (from_sorted l) entries) e
      ∙ ap (λ r. fold (λ row entry. insert row entry.0 entry.1) r entries) (none_seen (slice_cmp nat_cmp)),
)

pub one_put : (cells next : List (List ℕ × Cell)) (name : List ℕ) (c : Cell) (left rest : List (List ℕ × Cell)) (whole : Cells)
    → Left cells left whole → next ≡ put (slice_cmp nat_cmp) name c cells → left ≡ (name, c) ∷ rest → Left next rest whole
one_put cells next name c left rest whole h n l =
    let made = from_put nat_list_cmp_total cells next name c h.0 n in (
      made.0,
      ap (λ r. fold (λ row entry. insert row entry.0 entry.1) r rest) made.1
          ∙ ap (fold (λ row entry. insert row entry.0 entry.1) (from_sorted cells)) (sym l) ∙ h.1,
    )
