-- Groups and sums, part by part.
use Rattle.std.proofs.Common.{◌≡◌, Bool, true, false, cond, ◌&&◌, List, [], ◌∷◌, ◌++◌, filter, refl, sym, ap, ◌∙◌, arith}
use Rattle.std.proofs.lemmas.Int.{ints}
use Rattle.std.proofs.lemmas.List.Elements.{filter-append}
use Rattle.cell_value.specs.Cell.{same_cells}
use Rattle.cell_value.specs.Datum.{Datum}
use Rattle.cell_value.specs.inner.CellOrder.{same_cells_tell}
use Rattle.plain_groups.specs.Groups.{alike}
use Rattle.plain_groups.specs.Laws.{OneRowMore, GroupsOfParts, GroupsAreApart, SumsOfParts}

pub groups_of_parts : GroupsOfParts
groups_of_parts fields front back row = filter-append (alike (λ (d : Datum). d.cell) fields row) front back

pub one_row_more : OneRowMore
one_row_more fields before behind new row =
    let like : Datum → Bool = alike (λ (d : Datum). d.cell) fields row in
    filter-append like before (new ∷ behind) ∙ ap (λ rows. filter like before ++ rows) (first (like new) (filter like behind))
  where
    first : (b : Bool) (rest : List Datum) → cond b (new ∷ rest) rest ≡ cond b (new ∷ []) [] ++ rest
    first true rest = refl
    first false rest = refl

both : (a b : Bool) → (a && b) ≡ true → (a ≡ true) × (b ≡ true)
both true b e = (refl, e)
both false b e = absurd cc

pub groups_are_apart : GroupsAreApart
groups_are_apart [] a b common one other = refl
groups_are_apart (field ∷ fields) a b common one other =
    let x = both (same_cells (a.cell field) (common.cell field)) (alike (λ (d : Datum). d.cell) fields a common) one in
    let y = both (same_cells (b.cell field) (common.cell field)) (alike (λ (d : Datum). d.cell) fields b common) other in
    let same = (same_cells_tell (a.cell field) (common.cell field)).0 x.0 ∙ sym ((same_cells_tell (b.cell field) (common.cell field)).0 y.0) in
    let here : same_cells (a.cell field) (b.cell field) ≡ true = (same_cells_tell (a.cell field) (b.cell field)).1 same in
    let rest = groups_are_apart fields a b common x.1 y.1 in
    λ i. here i && rest i

pub sums_of_parts : SumsOfParts
sums_of_parts [] back = omega (arith, ints)
sums_of_parts (n ∷ front) back = let rest = sums_of_parts front back in omega (arith, ints, rest)
