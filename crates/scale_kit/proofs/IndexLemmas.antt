-- What an index of first places finds.
use Rattle.std.proofs.Common.{◌≡◌, ℕ, ◌+◌, ◌<◌, List, length, drop, get_or, Option, Some, None, cond, refl, sym, ap, ◌∙◌, subst}
use Rattle.std.specs.List.{position_from}
use Rattle.std.specs.BTreeMap.{BTreeMap, Updates}
use Rattle.std.specs.declared.cmp.Ordering.{Ordering}
use Rattle.std.specs.declared.cmp.Ordering.TheVariants.{Less, Equal, Greater}
use Rattle.std.specs.Ordering.{is_eq, ordering_reverse}
use Rattle.std.proofs.lemmas.List.{drop_more}
use Rattle.std.proofs.lemmas.List.Quantifiers.{position-Some}
use Rattle.std.proofs.lemmas.Iterator.Adapters.{position_from-zero}
use Rattle.scale_kit.specs.declared.scale.Scale.{Scale}
use Rattle.scale_kit.specs.Places.{domain_cells, domain_index}
use Rattle.scale_kit.specs.inner.Between.{IsBelow}
use Rattle.cell_value.specs.declared.cell.Cell.{Cell}
use Rattle.cell_value.specs.Cell.{cell_cmp, same_cells}
use Rattle.cell_value.specs.inner.CellOrder.{cell_cmp_total}
use Rattle.scale_kit.specs.inner.Index.{place_under, IsPlaceIndexFrom}

is_eq-reverse : (o : Ordering) → is_eq (ordering_reverse o) ≡ is_eq o
is_eq-reverse Less = refl
is_eq-reverse Equal = refl
is_eq-reverse Greater = refl

-- two cells are the same in either order
same_either_way : (a b : Cell) → is_eq (cell_cmp a b) ≡ same_cells b a
same_either_way a b = ap is_eq (cell_cmp_total.antisymm a b) ∙ is_eq-reverse (cell_cmp b a)

-- what is found after a place is put under a cell
pub put_place : (old new : BTreeMap Cell ℕ) (k : Cell) (n : ℕ)
    → Updates cell_cmp old new k (Some n)
    → (v : Cell) → place_under new v ≡ cond (same_cells v k) (Some n) (place_under old v)
put_place old new k n h v =
    h.0 v ∙ ap (λ b. cond b (Some n) (place_under old v)) (same_either_way k v)

-- one more cell is put, before those that were
pub one_before : (old new : BTreeMap Cell ℕ) (cells : List Cell) (n m : ℕ) (d c : Cell)
    → n < length cells → get_or cells n d ≡ c → m ≡ n + 1
    → ((v : Cell) → place_under new v ≡ cond (same_cells v c) (Some n) (place_under old v))
    → IsPlaceIndexFrom old m (drop m cells) → IsPlaceIndexFrom new n (drop n cells)
one_before old new cells n m d c l is next put finds v =
    let later : place_under old v ≡ position_from (same_cells v) (n + 1) (drop (n + 1) cells) =
    subst (λ (i : ℕ). place_under old v ≡ position_from (same_cells v) i (drop i cells)) next (finds v) in
    put v ∙ ap (λ o. cond (same_cells v c) (Some n) o) later
    ∙ ap (λ x. cond (same_cells v x) (Some n) (position_from (same_cells v) (n + 1) (drop (n + 1) cells))) (sym is)
    ∙ sym (ap (position_from (same_cells v) n) (drop_more cells n d l))

-- an index of a scale's domain finds each cell of the scale that it is seen as
pub indexed_place : (inside seen : Scale) (places : BTreeMap Cell ℕ) (v : Cell) → IsPlaceIndexFrom places 0 (domain_cells inside)
    → inside ≡ seen → place_under places v ≡ domain_index seen v
indexed_place inside seen places v finds same =
    finds v ∙ sym (position_from-zero (same_cells v) (domain_cells inside)) ∙ ap (λ s. domain_index s v) same

-- where a cell stands is below the number of cells
pub index_below : (s : Scale) (v : Cell) (index : Option ℕ) → index ≡ domain_index s v → IsBelow (length (domain_cells s)) index
index_below s v None is = tt
index_below s v (Some k) is = (position-Some (same_cells v) (domain_cells s) k v (sym is)).0
