-- Tuples of exactly some fields.
use Rattle.std.proofs.Common.{◌≡◌, ◌≢◌, ℕ, zero, suc, ◌<◌, Bool, true, false, cond, not, ◌&&◌, ◌||◌, Option, Some, List, [], ◌∷◌, ◌++◌}
use Rattle.std.proofs.Common.{length, get_or, map, refl, sym, ap, subst, ◌∙◌, arith}
use Rattle.std.specs.Prelude.{is_some}
use Rattle.std.specs.List.{All, AllPairs, list_any, filter, fold}
use Rattle.std.specs.Str.{bytes_eq}
use Rattle.std.specs.Ordering.{nat_cmp}
use Rattle.std.specs.Cmp.Lexicographic.{slice_cmp, nat_list_cmp_total}
use Rattle.std.specs.FinMap.{get, insert, empty, get-empty, get-insert}
use Rattle.std.proofs.lemmas.Map.Text.{is_eq-slice_cmp}
use Rattle.std.proofs.lemmas.List.Elements.{All-push, All-filter}
use Rattle.std.proofs.lemmas.List.Kept.{AllPairs-filter}
use Rattle.std.proofs.lemmas.List.Quantifiers.{all_pairs_push}
use Rattle.cell_value.specs.declared.cell.Cell.{Cell}
use Rattle.cell_value.specs.Cell.{same_cells}
use Rattle.cell_value.specs.inner.CellOrder.{same_cells_tell}
use Rattle.cell_value.specs.Row.{Cells, cell_of, row_of}
use Rattle.selection_events.specs.Stores.{is_same_tuple, toggled}
use Rattle.selection_events.specs.Kept.{HasFields}

-- ---- the fields of a tuple that is made

some_chosen : (b : Bool) (c : Cell) (o : Option Cell) → is_some (cond b (Some c) o) ≡ (b || is_some o)
some_chosen true c o = refl
some_chosen false c o = refl

either_of_three : (a b c : Bool) → ((b || a) || c) ≡ (a || (b || c))
either_of_three true true c = refl
either_of_three true false c = refl
either_of_three false true c = refl
either_of_three false false c = refl

some_inserted : (row : Cells) (field name : List ℕ) (c : Cell) → is_some (get (insert row field c) name) ≡ (bytes_eq name field || is_some (get row name))
some_inserted row field name c =
    ap is_some (get-insert nat_list_cmp_total row field c name)
    ∙ ap (λ b. is_some (cond b (Some c) (get row name))) (is_eq-slice_cmp name field)
    ∙ some_chosen (bytes_eq name field) c (get row name)

abbrev put : Cells → List ℕ × Cell → Cells
put row entry = insert row entry.0 entry.1

nothing_more : (b : Bool) → b ≡ (b || false)
nothing_more true = refl
nothing_more false = refl

abbrev pub field_of : List ℕ × Cell → List ℕ
field_of e = e.0

some_put : (es : List (List ℕ × Cell)) (row : Cells) (name : List ℕ)
    → is_some (get (fold put row es) name) ≡ (is_some (get row name) || list_any (bytes_eq name) (map field_of es))
some_put [] row name = nothing_more (is_some (get row name))
some_put (e ∷ es) row name =
    some_put es (insert row e.0 e.1) name
    ∙ ap (λ b. b || list_any (bytes_eq name) (map field_of es)) (some_inserted row e.0 name e.1)
    ∙ either_of_three (is_some (get row name)) (bytes_eq name e.0) (list_any (bytes_eq name) (map field_of es))

-- a row has exactly the fields of its entries
pub entries_have : (es : List (List ℕ × Cell)) → HasFields (map field_of es) (row_of es)
entries_have es name =
    some_put es empty name ∙ ap (λ o. is_some o || list_any (bytes_eq name) (map field_of es)) (get-empty (slice_cmp nat_cmp) name)

names_of_made : (c : List ℕ → Cell) (fields : List (List ℕ)) → map field_of (map (λ f. (f, c f)) fields) ≡ fields
names_of_made c [] = refl
names_of_made c (field ∷ fields) = ap (λ fs. field ∷ fs) (names_of_made c fields)

-- a tuple has exactly the fields of which it is made
pub made_of : (c : List ℕ → Cell) (fields : List (List ℕ)) → HasFields fields (row_of (map (λ f. (f, c f)) fields))
made_of c fields =
    subst (λ fs. HasFields fs (row_of (map (λ f. (f, c f)) fields))) (names_of_made c fields) (entries_have (map (λ f. (f, c f)) fields))

-- ---- tuples that are the same

same_itself : (cell : Cell) → same_cells cell cell ≡ true
same_itself cell = (same_cells_tell cell cell).1 refl

both : {a b : Bool} → a ≡ true → b ≡ true → (a && b) ≡ true
both {a} {b} h k = ap (λ c. c && b) h ∙ k

all_itself : (fields : List (List ℕ)) (row : Cells) → is_same_tuple fields row row ≡ true
all_itself [] row = refl
all_itself (field ∷ fields) row = both (same_itself (cell_of row field)) (all_itself fields row)

-- a tuple that isn't the same is another
other_tuple : (fields : List (List ℕ)) (a b : Cells) → is_same_tuple fields a b ≡ false → b ≢ a
other_tuple fields a b differ same =
    absurd (cc (sym (all_itself fields a) ∙ ap (is_same_tuple fields a) (sym same) ∙ differ))

neither : (a b : Bool) → (a || b) ≡ false → (a ≡ false) × (b ≡ false)
neither true b h = absurd (cc h)
neither false b h = (refl, h)

none_of : {X : Type 0} (test : X → Bool) (xs : List X) → list_any test xs ≡ false → (k : ℕ) (d : X) → k < length xs → test (get_or xs k d) ≡ false
none_of test [] h k d below = absurd (omega (arith, below))
none_of test (x ∷ xs) h zero d below = (neither (test x) (list_any test xs) h).0
none_of test (x ∷ xs) h (suc k) d below =
    let less : k < length xs = omega (arith, below) in none_of test xs (neither (test x) (list_any test xs) h).1 k d less

-- ---- tuples after a click with the shift key

module _ (fields : List (List ℕ)) (tuple : Cells) (tuples : List Cells) where
  toggled_by : (P : List Cells → Type 0) → P (filter (λ t. not (is_same_tuple fields tuple t)) tuples)
      → (list_any (is_same_tuple fields tuple) tuples ≡ false → P (tuples ++ tuple ∷ [])) → (b : Bool) → list_any (is_same_tuple fields tuple) tuples ≡ b
      → P (cond b (filter (λ t. not (is_same_tuple fields tuple t)) tuples) (tuples ++ tuple ∷ []))
  toggled_by P without one_more true is = without
  toggled_by P without one_more false is = one_more is

  -- they are all different
  pub toggled_differ : AllPairs (λ a b. a ≢ b) tuples → AllPairs (λ a b. a ≢ b) (toggled (is_same_tuple fields) tuple tuples)
  toggled_differ h =
      toggled_by (AllPairs (λ a b. a ≢ b)) (AllPairs-filter (λ a b. a ≢ b) (λ t. not (is_same_tuple fields tuple t)) tuples h)
      (λ none. all_pairs_push (λ a b. a ≢ b) tuples tuple h
      (λ k d below. other_tuple fields tuple (get_or tuples k d) (none_of (is_same_tuple fields tuple) tuples none k d below)))
      (list_any (is_same_tuple fields tuple) tuples) refl

  -- each has what the tuple and those before have
  pub toggled_have : (P : Cells → Type 0) → P tuple → All P tuples → All P (toggled (is_same_tuple fields) tuple tuples)
  toggled_have P one h =
      toggled_by (All P) (All-filter (λ t. not (is_same_tuple fields tuple t)) P tuples h) (λ none. All-push P tuples tuple h one)
      (list_any (is_same_tuple fields tuple) tuples) refl
