-- Why each name leads to the first store that has it, and what stores read of rows.
use Rattle.std.proofs.Common.{◌≡◌, ℕ, ◌+◌, ◌<◌, Bool, true, false, cond, ◌&&◌, List, [], ◌∷◌, map, Option, Some, None, length, drop, get_or}
use Rattle.std.proofs.Common.{refl, sym, ap, ap₂, ◌∙◌, subst, arith}
use Rattle.std.specs.Prelude.{String, find, slice_get}
use Rattle.std.specs.Option.{option_map_or}
use Rattle.std.specs.List.{All, list_all, list_any}
use Rattle.std.specs.FinMap.{entries}
use Rattle.std.specs.Str.{bytes_eq}
use Rattle.std.specs.Ordering.{nat_cmp}
use Rattle.std.specs.Cmp.Lexicographic.{slice_cmp}
use Rattle.std.specs.String.{string_cmp, string_bytes}
use Rattle.std.specs.BTreeMap as tree
use Rattle.std.specs.declared.alloc.Global.{Global}
use Rattle.std.proofs.lemmas.Map.Text.{btree_map_updates_text}
use Rattle.std.proofs.lemmas.List.{drop_more, length-map}
use Rattle.std.proofs.lemmas.List.Elements.{All-head, All-tail, All-weaker}
use Rattle.std.proofs.lemmas.Option.{slice_get-get_or}
use Rattle.fixed_num.specs.Ranges.{◌>>=◌}
use Rattle.cell_value.specs.declared.cell.Cell.{Cell}
use Rattle.cell_value.specs.declared.state.Extent.{Extent}
use Rattle.cell_value.specs.declared.state.StoreOf.{StoreOf}
use Rattle.cell_value.specs.Cell.{same_cells}
use Rattle.cell_value.specs.Datum.{CellAt}
use Rattle.cell_value.specs.Row.{Cells, cell_of}
use Rattle.expr_eval.specs.Answers.{RisesBy}
use Rattle.expr_eval.specs.Stores.{names_of, fields_of_tuples, fields_in, fields_of, agrees, has_cell, lies_in, holds_in, holds}
use Rattle.expr_eval.specs.Stores.{store_named, StoresReadTheirFields}
use Rattle.expr_eval.specs.inner.Stores.{place_under, LeadsTo, named_cells, agrees_with}

-- ---- names

-- a place put under a name
pub put_place : (bytes name : List ℕ) (old new : tree.BTreeMap (String Global) ℕ) (place : ℕ) → bytes ≡ name
    → tree.UpdatesBy string_cmp (λ k. slice_cmp nat_cmp bytes (string_bytes k)) old new (Some place)
    → (q : List ℕ) → place_under new q ≡ cond (bytes_eq name q) (Some place) (place_under old q)
put_place bytes name old new place same h q =
    btree_map_updates_text bytes old new (Some place) h q ∙ ap (λ n. cond (bytes_eq n q) (Some place) (place_under old q)) same

either_led : (b : Bool) (n : ℕ) (o : Option ℕ) (stores : List StoreOf)
    → (cond b (Some n) o >>= slice_get stores) ≡ cond b (slice_get stores n) (o >>= slice_get stores)
either_led true n o stores = refl
either_led false n o stores = refl

-- one more store leads, before those that did
pub one_leads : (old new : tree.BTreeMap (String Global) ℕ) (stores : List StoreOf) (n m : ℕ) (s : StoreOf)
    → n < length stores → get_or stores n s ≡ s → m ≡ n + 1
    → ((q : List ℕ) → place_under new q ≡ cond (bytes_eq (get_or stores n s).name q) (Some n) (place_under old q))
    → LeadsTo old stores (drop m stores) → LeadsTo new stores (drop n stores)
one_leads old new stores n m s within is next put leads q =
    let test : StoreOf → Bool = λ x. bytes_eq x.name q in
    let before : Option StoreOf = place_under old q >>= slice_get stores in
    let later : before ≡ find test (drop (n + 1) stores) = subst (λ (i : ℕ). before ≡ find test (drop i stores)) next (leads q) in
    let there : slice_get stores n ≡ Some s = slice_get-get_or stores n s within ∙ ap (λ x. Some x) is in
    ap (λ o. o >>= slice_get stores) (put q ∙ ap (λ (x : StoreOf). cond (bytes_eq x.name q) (Some n) (place_under old q)) is)
    ∙ either_led (bytes_eq s.name q) n (place_under old q) stores
    ∙ ap (λ o. cond (bytes_eq s.name q) o before) there
    ∙ ap (λ o. cond (bytes_eq s.name q) (Some s) o) later
    ∙ ap (λ x. cond (test x) (Some x) (find test (drop (n + 1) stores))) (sym is)
    ∙ sym (ap (find test) (drop_more stores n s within))

-- ---- rows

-- the cells of a row under some names agree with a tuple where the row does
cells_agree : (row : CellAt) (tuple : Cells) {X : Type 0} (es : List (List ℕ × X))
    → agrees_with (named_cells row es) tuple ≡ agrees (map (λ entry. entry.0) es) row tuple
cells_agree row tuple [] = refl
cells_agree row tuple (e ∷ es) = ap (λ b. same_cells (row e.0) (cell_of tuple e.0) && b) (cells_agree row tuple es)

pub tuples_agree : (row : CellAt) (first : Cells) (cells : List (List ℕ × Cell)) (tuples : List Cells) → cells ≡ named_cells row (entries first)
    → list_any (agrees_with cells) tuples ≡ list_any (agrees (names_of first) row) tuples
tuples_agree row first cells tuples is =
    ap (λ cs. list_any (agrees_with cs) tuples) is ∙ ap (λ f. list_any f tuples) (λ i tuple. cells_agree row tuple (entries first) i)

pub few_fields : (first : Cells) (old new : ℕ) → RisesBy (length (entries first)) old new → RisesBy (length (names_of first)) old new
few_fields first old new h = subst (λ n. RisesBy n old new) (sym (length-map (entries first) (λ entry. entry.0))) h

pub of_tuples : (store : StoreOf) (row : CellAt) → store.extents ≡ [] → holds_in store.tuples [] row ≡ holds store row
of_tuples store row none = ap (λ es. holds_in store.tuples es row) (sym none)

pub few_of_tuples : (store : StoreOf) (old new : ℕ) → store.extents ≡ [] → RisesBy (length (fields_of_tuples store.tuples)) old new
    → RisesBy (length (fields_of store)) old new
few_of_tuples store old new none h = subst (λ es. RisesBy (length (fields_in store.tuples es)) old new) (sym none) h

all_of : (tuples : List Cells) (es : List Extent) (row : CellAt) → 0 < length es → list_all (lies_in row) es ≡ holds_in tuples es row
all_of tuples [] row some = absurd (omega (arith, some))
all_of tuples (e ∷ es) row some = refl

pub of_extents : (store : StoreOf) (row : CellAt) → 0 < length store.extents → list_all (lies_in row) store.extents ≡ holds store row
of_extents store row some = all_of store.tuples store.extents row some

few_of : (tuples : List Cells) (es : List Extent) (old new : ℕ) → 0 < length es → RisesBy (length es) old new → RisesBy (length (fields_in tuples es)) old new
few_of tuples [] old new some h = absurd (omega (arith, some))
few_of tuples (e ∷ es) old new some h = subst (λ n. RisesBy n old new) (sym (length-map (e ∷ es) (λ (x : Extent). x.field))) h

pub few_of_extents : (store : StoreOf) (old new : ℕ) → 0 < length store.extents → RisesBy (length store.extents) old new
    → RisesBy (length (fields_of store)) old new
few_of_extents store old new some h = few_of store.tuples store.extents old new some h

-- ---- the law

tests_alike : {X : Type 0} (P Q : X → Bool) (xs : List X) → All (λ x. P x ≡ Q x) xs → list_all P xs ≡ list_all Q xs
tests_alike P Q [] h = refl
tests_alike P Q (x ∷ xs) h =
    ap₂ (λ a b. a && b) (All-head (λ y. P y ≡ Q y) x xs h) (tests_alike P Q xs (All-tail (λ y. P y ≡ Q y) x xs h))

agree_alike : (a b : CellAt) (fields : List (List ℕ)) → All (λ field. a field ≡ b field) fields
    → (tuple : Cells) → agrees fields a tuple ≡ agrees fields b tuple
agree_alike a b fields same tuple =
    tests_alike (λ name. same_cells (a name) (cell_of tuple name)) (λ name. same_cells (b name) (cell_of tuple name)) fields
    (All-weaker (λ field. a field ≡ b field) (λ name. same_cells (a name) (cell_of tuple name) ≡ same_cells (b name) (cell_of tuple name))
    (λ name e. ap (λ c. same_cells c (cell_of tuple name)) e) fields same)

lie_alike : (a b : CellAt) (es : List Extent) → All (λ field. a field ≡ b field) (map (λ (e : Extent). e.field) es)
    → list_all (lies_in a) es ≡ list_all (lies_in b) es
lie_alike a b [] same = refl
lie_alike a b (e ∷ es) same =
    ap₂ (λ p q. p && q) (ap (has_cell e) (All-head (λ field. a field ≡ b field) e.field (map (λ (x : Extent). x.field) es) same))
    (lie_alike a b es (All-tail (λ field. a field ≡ b field) e.field (map (λ (x : Extent). x.field) es) same))

held_alike : (a b : CellAt) (tuples : List Cells) (es : List Extent) → All (λ field. a field ≡ b field) (fields_in tuples es)
    → holds_in tuples es a ≡ holds_in tuples es b
held_alike a b tuples [] same = ap (λ f. list_any f tuples) (λ i tuple. agree_alike a b (fields_of_tuples tuples) same tuple i)
held_alike a b tuples (e ∷ es) same = lie_alike a b (e ∷ es) same

by_store : (a b : CellAt) (o : Option StoreOf) → All (λ field. a field ≡ b field) (option_map_or fields_of o [])
    → option_map_or (λ store. holds store a) o false ≡ option_map_or (λ store. holds store b) o false
by_store a b None same = refl
by_store a b (Some store) same = held_alike a b store.tuples store.extents same

pub read_their_fields : StoresReadTheirFields
read_their_fields stores name a b same = by_store a b (store_named stores name) same
