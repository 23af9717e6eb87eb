-- What a map holds under keys.
use Rattle.std.proofs.Common.{◌≡◌, ℕ, ◌+◌, ◌<◌, ◌++◌, Bool, true, false, cond, if◌then◌else◌, List, [], ◌∷◌, length, take, get_or, map}
use Rattle.std.proofs.Common.{Option, Some, None, refl, sym, ap, ◌∙◌}
use Rattle.std.specs.Prelude.{unwrap_or}
use Rattle.std.specs.Map.{lookup}
use Rattle.std.specs.Ordering.{is_eq}
use Rattle.std.specs.BTreeMap.{BTreeMap, get_by, Updates, UpdatesBy}
use Rattle.std.proofs.lemmas.List.{append-nil, take_more}
use Rattle.cell_value.specs.declared.cell.Cell.{Cell}
use Rattle.cell_value.specs.Cell.{cell_cmp, same_cells}
use Rattle.cell_value.specs.inner.CellOrder.{same_cells_tell}
use Rattle.domain_kit.specs.declared.keyed.Entry.{Entry}
use Rattle.domain_kit.specs.Orders.{values_under}
use Rattle.domain_kit.specs.inner.Held.{values_held}
use Rattle.domain_kit.proofs.CellLemmas.{same_cells-flips}

-- in an empty map nothing is held
pub none_held : (held : BTreeMap Cell (List Cell)) (key : Cell) → held.entries ≡ [] → values_held held key ≡ []
none_held held key e = ap (λ (es : List (Cell × List Cell)). unwrap_or (lookup (λ k. is_eq (cell_cmp key k)) es) []) e

-- what is held under a key, after it was taken out and put back with one value more, or not
with_one : (b : Bool) (before : Option (List Cell)) (values : List Cell) (value : Cell)
    → (b ≡ true → values ≡ unwrap_or before [] ++ value ∷ [])
    → unwrap_or (cond b (Some values) (cond b None before)) [] ≡ unwrap_or before [] ++ (if b then value ∷ [] else [])
with_one true before values value h = h refl
with_one false before values value h = sym (append-nil (unwrap_or before []))

-- a value was added under a key
pub held_one : (old mid now : BTreeMap Cell (List Cell)) (found : Option (List Cell)) (key same value : Cell) (values : List Cell)
    → same ≡ key → found ≡ get_by (cell_cmp key) old → values ≡ unwrap_or found [] ++ value ∷ []
    → UpdatesBy cell_cmp (cell_cmp key) old mid None → Updates cell_cmp mid now same (Some values)
    → (q : Cell) → values_held now q ≡ values_held old q ++ (if same_cells q key then value ∷ [] else [])
held_one old mid now found key same value values is at holds out put q =
    ap (λ o. unwrap_or o []) (put.0 q ∙ ap (λ o. cond (same_cells same q) (Some values) o) (out.0 q))
    ∙ ap (λ k. unwrap_or (cond (same_cells k q) (Some values) (cond (same_cells key q) None (get_by (cell_cmp q) old))) []) is
    ∙ with_one (same_cells key q) (get_by (cell_cmp q) old) values value
    (λ e. holds ∙ ap (λ o. unwrap_or o [] ++ value ∷ []) (at ∙ ap (λ k. get_by (cell_cmp k) old) ((same_cells_tell key q).0 e)))
    ∙ ap (λ b. values_held old q ++ (if b then value ∷ [] else [])) (same_cells-flips key q)

one_behind : (b : Bool) (entry : Entry) → map (λ (e : Entry). e.value) (cond b (entry ∷ []) []) ≡ (if b then entry.value ∷ [] else [])
one_behind true entry = refl
one_behind false entry = refl

one_before : (b : Bool) (first : Entry) (xs ys : List Entry) (values : List Cell)
    → map (λ (e : Entry). e.value) xs ≡ map (λ (e : Entry). e.value) ys ++ values
    → map (λ (e : Entry). e.value) (cond b (first ∷ xs) xs) ≡ map (λ (e : Entry). e.value) (cond b (first ∷ ys) ys) ++ values
one_before true first xs ys values h = ap (λ r. first.value ∷ r) h
one_before false first xs ys values h = h

-- the values under a key, with one entry more
under_more : (entries : List Entry) (entry : Entry) (key : Cell)
    → values_under (entries ++ entry ∷ []) key ≡ values_under entries key ++ (if same_cells key entry.key then entry.value ∷ [] else [])
under_more [] entry key = one_behind (same_cells key entry.key) entry
under_more (first ∷ others) entry key = one_before (same_cells key first.key) first _ _ _ (under_more others entry key)

-- one entry more is held
pub held_more : (entries : List Entry) (i : ℕ) (entry : Entry) (old now : BTreeMap Cell (List Cell)) → i < length entries
    → entry ≡ get_or entries i entry
    → ((q : Cell) → values_held now q ≡ values_held old q ++ (if same_cells q entry.key then entry.value ∷ [] else []))
    → values_held old ≡ values_under (take i entries) → values_held now ≡ values_under (take (i + 1) entries)
held_more entries i entry old now l at added before =
    let more : take (i + 1) entries ≡ take i entries ++ entry ∷ [] =
    take_more entries i entry l ∙ ap (λ x. take i entries ++ x ∷ []) (sym at) in
    let each : (q : Cell) → values_held now q ≡ values_under (take (i + 1) entries) q =
    λ q. added q ∙ ap (λ f. f q ++ (if same_cells q entry.key then entry.value ∷ [] else [])) before
    ∙ sym (under_more (take i entries) entry q) ∙ ap (λ es. values_under es q) (sym more) in
    λ j q. each q j
