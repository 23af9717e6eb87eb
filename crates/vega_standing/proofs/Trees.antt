-- Trees by what stands in them.
use Rattle.std.proofs.Common.{◌≡◌, List, [], ◌∷◌, sym, ap, subst, ◌∙◌}
use Rattle.json_exact.specs.declared.json.Json.{Json, Json-F, out-Json, roll-Json, out-roll-Json, roll-out-Json, Null, Flag, Number, Huge}
use Rattle.json_exact.specs.declared.json.Json.{Text, List', Object', Row_of-Json, end_of-Json, more_of-Json, items-the_row-Json}
use Rattle.json_exact.specs.declared.json.Json.{items_shown-the_row-Json-0, Row_of-Member, end_of-Member, more_of-Member}
use Rattle.json_exact.specs.declared.json.Json.{items-the_row-Member, items_shown-the_row-Member-1}
use Rattle.json_exact.specs.declared.json.Json.TheVariants.{rolls-List, rolls-Object, outs-Null, outs-Flag, outs-Number, outs-Huge}
use Rattle.json_exact.specs.declared.json.Json.TheVariants.{outs-Text, outs-List', outs-Object'}
use Rattle.json_exact.specs.declared.json.Json.TheVariants as json
use Rattle.json_exact.specs.declared.json.Json.TheOpen as level
use Rattle.json_exact.specs.declared.json.Member.{Member}
use Rattle.spec_schema.specs.Faults.{members_of}
use Rattle.vega_standing.specs.OwnNames.{AreOwn, HasOwnNames, HaveOwnNames, HaveValuesOwnNames}

-- P holds of each
abbrev pub Each : {X : Type 0} → (X → Type 0) → List X → Type 0
Each P [] = Unit {0}
Each P (x ∷ xs) = P x × Each P xs

-- a tree by what it is when it is opened
pub list_of : (tree : Json) (items : List Json) → out-Json tree ≡ level.List items → tree ≡ json.List items
list_of tree items e = sym (roll-out-Json tree) ∙ ap roll-Json e ∙ rolls-List items

pub object_of : (tree : Json) (members : List Member) → out-Json tree ≡ level.Object members → tree ≡ json.Object members
object_of tree members e = sym (roll-out-Json tree) ∙ ap roll-Json e ∙ rolls-Object members

pub opened_list : (items : List Json) → out-Json (json.List items) ≡ level.List items
opened_list items = ap out-Json (sym (rolls-List items)) ∙ out-roll-Json (level.List items)

pub opened_object : (members : List Member) → out-Json (json.Object members) ≡ level.Object members
opened_object members = ap out-Json (sym (rolls-Object members)) ∙ out-roll-Json (level.Object members)

-- the items and the members that a tree is made of
items_are : {o : Json-F Json Member} {xs ys : List Json} → o ≡ level.List xs → o ≡ level.List ys → xs ≡ ys
items_are a b = cc

members_are : {o : Json-F Json Member} {xs ys : List Member} → o ≡ level.Object xs → o ≡ level.Object ys → xs ≡ ys
members_are a b = cc

no_list : {o p : Json-F Json Member} {P : Type 0} (xs : List Json) → o ≡ p → o ≡ level.List xs → (p ≡ level.List xs → ⊥) → P
no_list xs a b never = absurd (never (sym a ∙ b))

-- what a property needs of a tree: that it holds of the items of the list that the tree is, or of the values of the object
pub record Inner (P : Json → Type 0) (tree : Json) : Type 0 where
  pub items : (xs : List Json) → out-Json tree ≡ level.List xs → Each P xs
  pub values : (ms : List Member) → out-Json tree ≡ level.Object ms → Each (λ (m : Member). P m.value) ms

mutual
  -- a property that a tree has where what stands in it has it: each tree has it
  pub of_each : (P : Json → Type 0) → ((tree : Json) → Inner P tree → P tree) → (tree : Json) → P tree
  of_each P step Null = step Null (record {
    items = λ xs e. absurd (let f : out-Json Null ≡ level.Null = outs-Null in cc);
    values = λ ms e. absurd (let f : out-Json Null ≡ level.Null = outs-Null in cc);
  })
  of_each P step (Flag b) = step (Flag b) (record {
    items = λ xs e. absurd (let f : out-Json (Flag b) ≡ level.Flag b = outs-Flag b in cc);
    values = λ ms e. absurd (let f : out-Json (Flag b) ≡ level.Flag b = outs-Flag b in cc);
  })
  of_each P step (Number n) = step (Number n) (record {
    items = λ xs e. absurd (let f : out-Json (Number n) ≡ level.Number n = outs-Number n in cc);
    values = λ ms e. absurd (let f : out-Json (Number n) ≡ level.Number n = outs-Number n in cc);
  })
  of_each P step Huge = step Huge (record {
    items = λ xs e. absurd (let f : out-Json Huge ≡ level.Huge = outs-Huge in cc);
    values = λ ms e. absurd (let f : out-Json Huge ≡ level.Huge = outs-Huge in cc);
  })
  of_each P step (Text t) = step (Text t) (record {
    items = λ xs e. absurd (let f : out-Json (Text t) ≡ level.Text t = outs-Text t in cc);
    values = λ ms e. absurd (let f : out-Json (Text t) ≡ level.Text t = outs-Text t in cc);
  })
  of_each P step (List' size items) = step (List' size items) (record {
    items = λ xs e. subst (Each P) (sym (items_shown-the_row-Json-0 size items) ∙ items_are (outs-List' size items) e) (of_items P step items);
    values = λ ms e. absurd (let f = outs-List' size items in cc);
  })
  of_each P step (Object' size members) = step (Object' size members) (record {
    items = λ xs e. absurd (let f = outs-Object' size members in cc);
    values = λ ms e. subst (Each (λ (m : Member). P m.value)) (sym (items_shown-the_row-Member-1 size members) ∙ members_are (outs-Object' size members) e)
        (of_values P step members);
  })

  of_items : (P : Json → Type 0) → ((tree : Json) → Inner P tree → P tree) → {n : _} (row : Row_of-Json n) → Each P (items-the_row-Json n row)
  of_items P step end_of-Json = tt
  of_items P step (more_of-Json item others) = (of_each P step item, of_items P step others)

  of_values : (P : Json → Type 0) → ((tree : Json) → Inner P tree → P tree) → {n : _} (row : Row_of-Member n)
      → Each (λ (m : Member). P m.value) (items-the_row-Member n row)
  of_values P step end_of-Member = tt
  of_values P step (more_of-Member name value others) = (of_each P step value, of_values P step others)

-- ---- own names

rows_own : {n : _} (row : Row_of-Json n) → HaveOwnNames row → Each HasOwnNames (items-the_row-Json n row)
rows_own end_of-Json own = tt
rows_own (more_of-Json item others) own = (own.0, rows_own others own.1)

values_own : {n : _} (row : Row_of-Member n) → HaveValuesOwnNames row → Each (λ (m : Member). HasOwnNames m.value) (items-the_row-Member n row)
values_own end_of-Member own = tt
values_own (more_of-Member name value others) own = (own.0, values_own others own.1)

pub items_own : (tree : Json) (items : List Json) → out-Json tree ≡ level.List items → HasOwnNames tree → Each HasOwnNames items
items_own Null items e own = absurd (let f : out-Json Null ≡ level.Null = outs-Null in cc)
items_own (Flag b) items e own = absurd (let f : out-Json (Flag b) ≡ level.Flag b = outs-Flag b in cc)
items_own (Number n) items e own = absurd (let f : out-Json (Number n) ≡ level.Number n = outs-Number n in cc)
items_own Huge items e own = absurd (let f : out-Json Huge ≡ level.Huge = outs-Huge in cc)
items_own (Text t) items e own = absurd (let f : out-Json (Text t) ≡ level.Text t = outs-Text t in cc)
items_own (List' size row) items e own =
    subst (Each HasOwnNames) (sym (items_shown-the_row-Json-0 size row) ∙ items_are (outs-List' size row) e) (rows_own row own)
items_own (Object' size row) items e own = absurd (let f = outs-Object' size row in cc)

pub values_of_own : (tree : Json) (members : List Member) → out-Json tree ≡ level.Object members → HasOwnNames tree →
    Each (λ (m : Member). HasOwnNames m.value) members
values_of_own Null members e own = absurd (let f : out-Json Null ≡ level.Null = outs-Null in cc)
values_of_own (Flag b) members e own = absurd (let f : out-Json (Flag b) ≡ level.Flag b = outs-Flag b in cc)
values_of_own (Number n) members e own = absurd (let f : out-Json (Number n) ≡ level.Number n = outs-Number n in cc)
values_of_own Huge members e own = absurd (let f : out-Json Huge ≡ level.Huge = outs-Huge in cc)
values_of_own (Text t) members e own = absurd (let f : out-Json (Text t) ≡ level.Text t = outs-Text t in cc)
values_of_own (List' size row) members e own = absurd (let f = outs-List' size row in cc)
values_of_own (Object' size row) members e own =
    subst (Each (λ (m : Member). HasOwnNames m.value))
    (sym (items_shown-the_row-Member-1 size row) ∙ members_are (outs-Object' size row) e) (values_own row own.1)

pub members_own : (tree : Json) (members : List Member) → out-Json tree ≡ level.Object members → HasOwnNames tree → AreOwn members
members_own Null members e own = absurd (let f : out-Json Null ≡ level.Null = outs-Null in cc)
members_own (Flag b) members e own = absurd (let f : out-Json (Flag b) ≡ level.Flag b = outs-Flag b in cc)
members_own (Number n) members e own = absurd (let f : out-Json (Number n) ≡ level.Number n = outs-Number n in cc)
members_own Huge members e own = absurd (let f : out-Json Huge ≡ level.Huge = outs-Huge in cc)
members_own (Text t) members e own = absurd (let f : out-Json (Text t) ≡ level.Text t = outs-Text t in cc)
members_own (List' size row) members e own = absurd (let f = outs-List' size row in cc)
members_own (Object' size row) members e own =
    let same : members_of (out-Json (Object' size row)) ≡ members = ap members_of e in
    subst AreOwn same own.0
