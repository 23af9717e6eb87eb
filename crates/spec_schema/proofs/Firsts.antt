-- The first fault of lists of faults.
use Rattle.std.proofs.Common.{◌≡◌, ℕ, List, [], ◌∷◌, ◌++◌, length, map, flat_map, refl, sym, ap, ◌∙◌}
use Rattle.std.specs.Prelude.{Option, Some, None, Bool, true, not}
use Rattle.std.specs.List.{enumerate_from, list_any}
use Rattle.std.specs.Str.{bytes_eq}
use Rattle.json_exact.specs.declared.json.Json.{Json, out-Json, Row_of-Json, end_of-Json, more_of-Json, items-the_row-Json}
use Rattle.json_exact.specs.declared.json.Json.{items_hidden-the_row-Json-0, Row_of-Member, end_of-Member, more_of-Member}
use Rattle.json_exact.specs.declared.json.Json.{items-the_row-Member, items_hidden-the_row-Member-1}
use Rattle.json_exact.specs.declared.json.Json.TheBlock.{hidden-the_row-Json-0, hidden-the_row-Member-1}
use Rattle.json_exact.specs.declared.json.Json.{out-roll-Json}
use Rattle.json_exact.specs.declared.json.Json.TheVariants as json
use Rattle.json_exact.specs.declared.json.Json.TheVariants.{rolls-Object}
use Rattle.json_exact.specs.declared.json.Json.TheOpen as level
use Rattle.json_exact.specs.declared.json.Member.{Member}
use Rattle.spec_schema.specs.declared.fault.Fault.{Fault}
use Rattle.spec_schema.specs.declared.schema.Schema.{Schema}
use Rattle.spec_schema.specs.declared.form.Form.{Form}
use Rattle.spec_schema.specs.declared.layout.Layout.{Layout}
use Rattle.spec_schema.specs.declared.layout.Rule.{Rule}
use Rattle.spec_schema.specs.Layouts.{has_name}
use Rattle.spec_schema.specs.Forms.{taken_form, items_shape, layout_of}
use Rattle.spec_schema.specs.Faults.{Judged, faults_in, judged_items, judged_row, judged_members, unless_wrong, list_faults, object_faults}
use Rattle.spec_schema.specs.Faults.{members_of, member_faults, is_missing, missing_fault, member_names, first}

-- ---- lists and objects

items-are : (schema : Schema) (n : _) (row : Row_of-Json n) → judged_items schema row ≡ map (faults_in schema) (items-the_row-Json n row)
items-are schema n end_of-Json = refl
items-are schema n (more_of-Json item others) = ap (λ (judged : List Judged). faults_in schema item ∷ judged) (items-are schema _ others)

members-are : (schema : Schema) (n : _) (row : Row_of-Member n) → judged_row schema row ≡ judged_members schema (items-the_row-Member n row)
members-are schema n end_of-Member = refl
members-are schema n (more_of-Member name value others) =
    ap (λ (judged : List (List ℕ × Judged)). (name, faults_in schema value) ∷ judged) (members-are schema _ others)

-- what a list is judged by
pub faults_in-List : (schema : Schema) (items : List Json) (shape : ℕ)
    → faults_in schema (json.List items) shape ≡ unless_wrong (taken_form schema shape (out-Json (json.List items)))
    (λ form. list_faults (items_shape form) (map (faults_in schema) items))
faults_in-List schema items shape =
    ap (λ (judged : List Judged). unless_wrong (taken_form schema shape (out-Json (json.List items)))
    (λ form. list_faults (items_shape form) judged)) (items-are schema _ (hidden-the_row-Json-0 items)
    ∙ ap (map (faults_in schema)) (items_hidden-the_row-Json-0 items))

-- what an object is judged by
pub faults_in-Object : (schema : Schema) (members : List Member) (shape : ℕ)
    → faults_in schema (json.Object members) shape ≡ unless_wrong (taken_form schema shape (out-Json (json.Object members)))
    (λ form. object_faults (layout_of schema form (members_of (out-Json (json.Object members)))) (judged_members schema members))
faults_in-Object schema members shape =
    ap (λ (judged : List (List ℕ × Judged)). unless_wrong (taken_form schema shape (out-Json (json.Object members)))
    (λ form. object_faults (layout_of schema form (members_of (out-Json (json.Object members)))) judged))
    (members-are schema _ (hidden-the_row-Member-1 members) ∙ ap (judged_members schema) (items_hidden-the_row-Member-1 members))

-- ---- the first of several lists

-- where one list has none, the first is that of the others
pub first-none : (xs ys : List Fault) → first xs ≡ None → first (xs ++ ys) ≡ first ys
first-none [] ys none = refl
first-none (x ∷ xs) ys none = absurd (cc)

pub first-some : (xs ys : List Fault) (x : Fault) → first xs ≡ Some x → first (xs ++ ys) ≡ Some x
first-some [] ys x some = absurd (cc)
first-some (y ∷ xs) ys x some = some

pub first-map-none : (f : Fault → Fault) (xs : List Fault) → first xs ≡ None → first (map f xs) ≡ None
first-map-none f [] none = refl
first-map-none f (x ∷ xs) none = absurd (cc)

pub first-map-some : (f : Fault → Fault) (xs : List Fault) (x : Fault) → first xs ≡ Some x → first (map f xs) ≡ Some (f x)
first-map-some f [] x some = absurd (cc)
first-map-some f (y ∷ xs) x some = let e : y ≡ x = cc in ap (λ (z : Fault). Some (f z)) e

-- ---- what the search finds

pub in_list : (schema : Schema) (tree : Json) (shape : ℕ) (form : Form) (items slice : List Json) (asked : Option ℕ) →
    tree ≡ json.List items → Some form ≡ taken_form schema shape (out-Json tree) → slice ≡ items → asked ≡ items_shape form →
    first (list_faults asked (map (faults_in schema) slice)) ≡ first (faults_in schema tree shape)
in_list schema tree shape form items slice asked is some same asks =
    let inside : Form → List Fault = λ f. list_faults (items_shape f) (map (faults_in schema) items) in
    let known : Some form ≡ taken_form schema shape (out-Json (json.List items)) = some ∙ ap (λ t. taken_form schema shape (out-Json t)) is in
    let front : list_faults asked (map (faults_in schema) slice) ≡ inside form = rw (same, asks) refl in
    ap first (front ∙ ap (λ o. unless_wrong o inside) known ∙ sym (faults_in-List schema items shape)
    ∙ ap (λ t. faults_in schema t shape) (sym is))

pub in_object : (schema : Schema) (tree : Json) (shape : ℕ) (form : Form) (members slice : List Member) →
    tree ≡ json.Object members → Some form ≡ taken_form schema shape (out-Json tree) → slice ≡ members →
    first (object_faults (layout_of schema form slice) (judged_members schema slice)) ≡ first (faults_in schema tree shape)
in_object schema tree shape form members slice is some same =
    let inside : List Member → Form → List Fault = λ ms f. object_faults (layout_of schema f ms) (judged_members schema members) in
    let known : Some form ≡ taken_form schema shape (out-Json (json.Object members)) = some ∙ ap (λ t. taken_form schema shape (out-Json t)) is in
    let front : object_faults (layout_of schema form slice) (judged_members schema slice) ≡ inside members form = rw same refl in
    let opened : members ≡ members_of (out-Json (json.Object members)) =
    sym (ap members_of (ap out-Json (sym (rolls-Object members)) ∙ out-roll-Json (level.Object members))) in
    ap first (front ∙ ap (λ ms. inside ms form) opened
    ∙ ap (λ o. unless_wrong o (inside (members_of (out-Json (json.Object members))))) known
    ∙ sym (faults_in-Object schema members shape) ∙ ap (λ t. faults_in schema t shape) (sym is))

-- the names of the members that are judged
names-are : (schema : Schema) (members : List Member)
    → map (λ (m : List ℕ × Judged). m.0) (judged_members schema members) ≡ member_names members
names-are schema [] = refl
names-are schema (m ∷ ms) = ap (λ (names : List (List ℕ)). m.name ∷ names) (names-are schema ms)

pub length-names : (members : List Member) → length (member_names members) ≡ length members
length-names [] = refl
length-names (m ∷ ms) = rw (length-names ms) refl

-- a name is one of those of the members
pub has-names : (members : List Member) (name : List ℕ)
    → has_name members name ≡ list_any (λ other. bytes_eq other name) (member_names members)
has-names [] name = refl
has-names (m ∷ ms) name = rw (has-names ms name) refl

pub by_layout : (schema : Schema) (layout : Layout) (members : List Member) (rules : List Rule) →
    rules ≡ layout.rules → first (flat_map (member_faults layout) (enumerate_from 0 (judged_members schema members))) ≡ None →
    first (flat_map (missing_fault (member_names members)) (enumerate_from (length members) rules))
    ≡ first (object_faults (Some layout) (judged_members schema members))
by_layout schema layout members rules is none =
    let same : flat_map (missing_fault (member_names members)) (enumerate_from (length members) rules)
    ≡ flat_map (missing_fault (map (λ m. m.0) (judged_members schema members)))
    (enumerate_from (length (map (λ (m : List ℕ × Judged). m.0) (judged_members schema members))) layout.rules) =
    rw (is, names-are schema members, length-names members) refl in
    ap first same ∙ sym (first-none _ _ none)

-- a member is missing where it has to be there and isn't
pub joined : (members : List Member) (rule : Rule) (found : Bool) → rule.required ≡ true → found ≡ has_name members rule.name
    → not found ≡ is_missing (member_names members) rule
joined members rule found required is = rw (required, is, has-names members rule.name) refl
