-- What the visits of a value give is what its own visit gives, and then what stands inside it.
use Rattle.std.proofs.Common.{◌≡◌, ℕ, List, ◌∷◌, ◌++◌, map, refl, sym, ap, ◌∙◌}
use Rattle.std.specs.Prelude.{Option, Some}
use Rattle.std.proofs.lemmas.List.{append_assoc}
use Rattle.json_exact.specs.declared.json.Json.{Json, out-Json, Null, Flag, Number, Huge, Text, List', Object', Row_of-Json, end_of-Json}
use Rattle.json_exact.specs.declared.json.Json.{more_of-Json, items-the_row-Json, items_hidden-the_row-Json-0, Row_of-Member, end_of-Member}
use Rattle.json_exact.specs.declared.json.Json.{more_of-Member, items-the_row-Member, items_hidden-the_row-Member-1}
use Rattle.json_exact.specs.declared.json.Json.TheBlock.{hidden-the_row-Json-0, hidden-the_row-Member-1}
use Rattle.json_exact.specs.declared.json.Json.{out-roll-Json}
use Rattle.json_exact.specs.declared.json.Json.TheVariants as json
use Rattle.json_exact.specs.declared.json.Json.TheVariants.{rolls-Object}
use Rattle.json_exact.specs.declared.json.Json.TheOpen as level
use Rattle.json_exact.specs.declared.json.Member.{Member}
use Rattle.spec_schema.specs.declared.schema.Schema.{Schema}
use Rattle.spec_schema.specs.declared.form.Form.{Form}
use Rattle.spec_schema.specs.Forms.{taken_form, items_shape, layout_of}
use Rattle.spec_schema.specs.Faults.{members_of}
use Rattle.spec_walk.specs.Walk.{Noting, Visiting, Seen, seen_in, seen_items, seen_row, seen_members, where_formed, list_parts, object_parts}
use Rattle.spec_walk.specs.inner.Inside.{inside}

-- ---- lists and objects

items-are : {A P : Type 0} (schema : Schema) (noted : Noting A) (visit : Visiting A P) (n : _) (row : Row_of-Json n) →
    seen_items schema noted visit row ≡ map (seen_in schema noted visit) (items-the_row-Json n row)
items-are schema noted visit n end_of-Json = refl
items-are {A} {P} schema noted visit n (more_of-Json item others) =
    ap (λ (seen : List (Seen A P)). seen_in schema noted visit item ∷ seen) (items-are schema noted visit _ others)

members-are : {A P : Type 0} (schema : Schema) (noted : Noting A) (visit : Visiting A P) (n : _) (row : Row_of-Member n) →
    seen_row schema noted visit row ≡ seen_members schema noted visit (items-the_row-Member n row)
members-are schema noted visit n end_of-Member = refl
members-are {A} {P} schema noted visit n (more_of-Member name value others) =
    ap (λ (seen : List (List ℕ × Seen A P)). (name, seen_in schema noted visit value) ∷ seen) (members-are schema noted visit _ others)

-- what stands in a list gives
pub inside-List : {A P : Type 0} (schema : Schema) (noted : Noting A) (visit : Visiting A P)
    (items : List Json) (form : Form) (trail : List A) →
    inside schema noted visit (json.List items) form trail ≡ list_parts (items_shape form) (map (seen_in schema noted visit) items) trail
inside-List {A} {P} schema noted visit items form trail = ap (λ (seen : List (Seen A P)). list_parts (items_shape form) seen trail)
    (items-are schema noted visit _ (hidden-the_row-Json-0 items)
    ∙ ap (map (seen_in schema noted visit)) (items_hidden-the_row-Json-0 items))

-- what stands in an object gives
pub inside-Object : {A P : Type 0} (schema : Schema) (noted : Noting A) (visit : Visiting A P)
    (members : List Member) (form : Form) (trail : List A) → inside schema noted visit (json.Object members) form trail
    ≡ object_parts (layout_of schema form members) (seen_members schema noted visit members) trail
inside-Object {A} {P} schema noted visit members form trail =
    let known : seen_row schema noted visit (hidden-the_row-Member-1 members) ≡ seen_members schema noted visit members =
    members-are schema noted visit _ (hidden-the_row-Member-1 members)
    ∙ ap (seen_members schema noted visit) (items_hidden-the_row-Member-1 members) in
    let read : members_of (out-Json (json.Object members)) ≡ members =
    ap members_of (ap out-Json (sym (rolls-Object members)) ∙ out-roll-Json (level.Object members)) in
    ap (λ (seen : List (List ℕ × Seen A P)).
    object_parts (layout_of schema form (members_of (out-Json (json.Object members)))) seen trail) known
    ∙ ap (λ ms. object_parts (layout_of schema form ms) (seen_members schema noted visit members) trail) read

-- ---- a value

opened : {A P : Type 0} (schema : Schema) (noted : Noting A) (visit : Visiting A P) (tree : Json) (number shape : ℕ) (round : List A) →
    seen_in schema noted visit tree number shape round ≡ where_formed (taken_form schema shape (out-Json tree))
    (λ form. visit (noted number shape tree ∷ round) tree ++ inside schema noted visit tree form (noted number shape tree ∷ round))
opened schema noted visit Null number shape round = refl
opened schema noted visit (Flag b) number shape round = refl
opened schema noted visit (Number n) number shape round = refl
opened schema noted visit Huge number shape round = refl
opened schema noted visit (Text t) number shape round = refl
opened schema noted visit (List' size items) number shape round = refl
opened schema noted visit (Object' size members) number shape round = refl

-- a value that was visited, and then what stands inside it
pub walked : {A P : Type 0} (schema : Schema) (noted : Noting A) (visit : Visiting A P) (tree : Json) (number shape : ℕ) (form : Form)
    (round trail : List A) (before entered after left : List P) → Some form ≡ taken_form schema shape (out-Json tree) →
    trail ≡ noted number shape tree ∷ round → entered ≡ before ++ visit trail tree →
    after ≡ entered ++ inside schema noted visit tree form trail → left ≡ after →
    left ≡ before ++ seen_in schema noted visit tree number shape round
walked schema noted visit tree number shape form round trail before entered after left formed noting visiting inner leaving =
    let whole : seen_in schema noted visit tree number shape round
    ≡ visit (noted number shape tree ∷ round) tree ++ inside schema noted visit tree form (noted number shape tree ∷ round) =
    rw (opened schema noted visit tree number shape round, sym formed) refl in
    rw (leaving, inner, visiting, noting, whole) (append_assoc before _ _)

pub list_inside : {A P : Type 0} (schema : Schema) (noted : Noting A) (visit : Visiting A P)
    (tree : Json) (items slice : List Json) (form : Form) (shape : Option ℕ) (trail : List A) →
    tree ≡ json.List items → slice ≡ items → shape ≡ items_shape form →
    list_parts shape (map (seen_in schema noted visit) slice) trail ≡ inside schema noted visit tree form trail
list_inside {A} {P} schema noted visit tree items slice form shape trail is same asks =
    let front : list_parts shape (map (seen_in schema noted visit) slice) trail
    ≡ list_parts (items_shape form) (map (seen_in schema noted visit) items) trail =
    rw (same, asks) refl in
    front ∙ sym (inside-List schema noted visit items form trail) ∙ ap (λ t. inside schema noted visit t form trail) (sym is)

pub object_inside : {A P : Type 0} (schema : Schema) (noted : Noting A) (visit : Visiting A P)
    (tree : Json) (members slice : List Member) (form : Form) (trail : List A) →
    tree ≡ json.Object members → slice ≡ members →
    object_parts (layout_of schema form slice) (seen_members schema noted visit slice) trail ≡ inside schema noted visit tree form trail
object_inside {A} {P} schema noted visit tree members slice form trail is same =
    let front : object_parts (layout_of schema form slice) (seen_members schema noted visit slice) trail
    ≡ object_parts (layout_of schema form members) (seen_members schema noted visit members) trail = rw same refl in
    front ∙ sym (inside-Object schema noted visit members form trail) ∙ ap (λ t. inside schema noted visit t form trail) (sym is)
