-- What a list and an object are judged by.
use Rattle.std.proofs.Common.{◌≡◌, ℕ, List, ◌∷◌, map, refl, ap, ◌∙◌}
use Rattle.json_exact.specs.declared.json.Json.{Json, out-Json, Row_of-Json, end_of-Json, more_of-Json, items-the_row-Json}
use Rattle.json_exact.specs.declared.json.Json.{items_hidden-the_row-Json-0, Row_of-Member, end_of-Member, more_of-Member}
use Rattle.json_exact.specs.declared.json.Json.{items-the_row-Member, items_hidden-the_row-Member-1}
use Rattle.json_exact.specs.declared.json.Json.TheBlock.{hidden-the_row-Json-0, hidden-the_row-Member-1}
use Rattle.json_exact.specs.declared.json.Json.TheVariants as json
use Rattle.json_exact.specs.declared.json.Member.{Member}
use Rattle.spec_schema.specs.declared.schema.Schema.{Schema}
use Rattle.spec_schema.specs.Forms.{taken_form, items_shape, layout_of}
use Rattle.spec_schema.specs.Faults.{Judged, faults_in, judged_items, judged_row, judged_members, unless_wrong, list_faults, object_faults, members_of}

-- ---- lists and objects

items-are : (schema : Schema) (n : _) (row : Row_of-Json n) → judged_items schema row ≡ map (faults_in schema) (items-the_row-Json n row)
items-are schema n end_of-Json = refl
items-are schema n (more_of-Json item others) = ap (λ (judged : List Judged). faults_in schema item ∷ judged) (items-are schema _ others)

members-are : (schema : Schema) (n : _) (row : Row_of-Member n) → judged_row schema row ≡ judged_members schema (items-the_row-Member n row)
members-are schema n end_of-Member = refl
members-are schema n (more_of-Member name value others) =
    ap (λ (judged : List (List ℕ × Judged)). (name, faults_in schema value) ∷ judged) (members-are schema _ others)

-- what a list is judged by
pub faults_in-List : (schema : Schema) (items : List Json) (shape : ℕ)
    → faults_in schema (json.List items) shape ≡ unless_wrong (taken_form schema shape (out-Json (json.List items)))
    (λ form. list_faults (items_shape form) (map (faults_in schema) items))
faults_in-List schema items shape =
    ap (λ (judged : List Judged). unless_wrong (taken_form schema shape (out-Json (json.List items)))
    (λ form. list_faults (items_shape form) judged)) (items-are schema _ (hidden-the_row-Json-0 items)
    ∙ ap (map (faults_in schema)) (items_hidden-the_row-Json-0 items))

-- what an object is judged by
pub faults_in-Object : (schema : Schema) (members : List Member) (shape : ℕ)
    → faults_in schema (json.Object members) shape ≡ unless_wrong (taken_form schema shape (out-Json (json.Object members)))
    (λ form. object_faults (layout_of schema form (members_of (out-Json (json.Object members)))) (judged_members schema members))
faults_in-Object schema members shape =
    ap (λ (judged : List (List ℕ × Judged)). unless_wrong (taken_form schema shape (out-Json (json.Object members)))
    (λ form. object_faults (layout_of schema form (members_of (out-Json (json.Object members)))) judged))
    (members-are schema _ (hidden-the_row-Member-1 members) ∙ ap (judged_members schema) (items_hidden-the_row-Member-1 members))
