-- What the visits of a tree give, by a schema.
use Rattle.std.specs.Prelude.{ℕ, Option, Some, None, List, [], ◌∷◌, ◌++◌, map, flat_map}
use Rattle.std.specs.Option.{option_map_or}
use Rattle.std.specs.List.{enumerate_from}
use Rattle.json_exact.specs.declared.json.Json.{Json, out-Json, Null, Flag, Number, Huge, Text, List', Object', Row_of-Json, end_of-Json}
use Rattle.json_exact.specs.declared.json.Json.{more_of-Json, Row_of-Member, end_of-Member, more_of-Member}
use Rattle.json_exact.specs.declared.json.Member.{Member}
use Rattle.spec_schema.specs.declared.form.Form.{Form}
use Rattle.spec_schema.specs.declared.layout.Layout.{Layout}
use Rattle.spec_schema.specs.declared.schema.Schema.{Schema}
use Rattle.spec_schema.specs.Layouts.{shape_in}
use Rattle.spec_schema.specs.Forms.{taken_form, items_shape, layout_of}
use Rattle.spec_schema.specs.Faults.{members_of}

-- what is noted of a value: by its number among its parent's children, its shape and itself
abbrev pub Noting : Type 0 → Type 0
Noting A = ℕ → ℕ → Json → A

-- what the visit of a value gives: by what was noted of it and of the values round it, the innermost first, and itself
abbrev pub Visiting : Type 0 → Type 0 → Type 0
Visiting A P = List A → Json → List P

-- what the visits of a value and of those inside it give: by its number, its shape, and what was noted of the values round it
abbrev pub Seen : Type 0 → Type 0 → Type 0
Seen A P = ℕ → ℕ → List A → List P

-- what the items of a list give, by their shape
abbrev pub list_parts : {A P : Type 0} → Option ℕ → List (Seen A P) → List A → List P
list_parts None items trail = []
list_parts (Some shape) items trail = flat_map (λ item. item.1 item.0 shape trail) (enumerate_from 0 items)

-- what a member gives: nothing where its name has no rule
abbrev pub member_parts : {A P : Type 0} → Layout → List A → ℕ × (List ℕ × Seen A P) → List P
member_parts layout trail member = option_map_or (λ shape. member.1.1 member.0 shape trail) (shape_in layout member.1.0) []

-- what the members of an object give, by its layout
abbrev pub object_parts : {A P : Type 0} → Option Layout → List (List ℕ × Seen A P) → List A → List P
object_parts None members trail = []
object_parts (Some layout) members trail = flat_map (member_parts layout trail) (enumerate_from 0 members)

-- a value that has no form of its shape gives nothing
abbrev pub where_formed : {P : Type 0} → Option Form → (Form → List P) → List P
where_formed None inside = []
where_formed (Some form) inside = inside form

-- a value that has a form of its shape is visited, and then what stands inside it, which gives the rest
abbrev pub visited : {A P : Type 0} → Schema → Noting A → Visiting A P → Json → (Form → List A → List P) → Seen A P
visited schema noted visit tree inside number shape round = where_formed (taken_form schema shape (out-Json tree))
    (λ form. visit (noted number shape tree ∷ round) tree ++ inside form (noted number shape tree ∷ round))

abbrev mutual
  -- what the visits of a value and of those inside it give
  pub seen_in : {A P : Type 0} → Schema → Noting A → Visiting A P → Json → Seen A P
  seen_in schema noted visit Null = visited schema noted visit Null (λ form trail. [])
  seen_in schema noted visit (Flag b) = visited schema noted visit (Flag b) (λ form trail. [])
  seen_in schema noted visit (Number n) = visited schema noted visit (Number n) (λ form trail. [])
  seen_in schema noted visit Huge = visited schema noted visit Huge (λ form trail. [])
  seen_in schema noted visit (Text t) = visited schema noted visit (Text t) (λ form trail. [])
  seen_in schema noted visit (List' size items) = visited schema noted visit (List' size items)
      (λ form trail. list_parts (items_shape form) (seen_items schema noted visit items) trail)
  seen_in schema noted visit (Object' size members) = visited schema noted visit (Object' size members)
      (λ form trail. object_parts (layout_of schema form (members_of (out-Json (Object' size members))))
      (seen_row schema noted visit members) trail)

  -- each item of a list
  pub seen_items : {A P : Type 0} → Schema → Noting A → Visiting A P → {n : _} → Row_of-Json n → List (Seen A P)
  seen_items schema noted visit end_of-Json = []
  seen_items schema noted visit (more_of-Json item others) = seen_in schema noted visit item ∷ seen_items schema noted visit others

  -- each member of an object with its name
  pub seen_row : {A P : Type 0} → Schema → Noting A → Visiting A P → {n : _} → Row_of-Member n → List (List ℕ × Seen A P)
  seen_row schema noted visit end_of-Member = []
  seen_row schema noted visit (more_of-Member name value others) =
      (name, seen_in schema noted visit value) ∷ seen_row schema noted visit others

-- the members of an object, each by its name
abbrev pub seen_members : {A P : Type 0} → Schema → Noting A → Visiting A P → List Member → List (List ℕ × Seen A P)
seen_members schema noted visit members = map (λ (m : Member). (m.name, seen_in schema noted visit m.value)) members
