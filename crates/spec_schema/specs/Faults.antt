-- Which faults a specification has by a schema, in the order of its text.
use Rattle.std.specs.Prelude.{◌≡◌, ℕ, ◌==◌, Bool, true, false, ◌&&◌, not, if◌then◌else◌, Option, Some, None, List, [], ◌∷◌, ◌++◌, length}
use Rattle.std.specs.Prelude.{map, flat_map, codes, refl}
use Rattle.std.specs.List.{enumerate_from, list_any}
use Rattle.std.specs.Str.{bytes_eq}
use Rattle.std.specs.Fmt.{decimal}
use Rattle.json_exact.specs.declared.json.Json.{Json, out-Json, Null, Flag, Number, Huge, Text, List', Object', Row_of-Json, end_of-Json}
use Rattle.json_exact.specs.declared.json.Json.{more_of-Json, Row_of-Member, end_of-Member, more_of-Member}
use Rattle.json_exact.specs.declared.json.Json.TheOpen as level
use Rattle.json_exact.specs.declared.json.Member.{Member}
use Rattle.spec_schema.specs.declared.spec_error.SpecKind.{SpecKind}
use Rattle.spec_schema.specs.declared.spec_error.SpecKind.TheVariants.{Unsupported, Missing, Wrong}
use Rattle.spec_schema.specs.declared.fault.Fault.{Fault}
use Rattle.spec_schema.specs.declared.form.Form.{Form}
use Rattle.spec_schema.specs.declared.layout.Rule.{Rule}
use Rattle.spec_schema.specs.declared.layout.Layout.{Layout}
use Rattle.spec_schema.specs.declared.schema.Schema.{Schema}
use Rattle.spec_schema.specs.Values.{Opened}
use Rattle.spec_schema.specs.Layouts.{shape_in}
use Rattle.spec_schema.specs.Forms.{taken_form, items_shape, layout_of}

-- a fault at the value itself
abbrev pub here : SpecKind → Fault
here kind = record { place = []; path = []; kind = kind }

-- a byte of a name in a path: `~` is `~0`, and `/` is `~1`
abbrev pub path_byte : ℕ → List ℕ
path_byte b = if b == 126 then codes "~0" else (if b == 47 then codes "~1" else b ∷ [])

-- a name in a path, after its slash
abbrev pub path_word : List ℕ → List ℕ
path_word name = 47 ∷ flat_map path_byte name

-- a fault of the child of this number and name, seen from its parent
abbrev pub below : ℕ → List ℕ → Fault → Fault
below number name fault = record { place = number ∷ fault.place; path = path_word name ++ fault.path; kind = fault.kind }

-- what faults a value has, by the shape that is asked of it
abbrev pub Judged : Type 0
Judged = ℕ → List Fault

-- the faults of an item of a list, which goes by its number
abbrev pub item_faults : ℕ → ℕ × Judged → List Fault
item_faults shape item = map (below item.0 (decimal item.0)) (item.1 shape)

-- the faults of a member: its name has no rule, or those of its value
abbrev pub faults_by : Option ℕ → Judged → List Fault
faults_by None value = here Unsupported ∷ []
faults_by (Some shape) value = value shape

-- the same seen from the object
abbrev pub member_faults : Layout → ℕ × (List ℕ × Judged) → List Fault
member_faults layout member = map (below member.0 member.1.0) (faults_by (shape_in layout member.1.0) member.1.1)

-- a member has to be there, and none of these names is its
abbrev pub is_missing : List (List ℕ) → Rule → Bool
is_missing names rule = rule.required && not (list_any (λ name. bytes_eq name rule.name) names)

-- a missing member stands after the members that are there, by the number of its rule
abbrev pub missing_fault : List (List ℕ) → ℕ × Rule → List Fault
missing_fault names rule = if is_missing names rule.1 then below rule.0 rule.1.name (here Missing) ∷ [] else []

-- those missing, in the order of the rules
abbrev pub missing_faults : Layout → List (List ℕ) → List Fault
missing_faults layout names = flat_map (missing_fault names) (enumerate_from (length names) layout.rules)

-- the faults of a list, by the shape of its items
abbrev pub list_faults : Option ℕ → List Judged → List Fault
list_faults None items = []
list_faults (Some shape) items = flat_map (item_faults shape) (enumerate_from 0 items)

-- the faults of an object, by its layout: those of its members, then the missing ones
abbrev pub object_faults : Option Layout → List (List ℕ × Judged) → List Fault
object_faults None members = []
object_faults (Some layout) members =
    flat_map (member_faults layout) (enumerate_from 0 members) ++ missing_faults layout (map (λ m. m.0) members)

-- a value that has no form of its shape is wrong; any other has the faults that stand inside it
abbrev pub unless_wrong : Option Form → (Form → List Fault) → List Fault
unless_wrong None inside = here Wrong ∷ []
unless_wrong (Some form) inside = inside form

-- the members of an object
abbrev pub members_of : Opened → List Member
members_of (level.Object members) = members
members_of other = []

abbrev mutual
  -- the faults of a value by its shape
  pub faults_in : Schema → Json → Judged
  faults_in schema Null = λ shape. unless_wrong (taken_form schema shape (out-Json Null)) (λ form. [])
  faults_in schema (Flag b) = λ shape. unless_wrong (taken_form schema shape (out-Json (Flag b))) (λ form. [])
  faults_in schema (Number n) = λ shape. unless_wrong (taken_form schema shape (out-Json (Number n))) (λ form. [])
  faults_in schema Huge = λ shape. unless_wrong (taken_form schema shape (out-Json Huge)) (λ form. [])
  faults_in schema (Text t) = λ shape. unless_wrong (taken_form schema shape (out-Json (Text t))) (λ form. [])
  faults_in schema (List' size items) = λ shape. unless_wrong (taken_form schema shape (out-Json (List' size items)))
      (λ form. list_faults (items_shape form) (judged_items schema items))
  faults_in schema (Object' size members) = λ shape. unless_wrong (taken_form schema shape (out-Json (Object' size members)))
      (λ form. object_faults (layout_of schema form (members_of (out-Json (Object' size members)))) (judged_row schema members))

  -- each item of a list
  pub judged_items : Schema → {n : _} → Row_of-Json n → List Judged
  judged_items schema end_of-Json = []
  judged_items schema (more_of-Json item others) = faults_in schema item ∷ judged_items schema others

  -- each member of an object with its name
  pub judged_row : Schema → {n : _} → Row_of-Member n → List (List ℕ × Judged)
  judged_row schema end_of-Member = []
  judged_row schema (more_of-Member name value others) = (name, faults_in schema value) ∷ judged_row schema others

-- the members of an object, each by its name
abbrev pub judged_members : Schema → List Member → List (List ℕ × Judged)
judged_members schema members = map (λ (m : Member). (m.name, faults_in schema m.value)) members

-- the names of members
abbrev pub member_names : List Member → List (List ℕ)
member_names members = map (λ (m : Member). m.name) members

-- the first of some faults
abbrev pub first : List Fault → Option Fault
first [] = None
first (fault ∷ others) = Some fault

-- ---- worked examples

-- an object of which `a` has to be there and `b` may be
two_members : Layout
two_members = record {
  object = 0;
  when = [];
  rules = record { name = codes "a"; shape = 1; required = true } ∷ record { name = codes "b"; shape = 2; required = false } ∷ [];
  others = None;
}

-- a value that has no fault as the shape 2, and is wrong as any other
for_b : Judged
for_b shape = if shape == 2 then [] else here Wrong ∷ []

an_unknown_member_and_a_missing_one : object_faults (Some two_members) ((codes "b", for_b) ∷ (codes "c/d", for_b) ∷ []) ≡
    record { place = 1 ∷ []; path = codes "/c~1d"; kind = Unsupported } ∷ record { place = 2 ∷ []; path = codes "/a"; kind = Missing } ∷ []
unfolding two_members for_b
an_unknown_member_and_a_missing_one = refl

a_wrong_member : object_faults (Some two_members) ((codes "a", for_b) ∷ [])
    ≡ record { place = 0 ∷ []; path = codes "/a"; kind = Wrong } ∷ []
unfolding two_members for_b
a_wrong_member = refl

a_wrong_item : list_faults (Some 1) (for_b ∷ []) ≡ record { place = 0 ∷ []; path = codes "/0"; kind = Wrong } ∷ []
unfolding for_b Rattle.std.specs.Fmt.digits
a_wrong_item = refl
