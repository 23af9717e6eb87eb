-- What stands in a specification without faults.
use Rattle.std.proofs.Common.{◌≡◌, ℕ, ◌+◌, List, [], ◌∷◌, ◌++◌, map, flat_map, length, refl, sym, ap, subst, ◌∙◌}
use Rattle.std.specs.Prelude.{Option, Some, None, Bool, true, false, if◌then◌else◌}
use Rattle.std.specs.Option.{option_map_or}
use Rattle.std.specs.List.{enumerate_from}
use Rattle.std.specs.Fmt.{decimal}
use Rattle.json_exact.specs.declared.json.Json.{Json, Json-F, out-Json, Null, Flag, Number, Huge, Text, List', Object'}
use Rattle.json_exact.specs.declared.json.Json.TheOpen as level
use Rattle.json_exact.specs.declared.json.Json.TheVariants as json
use Rattle.json_exact.specs.declared.json.Member.{Member}
use Rattle.spec_schema.specs.declared.fault.Fault.{Fault}
use Rattle.spec_schema.specs.declared.form.Form.{Form}
use Rattle.spec_schema.specs.declared.layout.Layout.{Layout}
use Rattle.spec_schema.specs.declared.layout.Rule.{Rule}
use Rattle.spec_schema.specs.Layouts.{shape_in}
use Rattle.spec_schema.specs.Forms.{taken_form, items_shape, layout_of}
use Rattle.spec_schema.specs.declared.spec_error.SpecKind.TheVariants.{Missing}
use Rattle.spec_schema.specs.Faults.{Judged, faults_in, unless_wrong, list_faults, object_faults, item_faults, member_faults, faults_by}
use Rattle.spec_schema.specs.Faults.{below, here, missing_faults, missing_fault, is_missing, judged_members, members_of}
use Rattle.spec_walk.specs.Walk.{Seen, seen_in, seen_members, where_formed, list_parts, object_parts, member_parts}
use Rattle.spec_walk.specs.inner.Inside.{inside}
use Rattle.vega_schema.specs.Schema.{vega_schema}
use Rattle.vega_parts.specs.declared.part.Part.{Part}
use Rattle.vega_parts.specs.declared.around.Around.{Around}
use Rattle.vega_parts.specs.Trails.{Trail, noted}
use Rattle.vega_parts.specs.Parts.{parts_at}
use Rattle.vega_rules.specs.Faults.{shown_by}
use Rattle.vega_rules.specs.Rules.{shown}
use Rattle.vega_standing.specs.OwnNames.{AreOwn, HasOwnNames}
use Rattle.vega_standing.proofs.Trees.{Each, list_of, object_of, opened_list, opened_object, items_own, members_own, values_of_own}
use Rattle.vega_standing.proofs.Judged.{faults_in-List, faults_in-Object}
use Rattle.vega_standing.proofs.Walked.{opened, inside-List, inside-Object}

-- P holds of each with its number, counted from a number on
abbrev pub EachFrom : {X : Type 0} → (ℕ → X → Type 0) → ℕ → List X → Type 0
EachFrom P n [] = Unit {0}
EachFrom P n (x ∷ xs) = P n x × EachFrom P (n + 1) xs

-- the parts that a value gives with what stands in it, by the values round it, its number and its shape
abbrev pub parts_in : Trail → ℕ → ℕ → Json → List Part
parts_in round number shape tree = seen_in vega_schema noted parts_at tree number shape round

-- a value stands in a specification that breaks no rule: it has no fault by the table of members, nothing in it shows a fault, and no
-- object in it has a name twice
pub record Stands (round : Trail) (number shape : ℕ) (tree : Json) : Type 0 where
  pub fine : faults_in vega_schema tree shape ≡ []
  pub quiet : shown (parts_in round number shape tree) ≡ []
  pub own : HasOwnNames tree

-- a member of an object stands in it by a rule of the layout
abbrev pub StandsMember : Trail → Layout → ℕ → Member → Type 0
StandsMember trail layout number m = (shape : ℕ) × (shape_in layout m.name ≡ Some shape) × Stands trail number shape m.value

-- an object stands in it, with the members of a layout
pub record StandsObject (trail : Trail) (layout : Layout) (members : List Member) : Type 0 where
  pub own : AreOwn members
  pub each : EachFrom (StandsMember trail layout) 0 members
  pub there : Each (λ rule. is_missing (map (λ (m : List ℕ × Judged). m.0) (judged_members vega_schema members)) rule ≡ false) layout.rules

-- ---- empty lists

none_of : {X : Type 0} (xs ys : List X) → xs ++ ys ≡ [] → (xs ≡ []) × (ys ≡ [])
none_of [] ys e = (refl, e)
none_of (x ∷ xs) ys e = absurd cc

none_mapped : {X Y : Type 0} (f : X → Y) (xs : List X) → map f xs ≡ [] → xs ≡ []
none_mapped f [] e = refl
none_mapped f (x ∷ xs) e = absurd cc

joined : {X : Type 0} (xs ys : List X) → xs ≡ [] → ys ≡ [] → xs ++ ys ≡ []
joined xs ys a b = rw (a, b) refl

pub quiet_parts : (xs ys : List Part) → shown (xs ++ ys) ≡ [] → (shown xs ≡ []) × (shown ys ≡ [])
quiet_parts [] ys e = (refl, e)
quiet_parts (x ∷ xs) ys e =
    let parts : (shown_by x ≡ []) × (shown (xs ++ ys) ≡ []) = none_of (shown_by x) (shown (xs ++ ys)) e in
    let rest : (shown xs ≡ []) × (shown ys ≡ []) = quiet_parts xs ys parts.1 in
    (joined (shown_by x) (shown xs) parts.0 rest.0, rest.1)

-- ---- the form of a value

formed_by : (o : Option Form) (inside : Form → List Fault) → unless_wrong o inside ≡ [] → (form : Form) × (o ≡ Some form)
formed_by None inside e = absurd cc
formed_by (Some form) inside e = (form, refl)

-- a value without faults has a form of its shape
pub formed : (shape : ℕ) (tree : Json) → faults_in vega_schema tree shape ≡ [] → (form : Form) × (taken_form vega_schema shape (out-Json tree) ≡ Some form)
formed shape Null e = formed_by _ _ e
formed shape (Flag b) e = formed_by _ _ e
formed shape (Number n) e = formed_by _ _ e
formed shape Huge e = formed_by _ _ e
formed shape (Text t) e = formed_by _ _ e
formed shape (List' size items) e = formed_by _ _ e
formed shape (Object' size members) e = formed_by _ _ e

-- what its own visit gives shows no fault, nor what stands in it
pub visited : (round : Trail) (number shape : ℕ) (tree : Json) (form : Form) → taken_form vega_schema shape (out-Json tree) ≡ Some form →
    shown (parts_in round number shape tree) ≡ [] →
    (shown (parts_at (noted number shape tree ∷ round) tree) ≡ [])
    × (shown (inside vega_schema noted parts_at tree form (noted number shape tree ∷ round)) ≡ [])
visited round number shape tree form taken quiet =
    let whole : parts_in round number shape tree ≡ parts_at (noted number shape tree ∷ round) tree
    ++ inside vega_schema noted parts_at tree form (noted number shape tree ∷ round) =
    opened vega_schema noted parts_at tree number shape round
    ∙ ap (λ o. where_formed o (λ (f : Form). parts_at (noted number shape tree ∷ round) tree
    ++ inside vega_schema noted parts_at tree f (noted number shape tree ∷ round))) taken in
    quiet_parts (parts_at (noted number shape tree ∷ round) tree) (inside vega_schema noted parts_at tree form (noted number shape tree ∷ round))
    (ap shown (sym whole) ∙ quiet)

pub quiet_here : (round : Trail) (number shape : ℕ) (tree : Json) → Stands round number shape tree →
    shown (parts_at (noted number shape tree ∷ round) tree) ≡ []
quiet_here round number shape tree s =
    let form : (form : Form) × (taken_form vega_schema shape (out-Json tree) ≡ Some form) = formed shape tree s.fine in
    (visited round number shape tree form.0 form.1 s.quiet).0

-- ---- lists

items_stand : (trail : Trail) (inner n : ℕ) (items : List Json) →
    flat_map (item_faults inner) (enumerate_from n (map (faults_in vega_schema) items)) ≡ [] →
    shown (flat_map (λ (item : ℕ × Seen Around Part). item.1 item.0 inner trail) (enumerate_from n (map (seen_in vega_schema noted parts_at) items))) ≡ [] →
    Each HasOwnNames items → EachFrom (λ i item. Stands trail i inner item) n items
items_stand trail inner n [] fine quiet own = tt
items_stand trail inner n (item ∷ items) fine quiet own =
    let faults = none_of (map (below n (decimal n)) (faults_in vega_schema item inner))
    (flat_map (item_faults inner) (enumerate_from (n + 1) (map (faults_in vega_schema) items))) fine in
    let parts = quiet_parts (parts_in trail n inner item) (flat_map (λ (item : ℕ × Seen Around Part). item.1 item.0 inner trail)
    (enumerate_from (n + 1) (map (seen_in vega_schema noted parts_at) items))) quiet in (
      record { fine = none_mapped (below n (decimal n)) (faults_in vega_schema item inner) faults.0; quiet = parts.0; own = own.0 },
      items_stand trail inner (n + 1) items faults.1 parts.1 own.1,
    )

-- the items of a list stand in it
pub list_stands : (round : Trail) (number shape : ℕ) (tree : Json) (items : List Json) (form : Form) (inner : ℕ) →
    Stands round number shape tree → out-Json tree ≡ level.List items → taken_form vega_schema shape (level.List items) ≡ Some form →
    items_shape form ≡ Some inner → EachFrom (λ i item. Stands (noted number shape tree ∷ round) i inner item) 0 items
list_stands round number shape tree items form inner s is taken asks =
    let same : tree ≡ json.List items = list_of tree items is in
    let known : taken_form vega_schema shape (out-Json tree) ≡ Some form = ap (taken_form vega_schema shape) is ∙ taken in
    let again : taken_form vega_schema shape (out-Json (json.List items)) ≡ Some form = ap (taken_form vega_schema shape) (opened_list items) ∙ taken in
    let fine : list_faults (Some inner) (map (faults_in vega_schema) items) ≡ [] =
    ap (λ o. list_faults o (map (faults_in vega_schema) items)) (sym asks)
    ∙ sym (faults_in-List vega_schema items shape ∙ ap (λ o. unless_wrong o (λ form. list_faults (items_shape form) (map (faults_in vega_schema) items))) again)
    ∙ ap (λ t. faults_in vega_schema t shape) (sym same) ∙ s.fine in
    let within : inside vega_schema noted parts_at tree form (noted number shape tree ∷ round)
    ≡ list_parts (Some inner) (map (seen_in vega_schema noted parts_at) items) (noted number shape tree ∷ round) =
    ap (λ t. inside vega_schema noted parts_at t form (noted number shape tree ∷ round)) same
    ∙ inside-List vega_schema noted parts_at items form (noted number shape tree ∷ round)
    ∙ ap (λ o. list_parts o (map (seen_in vega_schema noted parts_at) items) (noted number shape tree ∷ round)) asks in
    let quiet = ap shown (sym within) ∙ (visited round number shape tree form known s.quiet).1 in
    items_stand (noted number shape tree ∷ round) inner 0 items fine quiet (items_own tree items is s.own)

-- ---- objects

member_stands : (trail : Trail) (layout : Layout) (n : ℕ) (m : Member) (o : Option ℕ) → shape_in layout m.name ≡ o →
    map (below n m.name) (faults_by o (faults_in vega_schema m.value)) ≡ [] →
    shown (option_map_or (λ shape. parts_in trail n shape m.value) o []) ≡ [] → HasOwnNames m.value → StandsMember trail layout n m
member_stands trail layout n m None e fine quiet own = absurd cc
member_stands trail layout n m (Some shape) e fine quiet own =
    (shape, e, record { fine = none_mapped (below n m.name) (faults_in vega_schema m.value shape) fine; quiet = quiet; own = own })

members_stand : (trail : Trail) (layout : Layout) (n : ℕ) (members : List Member) →
    flat_map (member_faults layout) (enumerate_from n (judged_members vega_schema members)) ≡ [] →
    shown (flat_map (member_parts layout trail) (enumerate_from n (seen_members vega_schema noted parts_at members))) ≡ [] →
    Each (λ (m : Member). HasOwnNames m.value) members → EachFrom (StandsMember trail layout) n members
members_stand trail layout n [] fine quiet own = tt
members_stand trail layout n (m ∷ ms) fine quiet own =
    let faults = none_of (member_faults layout (n, (m.name, faults_in vega_schema m.value)))
    (flat_map (member_faults layout) (enumerate_from (n + 1) (judged_members vega_schema ms))) fine in
    let parts = quiet_parts (member_parts layout trail (n, (m.name, seen_in vega_schema noted parts_at m.value)))
    (flat_map (member_parts layout trail) (enumerate_from (n + 1) (seen_members vega_schema noted parts_at ms))) quiet in
    (member_stands trail layout n m (shape_in layout m.name) refl faults.0 parts.0 own.0, members_stand trail layout (n + 1) ms faults.1 parts.1 own.1)

one_there : (names : List (List ℕ)) (n : ℕ) (rule : Rule) (b : Bool) →
    is_missing names rule ≡ b → missing_fault names (n, rule) ≡ [] → is_missing names rule ≡ false
one_there names n rule false e none = e
one_there names n rule true e none =
    let P : Bool → Type 0 = λ m. (if m then below n rule.name (here Missing) ∷ [] else []) ≡ [] in
    absurd (let f : below n rule.name (here Missing) ∷ [] ≡ [] = subst P e none in cc)

rules_there : (names : List (List ℕ)) (n : ℕ) (rules : List Rule) → flat_map (missing_fault names) (enumerate_from n rules) ≡ [] →
    Each (λ rule. is_missing names rule ≡ false) rules
rules_there names n [] none = tt
rules_there names n (rule ∷ rules) none =
    let parts = none_of (missing_fault names (n, rule)) (flat_map (missing_fault names) (enumerate_from (n + 1) rules)) none in
    (one_there names n rule (is_missing names rule) refl parts.0, rules_there names (n + 1) rules parts.1)

-- the members of an object stand in it
pub object_stands : (round : Trail) (number shape : ℕ) (tree : Json) (members : List Member) (form : Form) (layout : Layout) →
    Stands round number shape tree → out-Json tree ≡ level.Object members → taken_form vega_schema shape (level.Object members) ≡ Some form →
    layout_of vega_schema form members ≡ Some layout → StandsObject (noted number shape tree ∷ round) layout members
object_stands round number shape tree members form layout s is taken laid =
    let trail : Trail = noted number shape tree ∷ round in
    let same : tree ≡ json.Object members = object_of tree members is in
    let known : taken_form vega_schema shape (out-Json tree) ≡ Some form = ap (taken_form vega_schema shape) is ∙ taken in
    let again : taken_form vega_schema shape (out-Json (json.Object members)) ≡ Some form = ap (taken_form vega_schema shape) (opened_object members) ∙ taken in
    let fine : object_faults (Some layout) (judged_members vega_schema members) ≡ [] =
    ap (λ o. object_faults o (judged_members vega_schema members)) (sym laid)
    ∙ ap (λ (o : Json-F Json Member). object_faults (layout_of vega_schema form (members_of o)) (judged_members vega_schema members))
    (sym (opened_object members))
    ∙ sym (faults_in-Object vega_schema members shape ∙ ap (λ o. unless_wrong o
    (λ form. object_faults (layout_of vega_schema form (members_of (out-Json (json.Object members)))) (judged_members vega_schema members))) again)
    ∙ ap (λ t. faults_in vega_schema t shape) (sym same) ∙ s.fine in
    let within : inside vega_schema noted parts_at tree form trail
    ≡ object_parts (Some layout) (seen_members vega_schema noted parts_at members) trail =
    ap (λ t. inside vega_schema noted parts_at t form trail) same
    ∙ inside-Object vega_schema noted parts_at members form trail
    ∙ ap (λ o. object_parts o (seen_members vega_schema noted parts_at members) trail) laid in
    let quiet = ap shown (sym within) ∙ (visited round number shape tree form known s.quiet).1 in
    let faults = none_of (flat_map (member_faults layout) (enumerate_from 0 (judged_members vega_schema members)))
    (missing_faults layout (map (λ (m : List ℕ × Judged). m.0) (judged_members vega_schema members))) fine in
    record {
      own = members_own tree members is s.own;
      each = members_stand trail layout 0 members faults.0 quiet (values_of_own tree members is s.own);
      there = rules_there (map (λ (m : List ℕ × Judged). m.0) (judged_members vega_schema members))
          (length (map (λ (m : List ℕ × Judged). m.0) (judged_members vega_schema members))) layout.rules faults.1;
    }

-- ---- the parts of a list and of an object

pub parts_open : (round : Trail) (number shape : ℕ) (tree : Json) (form : Form) → taken_form vega_schema shape (out-Json tree) ≡ Some form →
    parts_in round number shape tree
    ≡ parts_at (noted number shape tree ∷ round) tree ++ inside vega_schema noted parts_at tree form (noted number shape tree ∷ round)
parts_open round number shape tree form taken =
    opened vega_schema noted parts_at tree number shape round
    ∙ ap (λ o. where_formed o (λ (f : Form). parts_at (noted number shape tree ∷ round) tree
    ++ inside vega_schema noted parts_at tree f (noted number shape tree ∷ round))) taken

-- the parts of the items of a list, counted from a number on
abbrev pub parts_of_items : Trail → ℕ → ℕ → List Json → List Part
parts_of_items trail inner n items =
    flat_map (λ (item : ℕ × Seen Around Part). item.1 item.0 inner trail) (enumerate_from n (map (seen_in vega_schema noted parts_at) items))

-- the parts of the members of an object
abbrev pub parts_of_members : Trail → Layout → ℕ → List Member → List Part
parts_of_members trail layout n members = flat_map (member_parts layout trail) (enumerate_from n (seen_members vega_schema noted parts_at members))

pub list_parts_are : (round : Trail) (number shape : ℕ) (tree : Json) (items : List Json) (form : Form) (inner : ℕ) →
    out-Json tree ≡ level.List items → taken_form vega_schema shape (level.List items) ≡ Some form → items_shape form ≡ Some inner →
    parts_in round number shape tree ≡ parts_at (noted number shape tree ∷ round) tree ++ parts_of_items (noted number shape tree ∷ round) inner 0 items
list_parts_are round number shape tree items form inner is taken asks =
    parts_open round number shape tree form (ap (taken_form vega_schema shape) is ∙ taken)
    ∙ ap (λ ps. parts_at (noted number shape tree ∷ round) tree ++ ps)
    (ap (λ t. inside vega_schema noted parts_at t form (noted number shape tree ∷ round)) (list_of tree items is)
    ∙ inside-List vega_schema noted parts_at items form (noted number shape tree ∷ round)
    ∙ ap (λ o. list_parts o (map (seen_in vega_schema noted parts_at) items) (noted number shape tree ∷ round)) asks)

pub object_parts_are : (round : Trail) (number shape : ℕ) (tree : Json) (members : List Member) (form : Form) (layout : Layout) →
    out-Json tree ≡ level.Object members → taken_form vega_schema shape (level.Object members) ≡ Some form → layout_of vega_schema form members ≡ Some layout →
    parts_in round number shape tree ≡ parts_at (noted number shape tree ∷ round) tree ++ parts_of_members (noted number shape tree ∷ round) layout 0 members
object_parts_are round number shape tree members form layout is taken laid =
    parts_open round number shape tree form (ap (taken_form vega_schema shape) is ∙ taken)
    ∙ ap (λ ps. parts_at (noted number shape tree ∷ round) tree ++ ps)
    (ap (λ t. inside vega_schema noted parts_at t form (noted number shape tree ∷ round)) (object_of tree members is)
    ∙ inside-Object vega_schema noted parts_at members form (noted number shape tree ∷ round)
    ∙ ap (λ o. object_parts o (seen_members vega_schema noted parts_at members) (noted number shape tree ∷ round)) laid)
