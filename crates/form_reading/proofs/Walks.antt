-- What visits that note only values of one shape find in texts, nulls, and objects of them.
use Rattle.std.proofs.Common.{◌≡◌, ℕ, ◌+◌, ◌==◌, Bool, true, false, List, [], ◌∷◌, ◌++◌, Option, Some, None, if◌then◌else◌, refl, sym, ap, ◌∙◌, arith}
use Rattle.std.specs.Prelude.{flat_map}
use Rattle.std.specs.List.{enumerate_from}
use Rattle.std.specs.Option.{option_map_or}
use Rattle.std.proofs.lemmas.Bool.Decides.{nat_tests}
use Rattle.json_exact.specs.declared.json.Json.{Json, out-Json, Null, Flag, Number, Huge, Text, List', Object', Row_of-Member}
use Rattle.json_exact.specs.declared.json.Json.{end_of-Member, more_of-Member, items-the_row-Member, items_shown-the_row-Member-1}
use Rattle.json_exact.specs.declared.json.Json.TheVariants.{outs-Null, outs-Flag, outs-Number, outs-Huge, outs-Text, outs-List', outs-Object'}
use Rattle.json_exact.specs.declared.json.Json.TheOpen as level
use Rattle.json_exact.specs.declared.json.Member.{Member}
use Rattle.spec_schema.specs.declared.form.Form.{Form}
use Rattle.spec_schema.specs.declared.form.Form.TheVariants as form
use Rattle.spec_schema.specs.declared.layout.Layout.{Layout}
use Rattle.spec_schema.specs.Values.{Opened}
use Rattle.spec_schema.specs.Layouts.{shape_in}
use Rattle.spec_schema.specs.Forms.{taken_form, items_shape, layout_of}
use Rattle.spec_schema.specs.Faults.{members_of}
use Rattle.spec_walk.specs.Walk.{Visiting, Seen, seen_in, seen_items, seen_row, seen_members, where_formed, list_parts, object_parts, member_parts}
use Rattle.vl_schema.specs.Schema.{vl_schema}
use Rattle.vl_schema.specs.declared.codes.TheConstants.{DATA, ENCODING, FREE, PARAMETERS, TOP, X_CHANNEL, Y_CHANNEL}
use Rattle.vl_building.specs.declared.gather.Around.{Around}
use Rattle.vl_building.specs.declared.data.DataAt.{DataAt}
use Rattle.vl_building.specs.declared.data.ParamAt.{ParamAt}
use Rattle.vl_building.specs.Gather.{Trail, noted, place_of, items_of, params_in, data_seen, params_seen}
use Rattle.vl_building.specs.Sources.{data_at}
use Rattle.tree_readers.specs.Parts.{members_of as members_in}
use Rattle.form_reading.proofs.Tables.{HasLayout, taken_free, null_no_data, text_no_data, null_no_parameters, text_no_parameters}

-- visits that find nothing but at values of one shape, which no text and no null has
pub record Notes {P : Type 0} (visit : Visiting Around P) : Type 0 where
  pub shape : ℕ
  pub nothing : (number other : ℕ) (tree : Json) (round : Trail) → (other == shape) ≡ false → visit (noted number other tree ∷ round) tree ≡ []
  pub no_null : taken_form vl_schema shape level.Null ≡ None
  pub no_text : (t : List ℕ) → taken_form vl_schema shape (level.Text t) ≡ None
  pub not_free : (FREE == shape) ≡ false
  pub not_top : (TOP == shape) ≡ false
  pub not_encoding : (ENCODING == shape) ≡ false
  pub not_x : (X_CHANNEL == shape) ≡ false
  pub not_y : (Y_CHANNEL == shape) ≡ false

if_not : {P : Type 0} (b : Bool) (xs : List P) → b ≡ false → (if b then xs else []) ≡ []
if_not b xs e = ap (λ c. if c then xs else []) e

pub data_notes : Notes data_seen
data_notes = record {
  shape = DATA;
  nothing = λ number other tree round e. if_not {P = DataAt} (other == DATA) (data_at (place_of (noted number other tree ∷ round)) (members_in tree) ∷ []) e;
  no_null = null_no_data;
  no_text = text_no_data;
  not_free = refl;
  not_top = refl;
  not_encoding = refl;
  not_x = refl;
  not_y = refl;
}

pub param_notes : Notes params_seen
param_notes = record {
  shape = PARAMETERS;
  nothing = λ number other tree round e. if_not {P = ParamAt} (other == PARAMETERS) (params_in (place_of (noted number other tree ∷ round)) (items_of tree)) e;
  no_null = null_no_parameters;
  no_text = text_no_parameters;
  not_free = refl;
  not_top = refl;
  not_encoding = refl;
  not_x = refl;
  not_y = refl;
}

-- ---- objects

row_seen : {P : Type 0} (visit : Visiting Around P) (n : _) (row : Row_of-Member n)
    → seen_row vl_schema noted visit row ≡ seen_members vl_schema noted visit (items-the_row-Member n row)
row_seen visit n end_of-Member = refl
row_seen {P} visit n (more_of-Member name value others) =
    ap (λ (seen : List (List ℕ × Seen Around P)). (name, seen_in vl_schema noted visit value) ∷ seen) (row_seen visit _ others)

members_are : {o : Opened} {xs ys : List Member} → o ≡ level.Object xs → o ≡ level.Object ys → xs ≡ ys
members_are a b = cc

-- what an object of these members gives
pub object_seen : {P : Type 0} (visit : Visiting Around P) (tree : Json) (members : List Member) (number shape : ℕ) (round : Trail)
    → out-Json tree ≡ level.Object members → seen_in vl_schema noted visit tree number shape round
    ≡ where_formed (taken_form vl_schema shape (level.Object members)) (λ form. visit (noted number shape tree ∷ round) tree
    ++ object_parts (layout_of vl_schema form members) (seen_members vl_schema noted visit members) (noted number shape tree ∷ round))
object_seen visit Null members number shape round e = absurd (let f : out-Json Null ≡ level.Null = outs-Null in cc)
object_seen visit (Flag b) members number shape round e = absurd (let f : out-Json (Flag b) ≡ level.Flag b = outs-Flag b in cc)
object_seen visit (Number n) members number shape round e = absurd (let f : out-Json (Number n) ≡ level.Number n = outs-Number n in cc)
object_seen visit Huge members number shape round e = absurd (let f : out-Json Huge ≡ level.Huge = outs-Huge in cc)
object_seen visit (Text t) members number shape round e = absurd (let f : out-Json (Text t) ≡ level.Text t = outs-Text t in cc)
object_seen visit (List' size row) members number shape round e = absurd (let f = outs-List' size row in cc)
object_seen {P} visit (Object' size row) members number shape round e =
    let same : items-the_row-Member _ row ≡ members = sym (items_shown-the_row-Member-1 size row) ∙ members_are (outs-Object' size row) e in
    let known : seen_row vl_schema noted visit row ≡ seen_members vl_schema noted visit members =
    row_seen visit _ row ∙ ap (seen_members vl_schema noted visit) same in
    λ i. where_formed {P = P} (taken_form vl_schema shape (e i)) (λ form. visit (noted number shape (Object' size row) ∷ round) (Object' size row)
    ++ object_parts (layout_of vl_schema form (members_of (e i))) (known i) (noted number shape (Object' size row) ∷ round))

-- an object that has a layout
pub laid_seen : {P : Type 0} (visit : Visiting Around P) (tree : Json) (members : List Member) (number object : ℕ) (layout : Layout) (round : Trail)
    → out-Json tree ≡ level.Object members → HasLayout object members layout → seen_in vl_schema noted visit tree number object round
    ≡ visit (noted number object tree ∷ round) tree
    ++ flat_map (member_parts layout (noted number object tree ∷ round)) (enumerate_from 0 (seen_members vl_schema noted visit members))
laid_seen {P} visit tree members number object layout round is has =
    object_seen visit tree members number object round is
    ∙ ap (λ taken. where_formed {P = P} taken (λ form. visit (noted number object tree ∷ round) tree
    ++ object_parts (layout_of vl_schema form members) (seen_members vl_schema noted visit members) (noted number object tree ∷ round))) has.taken
    ∙ ap (λ laid. visit (noted number object tree ∷ round) tree
    ++ object_parts laid (seen_members vl_schema noted visit members) (noted number object tree ∷ round)) has.laid

-- a member by the shape that its name has
pub part_known : {P : Type 0} (layout : Layout) (trail : Trail) (number : ℕ) (name : List ℕ) (seen : Seen Around P) (shape : ℕ) (given : List P)
    → shape_in layout name ≡ Some shape → seen number shape trail ≡ given → member_parts layout trail (number, (name, seen)) ≡ given
part_known layout trail number name seen shape given shaped is = ap (λ s. option_map_or (λ here. seen number here trail) s []) shaped ∙ is

-- ---- texts and nulls

-- a text or null
abbrev pub IsLeaf : Opened → Type 0
IsLeaf level.Null = Unit {0}
IsLeaf (level.Flag b) = ⊥
IsLeaf (level.Number n) = ⊥
IsLeaf level.Huge = ⊥
IsLeaf (level.Text t) = Unit {0}
IsLeaf (level.List items) = ⊥
IsLeaf (level.Object members) = ⊥

-- each value is a text or null
abbrev pub Leaves : List Member → Type 0
Leaves [] = Unit {0}
Leaves (m ∷ members) = IsLeaf (out-Json m.value) × Leaves members

none_formed : {P : Type 0} (taken : Option Form) → where_formed {P = P} taken (λ form. [] ++ []) ≡ []
none_formed None = refl
none_formed (Some form) = refl

-- what gives nothing but at a shape that it hasn't
unformed : {P : Type 0} (shape own : ℕ) (o : Opened) (given : List P) → ((shape == own) ≡ false → given ≡ []) → taken_form vl_schema own o ≡ None
    → where_formed (taken_form vl_schema shape o) (λ form. given ++ []) ≡ []
unformed {P} shape own o given nothing never = by_test (shape == own) refl
  where
    by_test : (b : Bool) → (shape == own) ≡ b → where_formed (taken_form vl_schema shape o) (λ form. given ++ []) ≡ []
    by_test true e =
        let same : shape ≡ own = grind (arith, nat_tests) in
        ap (λ s. where_formed {P = P} (taken_form vl_schema s o) (λ form. given ++ [])) same
        ∙ ap (λ taken. where_formed {P = P} taken (λ form. given ++ [])) never
    by_test false e = ap (λ g. where_formed {P = P} (taken_form vl_schema shape o) (λ form. g ++ [])) (nothing e) ∙ none_formed (taken_form vl_schema shape o)

module _ {P : Type 0} (visit : Visiting Around P) (notes : Notes visit) where
  pub leaf_seen : (tree : Json) (number shape : ℕ) (round : Trail) → IsLeaf (out-Json tree) → seen_in vl_schema noted visit tree number shape round ≡ []
  unfolding out-Json denote.Hole.Carrier.out
  leaf_seen Null number shape round leaf =
      unformed shape notes.shape level.Null (visit (noted number shape Null ∷ round) Null) (notes.nothing number shape Null round) notes.no_null
  leaf_seen (Flag b) number shape round leaf = absurd leaf
  leaf_seen (Number n) number shape round leaf = absurd leaf
  leaf_seen Huge number shape round leaf = absurd leaf
  leaf_seen (Text t) number shape round leaf =
      unformed shape notes.shape (level.Text t) (visit (noted number shape (Text t) ∷ round) (Text t))
      (notes.nothing number shape (Text t) round) (notes.no_text t)
  leaf_seen (List' size row) number shape round leaf = absurd leaf
  leaf_seen (Object' size row) number shape round leaf = absurd leaf

  -- ---- any value of the shape that is free

  by_free : (o : Opened) (given : List P) (inside : Form → List P) → given ≡ [] → inside form.Free ≡ []
      → where_formed (taken_form vl_schema FREE o) (λ form. given ++ inside form) ≡ []
  by_free o given inside none nothing = ap (λ taken. where_formed {P = P} taken (λ form. given ++ inside form)) (taken_free o) ∙ (λ i. none i ++ nothing i)

  pub free_seen : (tree : Json) (number : ℕ) (round : Trail) → seen_in vl_schema noted visit tree number FREE round ≡ []
  free_seen Null number round =
      by_free (out-Json Null) (visit (noted number FREE Null ∷ round) Null) (λ form. []) (notes.nothing number FREE Null round notes.not_free) refl
  free_seen (Flag b) number round = by_free (out-Json (Flag b)) (visit (noted number FREE (Flag b) ∷ round) (Flag b))
      (λ form. []) (notes.nothing number FREE (Flag b) round notes.not_free) refl
  free_seen (Number n) number round = by_free (out-Json (Number n)) (visit (noted number FREE (Number n) ∷ round) (Number n))
      (λ form. []) (notes.nothing number FREE (Number n) round notes.not_free) refl
  free_seen Huge number round =
      by_free (out-Json Huge) (visit (noted number FREE Huge ∷ round) Huge) (λ form. []) (notes.nothing number FREE Huge round notes.not_free) refl
  free_seen (Text t) number round = by_free (out-Json (Text t)) (visit (noted number FREE (Text t) ∷ round) (Text t))
      (λ form. []) (notes.nothing number FREE (Text t) round notes.not_free) refl
  free_seen (List' size row) number round =
      by_free (out-Json (List' size row)) (visit (noted number FREE (List' size row) ∷ round) (List' size row))
      (λ form. list_parts (items_shape form) (seen_items vl_schema noted visit row) (noted number FREE (List' size row) ∷ round))
      (notes.nothing number FREE (List' size row) round notes.not_free) refl
  free_seen (Object' size row) number round =
      by_free (out-Json (Object' size row)) (visit (noted number FREE (Object' size row) ∷ round) (Object' size row))
      (λ form. object_parts (layout_of vl_schema form (members_of (out-Json (Object' size row))))
      (seen_row vl_schema noted visit row) (noted number FREE (Object' size row) ∷ round))
      (notes.nothing number FREE (Object' size row) round notes.not_free) refl

  -- ---- an object of texts and nulls

  by_shape : (shape : Option ℕ) (seen : Seen Around P) (number : ℕ) (trail : Trail) → ((s : ℕ) → seen number s trail ≡ [])
      → option_map_or (λ s. seen number s trail) shape [] ≡ []
  by_shape None seen number trail none = refl
  by_shape (Some s) seen number trail none = none s

  no_parts : (layout : Layout) (trail : Trail) (n : ℕ) (members : List Member) → Leaves members
      → flat_map (member_parts layout trail) (enumerate_from n (seen_members vl_schema noted visit members)) ≡ []
  no_parts layout trail n [] leaves = refl
  no_parts layout trail n (m ∷ members) leaves =
      let here : member_parts layout trail (n, (m.name, seen_in vl_schema noted visit m.value)) ≡ [] =
      by_shape (shape_in layout m.name) (seen_in vl_schema noted visit m.value) n trail (λ s. leaf_seen m.value n s trail leaves.0) in
      λ i. here i ++ no_parts layout trail (n + 1) members leaves.1 i

  no_object_parts : (layout : Option Layout) (trail : Trail) (members : List Member) → Leaves members
      → object_parts layout (seen_members vl_schema noted visit members) trail ≡ []
  no_object_parts None trail members leaves = refl
  no_object_parts (Some layout) trail members leaves = no_parts layout trail 0 members leaves

  no_inside : (taken : Option Form) (given : List P) (trail : Trail) (members : List Member) → given ≡ [] → Leaves members
      → where_formed taken (λ form. given ++ object_parts (layout_of vl_schema form members) (seen_members vl_schema noted visit members) trail) ≡ []
  no_inside None given trail members none leaves = refl
  no_inside (Some form) given trail members none leaves = λ i. none i ++ no_object_parts (layout_of vl_schema form members) trail members leaves i

  pub plain_object_seen : (tree : Json) (members : List Member) (number shape : ℕ) (round : Trail) → out-Json tree ≡ level.Object members
      → Leaves members → (shape == notes.shape) ≡ false → seen_in vl_schema noted visit tree number shape round ≡ []
  plain_object_seen tree members number shape round is leaves apart =
      object_seen visit tree members number shape round is
      ∙ no_inside (taken_form vl_schema shape (level.Object members)) (visit (noted number shape tree ∷ round) tree) (noted number shape tree ∷ round) members
      (notes.nothing number shape tree round apart) leaves
