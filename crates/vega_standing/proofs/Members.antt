-- The members of an object that stands in a specification without faults.
use Rattle.std.proofs.Common.{◌≡◌, ℕ, ◌+◌, List, [], ◌∷◌, ◌++◌, map, find, cond, refl, sym, ap, subst, ◌∙◌, ◌⊎◌, inl, inr}
use Rattle.std.specs.Prelude.{Option, Some, None, Bool, true, false, not, ◌&&◌, ◌||◌, IfSome, bytes_eq, unwrap_or}
use Rattle.std.specs.Option.{option_map, option_and_then, is_some}
use Rattle.std.specs.List.{list_any, All}
use Rattle.std.proofs.lemmas.Slice.Eq.{bytes_eq-Decides}
use Rattle.std.proofs.lemmas.List.Elements.{All-cons, All-nil}
use Rattle.json_exact.specs.declared.json.Json.{Json, out-Json}
use Rattle.json_exact.specs.declared.json.Json.TheOpen as level
use Rattle.json_exact.specs.declared.json.Member.{Member}
use Rattle.json_exact.specs.Inside.{text_in, items_in}
use Rattle.json_exact.specs.Path.{member_value}
use Rattle.spec_schema.specs.declared.form.Form.{Form}
use Rattle.spec_schema.specs.declared.form.Form.TheVariants as form
use Rattle.spec_schema.specs.declared.layout.Layout.{Layout}
use Rattle.spec_schema.specs.declared.layout.Rule.{Rule}
use Rattle.spec_schema.specs.Values.{Opened, text_passes, object_passes, among}
use Rattle.spec_schema.specs.Layouts.{shape_in, rule_in, has_name, says, layout_in}
use Rattle.spec_schema.specs.Forms.{taken_form, items_shape, layout_of}
use Rattle.spec_schema.specs.Faults.{Judged, is_missing, judged_members}
use Rattle.vega_schema.specs.Schema.{vega_schema}
use Rattle.vega_parts.specs.Trails.{Trail, noted}
use Rattle.vega_building.specs.Parts.{found_at, list_at, text_at}
use Rattle.vega_standing.specs.OwnNames.{AreOwn}
use Rattle.vega_standing.proofs.Trees.{Each}
use Rattle.vega_parts.specs.Parts.{parts_at}
use Rattle.vega_standing.proofs.Stands.{EachFrom, Stands, StandsMember, StandsObject, formed, list_stands, object_stands, parts_in}
use Rattle.vega_standing.proofs.Stands.{parts_of_members, object_parts_are}

-- ---- the member that a name leads to

pub record Found (trail : Trail) (layout : Layout) (name : List ℕ) (v : Json) : Type 0 where
  pub number : ℕ
  pub shape : ℕ
  pub ruled : shape_in layout name ≡ Some shape
  pub stands : Stands trail number shape v

found_here : (trail : Trail) (layout : Layout) (n : ℕ) (m : Member) (ms : List Member) (name : List ℕ) (v : Json) (b : Bool) →
    bytes_eq m.name name ≡ b → StandsMember trail layout n m →
    option_map (λ (m : Member). m.value) (cond b (Some m) (find (λ (m : Member). bytes_eq m.name name) ms)) ≡ Some v →
    (member_value ms name ≡ Some v → Found trail layout name v) → Found trail layout name v
found_here trail layout n m ms name v true same stands is rest =
    let named : m.name ≡ name = (bytes_eq-Decides m.name name).0 same in
    let valued : m.value ≡ v = cc in
    record { number = n; shape = stands.0; ruled = ap (shape_in layout) (sym named) ∙ stands.1; stands = subst (Stands trail n stands.0) valued stands.2 }
found_here trail layout n m ms name v false same stands is rest = rest is

found_from : (trail : Trail) (layout : Layout) (n : ℕ) (ms : List Member) (name : List ℕ) (v : Json) →
    EachFrom (StandsMember trail layout) n ms → member_value ms name ≡ Some v → Found trail layout name v
found_from trail layout n [] name v each is = absurd cc
found_from trail layout n (m ∷ ms) name v each is =
    found_here trail layout n m ms name v (bytes_eq m.name name) refl each.0 is (found_from trail layout (n + 1) ms name v each.1)

-- it stands in the object by the rule of the name
pub found : (trail : Trail) (layout : Layout) (ms : List Member) (name : List ℕ) (v : Json) →
    StandsObject trail layout ms → member_value ms name ≡ Some v → Found trail layout name v
found trail layout ms name v s is = found_from trail layout 0 ms name v s.each is

pub found_as : (trail : Trail) (layout : Layout) (ms : List Member) (name : List ℕ) (v : Json) (shape : ℕ) →
    StandsObject trail layout ms → shape_in layout name ≡ Some shape → member_value ms name ≡ Some v → (i : ℕ) × Stands trail i shape v
found_as trail layout ms name v shape s ruled is =
    let here : Found trail layout name v = found trail layout ms name v s is in
    let same : here.shape ≡ shape = let e = here.ruled in cc in
    (here.number, subst (λ c. Stands trail here.number c v) same here.stands)

-- a name without a rule leads to nothing
pub unruled : (trail : Trail) (layout : Layout) (ms : List Member) (name : List ℕ) →
    StandsObject trail layout ms → shape_in layout name ≡ None → (o : Option Json) → member_value ms name ≡ o → o ≡ None
unruled trail layout ms name s none None e = refl
unruled trail layout ms name s none (Some v) e =
    let here : Found trail layout name v = found trail layout ms name v s e in
    absurd (let f = here.ruled in cc)

-- what is read under a name keeps what values of the shape keep
pub reads_kept : {A : Type 0} (P : A → Type 0) (reading : Opened → Option A) (trail : Trail) (layout : Layout) (ms : List Member) (name : List ℕ)
    (shape : ℕ) → StandsObject trail layout ms → shape_in layout name ≡ Some shape →
    ((i : ℕ) (v : Json) → Stands trail i shape v → IfSome (reading (out-Json v)) P) → IfSome (found_at reading ms name) P
reads_kept {A} P reading trail layout ms name shape s ruled kept = by_value (member_value ms name) refl
  where
    by_value : (o : Option Json) → member_value ms name ≡ o → IfSome (option_and_then (λ tree. reading (out-Json tree)) o) P
    by_value None e = tt
    by_value (Some v) e =
        let here : (i : ℕ) × Stands trail i shape v = found_as trail layout ms name v shape s ruled e in
        kept here.0 v here.1

-- ---- members that have to be there

rule_there : (names : List (List ℕ)) (rules : List Rule) (name : List ℕ) (r : Rule) → Each (λ rule. is_missing names rule ≡ false) rules →
    rule_in rules name ≡ Some r → is_missing names r ≡ false
rule_there names [] name r each is = absurd cc
rule_there names (q ∷ rules) name r each is = by_name (bytes_eq q.name name) is (rule_there names rules name r each.1)
  where
    by_name : (b : Bool) → cond b (Some q) (rule_in rules name) ≡ Some r →
        (rule_in rules name ≡ Some r → is_missing names r ≡ false) → is_missing names r ≡ false
    by_name true e rest = let same : q ≡ r = cc in subst (λ x. is_missing names x ≡ false) same each.0
    by_name false e rest = rest e

not_missing : (required there : Bool) → required ≡ true → (required && not there) ≡ false → there ≡ true
not_missing true true a b = refl
not_missing true false a b = absurd cc
not_missing false there a b = absurd cc

valued_here : (ms : List Member) (name : List ℕ) → list_any (λ n. bytes_eq n name) (map (λ (m : List ℕ × Judged). m.0) (judged_members vega_schema ms)) ≡ true →
    (v : Json) × (member_value ms name ≡ Some v)
valued_here [] name e = absurd cc
valued_here (m ∷ ms) name e = by_name (bytes_eq m.name name) e (valued_here ms name)
  where
    by_name : (b : Bool) → (b || list_any (λ n. bytes_eq n name) (map (λ (m : List ℕ × Judged). m.0) (judged_members vega_schema ms))) ≡ true
        → (list_any (λ n. bytes_eq n name) (map (λ (m : List ℕ × Judged). m.0) (judged_members vega_schema ms)) ≡ true →
        (v : Json) × (member_value ms name ≡ Some v))
        → (v : Json) × (option_map (λ (m : Member). m.value) (cond b (Some m) (find (λ (m : Member). bytes_eq m.name name) ms)) ≡ Some v)
    by_name true f rest = (m.value, refl)
    by_name false f rest = rest f

-- a required member is there
pub required : (trail : Trail) (layout : Layout) (ms : List Member) (name : List ℕ) (r : Rule) → StandsObject trail layout ms →
    rule_in layout.rules name ≡ Some r → r.required ≡ true → r.name ≡ name → (v : Json) × (member_value ms name ≡ Some v)
required trail layout ms name r s ruled must named =
    let there = rule_there _ layout.rules name r s.there ruled in
    subst (λ n. (v : Json) × (member_value ms n ≡ Some v)) named (valued_here ms r.name (not_missing r.required _ must there))

-- ---- lists of objects

pub all_of_each : {X : Type 0} (P : X → Type 0) (xs : List X) → Each P xs → All P xs
all_of_each P [] each = All-nil P
all_of_each P (x ∷ xs) each = All-cons P x xs each.0 (all_of_each P xs each.1)

mapped_each : {A : Type 0} (P : A → Type 0) (item : Json → A) (trail : Trail) (shape n : ℕ) (items : List Json) →
    ((i : ℕ) (v : Json) → Stands trail i shape v → P (item v)) → EachFrom (λ i v. Stands trail i shape v) n items → Each P (map item items)
mapped_each P item trail shape n [] kept each = tt
mapped_each P item trail shape n (v ∷ items) kept each = (kept n v each.0, mapped_each P item trail shape (n + 1) items kept each.1)

-- each item of a list keeps what the items of its shape keep
pub list_kept : {A : Type 0} (P : A → Type 0) (item : Json → A) (trail : Trail) (layout : Layout) (ms : List Member) (name : List ℕ)
    (list inner : ℕ) → StandsObject trail layout ms → shape_in layout name ≡ Some list →
    ((items : List Json) (form : Form) → taken_form vega_schema list (level.List items) ≡ Some form → items_shape form ≡ Some inner) →
    ((round : Trail) (i : ℕ) (v : Json) → Stands round i inner v → P (item v)) → All P (unwrap_or (list_at item ms name) [])
list_kept {A} P item trail layout ms name list inner s ruled listed kept = by_value (member_value ms name) refl
  where
    by_opened : (i : ℕ) (v : Json) → Stands trail i list v → (o : Opened) → out-Json v ≡ o → All P (unwrap_or (option_map (map item) (items_in o)) [])
    by_opened i v stands level.Null e = All-nil P
    by_opened i v stands (level.Flag b) e = All-nil P
    by_opened i v stands (level.Number n) e = All-nil P
    by_opened i v stands level.Huge e = All-nil P
    by_opened i v stands (level.Text t) e = All-nil P
    by_opened i v stands (level.Object members) e = All-nil P
    by_opened i v stands (level.List items) e =
        let form : (form : Form) × (taken_form vega_schema list (out-Json v) ≡ Some form) = formed list v stands.fine in
        let taken : taken_form vega_schema list (level.List items) ≡ Some form.0 = ap (taken_form vega_schema list) (sym e) ∙ form.1 in
        let each : EachFrom (λ j w. Stands (noted i list v ∷ trail) j inner w) 0 items =
        list_stands trail i list v items form.0 inner stands e taken (listed items form.0 taken) in
        all_of_each P (map item items) (mapped_each P item (noted i list v ∷ trail) inner 0 items (λ j w. kept (noted i list v ∷ trail) j w) each)

    by_value : (o : Option Json) → member_value ms name ≡ o →
        All P (unwrap_or (option_map (map item) (option_and_then (λ tree. items_in (out-Json tree)) o)) [])
    by_value None e = All-nil P
    by_value (Some v) e =
        let here : (i : ℕ) × Stands trail i list v = found_as trail layout ms name v list s ruled e in
        by_opened here.0 v here.1 (out-Json v) refl

-- ---- texts

pub text_is : (text : List ℕ) (o : Opened) → text_passes (bytes_eq text) o ≡ true → text_in o ≡ Some text
text_is text level.Null e = absurd cc
text_is text (level.Flag b) e = absurd cc
text_is text (level.Number n) e = absurd cc
text_is text level.Huge e = absurd cc
text_is text (level.Text t) e = ap Some (sym ((bytes_eq-Decides text t).0 e))
text_is text (level.List items) e = absurd cc
text_is text (level.Object members) e = absurd cc

has_a_name : (ms : List Member) (name text : List ℕ) → text_at ms name ≡ Some text → has_name ms name ≡ true
has_a_name [] name text e = absurd cc
has_a_name (m ∷ ms) name text e = by_name (bytes_eq m.name name) e (has_a_name ms name text)
  where
    by_name : (b : Bool) → option_and_then (λ tree. text_in (out-Json tree))
        (option_map (λ (m : Member). m.value) (cond b (Some m) (find (λ (m : Member). bytes_eq m.name name) ms))) ≡ Some text
        → (text_at ms name ≡ Some text → has_name ms name ≡ true) → (b || has_name ms name) ≡ true
    by_name true f rest = refl
    by_name false f rest = rest f

-- where a member says a text and no name stands twice, the text is what its name leads to
pub says_is : (ms : List Member) (name text : List ℕ) → AreOwn ms → list_any (says name text) ms ≡ true → text_at ms name ≡ Some text
says_is [] name text own e = absurd cc
says_is (m ∷ ms) name text own e = by_name (bytes_eq m.name name) (text_passes (bytes_eq text) (out-Json m.value)) refl refl e (says_is ms name text own.1)
  where
    by_name : (b c : Bool) → bytes_eq m.name name ≡ b → text_passes (bytes_eq text) (out-Json m.value) ≡ c → ((b && c) || list_any (says name text) ms) ≡ true →
        (list_any (says name text) ms ≡ true → text_at ms name ≡ Some text) →
        option_and_then (λ tree. text_in (out-Json tree))
        (option_map (λ (m : Member). m.value) (cond b (Some m) (find (λ (m : Member). bytes_eq m.name name) ms))) ≡ Some text
    by_name true true same said f rest = text_is text (out-Json m.value) said
    by_name true false same said f rest =
        let later : text_at ms name ≡ Some text = rest f in
        let there : has_name ms name ≡ true = has_a_name ms name text later in
        let named : m.name ≡ name = (bytes_eq-Decides m.name name).0 same in
        let never : has_name ms name ≡ false = subst (λ n. has_name ms n ≡ false) named own.0 in
        absurd cc
    by_name false c same said f rest = rest f

-- what is read under a name that may have a rule
pub reads_kept_or : {A : Type 0} (P : A → Type 0) (reading : Opened → Option A) (trail : Trail) (layout : Layout) (ms : List Member) (name : List ℕ)
    (shape : ℕ) → StandsObject trail layout ms → (shape_in layout name ≡ None) ⊎ (shape_in layout name ≡ Some shape) →
    ((i : ℕ) (v : Json) → Stands trail i shape v → IfSome (reading (out-Json v)) P) → IfSome (found_at reading ms name) P
reads_kept_or {A} P reading trail layout ms name shape s (inr ruled) kept = reads_kept P reading trail layout ms name shape s ruled kept
reads_kept_or {A} P reading trail layout ms name shape s (inl none) kept =
    let nothing : member_value ms name ≡ None = unruled trail layout ms name s none (member_value ms name) refl in
    let Q : Option Json → Type 0 = λ o. IfSome (option_and_then (λ tree. reading (out-Json tree)) o) P in
    subst Q (sym nothing) tt

-- ---- objects

-- a value that has to be an object is one, and a layout applies to it
pub opened_as : (object : ℕ) (o : Opened) → object_passes (λ members. is_some (layout_in vega_schema object members)) o ≡ true →
    (ms : List Member) × (o ≡ level.Object ms)
opened_as object level.Null e = absurd cc
opened_as object (level.Flag b) e = absurd cc
opened_as object (level.Number n) e = absurd cc
opened_as object level.Huge e = absurd cc
opened_as object (level.Text t) e = absurd cc
opened_as object (level.List items) e = absurd cc
opened_as object (level.Object ms) e = (ms, refl)

laid : (o : Option Layout) → is_some o ≡ true → (l : Layout) × (o ≡ Some l)
laid None e = absurd cc
laid (Some l) e = (l, refl)

pub record Laid (round : Trail) (number shape object : ℕ) (tree : Json) (ms : List Member) : Type 0 where
  pub layout : Layout
  pub applies : layout_in vega_schema object ms ≡ Some layout
  pub stands : StandsObject (noted number shape tree ∷ round) layout ms
  pub parts : parts_in round number shape tree
      ≡ parts_at (noted number shape tree ∷ round) tree ++ parts_of_members (noted number shape tree ∷ round) layout 0 ms

-- an object stands in the specification with the layout that applies to it
pub laid_out : (round : Trail) (number shape object : ℕ) (tree : Json) (ms : List Member) → Stands round number shape tree →
    out-Json tree ≡ level.Object ms →
    ((f : Form) → taken_form vega_schema shape (level.Object ms) ≡ Some f → (is_some (layout_in vega_schema object ms) ≡ true) × (form.Object object ≡ f)) →
    Laid round number shape object tree ms
laid_out round number shape object tree ms s is taken =
    let formed_as : (f : Form) × (taken_form vega_schema shape (out-Json tree) ≡ Some f) = formed shape tree s.fine in
    let known : taken_form vega_schema shape (level.Object ms) ≡ Some formed_as.0 = ap (taken_form vega_schema shape) (sym is) ∙ formed_as.1 in
    let both : (is_some (layout_in vega_schema object ms) ≡ true) × (form.Object object ≡ formed_as.0) = taken formed_as.0 known in
    let l : (l : Layout) × (layout_in vega_schema object ms ≡ Some l) = laid (layout_in vega_schema object ms) both.0 in
    record {
      layout = l.0;
      applies = l.1;
      stands = object_stands round number shape tree ms formed_as.0 l.0 s is known (ap (λ f. layout_of vega_schema f ms) (sym both.1) ∙ l.1);
      parts = object_parts_are round number shape tree ms formed_as.0 l.0 is known (ap (λ f. layout_of vega_schema f ms) (sym both.1) ∙ l.1);
    }

-- where each of some names has a property, a text among them has it
pub among_each : (P : List ℕ → Type 0) (names : List (List ℕ)) (text : List ℕ) → Each P names → among names text ≡ true → P text
among_each P [] text each e = absurd cc
among_each P (name ∷ names) text each e = by_name (bytes_eq name text) refl e (among_each P names text each.1)
  where
    by_name : (b : Bool) → bytes_eq name text ≡ b → (b || among names text) ≡ true → (among names text ≡ true → P text) → P text
    by_name true same f rest = subst P ((bytes_eq-Decides name text).0 same) each.0
    by_name false same f rest = rest f
