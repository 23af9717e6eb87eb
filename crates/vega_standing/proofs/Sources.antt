-- The sources of a specification have names of their own.
use Rattle.std.proofs.Common.{◌≡◌, ◌≢◌, ℕ, ◌+◌, ◌≤◌, List, [], ◌∷◌, ◌++◌, map, flat_map, length, take, refl, sym, ap, subst, ◌∙◌, ◌⊎◌, inl, inr, arith}
use Rattle.std.specs.Prelude.{Option, Some, None, Bool, true, false, ◌==◌, ◌&&◌, codes, unwrap_or, bytes_eq, is_some, if◌then◌else◌, find}
use Rattle.std.specs.Option.{option_map, option_map_or, option_and_then}
use Rattle.std.specs.List.{All, AllPairs, enumerate_from, cons_option}
use Rattle.std.proofs.lemmas.List.{append_assoc, append-nil, length-append}
use Rattle.std.proofs.Math.Seq.{take-append_seam}
use Rattle.std.proofs.lemmas.Bool.Decides.{nat_tests}
use Rattle.std.proofs.lemmas.Slice.Eq.{bytes_eq-Decides}
use Rattle.std.proofs.lemmas.List.Elements.{All-cons, All-nil}
use Rattle.std.proofs.lemmas.List.Kept.{AllPairs-cons}
use Rattle.json_exact.specs.declared.json.Json.{Json, out-Json}
use Rattle.json_exact.specs.declared.json.Json.TheOpen as level
use Rattle.json_exact.specs.declared.json.Member.{Member}
use Rattle.spec_schema.specs.declared.spec_error.SpecKind.TheVariants.{Wrong}
use Rattle.json_exact.specs.Inside.{text_in, items_in, members_in}
use Rattle.json_exact.specs.Path.{member_value}
use Rattle.spec_schema.specs.declared.form.Form.{Form}
use Rattle.spec_schema.specs.declared.form.Form.TheVariants as form
use Rattle.spec_schema.specs.declared.layout.Layout.{Layout}
use Rattle.spec_schema.specs.Values.{Opened, text_passes, list_passes, has_length}
use Rattle.spec_schema.specs.Layouts.{shape_in}
use Rattle.spec_schema.specs.Forms.{taken_form, items_shape}
use Rattle.spec_schema.specs.Tables.{must}
use Rattle.vega_schema.specs.declared.codes.TheConstants.{MARKS, DATA_LIST, DATA, TEXT}
use Rattle.vega_schema.specs.Schema.{vega_schema}
use Rattle.vega_schema.specs.Shapes.{leaves, named as named_shapes, lists, objects, MAX_LENGTH}
use Rattle.vega_schema.specs.Sources.{data_set}
use Rattle.vega_parts.specs.declared.part.Part.{Part}
use Rattle.vega_parts.specs.declared.part.Part.TheVariants as part
use Rattle.vega_parts.specs.declared.part.GivenName.{GivenName}
use Rattle.vega_parts.specs.declared.part.Given.{Given}
use Rattle.vega_parts.specs.declared.part.Given.TheVariants as given
use Rattle.vega_parts.specs.declared.part.Used.TheVariants as for_
use Rattle.vega_parts.specs.Trails.{Trail, noted, place_of, scope_of, child}
use Rattle.vega_parts.specs.Members.{member_at, has_member, text_at as part_text}
use Rattle.vega_parts.specs.Names.{used_member}
use Rattle.vega_parts.specs.Data.{data_set as data_itself, data_names, data_name, data_faults}
use Rattle.vega_parts.specs.Parts.{parts_at}
use Rattle.vega_rules.specs.Faults.{fault_if}
use Rattle.vega_rules.specs.Places.{same_place}
use Rattle.vega_rules.specs.Names.{given_by, given_names, number_of, is_given, has_given}
use Rattle.vega_rules.specs.Twice.{is_single, is_repeated, repeated, twice}
use Rattle.vega_spec.specs.declared.spec.Group.{Group, Group-F, out-Group, fold_out-Group}
use Rattle.vega_spec.specs.declared.spec.Group.TheShapes.{former-Group-marks}
use Rattle.vega_spec.specs.declared.spec.VgMark.{VgMark, VgMark-F, out-VgMark, fold_out-VgMark}
use Rattle.vega_spec.specs.Names.{own_source, own_sources, sources_here, mark_sources_here, sources_in, mark_sources}
use Rattle.vega_building.specs.Parts.{text_at, needed_text, objects_at, members_of}
use Rattle.vega_building.specs.Sources.{data_set_of}
use Rattle.vega_building.specs.Spec.{group_with, mark_with, marks_at}
use Rattle.vega_standing.proofs.Stands.{EachFrom, Stands, StandsObject, formed, list_stands, parts_in, parts_of_items, parts_of_members, list_parts_are}
use Rattle.vega_standing.proofs.Shapes.{if_taken, form_taken}
use Rattle.vega_standing.proofs.Members.{Laid, laid_out, opened_as, found_as, required, unruled}
use Rattle.vega_standing.proofs.Transforms.{member_is, data_taken, data_layout}
use Rattle.vega_standing.proofs.Marks.{group_opened, mark_opened, listed}
use Rattle.vega_standing.proofs.Weights.{weight, weight_append, total, zero_more, named_weight, Weighed, weighed, items_weigh, object_weighs}

abbrev pub one : Bool → ℕ
one b = if b then 1 else 0

-- how often a name stands among others
abbrev pub times : List ℕ → List (List ℕ) → ℕ
times x names = total (λ name. one (bytes_eq x name)) names

grouped : (a b c : ℕ) → a + (b + c) ≡ (a + b) + c
grouped a b c = omega arith

times_append : (x : List ℕ) (xs ys : List (List ℕ)) → times x (xs ++ ys) ≡ times x xs + times x ys
times_append x [] ys = zero_more (times x ys)
times_append x (name ∷ xs) ys = ap (λ n. one (bytes_eq x name) + n) (times_append x xs ys) ∙ grouped (one (bytes_eq x name)) (times x xs) (times x ys)

-- ---- sources of groups and marks

all_together : (o : Option (List VgMark)) → unwrap_or (former-Group-marks.map VgMark (List (List ℕ)) mark_sources o) [] ≡ map mark_sources (unwrap_or o [])
all_together None = refl
all_together (Some marks) = refl

sources_opened : (g : Group) →
    sources_in g ≡ own_sources (unwrap_or (out-Group g).data_ []) ++ flat_map (λ names. names) (map mark_sources (unwrap_or (out-Group g).marks []))
sources_opened g =
    fold_out-Group (List (List ℕ)) (List (List ℕ)) sources_here mark_sources_here g
    ∙ ap (λ names. own_sources (unwrap_or (out-Group g).data_ []) ++ flat_map (λ names. names) names) (all_together (out-Group g).marks)

mark_sources_opened : (m : VgMark) → mark_sources m ≡ sources_in (out-VgMark m).group
mark_sources_opened m = fold_out-VgMark (List (List ℕ)) (List (List ℕ)) sources_here mark_sources_here m

times_all : (x : List ℕ) (marks : List VgMark) → times x (flat_map (λ names. names) (map mark_sources marks)) ≡ total (λ m. times x (mark_sources m)) marks
times_all x [] = refl
times_all x (m ∷ marks) =
    times_append x (mark_sources m) (flat_map (λ names. names) (map mark_sources marks)) ∙ ap (λ n. times x (mark_sources m) + n) (times_all x marks)

-- those of a group of members
abbrev pub own_times : List ℕ → List Member → ℕ
own_times x ms = times x (own_sources (unwrap_or (objects_at data_set_of ms (codes "data")) []))

pub group_times : (x : List ℕ) (ms : List Member) (marks : Option (List VgMark)) →
    times x (sources_in (group_with ms marks)) ≡ own_times x ms + total (λ m. times x (mark_sources m)) (unwrap_or marks [])
group_times x ms marks =
    ap (times x) (sources_opened (group_with ms marks)
    ∙ ap (λ (g : Group-F Group VgMark). own_sources (unwrap_or g.data_ []) ++ flat_map (λ names. names) (map mark_sources (unwrap_or g.marks [])))
    (group_opened ms marks))
    ∙ times_append x (own_sources (unwrap_or (objects_at data_set_of ms (codes "data")) [])) (flat_map (λ names. names) (map mark_sources (unwrap_or marks [])))
    ∙ ap (λ n. own_times x ms + n) (times_all x (unwrap_or marks []))

pub mark_times : (x : List ℕ) (ms : List Member) (marks : Option (List VgMark)) →
    times x (mark_sources (mark_with ms marks)) ≡ own_times x ms + total (λ m. times x (mark_sources m)) (unwrap_or marks [])
mark_times x ms marks =
    ap (times x) (mark_sources_opened (mark_with ms marks) ∙ ap (λ (m : VgMark-F Group VgMark). sources_in m.group) (mark_opened ms marks))
    ∙ group_times x ms marks

-- ---- data sets

-- a name that is given in an object as of a kind counts
abbrev pub one_given : Given → List ℕ → List ℕ → Part → ℕ
one_given kind scope x p = option_map_or (λ (g : GivenName). one (is_given kind scope x g)) (given_by p) 0

-- the name of a source counts
abbrev pub one_source : List ℕ → Part → ℕ
one_source x p = one_given given.Source [] x p

is_a_text : (o : Opened) → text_passes (λ t. true) o ≡ true → is_some (text_in o) ≡ true
is_a_text level.Null e = absurd cc
is_a_text (level.Flag b) e = absurd cc
is_a_text (level.Number n) e = absurd cc
is_a_text level.Huge e = absurd cc
is_a_text (level.Text t) e = refl
is_a_text (level.List items) e = absurd cc
is_a_text (level.Object ms) e = absurd cc

text_form : (o : Opened) (f : Form) → taken_form vega_schema TEXT o ≡ Some f → text_passes (λ t. true) o ≡ true
unfolding vega_schema leaves named_shapes lists objects
text_form o f e = if_taken (text_passes (λ t. true) o) _ f e

pub text_stands : (round : Trail) (i : ℕ) (v : Json) → Stands round i TEXT v → is_some (text_in (out-Json v)) ≡ true
text_stands round i v s = let form = formed TEXT v s.fine in is_a_text (out-Json v) (text_form (out-Json v) form.0 form.1)

pub the_text : (o : Option (List ℕ)) → is_some o ≡ true → (t : List ℕ) × (o ≡ Some t)
the_text None e = absurd cc
the_text (Some t) e = (t, refl)

pub data_rules : (shape_in data_set (codes "name") ≡ Some TEXT) × (shape_in data_set (codes "source") ≡ Some TEXT)
unfolding data_set
data_rules = (refl, refl)

pub name_there : (trail : Trail) (ms : List Member) → StandsObject trail data_set ms → (v : Json) × (member_value ms (codes "name") ≡ Some v)
unfolding data_set
name_there trail ms s = required trail data_set ms (codes "name") (must (codes "name") TEXT) s refl refl refl

module _ (tree : Json) (ms : List Member) (is : out-Json tree ≡ level.Object ms) where
  pub texts_are : (name : List ℕ) → option_map (λ (m : ℕ × List ℕ). m.1) (part_text name tree) ≡ text_at ms name
  texts_are name = by_member (member_at name tree) ∙ ap (λ o. option_and_then (λ v. text_in (out-Json v)) o) (member_is tree ms is name)
    where
      by_text : (n : ℕ) (o : Option (List ℕ)) → option_map (λ (m : ℕ × List ℕ). m.1) (option_map (λ text. (n, text)) o) ≡ o
      by_text n None = refl
      by_text n (Some t) = refl

      by_member : (o : Option (ℕ × Json)) →
          option_map (λ (m : ℕ × List ℕ). m.1) (option_and_then (λ (m : ℕ × Json). option_map (λ text. (m.0, text)) (text_in (out-Json m.1))) o)
          ≡ option_and_then (λ v. text_in (out-Json v)) (option_map (λ (m : ℕ × Json). m.1) o)
      by_member None = refl
      by_member (Some m) = by_text m.0 (text_in (out-Json m.1))

  has_value : (name : List ℕ) → has_member name tree ≡ is_some (member_value ms name)
  has_value name = by_member (member_at name tree) ∙ ap is_some (member_is tree ms is name)
    where
      by_member : (o : Option (ℕ × Json)) → is_some o ≡ is_some (option_map (λ (m : ℕ × Json). m.1) o)
      by_member None = refl
      by_member (Some m) = refl

one_is : (x nm : List ℕ) (of at : List ℕ) →
    one_source x (part.Given (record { kind = given.Source; scope = []; of = of; at = at; name = nm; scale = None })) ≡ one (bytes_eq x nm)
one_is x nm of at = refl

least : (a b c d : ℕ) → d ≡ a + (b + c) → b ≤ d
least a b c d e = omega arith

none_counts : (x : List ℕ) (o : Option (List ℕ)) (nm : List ℕ) (n : ℕ) → is_some o ≡ true → times x (if is_some o then [] else nm ∷ []) ≤ n
none_counts x None nm n e = absurd cc
none_counts x (Some t) nm n e = omega arith

one_counts : (n m : ℕ) → n ≤ m → n + 0 ≤ m
one_counts n m e = omega arith

less_more : (a b c : ℕ) → a ≤ b → c ≡ b + 0 → a ≤ c
less_more a b c x y = omega arith

module _ (x : List ℕ) (round : Trail) (number : ℕ) (tree : Json) (ms : List Member) (is : out-Json tree ≡ level.Object ms)
    (o : StandsObject (noted number DATA tree ∷ round) data_set ms) where
  abbrev of_set : Trail
  of_set = noted number DATA tree ∷ round

  -- the parts of a data set without a source have its name
  named_weighs : (m : Option (ℕ × List ℕ)) (source : Bool) (nm : List ℕ) → option_map (λ (m : ℕ × List ℕ). m.1) m ≡ Some nm → source ≡ false →
      one (bytes_eq x nm) ≤ weight (one_source x) (option_map_or (λ (m : ℕ × List ℕ). data_name of_set m
      ++ (if source then [] else
      part.Given (record { kind = given.Source; scope = []; of = place_of of_set; at = child of_set m.0; name = m.1; scale = None }) ∷ [])) m [])
  named_weighs None source nm e own = absurd cc
  named_weighs (Some m) true nm e own = absurd cc
  named_weighs (Some m) false nm e own =
      let same : m.1 ≡ nm = cc in
      subst (λ n. one (bytes_eq x n) ≤ weight (one_source x) (data_name of_set m ++ part.Given
      (record { kind = given.Source; scope = []; of = place_of of_set; at = child of_set m.0; name = m.1; scale = None }) ∷ [])) same
      (least (one_source x
      (part.Given (record { kind = given.Data; scope = scope_of of_set; of = place_of of_set; at = child of_set m.0; name = m.1; scale = None })))
      (one (bytes_eq x m.1)) 0 _ refl)

  in_names : weight (one_source x) (data_names of_set tree) ≤ weight (one_source x) (parts_at of_set tree)
  in_names = first (weight (one_source x) (data_names of_set tree))
      (weight (one_source x) (used_member for_.Source (codes "source") of_set tree)) (weight (one_source x) (data_faults of_set tree)) _
      (weight_append (one_source x)
      (data_itself of_set ++ data_names of_set tree ++ used_member for_.Source (codes "source") of_set tree) (data_faults of_set tree)
      ∙ ap (λ n. n + weight (one_source x) (data_faults of_set tree))
      (weight_append (one_source x) (data_itself of_set ++ data_names of_set tree) (used_member for_.Source (codes "source") of_set tree)))
    where
      first : (a b c d : ℕ) → d ≡ 0 + a + b + c → a ≤ d
      first a b c d e = omega arith

  by_source : (source : Option Json) → member_value ms (codes "source") ≡ source →
      times x (own_source (data_set_of ms)) ≤ weight (one_source x) (parts_at of_set tree)
  by_source (Some v) e =
      let stands : (i : ℕ) × Stands of_set i TEXT v = found_as of_set data_set ms (codes "source") v TEXT o data_rules.1 e in
      none_counts x (text_at ms (codes "source")) (needed_text ms (codes "name")) _
      (ap (λ o. is_some (option_and_then (λ v. text_in (out-Json v)) o)) e ∙ text_stands of_set stands.0 v stands.1)
  by_source None e =
      let v : (v : Json) × (member_value ms (codes "name") ≡ Some v) = name_there of_set ms o in
      let stands : (i : ℕ) × Stands of_set i TEXT v.0 = found_as of_set data_set ms (codes "name") v.0 TEXT o data_rules.0 v.1 in
      let t : (t : List ℕ) × (text_in (out-Json v.0) ≡ Some t) = the_text (text_in (out-Json v.0)) (text_stands of_set stands.0 v.0 stands.1) in
      let text : text_at ms (codes "name") ≡ Some t.0 = ap (λ o. option_and_then (λ v. text_in (out-Json v)) o) v.1 ∙ t.1 in
      let nm : needed_text ms (codes "name") ≡ t.0 = ap (λ o. unwrap_or o []) text in
      let absent : has_member (codes "source") tree ≡ false = has_value tree ms is (codes "source") ∙ ap is_some e in
      let weighs : one (bytes_eq x t.0) ≤ weight (one_source x) (data_names of_set tree) =
      named_weighs (part_text (codes "name") tree) (has_member (codes "source") tree) t.0 (texts_are tree ms is (codes "name") ∙ text) absent in
      let own : times x (own_source (data_set_of ms)) ≡ one (bytes_eq x t.0) + 0 =
      ap (λ o. times x (if is_some (option_and_then (λ v. text_in (out-Json v)) o) then [] else needed_text ms (codes "name") ∷ [])) e
      ∙ ap (λ n. one (bytes_eq x n) + 0) nm in
      through (times x (own_source (data_set_of ms))) (one (bytes_eq x t.0))
      (weight (one_source x) (data_names of_set tree)) (weight (one_source x) (parts_at of_set tree)) own weighs in_names
    where
      through : (a b c d : ℕ) → a ≡ b + 0 → b ≤ c → c ≤ d → a ≤ d
      through a b c d p q r = omega arith

abbrev set_times : List ℕ → Json → ℕ
set_times x tree = times x (own_source (data_set_of (members_of tree)))

data_weighs : (x : List ℕ) (round : Trail) (number : ℕ) (tree : Json) → Stands round number DATA tree →
    set_times x tree ≤ weight (one_source x) (parts_in round number DATA tree)
data_weighs x round number tree s =
    let form = formed DATA tree s.fine in
    let ms : (ms : List Member) × (out-Json tree ≡ level.Object ms) = opened_as DATA (out-Json tree) (data_taken (out-Json tree) form.0 form.1).0 in
    let l : Laid round number DATA DATA tree ms.0 = laid_out round number DATA DATA tree ms.0 s ms.1 (λ f e. data_taken (level.Object ms.0) f e) in
    let is : l.layout ≡ data_set = let a = l.applies in let b = data_layout ms.0 in cc in
    let o : StandsObject (noted number DATA tree ∷ round) data_set ms.0 = subst (λ x. StandsObject (noted number DATA tree ∷ round) x ms.0) is l.stands in
    let same : members_of tree ≡ ms.0 = ap (λ o. unwrap_or (members_in o) []) ms.1 in
    subst (λ m. times x (own_source (data_set_of m)) ≤ weight (one_source x) (parts_in round number DATA tree)) (sym same)
    (less_front (times x (own_source (data_set_of ms.0))) (weight (one_source x) (parts_at (noted number DATA tree ∷ round) tree))
    (weight (one_source x) (parts_of_members (noted number DATA tree ∷ round) l.layout 0 ms.0)) _
    (by_source x round number tree ms.0 ms.1 o (member_value ms.0 (codes "source")) refl)
    (ap (weight (one_source x)) l.parts ∙ weight_append (one_source x) (parts_at (noted number DATA tree ∷ round) tree)
    (parts_of_members (noted number DATA tree ∷ round) l.layout 0 ms.0)))
  where
    less_front : (a b c d : ℕ) → a ≤ b → d ≡ b + c → a ≤ d
    less_front a b c d p q = omega arith

sets_times : (x : List ℕ) (items : List Json) → times x (own_sources (map (λ t. data_set_of (members_of t)) items)) ≡ total (set_times x) items
sets_times x [] = refl
sets_times x (t ∷ items) =
    times_append x (own_source (data_set_of (members_of t))) (own_sources (map (λ t. data_set_of (members_of t)) items))
    ∙ ap (λ n. set_times x t + n) (sets_times x items)

pub sets_taken : (o : Opened) (f : Form) → taken_form vega_schema DATA_LIST o ≡ Some f →
    (list_passes (has_length 0 MAX_LENGTH) o ≡ true) × (form.List 0 MAX_LENGTH DATA ≡ f)
unfolding vega_schema leaves named_shapes lists objects
sets_taken o f e = (if_taken (list_passes (has_length 0 MAX_LENGTH) o) _ f e, form_taken (list_passes (has_length 0 MAX_LENGTH) o) _ f e)

sets_stand : (x : List ℕ) (trail : Trail) (n : ℕ) (items : List Json) → EachFrom (λ i v. Stands trail i DATA v) n items →
    EachFrom (λ i v. set_times x v ≤ weight (one_source x) (parts_in trail i DATA v)) n items
sets_stand x trail n [] each = tt
sets_stand x trail n (v ∷ items) each = (data_weighs x trail n v each.0, sets_stand x trail (n + 1) items each.1)

list_weighs : (x : List ℕ) (round : Trail) (number : ℕ) (v : Json) → Stands round number DATA_LIST v →
    times x (own_sources (unwrap_or (option_map (map (λ t. data_set_of (members_of t))) (items_in (out-Json v))) []))
    ≤ weight (one_source x) (parts_in round number DATA_LIST v)
list_weighs x round number v s =
    let form = formed DATA_LIST v s.fine in
    let taken = sets_taken (out-Json v) form.0 form.1 in
    let items : (items : List Json) × (out-Json v ≡ level.List items) = listed (out-Json v) taken.0 in
    let known : taken_form vega_schema DATA_LIST (level.List items.0) ≡ Some form.0 = ap (taken_form vega_schema DATA_LIST) (sym items.1) ∙ form.1 in
    let asks : items_shape form.0 ≡ Some DATA = ap items_shape (sym taken.1) in
    let trail : Trail = noted number DATA_LIST v ∷ round in
    let each : EachFrom (λ i w. Stands trail i DATA w) 0 items.0 = list_stands round number DATA_LIST v items.0 form.0 DATA s items.1 known asks in
    below_sum _ (total (set_times x) items.0) (weight (one_source x) (parts_at trail v)) (weight (one_source x) (parts_of_items trail DATA 0 items.0)) _
    (ap (λ o. times x (own_sources (unwrap_or (option_map (map (λ t. data_set_of (members_of t))) (items_in o)) []))) items.1 ∙ sets_times x items.0)
    (ap (weight (one_source x)) (list_parts_are round number DATA_LIST v items.0 form.0 DATA items.1 known asks)
    ∙ weight_append (one_source x) (parts_at trail v) (parts_of_items trail DATA 0 items.0))
    (items_weigh (one_source x) (set_times x) trail DATA 0 items.0 (sets_stand x trail 0 items.0 each))
  where
    below_sum : (t n here rest whole : ℕ) → t ≡ n → whole ≡ here + rest → n ≤ rest → t ≤ whole
    below_sum t n here rest whole a b c = omega arith

owned : (x : List ℕ) (trail : Trail) (l : Layout) (ms : List Member) → StandsObject trail l ms →
    (shape_in l (codes "data") ≡ None) ⊎ (shape_in l (codes "data") ≡ Some DATA_LIST) → own_times x ms ≤ named_weight (one_source x) trail l 0 ms (codes "data")
owned x trail l ms s ruled = by_value (member_value ms (codes "data")) refl ruled
  where
    nothing : (n : ℕ) → 0 ≤ n
    nothing n = omega arith

    at_most_equal : (t n m : ℕ) → m ≡ n → t ≤ n → t ≤ m
    at_most_equal t n m a b = omega arith

    by_value : (o : Option Json) → member_value ms (codes "data") ≡ o → (shape_in l (codes "data") ≡ None) ⊎ (shape_in l (codes "data") ≡ Some DATA_LIST) →
        times x (own_sources (unwrap_or (option_map (map (λ t. data_set_of (members_of t))) (option_and_then (λ v. items_in (out-Json v)) o)) []))
        ≤ named_weight (one_source x) trail l 0 ms (codes "data")
    by_value None e r = nothing _
    by_value (Some v) e (inl none) =
        let y : member_value ms (codes "data") ≡ None = unruled trail l ms (codes "data") s none (member_value ms (codes "data")) refl in
        absurd cc
    by_value (Some v) e (inr sets) =
        let here : Weighed (one_source x) trail l 0 ms (codes "data") v = weighed (one_source x) trail l 0 ms (codes "data") v s.each e in
        let shape : here.shape ≡ DATA_LIST = let a = here.ruled in cc in
        at_most_equal _ (weight (one_source x) (parts_in trail here.number DATA_LIST v)) (named_weight (one_source x) trail l 0 ms (codes "data"))
        (here.weighs ∙ ap (λ c. weight (one_source x) (parts_in trail here.number c v)) shape)
        (list_weighs x trail here.number v (subst (λ c. Stands trail here.number c v) shape here.stands))

-- the sources of an object and of the marks in it stand among its parts
pub sources_weigh : (x : List ℕ) (trail : Trail) (l : Layout) (ms : List Member) (here whole : List Part) →
    StandsObject trail l ms → shape_in l (codes "data") ≡ Some DATA_LIST →
    shape_in l (codes "marks") ≡ Some MARKS → whole ≡ here ++ parts_of_members trail l 0 ms →
    times x (sources_in (group_with ms (marks_at ms (codes "marks")))) ≤ weight (one_source x) whole
sources_weigh x trail l ms here whole s sets marks is =
    same (times x (sources_in (group_with ms (marks_at ms (codes "marks"))))) _ (weight (one_source x) whole) (group_times x ms (marks_at ms (codes "marks")))
    (object_weighs (one_source x) (λ m. times x (mark_sources m)) (own_times x)
    (λ round number tree ms s is l applies o.
    heavy (times x (mark_sources (mark_with ms (marks_at ms (codes "marks"))))) _ (own_times x ms) _ (mark_times x ms (marks_at ms (codes "marks"))))
    (owned x) trail l ms here whole s sets marks is)
  where
    same : (a b c : ℕ) → a ≡ b → b ≤ c → a ≤ c
    same a b c p q = omega arith

    heavy : (f here own rest : ℕ) → f ≡ own + rest → f ≤ here + own + rest
    heavy f here own rest p = omega arith

-- ---- names that aren't given twice

same_number : (k n : ℕ) → (k == n) ≡ true → k ≡ n
same_number k n e = grind (arith, nat_tests)

both : (a b : Bool) → (a && b) ≡ true → (a ≡ true) × (b ≡ true)
both true b e = (refl, e)
both false b e = absurd cc

single_source : (k : Given) → number_of k ≡ 1 → is_single k ≡ true
single_source given.Data e = refl
single_source given.Source e = refl
single_source given.Facet e = absurd (let f : 2 ≡ 1 = e in omega (arith, f))
single_source given.Signal e = refl
single_source given.Store e = absurd (let f : 4 ≡ 1 = e in omega (arith, f))
single_source given.Scale e = refl
single_source given.FacetName e = refl
single_source given.Selector e = refl
single_source given.Header e = refl

none_of : {X : Type 0} (xs ys : List X) → xs ++ ys ≡ [] → (xs ≡ []) × (ys ≡ [])
none_of [] ys e = (refl, e)
none_of (x ∷ xs) ys e = absurd cc

no_more : (n : ℕ) → n ≤ 1 → n + 0 ≤ 1
no_more n e = omega arith

-- names of a kind that is given once at most
module _ (of_kind : Given) (scope : List ℕ) (single : (k : Given) → number_of k ≡ number_of of_kind → is_single k ≡ true) where
  -- the names are alike for each that is one
  alike : (x : List ℕ) (g h : GivenName) → is_given of_kind scope x g ≡ true → is_given g.kind g.scope g.name h ≡ is_given of_kind scope x h
  alike x g h e =
      let first = both (number_of of_kind == number_of g.kind && same_place scope g.scope) (bytes_eq x g.name) e in
      let two = both (number_of of_kind == number_of g.kind) (same_place scope g.scope) first.0 in
      let kind : number_of g.kind ≡ number_of of_kind = sym (same_number (number_of of_kind) (number_of g.kind) two.0) in
      let place : g.scope ≡ scope = sym ((bytes_eq-Decides scope g.scope).0 two.1) in
      let name : g.name ≡ x = sym ((bytes_eq-Decides x g.name).0 first.1) in
      λ i. (kind i == number_of h.kind) && same_place (place i) h.scope && bytes_eq (name i) h.name

  not_found : (x : List ℕ) (g : GivenName) (names : List GivenName) →
      is_given of_kind scope x g ≡ true → is_some (find (is_given g.kind g.scope g.name) names) ≡ false →
      total (λ h. one (is_given of_kind scope x h)) names ≡ 0
  not_found x g [] e none = refl
  not_found x g (h ∷ names) e none = by_test (is_given g.kind g.scope g.name h) (sym (alike x g h e)) none (not_found x g names e)
    where
      by_test : (b : Bool) → is_given of_kind scope x h ≡ b → is_some (if b then Some h else find (is_given g.kind g.scope g.name) names) ≡ false →
          (is_some (find (is_given g.kind g.scope g.name) names) ≡ false → total (λ h. one (is_given of_kind scope x h)) names ≡ 0) →
          one (is_given of_kind scope x h) + total (λ h. one (is_given of_kind scope x h)) names ≡ 0
      by_test true same f rest = absurd cc
      by_test false same f rest =
          ap (λ b. one b + total (λ h. one (is_given of_kind scope x h)) names) same
          ∙ sym (zero_more (total (λ h. one (is_given of_kind scope x h)) names)) ∙ rest f

  weight_given : (x : List ℕ) (parts : List Part) → weight (one_given of_kind scope x) parts ≡ total (λ h. one (is_given of_kind scope x h)) (given_names parts)
  weight_given x [] = refl
  weight_given x (p ∷ ps) = by_given (given_by p) (weight_given x ps)
    where
      by_given : (o : Option GivenName) → weight (one_given of_kind scope x) ps ≡ total (λ h. one (is_given of_kind scope x h)) (given_names ps) →
          option_map_or (λ (g : GivenName). one (is_given of_kind scope x g)) o 0 + weight (one_given of_kind scope x) ps
          ≡ total (λ h. one (is_given of_kind scope x h)) (cons_option o (given_names ps))
      by_given None e = sym (zero_more (weight (one_given of_kind scope x) ps)) ∙ e
      by_given (Some g) e = ap (λ n. one (is_given of_kind scope x g) + n) e

  -- what is counted so far, with one part more
  not_repeated : (x : List ℕ) (earlier : List Part) (p : Part) → repeated earlier p ≡ [] → weight (one_given of_kind scope x) earlier ≤ 1 →
      weight (one_given of_kind scope x) earlier + one_given of_kind scope x p ≤ 1
  not_repeated x earlier (part.Given g) none few = by_test (is_given of_kind scope x g) refl
    where
      by_repeat : (b : Bool) → fault_if b Wrong g.at ≡ [] → b ≡ false
      by_repeat false e = refl
      by_repeat true e = absurd cc

      not_had : (single had : Bool) → single ≡ true → (single && had) ≡ false → had ≡ false
      not_had true had a b = b
      not_had false had a b = absurd cc

      first_one : (n : ℕ) → n ≡ 0 → n + 1 ≤ 1
      first_one n e = omega arith

      by_test : (b : Bool) → is_given of_kind scope x g ≡ b → weight (one_given of_kind scope x) earlier + one (is_given of_kind scope x g) ≤ 1
      by_test false e = subst (λ b. weight (one_given of_kind scope x) earlier + one b ≤ 1) (sym e) (no_more (weight (one_given of_kind scope x) earlier) few)
      by_test true e =
          let kind : number_of g.kind ≡ number_of of_kind =
          sym (same_number (number_of of_kind) (number_of g.kind) (both (number_of of_kind == number_of g.kind) (same_place scope g.scope)
          (both (number_of of_kind == number_of g.kind && same_place scope g.scope) (bytes_eq x g.name) e).0).0) in
          let had : has_given earlier g.kind g.scope g.name ≡ false =
          not_had (is_single g.kind) (has_given earlier g.kind g.scope g.name) (single g.kind kind) (by_repeat (is_repeated earlier g) none) in
          subst (λ b. weight (one_given of_kind scope x) earlier + one b ≤ 1) (sym e)
          (first_one (weight (one_given of_kind scope x) earlier) (weight_given x earlier ∙ not_found x g (given_names earlier) e had))
  not_repeated x earlier (part.Fault at kind) none few = no_more (weight (one_given of_kind scope x) earlier) few
  not_repeated x earlier (part.Used u) none few = no_more (weight (one_given of_kind scope x) earlier) few
  not_repeated x earlier (part.Mark at object name group) none few = no_more (weight (one_given of_kind scope x) earlier) few
  not_repeated x earlier (part.Plot at) none few = no_more (weight (one_given of_kind scope x) earlier) few
  not_repeated x earlier (part.Data at) none few = no_more (weight (one_given of_kind scope x) earlier) few
  not_repeated x earlier (part.Step at set) none few = no_more (weight (one_given of_kind scope x) earlier) few
  not_repeated x earlier (part.Fold at set fields) none few = no_more (weight (one_given of_kind scope x) earlier) few
  not_repeated x earlier (part.Interval at object scale marks) none few = no_more (weight (one_given of_kind scope x) earlier) few

  -- each part after those before it
  from_here : (x : List ℕ) (all before rest : List Part) → all ≡ before ++ rest → weight (one_given of_kind scope x) before ≤ 1 →
      flat_map (λ (row : ℕ × Part). repeated (take row.0 all) row.1) (enumerate_from (length before) rest) ≡ [] → weight (one_given of_kind scope x) all ≤ 1
  from_here x all before [] is few none = subst (λ ps. weight (one_given of_kind scope x) ps ≤ 1) (sym (is ∙ append-nil before)) few
  from_here x all before (p ∷ rest) is few none =
      let parts = none_of (repeated (take (length before) all) p)
      (flat_map (λ (row : ℕ × Part). repeated (take row.0 all) row.1) (enumerate_from (length before + 1) rest)) none in
      let front : take (length before) all ≡ before = ap (take (length before)) is ∙ take-append_seam before (p ∷ rest) in
      let next : weight (one_given of_kind scope x) (before ++ p ∷ []) ≤ 1 =
      subst (λ n. n ≤ 1) (sym (weight_append (one_given of_kind scope x) before (p ∷ [])))
      (ended (weight (one_given of_kind scope x) before) (one_given of_kind scope x p)
      (not_repeated x before p (ap (λ ps. repeated ps p) (sym front) ∙ parts.0) few)) in
      from_here x all (before ++ p ∷ []) rest (is ∙ sym (append_assoc before (p ∷ []) rest)) next
      (ap (λ n. flat_map (λ (row : ℕ × Part). repeated (take row.0 all) row.1) (enumerate_from n rest)) (length-append before (p ∷ [])) ∙ parts.1)
    where
      ended : (a b : ℕ) → a + b ≤ 1 → a + (b + 0) ≤ 1
      ended a b e = omega arith

  -- a name stands once at most among parts in which no name is given twice
  pub given_once : (x : List ℕ) (parts : List Part) → twice parts ≡ [] → weight (one_given of_kind scope x) parts ≤ 1
  given_once x parts none = from_here x parts [] parts refl zero_few none
    where
      zero_few : 0 ≤ 1
      zero_few = omega arith

-- so does a source's name
pub at_most_once : (x : List ℕ) (parts : List Part) → twice parts ≡ [] → weight (one_source x) parts ≤ 1
at_most_once x parts none = given_once given.Source [] single_source x parts none

-- names of which each stands once at most are apart
unlike_all : (x : List ℕ) (names : List (List ℕ)) → times x names ≤ 0 → All (λ name. x ≢ name) names
unlike_all x [] few = All-nil (λ name. x ≢ name)
unlike_all x (name ∷ names) few = by_test (bytes_eq x name) refl (rest (one (bytes_eq x name)) (times x names) few) (unlike_all x names)
  where
    rest : (a b : ℕ) → a + b ≤ 0 → (a ≤ 0) × (b ≤ 0)
    rest a b e = (omega arith, omega arith)

    by_test : (b : Bool) → bytes_eq x name ≡ b → (one (bytes_eq x name) ≤ 0) × (times x names ≤ 0) →
        (times x names ≤ 0 → All (λ name. x ≢ name) names) → All (λ name. x ≢ name) (name ∷ names)
    by_test true same e others = absurd (let f : 1 ≤ 0 = subst (λ b. one b ≤ 0) same e.0 in omega (arith, f))
    by_test false same e others =
        All-cons (λ name. x ≢ name) name names (λ equal. let f : bytes_eq x name ≡ true = (bytes_eq-Decides x name).1 equal in absurd cc) (others e.1)

pub apart : (names : List (List ℕ)) → ((x : List ℕ) → times x names ≤ 1) → AllPairs (λ a b. a ≢ b) names
apart [] few = λ i j d less within. absurd (omega (arith, within))
apart (name ∷ names) few =
    AllPairs-cons (λ a b. a ≢ b) name names
    (unlike_all name names (others (one (bytes_eq name name)) (times name names) (ap one ((bytes_eq-Decides name name).1 refl)) (few name)))
    (apart names (λ x. rest (one (bytes_eq x name)) (times x names) (few x)))
  where
    others : (a b : ℕ) → a ≡ 1 → a + b ≤ 1 → b ≤ 0
    others a b p q = omega arith

    rest : (a b : ℕ) → a + b ≤ 1 → b ≤ 1
    rest a b e = omega arith
