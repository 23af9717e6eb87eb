-- The parts of data sets.
use Rattle.std.proofs.Common.{◌≡◌, ℕ, List, [], ◌∷◌, ◌++◌, map, refl, sym, ap, subst, ◌∙◌}
use Rattle.std.specs.Prelude.{Option, Some, None, Bool, true, false, ◌||◌, codes, unwrap_or, bytes_eq, IfSome}
use Rattle.std.specs.Option.{option_map, option_map_or, option_and_then, option_or}
use Rattle.std.specs.List.{list_all}
use Rattle.std.proofs.lemmas.List.{append_assoc}
use Rattle.std.proofs.lemmas.Slice.Eq.{bytes_eq-Decides}
use Rattle.json_exact.specs.declared.json.Json.{Json, out-Json}
use Rattle.json_exact.specs.declared.json.Json.TheOpen as level
use Rattle.json_exact.specs.declared.json.Member.{Member}
use Rattle.spec_schema.specs.declared.spec_error.SpecKind.TheVariants.{Unsupported}
use Rattle.json_exact.specs.Inside.{text_in, items_in, members_in}
use Rattle.json_exact.specs.Path.{member_value}
use Rattle.spec_schema.specs.declared.form.Form.{Form}
use Rattle.spec_schema.specs.declared.form.Form.TheVariants as form
use Rattle.spec_schema.specs.declared.layout.Rule.{Rule}
use Rattle.spec_schema.specs.Values.{Opened, list_passes, has_length}
use Rattle.spec_schema.specs.Layouts.{shape_in, rule_in}
use Rattle.spec_schema.specs.Forms.{taken_form, items_shape}
use Rattle.vega_schema.specs.declared.codes.TheConstants.{DATA, TEXT, TRANSFORM, TRANSFORMS}
use Rattle.vega_schema.specs.Schema.{vega_schema}
use Rattle.vega_schema.specs.Shapes.{leaves, named as named_shapes, lists, objects, MAX_LENGTH}
use Rattle.vega_schema.specs.Sources.{data_set}
use Rattle.vega_parts.specs.declared.part.Part.{Part}
use Rattle.vega_parts.specs.declared.part.Part.TheVariants as part
use Rattle.vega_parts.specs.declared.part.Given.TheVariants as given_as
use Rattle.vega_parts.specs.declared.part.Used.TheVariants as for_
use Rattle.vega_parts.specs.Trails.{Trail, noted, place_of, scope_of, child, is_faceted, object_round}
use Rattle.vega_parts.specs.Members.{has_member, text_at as part_text}
use Rattle.vega_parts.specs.Names.{given, used, used_member}
use Rattle.vega_parts.specs.Data.{data_set as data_itself, data_names, data_name, source_name, data_faults, transform_in_facet, far_url, is_far}
use Rattle.vega_parts.specs.Transforms.{data_of}
use Rattle.vega_parts.specs.Parts.{parts_at}
use Rattle.vega_building.specs.Parts.{text_at, needed_text, members_of}
use Rattle.vega_building.specs.Transforms.{transform_of}
use Rattle.vega_building.specs.Sources.{data_set_of}
use Rattle.vega_lists.specs.Transforms.{transforms_of}
use Rattle.vega_standing.proofs.Trees.{Each}
use Rattle.vega_standing.proofs.Stands.{EachFrom, Stands, StandsObject, formed, list_stands, list_parts_are, parts_in, parts_of_items, parts_of_members}
use Rattle.vega_standing.proofs.Shapes.{if_taken, form_taken}
use Rattle.vega_standing.proofs.Members.{Laid, laid_out, opened_as, found_as}
use Rattle.vega_standing.proofs.Transforms.{data_taken, data_layout, data_transforms}
use Rattle.vega_standing.proofs.Sources.{name_there, text_stands, the_text, data_rules, texts_are}
use Rattle.vega_standing.proofs.Marks.{listed}
use Rattle.vega_standing.proofs.Quiet.{AreQuiet, both_quiet, if_quiet, some_quiet, quiet_fault, quiet_shape}
use Rattle.vega_standing.proofs.Dull.{is_dull, found_passes}
use Rattle.vega_standing.proofs.Rows.{DullBut, OneLoud, one_loud, of_member}

-- ---- the list of transforms

pub transforms_taken : (o : Opened) (f : Form) → taken_form vega_schema TRANSFORMS o ≡ Some f →
    (list_passes (has_length 0 MAX_LENGTH) o ≡ true) × (form.List 0 MAX_LENGTH TRANSFORM ≡ f)
unfolding vega_schema leaves named_shapes lists objects
transforms_taken o f e = (if_taken (list_passes (has_length 0 MAX_LENGTH) o) _ f e, form_taken (list_passes (has_length 0 MAX_LENGTH) o) _ f e)

-- the parts of a list of transforms, by its items
pub record Listed (round : Trail) (number shape inner : ℕ) (v : Json) : Type 0 where
  pub items : List Json
  pub is_list : out-Json v ≡ level.List items
  pub parts : parts_in round number shape v ≡ parts_at (noted number shape v ∷ round) v ++ parts_of_items (noted number shape v ∷ round) inner 0 items
  pub each : EachFrom (λ i w. Stands (noted number shape v ∷ round) i inner w) 0 items

pub listed_as : (round : Trail) (number shape inner : ℕ) (v : Json) → Stands round number shape v →
    ((o : Opened) (f : Form) → taken_form vega_schema shape o ≡ Some f →
    (list_passes (has_length 0 MAX_LENGTH) o ≡ true) × (form.List 0 MAX_LENGTH inner ≡ f)) →
    Listed round number shape inner v
listed_as round number shape inner v s taken =
    let form = formed shape v s.fine in
    let is = taken (out-Json v) form.0 form.1 in
    let items : (items : List Json) × (out-Json v ≡ level.List items) = listed (out-Json v) is.0 in
    let known : taken_form vega_schema shape (level.List items.0) ≡ Some form.0 = ap (taken_form vega_schema shape) (sym items.1) ∙ form.1 in
    let asks : items_shape form.0 ≡ Some inner = ap items_shape (sym is.1) in
    record {
      items = items.0;
      is_list = items.1;
      parts = list_parts_are round number shape v items.0 form.0 inner items.1 known asks;
      each = list_stands round number shape v items.0 form.0 inner s items.1 known asks;
    }

-- ---- one data set

-- the use of a source
abbrev pub source_use : Trail → Option (ℕ × List ℕ) → List Part
source_use trail o = option_map_or (λ (m : ℕ × List ℕ). used for_.Source (scope_of trail) (child trail m.0) m.1 ∷ []) o []

-- the parts of a data set: itself, its name, its source, and its transforms, with quiet parts between them
pub record SetParts (round : Trail) (number : ℕ) (tree : Json) : Type 0 where
  pub name_number : ℕ
  pub source : Option (ℕ × List ℕ)
  pub list_trail : Trail
  pub items : List Json
  pub before_source : List Part
  pub behind_source : List Part
  pub behind : List Part
  pub quiet_before : AreQuiet before_source
  pub quiet_source : AreQuiet behind_source
  pub quiet_behind : AreQuiet behind
  pub parts : parts_in round number DATA tree ≡ part.Data (place_of (noted number DATA tree ∷ round))
      ∷ given given_as.Data (scope_of (noted number DATA tree ∷ round)) (place_of (noted number DATA tree ∷ round))
      (child (noted number DATA tree ∷ round) name_number) (data_set_of (members_of tree)).name
      ∷ (before_source ++ (source_use (noted number DATA tree ∷ round) source ++ (behind_source ++ (parts_of_items list_trail TRANSFORM 0 items ++ behind))))
  pub source_is : option_map (λ (m : ℕ × List ℕ). m.1) source ≡ (data_set_of (members_of tree)).source
  pub transforms : transforms_of (data_set_of (members_of tree)) ≡ map (λ t. transform_of (members_of t)) items
  pub each : EachFrom (λ i v. Stands list_trail i TRANSFORM v) 0 items
  pub of_set : (i : ℕ) (v : Json) → data_of (noted i TRANSFORM v ∷ list_trail) ≡ place_of (noted number DATA tree ∷ round)

abbrev dull_rule : Rule → Bool
dull_rule r = is_dull r.shape || bytes_eq r.name (codes "transform")

data_dull : list_all dull_rule data_set.rules ≡ true
unfolding data_set
data_dull = refl

no_others : data_set.others ≡ None
unfolding data_set
no_others = refl

pub or_dull : (a b : Bool) → (a || b) ≡ true → b ≡ false → a ≡ true
or_dull true b e f = refl
or_dull false b e f = absurd cc

-- a member that is read by a rule, where there are no other ones
pub ruled_as : (rules : List Rule) (others : Option ℕ) (name : List ℕ) (inner : ℕ) (P : ℕ → Type 0) → others ≡ None →
    ((r : Rule) → rule_in rules name ≡ Some r → P r.shape) →
    shape_in (record { object = 0; when = []; rules = rules; others = others }) name ≡ Some inner → P inner
ruled_as rules others name inner P none each e = by_rule (rule_in rules name) refl e
  where
    by_rule : (o : Option Rule) → rule_in rules name ≡ o → option_or (option_map (λ (r : Rule). r.shape) o) others ≡ Some inner → P inner
    by_rule None same f = absurd (let g = none in cc)
    by_rule (Some r) same f = let is : r.shape ≡ inner = cc in subst P is (each r same)

data_but : (m : Member) → DullBut data_set (codes "transform") m
data_but m other inner e =
    ruled_as data_set.rules data_set.others m.name inner (λ i. is_dull i ≡ true) no_others
    (λ r found.
    let passed : (bytes_eq r.name m.name ≡ true) × (dull_rule r ≡ true) =
    found_passes (λ (r : Rule). bytes_eq r.name m.name) dull_rule data_set.rules r found data_dull in
    let named : r.name ≡ m.name = (bytes_eq-Decides r.name m.name).0 passed.0 in
    or_dull (is_dull r.shape) (bytes_eq r.name (codes "transform")) passed.1 (ap (λ n. bytes_eq n (codes "transform")) named ∙ other)) e

each_but : (ms : List Member) → Each (DullBut data_set (codes "transform")) ms
each_but [] = tt
each_but (m ∷ ms) = (data_but m, each_but ms)

module _ (round : Trail) (number : ℕ) (tree : Json) (ms : List Member) (is : out-Json tree ≡ level.Object ms)
    (o : StandsObject (noted number DATA tree ∷ round) data_set ms) where
  abbrev set_trail : Trail
  set_trail = noted number DATA tree ∷ round

  quiet_source_name : (m : ℕ × List ℕ) → AreQuiet (source_name set_trail tree m)
  quiet_source_name m = if_quiet (has_member (codes "source") tree) [] _ tt (refl, tt)

  record Named : Type 0 where
    at_child : ℕ
    behind : List Part
    quiet : AreQuiet behind
    parts : data_names set_trail tree
        ≡ given given_as.Data (scope_of set_trail) (place_of set_trail) (child set_trail at_child) (needed_text ms (codes "name")) ∷ behind

  named_by : (m : Option (ℕ × List ℕ)) (t : List ℕ) → part_text (codes "name") tree ≡ m →
      option_map (λ (m : ℕ × List ℕ). m.1) m ≡ Some t → needed_text ms (codes "name") ≡ t → Named
  named_by None t e same nm = absurd cc
  named_by (Some m) t e same nm =
      let text : m.1 ≡ needed_text ms (codes "name") = (let f : m.1 ≡ t = cc in f) ∙ sym nm in
      record {
        at_child = m.0;
        behind = source_name set_trail tree m;
        quiet = quiet_source_name m;
        parts = ap (λ o. option_map_or (λ (m : ℕ × List ℕ). data_name set_trail m ++ source_name set_trail tree m) o []) e
            ∙ ap (λ n. given given_as.Data (scope_of set_trail) (place_of set_trail) (child set_trail m.0) n ∷ source_name set_trail tree m) text;
      }

  the_name : Named
  the_name =
      let v : (v : Json) × (member_value ms (codes "name") ≡ Some v) = name_there set_trail ms o in
      let stands : (i : ℕ) × Stands set_trail i TEXT v.0 = found_as set_trail data_set ms (codes "name") v.0 TEXT o data_rules.0 v.1 in
      let t : (t : List ℕ) × (text_in (out-Json v.0) ≡ Some t) = the_text (text_in (out-Json v.0)) (text_stands set_trail stands.0 v.0 stands.1) in
      let text : text_at ms (codes "name") ≡ Some t.0 = ap (λ o. option_and_then (λ v. text_in (out-Json v)) o) v.1 ∙ t.1 in
      named_by (part_text (codes "name") tree) t.0 refl (texts_are tree ms is (codes "name") ∙ text) (ap (λ o. unwrap_or o []) text)

  quiet_faults : AreQuiet (data_faults set_trail tree)
  quiet_faults =
      both_quiet (transform_in_facet set_trail tree) (far_url set_trail tree)
      (if_quiet (is_faceted (object_round set_trail)) _ [] (quiet_fault Unsupported (codes "transform") set_trail tree) tt)
      (some_quiet _ (λ (m : ℕ × List ℕ). if_quiet (is_far m.1) (part.Fault (child set_trail m.0) Unsupported ∷ []) [] (refl, tt) tt)
      (part_text (codes "url") tree))

  loud : OneLoud set_trail data_set (codes "transform") TRANSFORMS 0 ms
  loud = one_loud set_trail data_set (codes "transform") TRANSFORMS 0 ms data_transforms o.own o.each (each_but ms)

  -- the transforms, with the quiet part of their list
  record Made (here : Option (ℕ × Json)) : Type 0 where
    list_trail : Trail
    items : List Json
    front : List Part
    quiet : AreQuiet front
    parts : of_member set_trail TRANSFORMS here ≡ front ++ parts_of_items list_trail TRANSFORM 0 items
    transforms : unwrap_or (option_map (map (λ t. transform_of (members_of t)))
        (option_and_then (λ v. items_in (out-Json v)) (option_map (λ (m : ℕ × Json). m.1) here))) []
        ≡ map (λ t. transform_of (members_of t)) items
    each : EachFrom (λ i v. Stands list_trail i TRANSFORM v) 0 items
    of_set : (i : ℕ) (v : Json) → data_of (noted i TRANSFORM v ∷ list_trail) ≡ place_of set_trail

  made : (here : Option (ℕ × Json)) → IfSome here (λ (m : ℕ × Json). Stands set_trail m.0 TRANSFORMS m.1) → Made here
  made None s = record {
    list_trail = noted 0 TRANSFORMS tree ∷ set_trail;
    items = [];
    front = [];
    quiet = tt;
    parts = refl;
    transforms = refl;
    each = tt;
    of_set = λ i v. refl;
  }
  made (Some m) s =
      let l : Listed set_trail m.0 TRANSFORMS TRANSFORM m.1 = listed_as set_trail m.0 TRANSFORMS TRANSFORM m.1 s transforms_taken in
      record {
        list_trail = noted m.0 TRANSFORMS m.1 ∷ set_trail;
        items = l.items;
        front = parts_at (noted m.0 TRANSFORMS m.1 ∷ set_trail) m.1;
        quiet = quiet_shape TRANSFORMS refl refl refl (noted m.0 TRANSFORMS m.1 ∷ set_trail) m.1;
        parts = l.parts;
        transforms = ap (λ o. unwrap_or (option_map (map (λ t. transform_of (members_of t))) (items_in o)) []) l.is_list;
        each = l.each;
        of_set = λ i v. refl;
      }

  of_made : Made loud.here
  of_made = made loud.here loud.stands

  all_parts : (a b : List Part) (d g : Part) (q source faults front steps lf lb : List Part) →
      a ≡ ((((d ∷ []) ++ (g ∷ q)) ++ source) ++ faults) → b ≡ lf ++ ((front ++ steps) ++ lb) →
      a ++ b ≡ d ∷ g ∷ (q ++ (source ++ ((faults ++ (lf ++ front)) ++ (steps ++ lb))))
  all_parts a b d g q source faults front steps lf lb x y =
      (λ i. x i ++ y i)
      ∙ ap (λ l. d ∷ g ∷ l) (
      append_assoc (q ++ source) faults (lf ++ ((front ++ steps) ++ lb))
      ∙ append_assoc q source (faults ++ (lf ++ ((front ++ steps) ++ lb)))
      ∙ ap (λ l. q ++ (source ++ l)) (
      ap (λ l. faults ++ l) (ap (λ l. lf ++ l) (append_assoc front steps lb) ∙ sym (append_assoc lf front (steps ++ lb)))
      ∙ sym (append_assoc faults (lf ++ front) (steps ++ lb))))

  set_is : members_of tree ≡ ms →
      parts_in round number DATA tree ≡ parts_at set_trail tree ++ parts_of_members set_trail data_set 0 ms → SetParts round number tree
  set_is same whole = record {
    name_number = the_name.at_child;
    source = part_text (codes "source") tree;
    list_trail = of_made.list_trail;
    items = of_made.items;
    before_source = the_name.behind;
    behind_source = data_faults set_trail tree ++ (loud.front ++ of_made.front);
    behind = loud.back;
    quiet_before = the_name.quiet;
    quiet_source = both_quiet (data_faults set_trail tree) (loud.front ++ of_made.front)
        quiet_faults (both_quiet loud.front of_made.front loud.quiet_front of_made.quiet);
    quiet_behind = loud.quiet_back;
    parts = whole
        ∙ all_parts (parts_at set_trail tree) (parts_of_members set_trail data_set 0 ms) (part.Data (place_of set_trail))
        (given given_as.Data (scope_of set_trail) (place_of set_trail) (child set_trail the_name.at_child) (needed_text ms (codes "name")))
        the_name.behind (source_use set_trail (part_text (codes "source") tree)) (data_faults set_trail tree) of_made.front
        (parts_of_items of_made.list_trail TRANSFORM 0 of_made.items) loud.front loud.back
        (ap (λ names. ((data_itself set_trail ++ names) ++ used_member for_.Source (codes "source") set_trail tree) ++ data_faults set_trail tree)
        the_name.parts)
        (loud.parts ∙ ap (λ ps. loud.front ++ (ps ++ loud.back)) of_made.parts)
        ∙ ap (λ m. part.Data (place_of set_trail)
        ∷ given given_as.Data (scope_of set_trail) (place_of set_trail) (child set_trail the_name.at_child) (data_set_of m).name
        ∷ (the_name.behind ++ (source_use set_trail (part_text (codes "source") tree) ++ ((data_faults set_trail tree
        ++ (loud.front ++ of_made.front)) ++ (parts_of_items of_made.list_trail TRANSFORM 0 of_made.items ++ loud.back))))) (sym same);
    source_is = texts_are tree ms is (codes "source") ∙ ap (λ m. (data_set_of m).source) (sym same);
    transforms = ap (λ m. transforms_of (data_set_of m)) same
        ∙ ap (λ o. unwrap_or (option_map (map (λ t. transform_of (members_of t))) (option_and_then (λ v. items_in (out-Json v)) o)) []) loud.value
        ∙ of_made.transforms;
    each = of_made.each;
    of_set = of_made.of_set;
  }

pub set_parts : (round : Trail) (number : ℕ) (tree : Json) → Stands round number DATA tree → SetParts round number tree
set_parts round number tree s =
    let form = formed DATA tree s.fine in
    let ms : (ms : List Member) × (out-Json tree ≡ level.Object ms) = opened_as DATA (out-Json tree) (data_taken (out-Json tree) form.0 form.1).0 in
    let l : Laid round number DATA DATA tree ms.0 = laid_out round number DATA DATA tree ms.0 s ms.1 (λ f e. data_taken (level.Object ms.0) f e) in
    let is : l.layout ≡ data_set = let a = l.applies in let b = data_layout ms.0 in cc in
    let same : members_of tree ≡ ms.0 = ap (λ o. unwrap_or (members_in o) []) ms.1 in
    set_is round number tree ms.0 ms.1 (subst (λ x. StandsObject (noted number DATA tree ∷ round) x ms.0) is l.stands) same
    (l.parts ∙ ap (λ x. parts_at (noted number DATA tree ∷ round) tree ++ parts_of_members (noted number DATA tree ∷ round) x 0 ms.0) is)
