-- The folds of an object: of its data sets, and then of the marks in it.
use Rattle.std.proofs.Common.{◌≡◌, ℕ, ◌+◌, ◌<◌, List, [], ◌∷◌, ◌++◌, find, cond, refl, sym, ap, subst, ◌∙◌, arith}
use Rattle.std.specs.Prelude.{Option, Some, None, Bool, true, false, codes, bytes_eq, IfSome}
use Rattle.std.specs.Option.{option_map, option_map_or}
use Rattle.std.specs.List.{cons_option}
use Rattle.std.proofs.lemmas.List.{append_assoc, append-nil}
use Rattle.std.proofs.lemmas.Slice.Eq.{bytes_eq-Decides}
use Rattle.json_exact.specs.declared.json.Json.{Json}
use Rattle.json_exact.specs.declared.json.Member.{Member}
use Rattle.json_exact.specs.Path.{member_value}
use Rattle.spec_schema.specs.declared.layout.Layout.{Layout}
use Rattle.spec_schema.specs.Layouts.{shape_in, has_name}
use Rattle.spec_walk.specs.Walk.{seen_in, member_parts}
use Rattle.vega_schema.specs.declared.codes.TheConstants.{DATA_LIST, MARKS}
use Rattle.vega_schema.specs.Schema.{vega_schema}
use Rattle.vega_parts.specs.declared.part.Part.{Part}
use Rattle.vega_parts.specs.declared.part.Part.TheVariants as part
use Rattle.vega_parts.specs.declared.part.Given.{Given}
use Rattle.vega_parts.specs.declared.part.Given.TheVariants as given_as
use Rattle.vega_parts.specs.declared.part.GivenName.{GivenName}
use Rattle.vega_parts.specs.Parts.{parts_at}
use Rattle.vega_parts.specs.Trails.{Trail, noted}
use Rattle.vega_rules.specs.Names.{given_by, given_names, is_given, first_given}
use Rattle.vega_rules.specs.Places.{same_place}
use Rattle.vega_standing.specs.OwnNames.{AreOwn}
use Rattle.vega_standing.proofs.Trees.{Each}
use Rattle.vega_standing.proofs.Stands.{EachFrom, Stands, StandsMember, parts_in, parts_of_members}
use Rattle.vega_standing.proofs.Quiet.{is_quiet_name, IsQuiet, AreQuiet, both_quiet}
use Rattle.vega_standing.proofs.Dull.{is_dull}
use Rattle.vega_standing.proofs.Known.{Apart, quiet_concern, IsLoud, loud_facet, name_unlike, name_behind}
use Rattle.vega_standing.proofs.Rows.{DullBut, OneLoud, one_loud, of_member, dull_member, none_named}

-- ---- names that an object doesn't give

pub apart_none : (kind : Given) → IsLoud kind → (x name : List ℕ) (parts : List Part) → Each (Apart x) parts → first_given parts kind x name ≡ None
apart_none kind loud x name parts each =
    ap (λ ps. first_given ps kind x name) (sym (append-nil parts)) ∙ name_behind kind loud x name parts [] each

-- no facet gives a name in the object by this part
abbrev pub Facetless : List ℕ → Part → Type 0
Facetless x p = IfSome (given_by p) (λ (g : GivenName). (name : List ℕ) → is_given given_as.Facet x name g ≡ false)

pub apart_facetless : (x : List ℕ) (p : Part) → Apart x p → Facetless x p
apart_facetless x (part.Given g) a = λ name. name_unlike given_as.Facet loud_facet x name g (is_quiet_name g.kind) refl a
apart_facetless x (part.Used u) a = tt
apart_facetless x (part.Data at) a = tt
apart_facetless x (part.Fold at set fields) a = tt
apart_facetless x (part.Fault at kind) a = tt
apart_facetless x (part.Mark at scope name group) a = tt
apart_facetless x (part.Plot at) a = tt
apart_facetless x (part.Step at set) a = tt
apart_facetless x (part.Interval at scope scale marks) a = tt

pub quiet_apart : (x : List ℕ) (p : Part) → IsQuiet p → Apart x p
quiet_apart x p q = subst (λ o. IfSome o (λ t. same_place x t ≡ false)) (sym (quiet_concern p q)) tt

pub facetless_none : (x name : List ℕ) (parts : List Part) → Each (Facetless x) parts → first_given parts given_as.Facet x name ≡ None
facetless_none x name [] each = refl
facetless_none x name (p ∷ parts) each = by_given (given_by p) each.0 (facetless_none x name parts each.1)
  where
    by_given : (o : Option GivenName) → IfSome o (λ (g : GivenName). (name : List ℕ) → is_given given_as.Facet x name g ≡ false) →
        first_given parts given_as.Facet x name ≡ None →
        find (is_given given_as.Facet x name) (cons_option o (given_names parts)) ≡ None
    by_given None e rest = rest
    by_given (Some g) e rest = ap (λ b. cond b (Some g) (first_given parts given_as.Facet x name)) (e name) ∙ rest

-- ---- two members

-- a member of neither name is dull
abbrev pub DullButTwo : Layout → Member → Type 0
DullButTwo l m = bytes_eq m.name (codes "data") ≡ false → bytes_eq m.name (codes "marks") ≡ false →
    (inner : ℕ) → shape_in l m.name ≡ Some inner → is_dull inner ≡ true

but_marks : (l : Layout) (ms : List Member) → has_name ms (codes "data") ≡ false → Each (DullButTwo l) ms → Each (DullBut l (codes "marks")) ms
but_marks l [] e each = tt
but_marks l (m ∷ ms) e each = let none = none_named m ms (codes "data") e in ((λ other. each.0 none.0 other), but_marks l ms none.1 each.1)

but_sets : (l : Layout) (ms : List Member) → has_name ms (codes "marks") ≡ false → Each (DullButTwo l) ms → Each (DullBut l (codes "data")) ms
but_sets l [] e each = tt
but_sets l (m ∷ ms) e each = let none = none_named m ms (codes "marks") e in ((λ other. each.0 other none.0), but_sets l ms none.1 each.1)

-- the parts of an object's members: of its data sets, of its marks, in some order, and quiet ones round them
pub record TwoLoud (trail : Trail) (l : Layout) (n : ℕ) (ms : List Member) : Type 0 where
  pub front : List Part
  pub between : List Part
  pub back : List Part
  pub sets : Option (ℕ × Json)
  pub marks : Option (ℕ × Json)
  pub sets_first : Bool
  pub quiet_front : AreQuiet front
  pub quiet_between : AreQuiet between
  pub quiet_back : AreQuiet back
  pub parts : parts_of_members trail l n ms ≡ front ++ (cond sets_first (of_member trail DATA_LIST sets) (of_member trail MARKS marks)
      ++ (between ++ (cond sets_first (of_member trail MARKS marks) (of_member trail DATA_LIST sets) ++ back)))
  pub sets_value : member_value ms (codes "data") ≡ option_map (λ (m : ℕ × Json). m.1) sets
  pub marks_value : member_value ms (codes "marks") ≡ option_map (λ (m : ℕ × Json). m.1) marks
  pub sets_stand : IfSome sets (λ (m : ℕ × Json). Stands trail m.0 DATA_LIST m.1)
  pub marks_stand : IfSome marks (λ (m : ℕ × Json). Stands trail m.0 MARKS m.1)
  pub order : IfSome sets (λ (s : ℕ × Json). IfSome marks (λ (m : ℕ × Json). (sets_first ≡ true → s.0 < m.0) × (sets_first ≡ false → m.0 < s.0)))

first_set : (n : ℕ) (o : Option (ℕ × Json)) → IfSome o (λ (m : ℕ × Json). (k : ℕ) × (m.0 ≡ n + 1 + k)) →
    IfSome o (λ (m : ℕ × Json). (true ≡ true → n < m.0) × (true ≡ false → m.0 < n))
first_set n None e = tt
first_set n (Some m) e = ((λ same. less n m.0 e.0 e.1), (λ never. absurd cc))
  where
    less : (n m k : ℕ) → m ≡ n + 1 + k → n < m
    less n m k e = omega arith

first_marks : (n : ℕ) (v : Json) (o : Option (ℕ × Json)) → IfSome o (λ (m : ℕ × Json). (k : ℕ) × (m.0 ≡ n + 1 + k)) →
    IfSome o (λ (s : ℕ × Json). (false ≡ true → s.0 < n) × (false ≡ false → n < s.0))
first_marks n v None e = tt
first_marks n v (Some m) e = ((λ never. absurd cc), (λ same. less n m.0 e.0 e.1))
  where
    less : (n m k : ℕ) → m ≡ n + 1 + k → n < m
    less n m k e = omega arith

valued : (m : Member) (ms : List Member) (name : List ℕ) (b : Bool) → bytes_eq m.name name ≡ b →
    member_value (m ∷ ms) name ≡ option_map (λ (m : Member). m.value) (cond b (Some m) (find (λ (m : Member). bytes_eq m.name name) ms))
valued m ms name b e = ap (λ b. option_map (λ (m : Member). m.value) (cond b (Some m) (find (λ (m : Member). bytes_eq m.name name) ms))) e

one_first : (trail : Trail) (l : Layout) (name : List ℕ) (shape : ℕ) (n : ℕ) (m : Member) (ms : List Member) →
    shape_in l name ≡ Some shape → StandsMember trail l n m → m.name ≡ name →
    (Stands trail n shape m.value) × (member_parts l trail (n, (m.name, seen_in vega_schema noted parts_at m.value)) ≡ parts_in trail n shape m.value)
one_first trail l name shape n m ms ruled s named =
    let rule : shape_in l m.name ≡ Some shape = ap (shape_in l) named ∙ ruled in
    let shaped : s.0 ≡ shape = let a = s.1 in cc in
    (subst (λ c. Stands trail n c m.value) shaped s.2, ap (λ o. option_map_or (λ shape. parts_in trail n shape m.value) o []) rule)

pub two_loud : (trail : Trail) (l : Layout) (n : ℕ) (ms : List Member) →
    shape_in l (codes "data") ≡ Some DATA_LIST → shape_in l (codes "marks") ≡ Some MARKS → AreOwn ms →
    EachFrom (StandsMember trail l) n ms → Each (DullButTwo l) ms → TwoLoud trail l n ms
two_loud trail l n [] sets marks own each dull = record {
  front = [];
  between = [];
  back = [];
  sets = None;
  marks = None;
  sets_first = true;
  quiet_front = tt;
  quiet_between = tt;
  quiet_back = tt;
  parts = refl;
  sets_value = refl;
  marks_value = refl;
  sets_stand = tt;
  marks_stand = tt;
  order = tt;
}
two_loud trail l n (m ∷ ms) sets marks own each dull =
    by_name (bytes_eq m.name (codes "data")) (bytes_eq m.name (codes "marks")) refl refl (two_loud trail l (n + 1) ms sets marks own.1 each.1 dull.1)
  where
    by_name : (a b : Bool) → bytes_eq m.name (codes "data") ≡ a → bytes_eq m.name (codes "marks") ≡ b → TwoLoud trail l (n + 1) ms → TwoLoud trail l n (m ∷ ms)
    by_name true b is_set other rest =
        let named : m.name ≡ codes "data" = (bytes_eq-Decides m.name (codes "data")).0 is_set in
        let here = one_first trail l (codes "data") DATA_LIST n m ms sets each.0 named in
        let on : OneLoud trail l (codes "marks") MARKS (n + 1) ms =
        one_loud trail l (codes "marks") MARKS (n + 1) ms marks own.1 each.1 (but_marks l ms (subst (λ x. has_name ms x ≡ false) named own.0) dull.1) in
        let no_mark : bytes_eq m.name (codes "marks") ≡ false = ap (λ x. bytes_eq x (codes "marks")) named in
        record {
          front = [];
          between = on.front;
          back = on.back;
          sets = Some (n, m.value);
          marks = on.here;
          sets_first = true;
          quiet_front = tt;
          quiet_between = on.quiet_front;
          quiet_back = on.quiet_back;
          parts = λ i. here.1 i ++ on.parts i;
          sets_value = valued m ms (codes "data") true is_set;
          marks_value = valued m ms (codes "marks") false no_mark ∙ on.value;
          sets_stand = here.0;
          marks_stand = on.stands;
          order = first_set n on.here on.behind;
        }
    by_name false true no_set is_marks rest =
        let named : m.name ≡ codes "marks" = (bytes_eq-Decides m.name (codes "marks")).0 is_marks in
        let here = one_first trail l (codes "marks") MARKS n m ms marks each.0 named in
        let on : OneLoud trail l (codes "data") DATA_LIST (n + 1) ms =
        one_loud trail l (codes "data") DATA_LIST (n + 1) ms sets own.1 each.1 (but_sets l ms (subst (λ x. has_name ms x ≡ false) named own.0) dull.1) in
        record {
          front = [];
          between = on.front;
          back = on.back;
          sets = on.here;
          marks = Some (n, m.value);
          sets_first = false;
          quiet_front = tt;
          quiet_between = on.quiet_front;
          quiet_back = on.quiet_back;
          parts = λ i. here.1 i ++ on.parts i;
          sets_value = valued m ms (codes "data") false no_set ∙ on.value;
          marks_value = valued m ms (codes "marks") true is_marks;
          sets_stand = on.stands;
          marks_stand = here.0;
          order = first_marks n m.value on.here on.behind;
        }
    by_name false false no_set no_marks rest =
        let here : List Part = member_parts l trail (n, (m.name, seen_in vega_schema noted parts_at m.value)) in
        record {
          front = here ++ rest.front;
          between = rest.between;
          back = rest.back;
          sets = rest.sets;
          marks = rest.marks;
          sets_first = rest.sets_first;
          quiet_front = both_quiet here rest.front (dull_member trail l n m (dull.0 no_set no_marks)) rest.quiet_front;
          quiet_between = rest.quiet_between;
          quiet_back = rest.quiet_back;
          parts = ap (λ ps. here ++ ps) rest.parts
              ∙ sym (append_assoc here rest.front (cond rest.sets_first (of_member trail DATA_LIST rest.sets) (of_member trail MARKS rest.marks)
              ++ (rest.between ++ (cond rest.sets_first (of_member trail MARKS rest.marks) (of_member trail DATA_LIST rest.sets) ++ rest.back))));
          sets_value = valued m ms (codes "data") false no_set ∙ rest.sets_value;
          marks_value = valued m ms (codes "marks") false no_marks ∙ rest.marks_value;
          sets_stand = rest.sets_stand;
          marks_stand = rest.marks_stand;
          order = rest.order;
        }
