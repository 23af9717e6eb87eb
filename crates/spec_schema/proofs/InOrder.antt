-- The faults that a schema finds stand in the order of the text.
use Rattle.std.proofs.Common.{◌≡◌, ℕ, ◌+◌, List, [], ◌∷◌, ◌++◌, length, map, flat_map, refl, sym, ◌∙◌, arith, subst, append-nil}
use Rattle.std.specs.Prelude.{Bool, true, false, ◌==◌, nat_lt, nat_le, ◌&&◌, ◌||◌, if◌then◌else◌, Option, Some, None}
use Rattle.std.specs.List.{enumerate_from, list_all}
use Rattle.std.specs.Fmt.{decimal}
use Rattle.std.proofs.lemmas.Bool.Decides.{nat_tests}
use Rattle.std.proofs.lemmas.List.{append_assoc}
use Rattle.std.proofs.lemmas.List.Folds.{list_all-append}
use Rattle.json_exact.specs.declared.json.Json.{Json, out-Json, Null, Flag, Number, Huge, Text, List', Object', Row_of-Json, end_of-Json}
use Rattle.json_exact.specs.declared.json.Json.{more_of-Json, Row_of-Member, end_of-Member, more_of-Member}
use Rattle.spec_schema.specs.declared.spec_error.SpecKind.TheVariants.{Missing}
use Rattle.spec_schema.specs.declared.fault.Fault.{Fault}
use Rattle.spec_schema.specs.declared.form.Form.{Form}
use Rattle.spec_schema.specs.declared.layout.Layout.{Layout}
use Rattle.spec_schema.specs.declared.layout.Rule.{Rule}
use Rattle.spec_schema.specs.declared.schema.Schema.{Schema}
use Rattle.spec_schema.specs.Forms.{taken_form, items_shape, layout_of}
use Rattle.spec_schema.specs.Layouts.{shape_in}
use Rattle.spec_schema.specs.Faults.{Judged, here, below, faults_by, is_missing, missing_fault, missing_faults, list_faults, object_faults}
use Rattle.spec_schema.specs.Faults.{unless_wrong, members_of, faults_in, judged_items, judged_row}
use Rattle.spec_schema.specs.Order.{is_before, in_order}

-- ---- tests

both : (a b : Bool) → a ≡ true → b ≡ true → (a && b) ≡ true
both a b p q = rw (p, q) refl

left_of : (a b : Bool) → (a && b) ≡ true → a ≡ true
left_of true b h = refl
left_of false b h = h

right_of : (a b : Bool) → (a && b) ≡ true → b ≡ true
right_of true b h = h
right_of false b h = absurd (cc)

same_front : (n : ℕ) (b : Bool) → (nat_lt n n || (n == n && b)) ≡ b
same_front n true = grind (arith, nat_tests)
same_front n false = grind (arith, nat_tests)

less_front : (m n : ℕ) (b : Bool) → nat_le (m + 1) n ≡ true → (nat_lt m n || b) ≡ true
less_front m n b h = grind (arith, nat_tests)

at_least_less : (m n : ℕ) → nat_le (m + 1) n ≡ true → nat_le m n ≡ true
at_least_less m n h = grind (arith, nat_tests)

at_least_itself : (n : ℕ) → nat_le n n ≡ true
at_least_itself n = grind (arith, nat_tests)

-- ---- places that begin from a number on

abbrev begins : ℕ → List ℕ → Bool
begins n [] = false
begins n (m ∷ ms) = nat_le n m

-- the places of all these faults begin with a number from n on
abbrev from : ℕ → List Fault → Bool
from n faults = list_all (λ (f : Fault). begins n f.place) faults

first_less : (i : ℕ) (p q : List ℕ) → begins (i + 1) q ≡ true → is_before (i ∷ p) q ≡ true
first_less i p [] h = absurd (cc)
first_less i p (m ∷ ms) h = less_front i m _ h

begins_less : (i : ℕ) (q : List ℕ) → begins (i + 1) q ≡ true → begins i q ≡ true
begins_less i [] h = h
begins_less i (m ∷ ms) h = at_least_less i m h

from_less : (i : ℕ) (fs : List Fault) → from (i + 1) fs ≡ true → from i fs ≡ true
from_less i [] h = refl
from_less i (f ∷ fs) h = both _ _ (begins_less i f.place (left_of _ _ h)) (from_less i fs (right_of (begins (i + 1) f.place) _ h))

before_all : (i : ℕ) (p : List ℕ) (fs : List Fault) → from (i + 1) fs ≡ true → list_all (λ (g : Fault). is_before (i ∷ p) g.place) fs ≡ true
before_all i p [] h = refl
before_all i p (f ∷ fs) h = both _ _ (first_less i p f.place (left_of _ _ h)) (before_all i p fs (right_of (begins (i + 1) f.place) _ h))

-- below one child the order stays
all_below : (i : ℕ) (name p : List ℕ) (fs : List Fault)
    → list_all (λ (g : Fault). is_before (i ∷ p) g.place) (map (below i name) fs) ≡ list_all (λ (g : Fault). is_before p g.place) fs
all_below i name p [] = refl
all_below i name p (f ∷ fs) = rw (same_front i (is_before p f.place), all_below i name p fs) refl

-- ---- the faults of one child, and then those of later ones

order_join : (i : ℕ) (name : List ℕ) (fs rest : List Fault) → in_order fs ≡ true → in_order rest ≡ true → from (i + 1) rest ≡ true
    → in_order (map (below i name) fs ++ rest) ≡ true
order_join i name [] rest o r h = r
order_join i name (f ∷ fs) rest o r h =
    let front : list_all (λ (g : Fault). is_before (i ∷ f.place) g.place) (map (below i name) fs) ≡ true =
    all_below i name f.place fs ∙ left_of _ _ o in
    let all : list_all (λ (g : Fault). is_before (i ∷ f.place) g.place) (map (below i name) fs ++ rest) ≡ true =
    list_all-append (λ (g : Fault). is_before (i ∷ f.place) g.place) (map (below i name) fs) rest
    ∙ both _ _ front (before_all i f.place rest h) in
    both _ _ all (order_join i name fs rest (right_of (list_all (λ (g : Fault). is_before f.place g.place) fs) _ o) r h)

from_join : (i : ℕ) (name : List ℕ) (fs rest : List Fault) → from (i + 1) rest ≡ true → from i (map (below i name) fs ++ rest) ≡ true
from_join i name [] rest h = from_less i rest h
from_join i name (f ∷ fs) rest h = both _ _ (at_least_itself i) (from_join i name fs rest h)

-- ---- the faults of children in a row

abbrev row_faults : {X : Type 0} → (ℕ → X → List ℕ) → (X → List Fault) → ℕ × X → List Fault
row_faults name h p = map (below p.0 (name p.0 p.1)) (h p.1)

-- the faults of each child are in order
abbrev Fine : {X : Type 0} → (X → List Fault) → List X → Type 0
Fine h [] = Unit {0}
Fine h (x ∷ xs) = (in_order (h x) ≡ true) × Fine h xs

record Rows (n : ℕ) (fs : List Fault) : Type 0 where
  order : in_order fs ≡ true
  begin : from n fs ≡ true

rows_ordered : {X : Type 0} (name : ℕ → X → List ℕ) (h : X → List Fault) (n : ℕ) (xs : List X) (rest : List Fault) → Fine h xs
    → in_order rest ≡ true → from (n + length xs) rest ≡ true → Rows n (flat_map (row_faults name h) (enumerate_from n xs) ++ rest)
rows_ordered name h n [] rest fine o f =
    let e : n + 0 ≡ n = omega arith in
    record { order = o; begin = subst (λ (k : ℕ). from k rest ≡ true) e f }
rows_ordered name h n (x ∷ xs) rest fine o f =
    let e : n + length (x ∷ xs) ≡ (n + 1) + length xs = omega arith in
    let later : Rows (n + 1) (flat_map (row_faults name h) (enumerate_from (n + 1) xs) ++ rest) =
    rows_ordered name h (n + 1) xs rest fine.1 o (subst (λ (k : ℕ). from k rest ≡ true) e f) in
    let whole : List Fault = map (below n (name n x)) (h x) ++ (flat_map (row_faults name h) (enumerate_from (n + 1) xs) ++ rest) in
    let joined : whole ≡ flat_map (row_faults name h) (enumerate_from n (x ∷ xs)) ++ rest =
    sym (append_assoc (map (below n (name n x)) (h x)) (flat_map (row_faults name h) (enumerate_from (n + 1) xs)) rest) in
    subst (Rows n) joined record {
      order = order_join n (name n x) (h x) _ fine.0 later.order later.begin;
      begin = from_join n (name n x) (h x) _ later.begin;
    }

-- ---- missing members

the_missing : List (List ℕ) → Rule → List Fault
the_missing names rule = if is_missing names rule then here Missing ∷ [] else []

missing_by : (b : Bool) (i : ℕ) (name : List ℕ)
    → (if b then below i name (here Missing) ∷ [] else []) ≡ map (below i name) (if b then here Missing ∷ [] else [])
missing_by true i name = refl
missing_by false i name = refl

one_missing : (b : Bool) → in_order (if b then here Missing ∷ [] else []) ≡ true
one_missing true = refl
one_missing false = refl

missing_rows : (names : List (List ℕ)) (n : ℕ) (rules : List Rule)
    → flat_map (missing_fault names) (enumerate_from n rules) ≡ flat_map (row_faults (λ (i : ℕ) (r : Rule). r.name) (the_missing names))
    (enumerate_from n rules)
unfolding the_missing
missing_rows names n [] = refl
missing_rows names n (r ∷ rs) = rw (missing_by (is_missing names r) n r.name, missing_rows names (n + 1) rs) refl

missing_fine : (names : List (List ℕ)) (rules : List Rule) → Fine (the_missing names) rules
unfolding the_missing
missing_fine names [] = tt
missing_fine names (r ∷ rs) = (one_missing (is_missing names r), missing_fine names rs)

missing_ordered : (layout : Layout) (names : List (List ℕ)) → Rows (length names) (missing_faults layout names)
missing_ordered layout names =
    let rows : Rows (length names)
    (flat_map (row_faults (λ (i : ℕ) (r : Rule). r.name) (the_missing names)) (enumerate_from (length names) layout.rules) ++ []) =
    rows_ordered (λ (i : ℕ) (r : Rule). r.name) (the_missing names) (length names) layout.rules []
    (missing_fine names layout.rules) refl refl in
    subst (Rows (length names)) (append-nil _ ∙ sym (missing_rows names (length names) layout.rules)) rows

-- ---- values

unless_ordered : (asked : Option Form) (inside : Form → List Fault) → ((f : Form) → in_order (inside f) ≡ true)
    → in_order (unless_wrong asked inside) ≡ true
unless_ordered None inside h = refl
unless_ordered (Some f) inside h = h f

list_ordered : (asked : Option ℕ) (items : List Judged) → ((shape : ℕ) → Fine (λ (j : Judged). j shape) items)
    → in_order (list_faults asked items) ≡ true
list_ordered None items h = refl
list_ordered (Some shape) items h =
    let faults : List Fault = flat_map (row_faults (λ (i : ℕ) (j : Judged). decimal i) (λ (j : Judged). j shape))
    (enumerate_from 0 items) in
    let rows : Rows 0 (faults ++ []) =
    rows_ordered (λ (i : ℕ) (j : Judged). decimal i) (λ (j : Judged). j shape) 0 items [] (h shape) refl refl in
    let P : List Fault → Type 0 = λ fs. in_order fs ≡ true in
    subst P (append-nil faults) rows.order

abbrev by_layout : Layout → List ℕ × Judged → List Fault
by_layout layout m = faults_by (shape_in layout m.0) m.1

length_names : (members : List (List ℕ × Judged)) → length (map (λ (m : List ℕ × Judged). m.0) members) ≡ length members
length_names [] = refl
length_names (m ∷ ms) = rw (length_names ms) refl

object_ordered : (layout : Option Layout) (members : List (List ℕ × Judged)) → ((l : Layout) → Fine (by_layout l) members)
    → in_order (object_faults layout members) ≡ true
object_ordered None members h = refl
object_ordered (Some layout) members h =
    let names : List (List ℕ) = map (λ (m : List ℕ × Judged). m.0) members in
    let missing : Rows (length names) (missing_faults layout names) = missing_ordered layout names in
    let e : length names ≡ 0 + length members = length_names members ∙ omega arith in
    let rows : Rows 0 (flat_map (row_faults (λ (i : ℕ) (m : List ℕ × Judged). m.0) (by_layout layout))
    (enumerate_from 0 members) ++ missing_faults layout names) =
    rows_ordered (λ (i : ℕ) (m : List ℕ × Judged). m.0) (by_layout layout) 0 members (missing_faults layout names) (h layout) missing.order
    (subst (λ (k : ℕ). from k (missing_faults layout names) ≡ true) e missing.begin) in
    rows.order

by_ordered : (shape : Option ℕ) (value : Judged) → ((c : ℕ) → in_order (value c) ≡ true) → in_order (faults_by shape value) ≡ true
by_ordered None value h = refl
by_ordered (Some c) value h = h c

mutual
  pub ordered : (schema : Schema) (tree : Json) (shape : ℕ) → in_order (faults_in schema tree shape) ≡ true
  ordered schema Null shape = unless_ordered (taken_form schema shape (out-Json Null)) (λ form. []) (λ form. refl)
  ordered schema (Flag b) shape = unless_ordered (taken_form schema shape (out-Json (Flag b))) (λ form. []) (λ form. refl)
  ordered schema (Number n) shape = unless_ordered (taken_form schema shape (out-Json (Number n))) (λ form. []) (λ form. refl)
  ordered schema Huge shape = unless_ordered (taken_form schema shape (out-Json Huge)) (λ form. []) (λ form. refl)
  ordered schema (Text t) shape = unless_ordered (taken_form schema shape (out-Json (Text t))) (λ form. []) (λ form. refl)
  ordered schema (List' size items) shape =
      unless_ordered (taken_form schema shape (out-Json (List' size items)))
      (λ form. list_faults (items_shape form) (judged_items schema items))
      (λ form. list_ordered (items_shape form) (judged_items schema items) (items_ordered schema items))
  ordered schema (Object' size members) shape =
      unless_ordered (taken_form schema shape (out-Json (Object' size members)))
      (λ form. object_faults (layout_of schema form (members_of (out-Json (Object' size members)))) (judged_row schema members))
      (λ form. object_ordered (layout_of schema form (members_of (out-Json (Object' size members)))) (judged_row schema members)
      (members_ordered schema members))

  items_ordered : (schema : Schema) {n : _} (row : Row_of-Json n) (shape : ℕ) → Fine (λ (j : Judged). j shape) (judged_items schema row)
  items_ordered schema end_of-Json shape = tt
  items_ordered schema (more_of-Json item others) shape = (ordered schema item shape, items_ordered schema others shape)

  members_ordered : (schema : Schema) {n : _} (row : Row_of-Member n) (layout : Layout) → Fine (by_layout layout) (judged_row schema row)
  members_ordered schema end_of-Member layout = tt
  members_ordered schema (more_of-Member name value others) layout =
      (by_ordered (shape_in layout name) (faults_in schema value) (λ c. ordered schema value c), members_ordered schema others layout)
