-- What the forms of a shape take, form by form.
use Rattle.std.proofs.Common.{◌≡◌, ℕ, ℤ, ◌+◌, ◌≤◌, ◌==◌, Bool, true, false, ◌&&◌, ◌||◌, cond, List, [], ◌∷◌, ◌++◌, length, refl, sym, ap, ◌∙◌, arith}
use Rattle.std.specs.Prelude.{Option, Some, None, find, position, slice_get, nat_lt, if◌then◌else◌}
use Rattle.std.specs.Option.{option_map, option_map_or, option_and_then, is_some}
use Rattle.std.specs.List.{filter, list_any, position_from}
use Rattle.std.specs.Str.{bytes_eq}
use Rattle.std.proofs.lemmas.Bool.Decides.{same_from_decides, Decides-like, nat_tests}
use Rattle.std.proofs.lemmas.Iterator.Adapters.{position_from-zero}
use Rattle.std.proofs.lemmas.Slice.Eq.{bytes_eq-Decides}
use Rattle.json_exact.specs.declared.json.Json.TheOpen as level
use Rattle.fixed_num.specs.Ranges.{is_within}
use Rattle.spec_schema.specs.declared.form.Shape.{Shape}
use Rattle.spec_schema.specs.declared.form.Form.TheVariants as form
use Rattle.spec_schema.specs.Values.{Opened, number_passes, is_whole_between, text_passes, among}
use Rattle.spec_schema.specs.Layouts.{names_of}
use Rattle.spec_schema.specs.Forms.{fits, takes}
use Rattle.vl_schema.specs.Schema.{vl_schema}
use Rattle.vl_schema.specs.Shapes.{shape, shapes}
use Rattle.vl_schema.specs.Words.{words}
use Rattle.vl_building.specs.Numbers.{between, whole_between}
use Rattle.vl_building.specs.Names.{below}
use Rattle.vl_building.specs.Taken.{stands, Keeps, text_as, number_as}

-- ---- the forms of a shape

abbrev pub of_shape : ℕ → Shape → Bool
of_shape code s = s.code == code

abbrev pub form_fits : Opened → Shape → Bool
form_fits tree s = fits vl_schema s.form tree

one_more : (tree : Opened) (x : Shape) (others : List Shape) (found : Option Shape) (b : Bool) → found ≡ find (form_fits tree) others →
    (if b && form_fits tree x then Some x else found) ≡ find (form_fits tree) (if b then x ∷ others else others)
one_more tree x others found true is = ap (λ o. if form_fits tree x then Some x else o) is
one_more tree x others found false is = is

found_in : (code : ℕ) (tree : Opened) (xs : List Shape) → find (takes vl_schema code tree) xs ≡ find (form_fits tree) (filter (of_shape code) xs)
found_in code tree [] = refl
found_in code tree (x ∷ xs) = one_more tree x (filter (of_shape code) xs) _ (of_shape code x) (found_in code tree xs)

pub mapped : {A B : Type 0} (f : A → B) (o : Option A) → is_some (option_map f o) ≡ is_some o
mapped f None = refl
mapped f (Some x) = refl

its_shapes : vl_schema.shapes ≡ shapes
unfolding vl_schema
its_shapes = refl

its_names : vl_schema.names ≡ words
unfolding vl_schema
its_names = refl

pub keeps_by : {A : Type 0} (code : ℕ) (reading : Opened → Option A) (forms : List Shape) → filter (of_shape code) shapes ≡ forms →
    ((tree : Opened) → stands tree ≡ true → is_some (reading tree) ≡ is_some (find (form_fits tree) forms)) → Keeps code reading
keeps_by code reading forms is each = λ tree here. each tree here ∙ sym (mapped (λ (s : Shape). s.form) (find (takes vl_schema code tree) vl_schema.shapes)
    ∙ ap is_some (found_in code tree vl_schema.shapes ∙ ap (λ xs. find (form_fits tree) (filter (of_shape code) xs)) its_shapes
    ∙ ap (find (form_fits tree)) is))

-- ---- tests

pub alone : (b : Bool) (x : Shape) → b ≡ is_some (if b then Some x else None)
alone true x = refl
alone false x = refl

pub passes : {A : Type 0} (b : Bool) (n : A) (x : Shape) → is_some (if b then Some n else None) ≡ is_some (if b then Some x else None)
passes true n x = refl
passes false n x = refl

pub taken : (b : Bool) (x : Shape) (o : Option Shape) → b ≡ true → true ≡ is_some (if b then Some x else o)
taken b x o is = ap (λ c. is_some (if c then Some x else o)) (sym is)

-- ---- numbers

number_test : (test : ℤ → Bool) (x : Shape) (tree : Opened) →
    is_some (number_as (λ n. if test n then Some n else None) tree) ≡ is_some (if number_passes test tree then Some x else None)
number_test test x level.Null = refl
number_test test x (level.Flag b) = refl
number_test test x (level.Number n) = passes (test n) n x
number_test test x level.Huge = refl
number_test test x (level.Text t) = refl
number_test test x (level.List items) = refl
number_test test x (level.Object members) = refl

pub number_keeps : (code : ℕ) (least most : ℤ) → filter (of_shape code) shapes ≡ shape code (form.Number least most) ∷ [] →
    Keeps code (number_as (between least most))
number_keeps code least most is = keeps_by code _ _ is (λ tree here. number_test (is_within least most) _ tree)

pub whole_keeps : (code : ℕ) (least most : ℤ) → filter (of_shape code) shapes ≡ shape code (form.Whole least most) ∷ [] →
    Keeps code (number_as (whole_between least most))
whole_keeps code least most is = keeps_by code _ _ is (λ tree here. number_test (is_whole_between least most) _ tree)

-- ---- names

pub named_code : (code : ℕ) (names : List (List ℕ)) → option_map_or (λ ns. ns) (slice_get words code) [] ≡ names → names_of vl_schema code ≡ names
named_code code names is = ap (λ ws. option_map_or (λ ns. ns) (slice_get ws code) []) its_names ∙ is

name_test : {A : Type 0} (named : List ℕ → Option A) (names : List (List ℕ)) (x : Shape) → ((name : List ℕ) → is_some (named name) ≡ among names name) →
    (tree : Opened) → is_some (text_as named tree) ≡ is_some (if text_passes (among names) tree then Some x else None)
name_test named names x each level.Null = refl
name_test named names x each (level.Flag b) = refl
name_test named names x each (level.Number n) = refl
name_test named names x each level.Huge = refl
name_test named names x each (level.Text t) = each t ∙ alone (among names t) x
name_test named names x each (level.List items) = refl
name_test named names x each (level.Object members) = refl

pub name_keeps : {A : Type 0} (code list : ℕ) (named : List ℕ → Option A) (names : List (List ℕ)) →
    filter (of_shape code) shapes ≡ shape code (form.Name list) ∷ [] → option_map_or (λ ns. ns) (slice_get words list) [] ≡ names →
    ((name : List ℕ) → is_some (named name) ≡ among names name) → Keeps code (text_as named)
name_keeps code list named names is found each = keeps_by code _ _ is
    (λ tree here. name_test named names (shape code (form.Name list)) each tree
    ∙ ap (λ ns. is_some (if text_passes (among ns) tree then Some (shape code (form.Name list)) else None)) (sym (named_code list names found)))

-- a text that may be a name
pub name_taken : (list : ℕ) (names : List (List ℕ)) (t : List ℕ) (b : Bool) (x : Shape) → option_map_or (λ ns. ns) (slice_get words list) [] ≡ names →
    b ≡ among names t → b ≡ is_some (if among (names_of vl_schema list) t then Some x else None)
name_taken list names t b x found is =
    is ∙ alone (among names t) x ∙ ap (λ ns. is_some (if among ns t then Some x else None)) (sym (named_code list names found))

-- ---- chains of names

bytes_eq-flips : (x y : List ℕ) → bytes_eq x y ≡ bytes_eq y x
bytes_eq-flips x y = same_from_decides _ _ (bytes_eq-Decides x y) (Decides-like _ sym sym (bytes_eq-Decides y x))

this_or : {A : Type 0} (b : Bool) (v : A) (o : Option A) (r : Bool) → is_some o ≡ r → is_some (if b then Some v else o) ≡ (b || r)
this_or true v o r is = refl
this_or false v o r is = is

pub next : {A : Type 0} (n name : List ℕ) (v : A) (o : Option A) (r : Bool) → is_some o ≡ r →
    is_some (if bytes_eq name n then Some v else o) ≡ (bytes_eq n name || r)
next n name v o r is = this_or (bytes_eq name n) v o r is ∙ ap (λ b. b || r) (bytes_eq-flips name n)

placed : (p : List ℕ → Bool) (n : ℕ) (xs : List (List ℕ)) → is_some (position_from p n xs) ≡ list_any p xs
placed p n [] = refl
placed p n (x ∷ xs) = this_or (p x) n _ _ (placed p (n + 1) xs)

pub position_keeps : (p : List ℕ → Bool) (xs : List (List ℕ)) → is_some (position p xs) ≡ list_any p xs
position_keeps p xs = ap is_some (position_from-zero p xs) ∙ placed p 0 xs

-- a position below a limit
late : (limit n : ℕ) (b : Bool) (o : Option ℕ) → nat_lt n limit ≡ false → is_some (option_and_then (below limit) o) ≡ false →
    is_some (option_and_then (below limit) (cond b (Some n) o)) ≡ false
late limit n true o lt is = ap (λ c. is_some (if c then Some n else None)) lt
late limit n false o lt is = is

all_late : (p : List ℕ → Bool) (limit n : ℕ) (xs : List (List ℕ)) → limit ≤ n → is_some (option_and_then (below limit) (position_from p n xs)) ≡ false
all_late p limit n [] le = refl
all_late p limit n (x ∷ xs) le =
    let lt : nat_lt n limit ≡ false = grind (arith, nat_tests) in
    late limit n (p x) _ lt (all_late p limit (n + 1) xs (omega (arith, le)))

early : (limit n : ℕ) (b : Bool) (o : Option ℕ) (r : Bool) → nat_lt n limit ≡ true → is_some (option_and_then (below limit) o) ≡ r →
    is_some (option_and_then (below limit) (cond b (Some n) o)) ≡ (b || r)
early limit n true o r lt is = ap (λ c. is_some (if c then Some n else None)) lt
early limit n false o r lt is = is

among_first : (p : List ℕ → Bool) (limit n : ℕ) (xs ys : List (List ℕ)) → limit ≡ n + length xs →
    is_some (option_and_then (below limit) (position_from p n (xs ++ ys))) ≡ list_any p xs
among_first p limit n [] ys is = all_late p limit n ys (omega (arith, is))
among_first p limit n (x ∷ xs) ys is =
    let lt : nat_lt n limit ≡ true = grind (arith, nat_tests) in
    early limit n (p x) _ _ lt (among_first p limit (n + 1) xs ys (omega (arith, is)))

pub below_keeps : (p : List ℕ → Bool) (limit : ℕ) (xs ys : List (List ℕ)) → limit ≡ length xs →
    is_some (option_and_then (below limit) (position p (xs ++ ys))) ≡ list_any p xs
below_keeps p limit xs ys is =
    ap (λ o. is_some (option_and_then (below limit) o)) (position_from-zero p (xs ++ ys)) ∙ among_first p limit 0 xs ys (omega (arith, is))
