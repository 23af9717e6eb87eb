-- The readers of other single values keep what the table takes.
use Rattle.std.proofs.Common.{◌≡◌, ℕ, ℤ, ◌+◌, Bool, true, false, ◌&&◌, List, [], ◌∷◌, length, refl, ap, ◌∙◌, arith}
use Rattle.std.specs.Prelude.{Option, Some, None, find, codes, nat_le, if◌then◌else◌}
use Rattle.std.specs.Option.{option_map, option_and_then, is_some}
use Rattle.std.proofs.lemmas.Bool.Decides.{nat_tests}
use Rattle.json_exact.specs.declared.json.Json.{Json, out-Json}
use Rattle.json_exact.specs.declared.json.Json.TheOpen as level
use Rattle.json_exact.specs.Inside.{text_in, number_in, items_in}
use Rattle.cell_value.specs.declared.cell.Cell.TheVariants as cell
use Rattle.fixed_num.specs.Ranges.{is_within}
use Rattle.spec_schema.specs.declared.form.Shape.{Shape}
use Rattle.spec_schema.specs.declared.form.Form.TheVariants as form
use Rattle.spec_schema.specs.Values.{Opened, is_number, is_pair, is_whole, has_length, among}
use Rattle.vl_spec.specs.Bounds.{least_number, most_number}
use Rattle.vl_schema.specs.declared.codes.TheConstants.{TEXT, FLAG, CELL, SCALAR, TITLE, NUMBER_OR_NULL, BOUND, STACK, CLEAR, TOGGLE, TWO_TEXTS, TEXT_OR_TWO}
use Rattle.vl_schema.specs.declared.codes.TheConstants.{OFFSET_NAMES, CLEAR_NAMES, TOGGLE_NAMES}
use Rattle.vl_schema.specs.Shapes.{shape, leaves, numbers, named, lists, plain_objects, objects}
use Rattle.vl_schema.specs.Words.{offset_names, clear_names, toggle_names}
use Rattle.tree_readers.specs.Parts.{flag_in, cell_in, pair_in, two_texts}
use Rattle.vl_building.specs.Names.{offset_named}
use Rattle.vl_building.specs.Values.{scalar_in, title_in, both_names, names_in}
use Rattle.vl_building.specs.Filters.{bound_in}
use Rattle.vl_building.specs.Definitions.{stacking_in}
use Rattle.vl_building.specs.Marks.{clear_named, clear_in, toggle_named, toggle_in}
use Rattle.vl_building.specs.Transforms.{frame_end}
use Rattle.vl_building.specs.Taken.{stands, Keeps, ValuesAreKept}
use Rattle.vl_building.proofs.TakenLemmas.{form_fits, keeps_by, mapped, alone, passes, taken, next, name_taken}
use Rattle.vl_building.proofs.TakenNames.{offset_among}

abbrev text_forms : List Shape
text_forms = shape TEXT form.Text ∷ []

text_each : (tree : Opened) → stands tree ≡ true → is_some (text_in tree) ≡ is_some (find (form_fits tree) text_forms)
text_each level.Null here = refl
text_each (level.Flag b) here = refl
text_each (level.Number n) here = refl
text_each level.Huge here = refl
text_each (level.Text t) here = refl
text_each (level.List items) here = refl
text_each (level.Object members) here = refl

text_kept : Keeps TEXT (text_in)
unfolding leaves numbers named lists plain_objects objects
text_kept = keeps_by TEXT _ text_forms refl text_each

abbrev flag_forms : List Shape
flag_forms = shape FLAG form.Flag ∷ []

flag_each : (tree : Opened) → stands tree ≡ true → is_some (flag_in tree) ≡ is_some (find (form_fits tree) flag_forms)
flag_each level.Null here = refl
flag_each (level.Flag b) here = refl
flag_each (level.Number n) here = refl
flag_each level.Huge here = refl
flag_each (level.Text t) here = refl
flag_each (level.List items) here = refl
flag_each (level.Object members) here = refl

flag_kept : Keeps FLAG (flag_in)
unfolding leaves numbers named lists plain_objects objects
flag_kept = keeps_by FLAG _ flag_forms refl flag_each

abbrev scalar_forms : List Shape
scalar_forms = shape SCALAR form.Null ∷ shape SCALAR form.Flag ∷ shape SCALAR (form.Number least_number most_number) ∷ shape SCALAR form.Text ∷ []

scalar_each : (tree : Opened) → stands tree ≡ true → is_some (scalar_in tree) ≡ is_some (find (form_fits tree) scalar_forms)
scalar_each level.Null here = refl
scalar_each (level.Flag b) here = refl
scalar_each (level.Number n) here = taken (is_within least_number most_number n) _ _ here
scalar_each level.Huge here = refl
scalar_each (level.Text t) here = refl
scalar_each (level.List items) here = refl
scalar_each (level.Object members) here = refl

scalar_kept : Keeps SCALAR (scalar_in)
unfolding leaves numbers named lists plain_objects objects
scalar_kept = keeps_by SCALAR _ scalar_forms refl scalar_each

abbrev title_forms : List Shape
title_forms = shape TITLE form.Text ∷ shape TITLE form.Null ∷ []

title_each : (tree : Opened) → stands tree ≡ true → is_some (title_in tree) ≡ is_some (find (form_fits tree) title_forms)
title_each level.Null here = refl
title_each (level.Flag b) here = refl
title_each (level.Number n) here = refl
title_each level.Huge here = refl
title_each (level.Text t) here = refl
title_each (level.List items) here = refl
title_each (level.Object members) here = refl

title_kept : Keeps TITLE (title_in)
unfolding leaves numbers named lists plain_objects objects
title_kept = keeps_by TITLE _ title_forms refl title_each

abbrev bound_forms : List Shape
bound_forms = shape NUMBER_OR_NULL (form.Number least_number most_number) ∷ shape NUMBER_OR_NULL form.Null ∷ []

bound_each : (tree : Opened) → stands tree ≡ true → is_some (bound_in tree) ≡ is_some (find (form_fits tree) bound_forms)
bound_each level.Null here = refl
bound_each (level.Flag b) here = refl
bound_each (level.Number n) here = taken (is_within least_number most_number n) _ _ here
bound_each level.Huge here = refl
bound_each (level.Text t) here = refl
bound_each (level.List items) here = refl
bound_each (level.Object members) here = refl

bound_kept : Keeps NUMBER_OR_NULL (bound_in)
unfolding leaves numbers named lists plain_objects objects
bound_kept = keeps_by NUMBER_OR_NULL _ bound_forms refl bound_each

whole_end : (whole within : Bool) (n : Option ℤ) (x : Shape) → within ≡ true →
    is_some (if whole then Some n else None) ≡ is_some (if whole && within then Some x else None)
whole_end true within n x is = taken within x None is
whole_end false within n x is = refl

abbrev frame_end_forms : List Shape
frame_end_forms = shape BOUND (form.Whole least_number most_number) ∷ shape BOUND form.Null ∷ []

frame_end_each : (tree : Opened) → stands tree ≡ true → is_some (option_and_then frame_end (bound_in tree)) ≡ is_some (find (form_fits tree) frame_end_forms)
frame_end_each level.Null here = refl
frame_end_each (level.Flag b) here = refl
frame_end_each (level.Number n) here = whole_end (is_whole n) (is_within least_number most_number n) (Some n) _ here
frame_end_each level.Huge here = refl
frame_end_each (level.Text t) here = refl
frame_end_each (level.List items) here = refl
frame_end_each (level.Object members) here = refl

frame_end_kept : Keeps BOUND (λ tree. option_and_then frame_end (bound_in tree))
unfolding leaves numbers named lists plain_objects objects
frame_end_kept = keeps_by BOUND _ frame_end_forms refl frame_end_each

abbrev stack_forms : List Shape
stack_forms = shape STACK (form.Name OFFSET_NAMES) ∷ shape STACK form.Flag ∷ shape STACK form.Null ∷ []

stack_each : (tree : Opened) → stands tree ≡ true → is_some (stacking_in tree) ≡ is_some (find (form_fits tree) stack_forms)
stack_each level.Null here = refl
stack_each (level.Flag b) here = refl
stack_each (level.Number n) here = refl
stack_each level.Huge here = refl
stack_each (level.Text t) here = mapped _ (offset_named t) ∙ name_taken OFFSET_NAMES offset_names t _ _ refl (offset_among t)
stack_each (level.List items) here = refl
stack_each (level.Object members) here = refl

stack_kept : Keeps STACK stacking_in
unfolding leaves numbers named lists plain_objects objects
stack_kept = keeps_by STACK _ stack_forms refl stack_each

clear_among : (name : List ℕ) → is_some (clear_named name) ≡ among clear_names name
unfolding clear_names
clear_among name = next (codes "dblclick") name _ _ _ refl

abbrev clear_forms : List Shape
clear_forms = shape CLEAR (form.Name CLEAR_NAMES) ∷ shape CLEAR form.True ∷ []

clear_each : (tree : Opened) → stands tree ≡ true → is_some (clear_in tree) ≡ is_some (find (form_fits tree) clear_forms)
clear_each level.Null here = refl
clear_each (level.Flag b) here = passes b _ _
clear_each (level.Number n) here = refl
clear_each level.Huge here = refl
clear_each (level.Text t) here = name_taken CLEAR_NAMES clear_names t _ _ refl (clear_among t)
clear_each (level.List items) here = refl
clear_each (level.Object members) here = refl

clear_kept : Keeps CLEAR clear_in
unfolding leaves numbers named lists plain_objects objects
clear_kept = keeps_by CLEAR _ clear_forms refl clear_each

toggle_among : (name : List ℕ) → is_some (toggle_named name) ≡ among toggle_names name
unfolding toggle_names
toggle_among name = next (codes "event.shiftKey") name _ _ _ refl

abbrev toggle_forms : List Shape
toggle_forms = shape TOGGLE (form.Name TOGGLE_NAMES) ∷ shape TOGGLE form.True ∷ []

toggle_each : (tree : Opened) → stands tree ≡ true → is_some (toggle_in tree) ≡ is_some (find (form_fits tree) toggle_forms)
toggle_each level.Null here = refl
toggle_each (level.Flag b) here = passes b _ _
toggle_each (level.Number n) here = refl
toggle_each level.Huge here = refl
toggle_each (level.Text t) here = name_taken TOGGLE_NAMES toggle_names t _ _ refl (toggle_among t)
toggle_each (level.List items) here = refl
toggle_each (level.Object members) here = refl

toggle_kept : Keeps TOGGLE toggle_in
unfolding leaves numbers named lists plain_objects objects
toggle_kept = keeps_by TOGGLE _ toggle_forms refl toggle_each

too_long : (n : ℕ) → false ≡ (nat_le 2 (n + 3) && nat_le (n + 3) 2)
too_long n = grind (arith, nat_tests)

two : (items : List Json) → is_some (two_texts items) ≡ has_length 2 2 items
two [] = refl
two (a ∷ []) = refl
two (a ∷ b ∷ []) = refl
two (a ∷ b ∷ c ∷ others) =
    let is : length others + 3 ≡ length (a ∷ b ∷ c ∷ others) = omega arith in
    too_long (length others) ∙ ap (λ n. nat_le 2 n && nat_le n 2) is

both : (items : List Json) → is_some (both_names items) ≡ has_length 2 2 items
both [] = refl
both (a ∷ []) = refl
both (a ∷ b ∷ []) = refl
both (a ∷ b ∷ c ∷ others) =
    let is : length others + 3 ≡ length (a ∷ b ∷ c ∷ others) = omega arith in
    too_long (length others) ∙ ap (λ n. nat_le 2 n && nat_le n 2) is

abbrev two_texts_forms : List Shape
two_texts_forms = shape TWO_TEXTS (form.List 2 2 TEXT) ∷ []

two_texts_each : (tree : Opened) → stands tree ≡ true → is_some (option_and_then two_texts (items_in tree)) ≡ is_some (find (form_fits tree) two_texts_forms)
two_texts_each level.Null here = refl
two_texts_each (level.Flag b) here = refl
two_texts_each (level.Number n) here = refl
two_texts_each level.Huge here = refl
two_texts_each (level.Text t) here = refl
two_texts_each (level.List items) here = two items ∙ alone (has_length 2 2 items) _
two_texts_each (level.Object members) here = refl

two_texts_kept : Keeps TWO_TEXTS (λ tree. option_and_then two_texts (items_in tree))
unfolding leaves numbers named lists plain_objects objects
two_texts_kept = keeps_by TWO_TEXTS _ two_texts_forms refl two_texts_each

abbrev one_or_two_forms : List Shape
one_or_two_forms = shape TEXT_OR_TWO form.Text ∷ shape TEXT_OR_TWO (form.List 2 2 TEXT) ∷ []

one_or_two_each : (tree : Opened) → stands tree ≡ true → is_some (names_in tree) ≡ is_some (find (form_fits tree) one_or_two_forms)
one_or_two_each level.Null here = refl
one_or_two_each (level.Flag b) here = refl
one_or_two_each (level.Number n) here = refl
one_or_two_each level.Huge here = refl
one_or_two_each (level.Text t) here = refl
one_or_two_each (level.List items) here = both items ∙ alone (has_length 2 2 items) _
one_or_two_each (level.Object members) here = refl

one_or_two_kept : Keeps TEXT_OR_TWO names_in
unfolding leaves numbers named lists plain_objects objects
one_or_two_kept = keeps_by TEXT_OR_TWO _ one_or_two_forms refl one_or_two_each

a_number : (tree : Opened) → is_some (number_in tree) ≡ is_number tree
a_number level.Null = refl
a_number (level.Flag b) = refl
a_number (level.Number n) = refl
a_number level.Huge = refl
a_number (level.Text t) = refl
a_number (level.List items) = refl
a_number (level.Object members) = refl

both_numbers : (x y : Option ℤ) → is_some (option_and_then (λ a. option_map (λ b. cell.Pair a b) y) x) ≡ (is_some x && is_some y)
both_numbers None y = refl
both_numbers (Some a) y = mapped (λ b. cell.Pair a b) y

pair : (items : List Json) → is_some (pair_in items) ≡ is_pair items
pair [] = refl
pair (a ∷ []) = refl
pair (a ∷ b ∷ []) = both_numbers (number_in (out-Json a)) (number_in (out-Json b))
    ∙ ap (λ c. c && is_some (number_in (out-Json b))) (a_number (out-Json a)) ∙ ap (λ c. is_number (out-Json a) && c) (a_number (out-Json b))
pair (a ∷ b ∷ c ∷ others) = refl

abbrev cell_forms : List Shape
cell_forms = shape CELL form.Cell ∷ []

cell_each : (tree : Opened) → stands tree ≡ true → is_some (cell_in tree) ≡ is_some (find (form_fits tree) cell_forms)
cell_each level.Null here = refl
cell_each (level.Flag b) here = refl
cell_each (level.Number n) here = refl
cell_each level.Huge here = refl
cell_each (level.Text t) here = refl
cell_each (level.List items) here = pair items ∙ alone (is_pair items) _
cell_each (level.Object members) here = refl

cell_kept : Keeps CELL cell_in
unfolding leaves numbers named lists plain_objects objects
cell_kept = keeps_by CELL _ cell_forms refl cell_each

pub values_kept : ValuesAreKept
values_kept = record {
  text = text_kept;
  flag = flag_kept;
  cell = cell_kept;
  scalar = scalar_kept;
  title = title_kept;
  bound = bound_kept;
  frame_end = frame_end_kept;
  stack = stack_kept;
  clear = clear_kept;
  toggle = toggle_kept;
  two_texts = two_texts_kept;
  one_or_two = one_or_two_kept;
}
