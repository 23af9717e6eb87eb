-- The readers of numbers keep what the table takes.
use Rattle.std.proofs.Common.{◌≡◌, ℤ, Bool, true, false, ◌||◌, List, [], ◌∷◌, refl}
use Rattle.std.specs.Prelude.{pos, negsuc, Some, None, find, if◌then◌else◌}
use Rattle.std.specs.Option.{option_map, is_some}
use Rattle.json_exact.specs.declared.json.Json.TheOpen as level
use Rattle.cell_value.specs.declared.cell.Cell.TheVariants as cell
use Rattle.fixed_num.specs.Ranges.{is_within}
use Rattle.spec_schema.specs.declared.form.Shape.{Shape}
use Rattle.spec_schema.specs.declared.form.Form.TheVariants as form
use Rattle.spec_schema.specs.Values.{Opened}
use Rattle.vl_spec.specs.Bounds.{over_zero, most_number, most_space, most_share, least_count, most_count, most_ticks, most_look, least_shift, most_shift}
use Rattle.vl_spec.specs.Bounds.{most_size, most_step}
use Rattle.vl_schema.specs.declared.codes.TheConstants.{SPACE, SHARE, COUNT, TICK_COUNT, ANGLE, STEP, SIZE_STEP, PLAIN_SIZE, LOOK, SHIFT, WHOLE, RANGE_ITEM}
use Rattle.vl_schema.specs.Shapes.{shape, leaves, numbers, named, lists, plain_objects, objects}
use Rattle.vl_building.specs.Numbers.{between, whole_between, angle}
use Rattle.vl_building.specs.Guides.{ranged_in}
use Rattle.vl_building.specs.Taken.{stands, Keeps, number_as, NumbersAreKept}
use Rattle.vl_building.proofs.TakenLemmas.{form_fits, keeps_by, number_keeps, whole_keeps}

space_kept : Keeps SPACE (number_as (between (pos 0) most_space))
unfolding leaves numbers named lists plain_objects objects
space_kept = number_keeps SPACE (pos 0) most_space refl

share_kept : Keeps SHARE (number_as (between (pos 0) most_share))
unfolding leaves numbers named lists plain_objects objects
share_kept = number_keeps SHARE (pos 0) most_share refl

count_kept : Keeps COUNT (number_as (whole_between least_count most_count))
unfolding leaves numbers named lists plain_objects objects
count_kept = whole_keeps COUNT least_count most_count refl

tick_count_kept : Keeps TICK_COUNT (number_as (whole_between least_count most_ticks))
unfolding leaves numbers named lists plain_objects objects
tick_count_kept = whole_keeps TICK_COUNT least_count most_ticks refl

step_kept : Keeps STEP (number_as (between over_zero most_number))
unfolding leaves numbers named lists plain_objects objects
step_kept = number_keeps STEP over_zero most_number refl

size_step_kept : Keeps SIZE_STEP (number_as (between over_zero most_step))
unfolding leaves numbers named lists plain_objects objects
size_step_kept = number_keeps SIZE_STEP over_zero most_step refl

plain_size_kept : Keeps PLAIN_SIZE (number_as (between over_zero most_size))
unfolding leaves numbers named lists plain_objects objects
plain_size_kept = number_keeps PLAIN_SIZE over_zero most_size refl

look_kept : Keeps LOOK (number_as (between (pos 0) most_look))
unfolding leaves numbers named lists plain_objects objects
look_kept = number_keeps LOOK (pos 0) most_look refl

shift_kept : Keeps SHIFT (number_as (between least_shift most_shift))
unfolding leaves numbers named lists plain_objects objects
shift_kept = number_keeps SHIFT least_shift most_shift refl

whole_kept : Keeps WHOLE (number_as (whole_between (pos 0) most_number))
unfolding leaves numbers named lists plain_objects objects
whole_kept = whole_keeps WHOLE (pos 0) most_number refl

three : (a b c : Bool) (n : ℤ) (x y z : Shape) → is_some (if a || b || c then Some n else None)
    ≡ is_some (if a then Some x else (if b then Some y else (if c then Some z else None)))
three true b c n x y z = refl
three false true c n x y z = refl
three false false true n x y z = refl
three false false false n x y z = refl

abbrev angle_forms : List Shape
angle_forms =
    shape ANGLE (form.Number (pos 0) (pos 0)) ∷ shape ANGLE (form.Number (negsuc 89999999) (negsuc 89999999))
    ∷ shape ANGLE (form.Number (pos 270000000) (pos 270000000)) ∷ []

angle_each : (tree : Opened) → stands tree ≡ true → is_some (number_as angle tree) ≡ is_some (find (form_fits tree) angle_forms)
angle_each level.Null here = refl
angle_each (level.Flag b) here = refl
angle_each (level.Number n) here =
    three (is_within (pos 0) (pos 0) n) (is_within (negsuc 89999999) (negsuc 89999999) n) (is_within (pos 270000000) (pos 270000000) n) n _ _ _
angle_each level.Huge here = refl
angle_each (level.Text t) here = refl
angle_each (level.List items) here = refl
angle_each (level.Object members) here = refl

angle_kept : Keeps ANGLE (number_as angle)
unfolding leaves numbers named lists plain_objects objects
angle_kept = keeps_by ANGLE _ angle_forms refl angle_each

ranged : (b : Bool) (n : ℤ) (x : Shape) → is_some (option_map cell.Number (if b then Some n else None)) ≡ is_some (if b then Some x else None)
ranged true n x = refl
ranged false n x = refl

abbrev range_item_forms : List Shape
range_item_forms = shape RANGE_ITEM form.Null ∷ shape RANGE_ITEM form.Flag ∷ shape RANGE_ITEM (form.Number (pos 0) most_look) ∷ shape RANGE_ITEM form.Text ∷ []

range_item_each : (tree : Opened) → stands tree ≡ true → is_some (ranged_in tree) ≡ is_some (find (form_fits tree) range_item_forms)
range_item_each level.Null here = refl
range_item_each (level.Flag b) here = refl
range_item_each (level.Number n) here = ranged (is_within (pos 0) most_look n) n _
range_item_each level.Huge here = refl
range_item_each (level.Text t) here = refl
range_item_each (level.List items) here = refl
range_item_each (level.Object members) here = refl

range_item_kept : Keeps RANGE_ITEM (ranged_in)
unfolding leaves numbers named lists plain_objects objects
range_item_kept = keeps_by RANGE_ITEM _ range_item_forms refl range_item_each

pub numbers_kept : NumbersAreKept
numbers_kept = record {
  space = space_kept;
  share = share_kept;
  count = count_kept;
  tick_count = tick_count_kept;
  angle = angle_kept;
  step = step_kept;
  size_step = size_step_kept;
  plain_size = plain_size_kept;
  look = look_kept;
  shift = shift_kept;
  whole = whole_kept;
  range_item = range_item_kept;
}
