-- Numbers within their bounds; one out of its bounds is as one that isn't there.
use Rattle.std.specs.Prelude.{◌≡◌, refl, ℕ, ℤ, pos, negsuc, Bool, ◌||◌, Option, Some, None, List, if◌then◌else◌}
use Rattle.std.specs.Option.{option_and_then}
use Rattle.json_exact.specs.declared.json.Member.{Member}
use Rattle.fixed_num.specs.Ranges.{is_within}
use Rattle.spec_schema.specs.Values.{is_whole_between}
use Rattle.vl_spec.specs.Bounds.{most_number, over_zero, most_space, most_share, least_count, most_count, most_ticks, most_look, least_shift, most_shift}
use Rattle.vl_spec.specs.Bounds.{most_size, most_step}
use Rattle.tree_readers.specs.Parts.{number_at}

-- a number that lies between two, both included
abbrev pub between : ℤ → ℤ → ℤ → Option ℤ
between least most n = if is_within least most n then Some n else None

-- a whole number that does
abbrev pub whole_between : ℤ → ℤ → ℤ → Option ℤ
whole_between least most n = if is_whole_between least most n then Some n else None

-- the number under a name that lies between two
abbrev pub number_between : ℤ → ℤ → List Member → List ℕ → Option ℤ
number_between least most members name = option_and_then (between least most) (number_at members name)

-- the whole number under a name that does
abbrev pub count_between : ℤ → ℤ → List Member → List ℕ → Option ℤ
count_between least most members name = option_and_then (whole_between least most) (number_at members name)

-- `padding` of the picture and `spacing`
abbrev pub space_at : List Member → List ℕ → Option ℤ
space_at = number_between (pos 0) most_space

-- `opacity`, and a padding of a scale
abbrev pub share_at : List Member → List ℕ → Option ℤ
share_at = number_between (pos 0) most_share

-- `columns`, `fontSize` and `maxbins`
abbrev pub count_at : List Member → List ℕ → Option ℤ
count_at = count_between least_count most_count

-- `tickCount`
abbrev pub tick_count_at : List Member → List ℕ → Option ℤ
tick_count_at = count_between least_count most_ticks

-- `size` and `strokeWidth`
abbrev pub look_at : List Member → List ℕ → Option ℤ
look_at = number_between (pos 0) most_look

-- `dx` and `dy`
abbrev pub shift_at : List Member → List ℕ → Option ℤ
shift_at = number_between least_shift most_shift

-- the step of a bin
abbrev pub bin_step_at : List Member → List ℕ → Option ℤ
bin_step_at = number_between over_zero most_number

-- the step of a size
abbrev pub size_step_at : List Member → List ℕ → Option ℤ
size_step_at = number_between over_zero most_step

-- a size without a step
abbrev pub plain_size_at : List Member → List ℕ → Option ℤ
plain_size_at = number_between over_zero most_size

-- `param` of a window's operation
abbrev pub whole_at : List Member → List ℕ → Option ℤ
whole_at = count_between (pos 0) most_number

-- an angle of labels: 0, -90 or 270 degrees
abbrev pub is_angle : ℤ → Bool
is_angle n = is_within (pos 0) (pos 0) n || is_within (negsuc 89999999) (negsuc 89999999) n || is_within (pos 270000000) (pos 270000000) n

-- a number that is one
abbrev pub angle : ℤ → Option ℤ
angle n = if is_angle n then Some n else None

-- the angle under a name
abbrev pub angle_at : List Member → List ℕ → Option ℤ
angle_at members name = option_and_then angle (number_at members name)

-- The rules at work.

a_share_is_at_most_1 : between (pos 0) most_share (pos 1000000) ≡ Some (pos 1000000)
a_share_is_at_most_1 = refl

and_not_a_millionth_more : between (pos 0) most_share (pos 1000001) ≡ None
and_not_a_millionth_more = refl

a_step_is_over_0 : between over_zero most_step (pos 0) ≡ None
a_step_is_over_0 = refl

a_count_is_at_least_1 : whole_between least_count most_count (pos 0) ≡ None
a_count_is_at_least_1 = refl

and_whole : whole_between least_count most_count (pos 1500000) ≡ None
and_whole = refl

labels_are_turned_back : angle (negsuc 89999999) ≡ Some (negsuc 89999999)
labels_are_turned_back = refl

but_not_the_other_way : angle (pos 90000000) ≡ None
but_not_the_other_way = refl
