-- The rules at work.
use Rattle.std.specs.Prelude.{◌≡◌, true, false, Some, None, List, [], ◌∷◌, codes, refl}
use Rattle.json_exact.specs.declared.json.Json.{Json}
use Rattle.json_exact.specs.declared.json.Json.TheOpen as level
use Rattle.vega_schema.specs.declared.codes.TheConstants.{TOP, MARK, MARKS, DATA, DATA_LIST}
use Rattle.vega_parts.specs.declared.updates.Change.TheVariants.{Point, Toggle, Clear, Interval}
use Rattle.vega_parts.specs.declared.part.ScaleType.TheVariants as type
use Rattle.vega_parts.specs.Trails.{Trail, place_of, child, object_round, scope_of, is_plot, is_faceted, is_in_plot}
use Rattle.vega_parts.specs.Lengths.{go_together, text_count}
use Rattle.vega_parts.specs.Data.{is_far}
use Rattle.vega_parts.specs.Updates.{change_named, takes, channels_fit, mix, same_fields, are_clicks, is_of}
use Rattle.vega_parts.specs.Scales.{type_named}

-- ---- trails

-- a top with a layout, and one without
top : Trail
top = record { number = 0; shape = TOP; object = true; layout = true; facet = false } ∷ []

plain_top : Trail
plain_top = record { number = 0; shape = TOP; object = true; layout = false; facet = false } ∷ []

-- the second of the marks of such a top, which are its fourth member: a group with a facet
group_in : Trail → Trail
group_in round = record { number = 1; shape = MARK; object = true; layout = false; facet = true }
    ∷ record { number = 3; shape = MARKS; object = false; layout = false; facet = false } ∷ round

-- the first data set of that group, whose data are its third member
data_in : Trail → Trail
data_in round = record { number = 0; shape = DATA; object = false; layout = false; facet = false }
    ∷ record { number = 2; shape = DATA_LIST; object = false; layout = false; facet = false } ∷ round

the_place_of_the_top : place_of top ≡ []
unfolding top
the_place_of_the_top = refl

the_place_of_a_group : place_of (group_in top) ≡ 3 ∷ 1 ∷ []
unfolding top group_in
the_place_of_a_group = refl

a_data_set_and_its_name : child (data_in (group_in top)) 0 ≡ 3 ∷ 1 ∷ 2 ∷ 0 ∷ 0 ∷ []
unfolding top group_in data_in
a_data_set_and_its_name = refl

its_scope_is_the_group : scope_of (data_in (group_in top)) ≡ 3 ∷ 1 ∷ []
unfolding top group_in data_in
its_scope_is_the_group = refl

the_scope_of_the_group_is_the_top : scope_of (group_in top) ≡ []
unfolding top group_in
the_scope_of_the_group_is_the_top = refl

it_stands_in_a_facet : is_faceted (object_round (data_in (group_in top))) ≡ true
unfolding top group_in data_in
it_stands_in_a_facet = refl

the_top_does_not : is_faceted top ≡ false
unfolding top
the_top_does_not = refl

a_group_under_a_layout_is_a_plot : is_plot (group_in top) ≡ true
unfolding top group_in
a_group_under_a_layout_is_a_plot = refl

one_under_a_plain_top_is_none : is_plot (group_in plain_top) ≡ false
unfolding plain_top group_in
one_under_a_plain_top_is_none = refl

it_stands_in_one : is_in_plot (group_in plain_top) ≡ true
unfolding plain_top group_in
it_stands_in_one = refl

a_plain_top_is_a_plot : is_plot plain_top ≡ true
unfolding plain_top
a_plain_top_is_a_plot = refl

a_top_with_a_layout_is_none : is_plot top ≡ false
unfolding top
a_top_with_a_layout_is_none = refl

-- ---- texts and lists

a_text_and_a_list : go_together (level.Text (codes "a")) (level.List []) ≡ false
a_text_and_a_list = refl

two_lists : (a b : Json) → go_together (level.List (a ∷ [])) (level.List (b ∷ [])) ≡ true
two_lists a b = refl

two_lists_of_other_lengths : (a b : Json) → go_together (level.List (a ∷ [])) (level.List (a ∷ b ∷ [])) ≡ false
two_lists_of_other_lengths a b = refl

a_number_is_no_matter : go_together level.Huge (level.List []) ≡ true
a_number_is_no_matter = refl

a_text_counts_as_one : text_count (level.Text (codes "a")) ≡ Some 1
a_text_counts_as_one = refl

as_a_list_of_one_does : (a : Json) → text_count (level.List (a ∷ [])) ≡ Some 1
as_a_list_of_one_does a = refl

a_far_file : is_far (codes "http://h/a.csv") ≡ true
a_far_file = refl

a_near_file : is_far (codes "a/b:c//d") ≡ false
a_near_file = refl

an_unknown_type : type_named (codes "log") ≡ type.Other
an_unknown_type = refl

-- ---- updates

a_point_without_fields : takes Point 1 ≡ true
a_point_without_fields = refl

a_clear_with_a_field : takes Clear 2 ≡ false
a_clear_with_a_field = refl

two_triples : takes Interval 7 ≡ true
two_triples = refl

half_a_triple : takes Interval 5 ≡ false
half_a_triple = refl

no_such_update : change_named (codes "vlMulti") ≡ None
no_such_update = refl

another_signal : is_of (codes "p") (codes "q" ∷ codes "f" ∷ []) ≡ false
another_signal = refl

one_channel : channels_fit (codes "y" ∷ codes "s" ∷ codes "f" ∷ []) ≡ true
one_channel = refl

another_channel : channels_fit (codes "size" ∷ codes "s" ∷ codes "f" ∷ []) ≡ false
another_channel = refl

a_channel_twice : channels_fit (codes "x" ∷ codes "s" ∷ codes "f" ∷ codes "x" ∷ codes "t" ∷ codes "g" ∷ []) ≡ false
a_channel_twice = refl

fields_in_another_order : same_fields (codes "a" ∷ codes "b" ∷ []) (codes "b" ∷ codes "a" ∷ codes "b" ∷ []) ≡ true
fields_in_another_order = refl

other_fields : same_fields (codes "a" ∷ []) (codes "a" ∷ codes "b" ∷ []) ≡ false
other_fields = refl

a_drag_beside_a_click : mix Interval Toggle ≡ true
a_drag_beside_a_click = refl

two_drags : mix Interval Interval ≡ false
two_drags = refl

a_click_and_one_with_shift : are_clicks Toggle Point ≡ true
a_click_and_one_with_shift = refl
