-- What a chart asks of a specification: that it breaks no rule.
use Rattle.std.specs.Prelude.{◌≡◌, refl, codes, false, ℕ, ◌+◌, ◌*◌, ◌^◌, ◌&&◌, ◌||◌, Bool, true, not, IsTrue, ℤ, pos, Option, Some, None, List}
use Rattle.std.specs.Prelude.{[], ◌∷◌, ◌++◌, nat_lt}
use Rattle.std.specs.List.{list_all, list_any}
use Rattle.std.specs.Str.{bytes_eq}
use Rattle.std.specs.Option.{option_map_or}
use Rattle.fixed_num.specs.Number.{million}
use Rattle.fixed_num.specs.Ranges.{◌>>=◌, is_within}
use Rattle.vega_spec.specs.declared.data.DataSet.{DataSet}
use Rattle.vega_spec.specs.declared.guides.Layout.{Layout}
use Rattle.vega_spec.specs.declared.scales.Scale.{Scale as VegaScale}
use Rattle.vega_spec.specs.declared.spec.Size.{Size}
use Rattle.vega_spec.specs.declared.spec.Size.TheVariants as size
use Rattle.vega_spec.specs.declared.spec.VgSpec.{VgSpec}
use Rattle.vega_spec.specs.Names.{sources_of}
use Rattle.vega_lists.specs.Transforms.{transforms_of, is_kept}
use Rattle.vega_scales.specs.Scales.{given_ends, is_domain_built, is_ordinal}
use Rattle.vega_scales.specs.Scales as scaling
use Rattle.vega_guides.specs.Tested.{is_kept_axis}
use Rattle.vega_copies.specs.Outlines.{Object, Opened, Marks, NoMarks, AMark, AGroup, outline_of, count_marks, count_groups, bare, a_symbol}
use Rattle.vega_copies.specs.Fitting.{folds_fit}

-- a padding of bands is from 0 to 1, a place from 0 to 10^11 pixels
abbrev pub is_padding : ℤ → Bool
is_padding n = is_within (pos 0) (pos million) n

abbrev pub is_pixel : ℤ → Bool
is_pixel n = is_within (pos 0) (pos (10 ^ 11 * million)) n

-- both ends of a range are places
abbrev pub is_range : ℤ × ℤ → Bool
is_range ends = is_pixel ends.0 && is_pixel ends.1

-- each transform of a data set is as specifications may have it
abbrev pub is_set : DataSet → Bool
is_set set = list_all is_kept (transforms_of set)

-- the ends of a range are places; an ordinal scale has none
abbrev pub has_places : VegaScale → Bool
has_places s = is_ordinal s || option_map_or is_range (given_ends s.range) true

-- a scale and its domain have a meaning, and its numbers are those that specifications may have
abbrev pub is_scale : VegaScale → Bool
is_scale s =
    scaling.is_built s && (is_domain_built s.domain && (option_map_or is_padding s.padding true && (option_map_or is_padding s.padding_inner true
    && (option_map_or is_padding s.padding_outer true && has_places s))))

-- the columns of a grid are from 1 to 1,000
abbrev pub is_count : ℤ → Bool
is_count n = is_within (pos million) (pos (1000 * million)) n

abbrev pub has_columns : Option Layout → Bool
has_columns layout = option_map_or is_count (layout >>= λ (l : Layout). l.columns) true

-- a written size is a place
abbrev pub is_size : Option Size → Bool
is_size None = true
is_size (Some (size.Number n)) = is_pixel n
is_size (Some (size.Signal e)) = true

-- the space round a picture is from 0 to 1,000 pixels
abbrev pub is_space : ℤ → Bool
is_space n = is_within (pos 0) (pos (1000 * million)) n

-- what an object has is as specifications may have it
abbrev pub keeps_object : Object → Bool
keeps_object o = list_all is_set o.sets && (list_all is_scale o.scales && (list_all is_kept_axis o.axes && has_columns o.layout))

-- whether each object among marks passes a test
abbrev pub all_objects : (Object → Bool) → Marks → Bool
all_objects test NoMarks = true
all_objects test (AMark unit mark others) = all_objects test others
all_objects test (AGroup o inside others) = test o && (all_objects test inside && all_objects test others)

-- marks, and objects with the top among them, can be numbered in 32 bits
abbrev pub are_few : Marks → Bool
are_few marks = nat_lt (count_marks marks) (2 ^ 32) && nat_lt (1 + count_groups marks) (2 ^ 32)

-- the top and each object in it pass a test, they can be numbered, and no path of data sets folds too far
abbrev pub is_outline : (Object → Bool) → Opened → Bool
is_outline test top = test top.object && (all_objects test top.marks && (are_few top.marks && folds_fit top.object.sets top.marks))

-- the sizes of the picture are as specifications may have them
abbrev pub has_sizes : VgSpec → Bool
has_sizes g = is_size g.width && (is_size g.height && option_map_or is_space g.padding true)

-- whether each name is none of those before it, which follow others
abbrev pub are_new : List (List ℕ) → List (List ℕ) → Bool
are_new before [] = true
are_new before (name ∷ names) = not (list_any (bytes_eq name) before) && are_new (before ++ name ∷ []) names

-- it breaks no rule, as far as a chart needs it: its sources have names of their own
abbrev pub keeps_rules : VgSpec → Bool
keeps_rules g = is_outline keeps_object (outline_of g) && (has_sizes g && are_new [] (sources_of g))

abbrev pub KeepsRules : VgSpec → Type 0
KeepsRules g = IsTrue (keeps_rules g)

-- The rules at work.

a_name_that_stands_twice : are_new [] (codes "a" ∷ codes "b" ∷ codes "a" ∷ []) ≡ false
a_name_that_stands_twice = refl

names_of_their_own : are_new [] (codes "a" ∷ codes "b" ∷ []) ≡ true
names_of_their_own = refl

-- groups in groups are looked at: the inner one has so many columns
abbrev of_columns : ℕ → Object
of_columns n = record bare { layout = Some (record { padding = None; columns = Some (pos (n * million)) }) }

abbrev with_columns : ℕ → Marks
with_columns n = AGroup bare (AMark 0 a_symbol (AGroup (of_columns n) NoMarks NoMarks)) NoMarks

columns_of_an_inner_group : (all_objects keeps_object (with_columns 1000) ≡ true) × (all_objects keeps_object (with_columns 1001) ≡ false)
    × (all_objects keeps_object (with_columns 0) ≡ false)
columns_of_an_inner_group = (refl, refl, refl)
