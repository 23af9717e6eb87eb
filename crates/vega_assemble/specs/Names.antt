-- The names that a compiled specification gives besides those of sources and parameters: of data sets, columns, scales and marks. Each is a word with
-- numbers behind it, after a stem that all of them share. They differ from every name that the specification mentions: the stem is nothing where no
-- name that is mentioned looks like one of theirs; else it has more underscores than the longest name that is mentioned has bytes.
use Rattle.std.specs.Prelude.{◌≡◌, refl, ℕ, suc, ◌==◌, ◌&&◌, ◌||◌, max, nat_le, Bool, true, false, List, [], ◌∷◌, ◌++◌, length, replicate, map}
use Rattle.std.specs.Prelude.{drop, codes, unwrap_or, if◌then◌else◌, slice_get, nat_eq}
use Rattle.std.specs.Fmt.{decimal, digits}
use Rattle.std.specs.List.{fold, list_any, list_all, starts_with}
use Rattle.std.specs.Option.{option_map_or}
use Rattle.case_table.specs.Names.{channels}
use Rattle.plan_kit.specs.declared.scales.ScalePlan.{ScalePlan}

-- ---- names

-- a word with a number, and with two
abbrev pub numbered : List ℕ → ℕ → List ℕ
numbered word n = word ++ codes "_" ++ decimal n

abbrev pub numbered_twice : List ℕ → ℕ → ℕ → List ℕ
numbered_twice word n m = numbered word n ++ codes "_" ++ decimal m

-- the data set without rows, and the signal of its extent, which is always null
abbrev pub none_name : List ℕ → List ℕ
none_name stem = stem ++ codes "none"

-- the rows of a unit, and those before its aggregate
abbrev pub unit_name : List ℕ → ℕ → List ℕ
unit_name stem unit = stem ++ numbered (codes "unit") unit

abbrev pub begun_name : List ℕ → ℕ → List ℕ
begun_name stem unit = stem ++ numbered (codes "begun") unit

-- of a scale by its number: the cells of a column of its domain, the rows by which its cells stand, and the cells of a column as they are outside facets
abbrev pub cells_name : List ℕ → ℕ → ℕ → List ℕ
cells_name stem scale column = stem ++ numbered_twice (codes "cells") scale column

abbrev pub ranks_name : List ℕ → ℕ → List ℕ
ranks_name stem scale = stem ++ numbered (codes "ranks") scale

-- the numbers of the cells of a field that tells those rows apart in panels
abbrev pub codes_name : List ℕ → ℕ → ℕ → List ℕ
codes_name stem scale field = stem ++ numbered_twice (codes "codes") scale field

abbrev pub outer_name : List ℕ → ℕ → ℕ → List ℕ
outer_name stem scale column = stem ++ numbered_twice (codes "outer") scale column

-- of a facet by the number of its view: what the cells of a field have by rows, and the keys of a unit's rows
abbrev pub orders_name : List ℕ → ℕ → ℕ → List ℕ
orders_name stem facet field = stem ++ numbered_twice (codes "orders") facet field

abbrev pub keys_name : List ℕ → ℕ → ℕ → List ℕ
keys_name stem facet unit = stem ++ numbered_twice (codes "keys") facet unit

-- columns of these: a cell that is shown, by what it stands, and the key of a field
abbrev pub cell_column : List ℕ → List ℕ
cell_column stem = stem ++ codes "the_cell"

abbrev pub rank_column : List ℕ → List ℕ
rank_column stem = stem ++ codes "the_rank"

abbrev pub key_column : List ℕ → ℕ → List ℕ
key_column stem field = stem ++ numbered (codes "key") field

-- the mark of a unit
abbrev pub mark_name : List ℕ → ℕ → List ℕ
mark_name stem unit = stem ++ numbered (codes "mark") unit

-- a scale of the plan by its number: the word of its channel, and the number
abbrev pub channel_word : ℕ → List ℕ
channel_word code = unwrap_or (slice_get channels code) []

abbrev pub scale_name : List ℕ → List ScalePlan → ℕ → List ℕ
scale_name stem scales number =
    stem ++ numbered (option_map_or (λ (s : ScalePlan). channel_word s.channel) (slice_get scales number) []) number

-- the scales of x and y over which places stand in the middle of a plot, or at its foot
abbrev pub middle_name : List ℕ → ℕ → List ℕ
middle_name stem channel = stem ++ codes "middle_" ++ channel_word channel

abbrev pub foot_name : List ℕ → ℕ → List ℕ
foot_name stem channel = stem ++ codes "foot_" ++ channel_word channel

-- the scales that the drags of a selection, by its place among all, invert along a channel, where they differ from plot to plot
abbrev pub drag_name : List ℕ → ℕ → ℕ → List ℕ
drag_name stem selection channel = stem ++ numbered (codes "drag") selection ++ codes "_" ++ channel_word channel

-- ---- stems

-- the words with which these names begin
abbrev pub words : List (List ℕ)
words =
    codes "none" ∷ codes "unit_" ∷ codes "begun_" ∷ codes "cells_" ∷ codes "ranks_" ∷ codes "codes_" ∷ codes "outer_" ∷ codes "orders_" ∷
    codes "keys_" ∷ codes "the_cell" ∷ codes "the_rank" ∷ codes "key_" ∷ codes "mark_" ∷ codes "middle_" ∷ codes "foot_" ∷
    codes "drag_" ∷ codes "x_" ∷ codes "y_" ∷ codes "color_" ∷ codes "opacity_" ∷ codes "size_" ∷ codes "shape_" ∷ []

-- a digit or an underscore, or x or y, which end the names of some scales
abbrev pub is_tail : ℕ → Bool
is_tail byte = (nat_le 48 byte && nat_le byte 57) || (byte == 95 || (byte == 120 || byte == 121))

-- whether a name looks like one with this word: it begins with the word, and nothing but such bytes follow
abbrev pub looks_like : List ℕ → List ℕ → Bool
looks_like name word = starts_with nat_eq name word && list_all is_tail (drop (length word) name)

abbrev pub looks_made : List ℕ → Bool
looks_made name = list_any (looks_like name) words

-- how long the longest name is
abbrev pub longer : ℕ → List ℕ → ℕ
longer length_so_far name = max length_so_far (length name)

abbrev pub longest : List (List ℕ) → ℕ
longest names = fold longer 0 names

-- the stem that makes names differ from these
abbrev pub underscores : ℕ → List ℕ
underscores count = replicate count 95

abbrev pub stem_for : List (List ℕ) → List ℕ
stem_for mentioned = if list_any looks_made mentioned then underscores (suc (longest mentioned)) else []

-- The rules at work.

names_of_lists : (unit_name [] 0 ≡ codes "unit_0") × (cells_name (codes "__") 3 1 ≡ codes "__cells_3_1")
unfolding digits
names_of_lists = (refl, refl)

names_that_look_made : (map looks_made (codes "unit_0" ∷ codes "none" ∷ codes "x_" ∷ codes "middle_x" ∷ []) ≡ true ∷ true ∷ true ∷ true ∷ [])
    × (map looks_made (codes "unit" ∷ codes "x" ∷ codes "x_rate" ∷ codes "b" ∷ []) ≡ false ∷ false ∷ false ∷ false ∷ [])
names_that_look_made = (refl, refl)

no_stem_where_none_is_wanted : stem_for (codes "a" ∷ codes "price" ∷ []) ≡ []
no_stem_where_none_is_wanted = refl

longer_than_all_of_them : stem_for (codes "x_1" ∷ codes "rate" ∷ []) ≡ codes "_____"
longer_than_all_of_them = refl
