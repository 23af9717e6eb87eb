-- What ordinal scales and ramps range over: lists of colours and of signs, and the colours of a ramp.
use Rattle.std.specs.Prelude.{◌≡◌, refl, ℕ, ◌-◌, nat_lt, Bool, true, pos, List, [], ◌∷◌, map, reverse, codes, if◌then◌else◌}
use Rattle.std.specs.List.{range_with_len}
use Rattle.fixed_num.specs.Number.{rounded, floor_quotient}
use Rattle.cell_value.specs.declared.cell.Cell.{Cell}
use Rattle.cell_value.specs.declared.cell.Cell.TheVariants.{Null, Text}
use Rattle.scale_kit.specs.Colors.{ramp_color}

-- the colours of `category`
unfoldable pub category_colors : List (List ℕ)
category_colors =
    codes "#4c78a8" ∷ codes "#f58518" ∷ codes "#e45756" ∷ codes "#72b7b2" ∷ codes "#54a24b" ∷
    codes "#eeca3b" ∷ codes "#b279a2" ∷ codes "#ff9da6" ∷ codes "#9d755d" ∷ codes "#bab0ac" ∷ []

-- the shapes of `symbol`
unfoldable pub symbol_shapes : List (List ℕ)
symbol_shapes = codes "circle" ∷ codes "square" ∷ codes "triangle-up" ∷ codes "diamond" ∷ []

-- the colours between which a ramp runs, #deebf7 and #08519c: red, green and blue
abbrev pub first_color : List ℕ
first_color = 222 ∷ 235 ∷ 247 ∷ []

abbrev pub last_color : List ℕ
last_color = 8 ∷ 81 ∷ 156 ∷ []

-- the colour at which a ramp begins, and the one at which it ends, if it is turned round or not
abbrev pub color_from : Bool → List ℕ
color_from reverse = if reverse then last_color else first_color

abbrev pub color_to : Bool → List ℕ
color_to reverse = if reverse then first_color else last_color

-- how many steps there are from the first of n entries to the last; one for one entry
abbrev pub steps_among : ℕ → ℕ
steps_among n = if nat_lt 1 n then n - 1 else 1

-- entry k of n on a ramp: the colour at k of n - 1 steps, and the first for one entry
abbrev pub ramp_entry : ℕ → ℕ → Cell
ramp_entry n k = Text (ramp_color (pos 0, pos (steps_among n)) first_color last_color (pos k))

-- n entries on a ramp
abbrev pub ramp_entries : ℕ → List Cell
ramp_entries n = map (ramp_entry n) (range_with_len 0 n)

-- entries in their order, or the other way round where that is asked
abbrev pub entries_turned : Bool → List Cell → List Cell
entries_turned turned entries = if turned then reverse entries else entries

-- The rules at work.

one_entry_is_the_first_color : ramp_entries 1 ≡ Text (codes "#deebf7") ∷ []
unfolding rounded floor_quotient
one_entry_is_the_first_color = refl

three_entries : ramp_entries 3 ≡ Text (codes "#deebf7") ∷ Text (codes "#739eca") ∷ Text (codes "#08519c") ∷ []
unfolding rounded floor_quotient
three_entries = refl

a_list_turned_round : entries_turned true (Null ∷ Text (codes "red") ∷ []) ≡ Text (codes "red") ∷ Null ∷ []
a_list_turned_round = refl

shapes_turned_round : entries_turned true (map Text symbol_shapes)
    ≡ Text (codes "diamond") ∷ Text (codes "triangle-up") ∷ Text (codes "square") ∷ Text (codes "circle") ∷ []
unfolding symbol_shapes
shapes_turned_round = refl
