-- The numbers that groups encode.
use Rattle.std.specs.Prelude.{◌≡◌, refl, ℕ, ◌*◌, ℤ, pos, false, Option, Some, None, List, [], ◌∷◌, find, reverse, codes}
use Rattle.std.specs.Option.{option_map, option_map_or}
use Rattle.std.specs.Str.{bytes_eq}
use Rattle.fixed_num.specs.Number.{million, limit}
use Rattle.cell_value.specs.declared.cell.Cell.{Cell}
use Rattle.cell_value.specs.declared.cell.Cell.TheVariants.{Null, Number, Text}
use Rattle.cell_value.specs.Datum.{CellAt}
use Rattle.expr_eval.specs.Values.{Values}
use Rattle.expr_eval.specs.Plain.{no_values}
use Rattle.scale_kit.specs.declared.scale.ScaleSet.{ScaleSet}
use Rattle.vega_spec.specs.declared.encode.Channel.TheVariants.{One}
use Rattle.vega_spec.specs.declared.encode.ChannelValue.{ChannelValue}
use Rattle.vega_spec.specs.declared.encode.Encode.{Encode}
use Rattle.mark_shapes.specs.declared.shown.Shown.{Shown}
use Rattle.mark_shapes.specs.declared.shown.Shown.TheVariants.{Absent, Lacking, Given}
use Rattle.mark_encode.specs.declared.channels.ChannelName.{ChannelName}
use Rattle.mark_encode.specs.declared.channels.ChannelName.TheVariants as channel
use Rattle.mark_encode.specs.Channels.{channel_values}
use Rattle.mark_encode.specs.Values.{number_shown, bare, the_amount}

-- the last cell of a name among those of facets, if one is of it
abbrev pub last_named : List (List ℕ × Cell) → List ℕ → Option Cell
last_named cells name =
    option_map (λ (entry : List ℕ × Cell). entry.1) (find (λ (entry : List ℕ × Cell). bytes_eq entry.0 name) (reverse cells))

-- the cells of facets by their fields, as a row: of several cells of one field the last; null where none is of it
abbrev pub facet_row : List (List ℕ × Cell) → CellAt
facet_row cells name = option_map_or (λ (cell : Cell). cell) (last_named cells name) Null

-- the number that a channel shows; 0 where it is absent, or what counts in it gives none
abbrev pub number_or_zero : Shown ℤ → ℤ
number_or_zero Absent = pos 0
number_or_zero Lacking = pos 0
number_or_zero (Given n) = n

-- The number that the encode sets of a group give in a channel, over the cells of the facets round it. None where a number is out of range.
abbrev pub number_encoded : ScaleSet → Option Encode → ChannelName → List (List ℕ × Cell) → Values → Option ℤ
number_encoded scales encode c cells values =
    option_map number_or_zero (number_shown false (facet_row cells) values (channel_values scales encode c))

-- The rules at work.

abbrev x_is : ℕ → List ℕ × Cell
x_is n = (codes "x", Number (pos n))

abbrev y_is : ℕ → List ℕ × Cell
y_is n = (codes "y", Number (pos n))

-- of several cells of one field the last counts
the_cells_of_facets : (facet_row (x_is 1 ∷ y_is 2 ∷ x_is 3 ∷ []) (codes "x") ≡ Number (pos 3))
    × (facet_row (x_is 1 ∷ y_is 2 ∷ x_is 3 ∷ []) (codes "y") ≡ Number (pos 2))
    × (facet_row (x_is 1 ∷ []) (codes "z") ≡ Null) × (facet_row [] (codes "x") ≡ Null)
the_cells_of_facets = (refl, refl, refl, refl)

-- the encode sets with one value as the width
abbrev as_width : ChannelValue → Option Encode
as_width v = Some (record {
  enter = Some (record {
    x = None;
    x2 = None;
    xc = None;
    width = Some (One v);
    y = None;
    y2 = None;
    yc = None;
    height = None;
    fill = None;
    stroke = None;
    stroke_width = None;
    opacity = None;
    size = None;
    shape = None;
    text = None;
    align = None;
    baseline = None;
    dx = None;
    dy = None;
    font_size = None;
  });
  update = None;
})

abbrev no_scales : ScaleSet
no_scales = record { scales = [] }

-- the width of a group whose facet has 28 as its amount: the amount, nothing that it encodes, a text, and a number out of range
abbrev width_by : Option Encode → Option ℤ
width_by encode = number_encoded no_scales encode channel.Width ((codes "amount", Number (pos (28 * million))) ∷ []) no_values

the_widths : (width_by (as_width the_amount) ≡ Some (pos (28 * million))) × (width_by None ≡ Some (pos 0))
    × (width_by (as_width (record bare { value = Some (Text (codes "wide")) })) ≡ Some (pos 0))
    × (width_by (as_width (record bare { value = Some (Number (pos limit)); offset = Some (pos 1) })) ≡ None)
the_widths = (refl, refl, refl, refl)
