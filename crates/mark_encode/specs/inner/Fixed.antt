-- What channels show that show the same of every row.
use Rattle.std.specs.Prelude.{ℕ, ℤ, Bool, false, not, Option, Some, None, List, [], ◌∷◌, if◌then◌else◌}
use Rattle.std.specs.Option.{option_map, is_some}
use Rattle.fixed_num.specs.Ranges.{◌>>=◌, in_range}
use Rattle.scene_tree.specs.declared.shape.Shape.{Shape}
use Rattle.vega_spec.specs.declared.encode.ChannelValue.{ChannelValue}
use Rattle.mark_shapes.specs.declared.shown.Shown.{Shown}
use Rattle.mark_shapes.specs.declared.shown.Shown.TheVariants.{Absent}
use Rattle.mark_shapes.specs.declared.symbols.Symbol.{Symbol}
use Rattle.mark_shapes.specs.declared.texts.TextStyle.{TextStyle}
use Rattle.mark_shapes.specs.Shown.{shown}
use Rattle.mark_shapes.specs.Symbols.{radius_of, side_shown, symbol_about, symbol_of}
use Rattle.mark_shapes.specs.Texts.{style_of}
use Rattle.mark_encode.specs.declared.sizes.SymbolSize.{SymbolSize}
use Rattle.mark_encode.specs.Channels.{ScaledValue}
use Rattle.mark_encode.specs.Values.{number_by, color_at}

-- whether a value is the same for every row: it has no test, no signal and no field
abbrev pub is_fixed : ChannelValue → Bool
is_fixed v = if is_some v.test then false else (if is_some v.signal then false else not (is_some v.field))

-- the number that a value shows of every row, if it is the same for all and in range
abbrev pub number_alone : Bool → ScaledValue → Option (Shown ℤ)
number_alone far v = if is_fixed v.value then option_map shown (number_by far v v.value.value) else None

-- the number that the values of a channel show of every row, where the first of them is the same for all
abbrev pub fixed_number : Bool → List ScaledValue → Option (Shown ℤ)
fixed_number far [] = Some Absent
fixed_number far (v ∷ vs) = number_alone far v

-- the same of colours
abbrev pub color_alone : ScaledValue → Option (Shown (List ℕ))
color_alone v = if is_fixed v.value then Some (shown (color_at v.scale v.value.band v.value.value)) else None

abbrev pub fixed_color : List ScaledValue → Option (Shown (List ℕ))
fixed_color [] = Some Absent
fixed_color (v ∷ vs) = color_alone v

-- how large a symbol is by the root of its size and half of that
abbrev pub sized : ℤ → ℤ → SymbolSize
sized side r = record { side = side; r = r }

-- how large a symbol is by the root of its size, if there is one; None where half of that is out of range
abbrev pub sized_of : Option ℤ → Option (Option SymbolSize)
sized_of None = Some None
sized_of (Some side) = option_map (λ r. Some (sized side r)) (in_range (radius_of side))

-- a symbol about a place, if it has a size
abbrev pub symbol_sized : Symbol → Option SymbolSize → Option ℤ → Option ℤ → Option (Option Shape)
symbol_sized form None x y = Some None
symbol_sized form (Some size) x y = symbol_about form size.side size.r x y

-- how large a symbol is by the size that is shown
abbrev pub sized_by : Option (Shown ℤ) → Option (Option SymbolSize)
sized_by size = size >>= λ size. sized_of (side_shown size)

-- how large a symbol is, and which it is, by what values show of every row
abbrev pub fixed_sized : List ScaledValue → Option (Option SymbolSize)
fixed_sized vs = sized_by (fixed_number false vs)

abbrev pub fixed_form : List ScaledValue → Option Symbol
fixed_form vs = option_map symbol_of (fixed_color vs)

-- a symbol by its place, its size and its form, none of which may be out of range
abbrev pub symbol_when : Option (Option ℤ) → Option (Option ℤ) → Option (Option SymbolSize) → Option Symbol → Option (Option Shape)
symbol_when across down size form = do
  x ← across
  y ← down
  s ← size
  f ← form
  symbol_sized f s x y

-- how texts are set by what values show of every row
abbrev pub fixed_style : List ScaledValue → List ScaledValue → List ScaledValue → Option TextStyle
fixed_style sizes aligns baselines = do
  size ← fixed_number false sizes
  align ← fixed_color aligns
  baseline ← fixed_color baselines
  Some (style_of size align baseline)
