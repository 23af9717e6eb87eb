-- The picture of a chart of the first form.
use Rattle.std.specs.Prelude.{ℕ, suc, ◌*◌, ◌^◌, ℤ, pos, ◌-ℤ◌, ◌*ℤ◌, unsigned_abs, Option, Some, None, List, [], ◌∷◌, length}
use Rattle.std.specs.Prelude.{map, if◌then◌else◌, codes}
use Rattle.std.specs.Int.{int_min}
use Rattle.std.specs.List.{filter_map}
use Rattle.std.specs.Result.{result_ok}
use Rattle.std.specs.Str.{bytes_eq}
use Rattle.fixed_num.specs.Number.{million}
use Rattle.fixed_num.specs.Ranges.{◌>>=◌, in_range, all_found}
use Rattle.fixed_num.specs.Bands.{space_of}
use Rattle.cell_value.specs.declared.cell.Cell.{Cell}
use Rattle.cell_value.specs.declared.cell.Cell.TheVariants.{Number, Text}
use Rattle.cell_value.specs.Cell.{cell_cmp}
use Rattle.cell_value.specs.Datum.{id_name}
use Rattle.tick_kit.specs.Domains.{ascending, extent_of, with_zero}
use Rattle.tick_kit.specs.Steps.{nice_of}
use Rattle.scale_kit.specs.declared.scale.Scale.{Scale}
use Rattle.scale_kit.specs.declared.scale.Scale.TheVariants.{Linear, Band}
use Rattle.scale_kit.specs.Lines.{place_of_number}
use Rattle.scale_kit.specs.Places.{place_of, band_width_of, base_of}
use Rattle.scene_tree.specs.declared.scene.Scene.{Scene}
use Rattle.scene_tree.specs.declared.scene.Item.{Item}
use Rattle.scene_tree.specs.declared.shape.Shape.TheVariants.{Rect}
use Rattle.scene_tree.specs.Outcome.{Outcome, outcome_map, in_reach}
use Rattle.svg_text.specs.SceneText.{svg_of}
use Rattle.plot_scenes.specs.OnePlot.{plain_scene}
use Rattle.first_form.specs.declared.form.FirstForm.{FirstForm}
use Rattle.first_form.specs.declared.form.Value.{Value}

-- the values, each with its id, counted from this one
abbrev pub with_ids : ℕ → List Value → List (ℕ × Value)
with_ids id [] = []
with_ids id (value ∷ values) = (id, value) ∷ with_ids (suc id) values

-- a value as it is read
pub record Reading : Type 0 where
  pub id : ℕ
  pub category : Cell
  pub amount : ℤ

-- the category of a value under the field along x, and its amount under the field upward; a field `_vgsid_` reads the id
abbrev pub category_of : List ℕ → ℕ × Value → Cell
category_of x value = if bytes_eq x id_name then Number (pos (value.0 * million)) else Text value.1.category

abbrev pub amount_of : List ℕ → ℕ × Value → ℤ
amount_of y value = if bytes_eq y id_name then pos (value.0 * million) else value.1.amount

abbrev pub reading_of : List ℕ → List ℕ → ℕ × Value → Reading
reading_of x y value = record { id = value.0; category = category_of x value; amount = amount_of y value }

-- the values of a form as they are read, with ids counted from 1
abbrev pub readings_of : FirstForm → List Reading
readings_of form = map (reading_of form.x form.y) (with_ids 1 form.values)

-- so many pixels, in millionths
abbrev pub pixels : ℕ → ℤ
pixels n = pos (n * million)

-- the colour of a mark that has none of its own
abbrev pub default_color : List ℕ
default_color = codes "#4c78a8"

-- the paddings between and outside of bands, in millionths of a step
abbrev pub inner_padding : ℤ
inner_padding = pos 100000

abbrev pub outer_padding : ℤ
outer_padding = pos 50000

-- a step is 20 pixels
abbrev pub step_width : ℤ
step_width = pixels 20

-- the plot is a step wide for each unit of the bands' space, at most 10^11 pixels
abbrev pub plot_width : ℕ → ℤ
plot_width count = int_min (pos 20 *ℤ space_of (pos (count * million)) inner_padding outer_padding) (pos (10 ^ 11 * million))

-- the plot is 200 pixels high
abbrev pub plot_height : ℤ
plot_height = pixels 200

-- the amounts of values, in order
abbrev pub amounts_of : List Reading → List ℤ
amounts_of readings = map (λ (r : Reading). r.amount) readings

-- the distinct categories in the order of cells
abbrev pub categories_of : List Reading → List Cell
categories_of readings = ascending cell_cmp (map (λ (r : Reading). r.category) readings)

-- a band for each category over the width of the plot: inner padding 0.1 of a step, outer padding 0.05
abbrev pub x_scale : List Cell → Scale
x_scale categories = Band categories inner_padding outer_padding (pos 0) (plot_width (length categories))

-- the nice domain of the amounts with zero; None where it is out of range
abbrev pub y_domain : List ℤ → Option (ℤ × ℤ)
y_domain amounts = nice_of 10 (with_zero (extent_of amounts))

-- a domain laid upward over the height of the plot
abbrev pub y_scale : ℤ × ℤ → Scale
y_scale domain = Linear domain.0 domain.1 plot_height (pos 0)

-- the place of an amount over a domain; None where it is out of range
abbrev pub place_of_amount : ℤ × ℤ → ℤ → Option ℤ
place_of_amount domain amount = in_range (place_of_number domain (plot_height, pos 0) amount)

-- a bar from one height to another over the place of its band, if that is there; None where its height is out of range
abbrev pub bar_over : ℕ → ℤ → ℤ → ℤ → Option ℤ → Option (Option Item)
bar_over id width base end None = Some None
bar_over id width base end (Some x) = do
  height ← in_range (pos (unsigned_abs (base -ℤ end)))
  Some (Some (record {
    shape = Rect x (int_min end base) width height;
    fill = Some default_color;
    stroke = None;
    stroke_width = pixels 1;
    opacity = pixels 1;
    unit = Some 0;
    key = Some (record { id = id; branch = 0 });
  }))

-- a bar stands over the band of its category, from the base to the place of its amount
abbrev pub bar_of : Scale → ℤ × ℤ → Reading → Option (Option Item)
bar_of bands domain reading = do
  x ← result_ok (place_of bands reading.category)
  end ← place_of_amount domain reading.amount
  bar_over reading.id (band_width_of bands) (base_of (y_scale domain)) end x

-- one bar for each value, in order, in a plot that stands 5 pixels from each edge
abbrev pub scene_of : List Reading → Option Scene
scene_of readings = do
  domain ← y_domain (amounts_of readings)
  bars ← all_found (map (bar_of (x_scale (categories_of readings)) domain) readings)
  Some (plain_scene (pixels 5) (plot_width (length (categories_of readings))) plot_height (Some 0) (filter_map (λ bar. bar) bars))

-- the chart of the first form, as its SVG text
abbrev pub chart_of : FirstForm → Outcome (List ℕ)
chart_of form = outcome_map svg_of (in_reach (scene_of (readings_of form)))
