-- Which scales that drags invert are of time, by the scales that have names in each plot.
use Rattle.std.specs.Prelude.{◌≡◌, refl, ℕ, ◌-◌, Bool, true, false, not, ◌&&◌, is_some, List, [], ◌∷◌, ◌++◌, filter, find, codes}
use Rattle.std.specs.Prelude.{nat_lt, slice_get, if◌then◌else◌}
use Rattle.std.specs.Option.{option_map_or}
use Rattle.std.specs.Str.{bytes_eq}
use Rattle.fixed_num.specs.Ranges.{◌>>=◌}
use Rattle.vega_spec.specs.declared.scales.Range.TheVariants as range
use Rattle.vega_spec.specs.declared.scales.Scale.{Scale}
use Rattle.vega_spec.specs.declared.spec.VgSpec.{VgSpec}
use Rattle.vega_scales.specs.Scales.{is_time, is_ramp}
use Rattle.vega_copies.specs.Outlines.{Object, Opened, Marks, NoMarks, AMark, AGroup, count_marks, outline_of, bare, a_symbol}
use Rattle.vega_drawing.specs.Tops.{of_chart}
use Rattle.vega_drawing.specs.Scales.{a_scale}
use Rattle.selection_events.specs.Kept.{Temporal}
use Rattle.vega_selections.specs.Selections.{selections_of}
use Rattle.vega_events.specs.Scales.{scale_name}
use Rattle.vega_events.specs.Laws.{is_named}

-- marks that follow each other in the text, with the scales that have names in the plot that draws them, the inner before the outer
pub record Scaled : Type 0 where
  pub size : ℕ
  pub scales : List Scale

-- The marks in an object with these scales: a grid has the plots in it. A plot of so many marks has its scales for all of them: the groups that draw in
-- it give no scale of a name that a drag inverts.
abbrev pub plot_or_grid : Bool → ℕ → List Scale → List Scaled → List Scaled
plot_or_grid true count scales inside = inside
plot_or_grid false count scales inside = record { size = count; scales = scales } ∷ []

-- those of marks in a grid that has these scales, in the order of the text
abbrev pub scaled_in : List Scale → Marks → List Scaled
scaled_in outer NoMarks = []
scaled_in outer (AMark unit m others) = record { size = 1; scales = outer } ∷ scaled_in outer others
scaled_in outer (AGroup o inside others) =
    plot_or_grid (is_some o.layout) (count_marks inside) (o.scales ++ outer) (scaled_in (o.scales ++ outer) inside) ++ scaled_in outer others

-- the scales of the top, those that stand once for each plot before those of the whole chart
abbrev pub scales_of_top : Object → List Scale
scales_of_top o = filter (λ s. not (of_chart o.layout s)) o.scales ++ filter (of_chart o.layout) o.scales

-- those of all marks of a specification
abbrev pub scaled_of : Opened → List Scaled
scaled_of top = plot_or_grid (is_some top.object.layout) (count_marks top.marks) (scales_of_top top.object) (scaled_in (scales_of_top top.object) top.marks)

-- the scales that have names where the mark of a number is drawn, where the marks are numbered from 0
abbrev pub scales_at : List Scaled → ℕ → List Scale
scales_at [] unit = []
scales_at (s ∷ rest) unit = if nat_lt unit s.size then s.scales else scales_at rest (unit - s.size)

-- a scale whose places are those of instants; a ramp has no places
abbrev pub is_of_time : Scale → Bool
is_of_time s = is_time s && not (is_ramp s.range)

abbrev pub has_name : List ℕ → Scale → Bool
has_name name s = bytes_eq s.name name

-- whether the first scale of a name is of time
abbrev pub is_time_named : List Scale → List ℕ → Bool
is_time_named scales name = option_map_or is_of_time (find (has_name name) scales) false

-- whether the scale that a selection inverts along a channel is of time in a plot, by the scales where the least of its marks is drawn
abbrev pub temporal_of : VgSpec → Temporal
temporal_of g plot s d =
    option_map_or (λ unit. option_map_or (is_time_named (scales_at (scaled_of (outline_of g)) unit))
    (find (is_named s.name) (selections_of g) >>= λ v. scale_name v d.channel) false) (slice_get plot.units 0) false

-- The rule at work.

abbrev named : List ℕ → Scale
named name = a_scale name range.Width

-- a plot of two marks, one of them in a group, and one of one mark, each with a scale of its own
abbrev two_plots : Marks
two_plots =
    AGroup (record bare { scales = named (codes "x") ∷ [] }) (AMark 0 a_symbol (AGroup bare (AMark 1 a_symbol NoMarks) NoMarks))
    (AGroup (record bare { scales = named (codes "y") ∷ [] }) (AMark 2 a_symbol NoMarks) NoMarks)

scales_of_plots : (outer : List Scale) → (scales_at (scaled_in outer two_plots) 1 ≡ named (codes "x") ∷ outer)
    × (scales_at (scaled_in outer two_plots) 2 ≡ named (codes "y") ∷ outer)
scales_of_plots outer = (refl, refl)
