-- The legend of a scale: a scale of color, opacity, size or shape has one. It goes by all that is shown on the scale in the channel; a definition
-- whose legend is null doesn't count, and where all have it there is no legend. Its format comes from the first definition that gives one, else it is that
-- of a unit of time. Its title is that of its definitions. Signs that show no colour are `#4c78a8`.
use Rattle.std.specs.Prelude.{◌≡◌, refl, ℕ, ◌==◌, ◌||◌, Bool, false, Option, Some, None, List, [], ◌∷◌, filter_map, codes, if◌then◌else◌}
use Rattle.std.specs.Option.{option_or}
use Rattle.guide_kit.specs.declared.legends.LegendOf.{LegendOf}
use Rattle.vl_normalize.specs.declared.codes.TheConstants.{X, COLOR, OPACITY, SIZE, SHAPE}
use Rattle.vl_spec.specs.declared.definitions.Definition.{Definition}
use Rattle.vl_spec.specs.declared.guides.Legend.{Legend}
use Rattle.guide_infer.specs.First.{first_given}
use Rattle.guide_infer.specs.Labels.{pattern_of, default_format}
use Rattle.guide_infer.specs.Said.{is_bare, legends_said, with_legends}
use Rattle.guide_infer.specs.Titles.{legend_title, joined_titles, field_titled}
use Rattle.guide_infer.specs.Words.{unit_word}

-- the channels that have legends
abbrev pub is_look : ℕ → Bool
is_look channel = channel == COLOR || (channel == OPACITY || (channel == SIZE || channel == SHAPE))

-- the legend of a channel by the definitions that count
abbrev pub legend_by : ℕ → List Definition → LegendOf
legend_by channel definitions = record {
  channel = channel;
  title = joined_titles (filter_map legend_title definitions);
  format = option_or (first_given (λ (l : Legend). l.format) (legends_said definitions)) (default_format definitions);
  colour = codes "#4c78a8";
}

abbrev pub legend_over : ℕ → List Definition → Option LegendOf
legend_over channel definitions = if is_bare definitions then None else Some (legend_by channel definitions)

-- the legend of a channel by all that is shown on its scale
abbrev pub legend_of : ℕ → List Definition → Option LegendOf
legend_of channel definitions = if is_look channel then legend_over channel (with_legends definitions) else None

-- The rules at work.

a_legend_of_months : legend_of COLOR (field_titled (Some (codes "f")) None false (Some 4) None ∷ [])
    ≡ Some (record { channel = COLOR; title = Some (codes "f (month)"); format = Some (codes "%b"); colour = codes "#4c78a8" })
unfolding unit_word pattern_of
a_legend_of_months = refl

no_legend : (legend_of X (field_titled None None false None None ∷ []) ≡ None) × (legend_of SIZE [] ≡ None)
no_legend = (refl, refl)
