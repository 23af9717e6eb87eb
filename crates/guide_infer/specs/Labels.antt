-- The format of labels that aren't given one. Labels of a unit of time are written by its pattern, on axes and legends, discrete ones too. Where
-- several definitions share an axis or a legend, the first that shows a field decides. An aggregate or bins in a definition act before its unit of time.
use Rattle.std.specs.Prelude.{◌≡◌, refl, ℕ, ◌||◌, true, false, Option, Some, None, List, [], ◌∷◌, codes, option_map, is_some, if◌then◌else◌}
use Rattle.std.specs.Option.{option_and_then}
use Rattle.case_table.specs.TimeUnits.{UnitRule, unit_rule}
use Rattle.scale_infer.specs.Types.{has_bins, datum_with}
use Rattle.vl_spec.specs.declared.definitions.Definition.{Definition}
use Rattle.vl_spec.specs.declared.definitions.Definition.TheVariants as definition
use Rattle.vl_spec.specs.declared.definitions.FieldDefinition.{FieldDefinition}
use Rattle.guide_infer.specs.Said.{first_field}
use Rattle.guide_infer.specs.Titles.{field_titled}

-- the unit of time that a definition shows its field in
abbrev pub unit_in : FieldDefinition → Option ℕ
unit_in f = if is_some f.aggregate || has_bins f.bin then None else f.time_unit

abbrev pub unit_shown : Definition → Option ℕ
unit_shown (definition.Value cell) = None
unit_shown (definition.Datum d) = None
unit_shown (definition.Field f) = unit_in f

-- the pattern of a unit of time by its code
unfoldable pub pattern_of : ℕ → Option (List ℕ)
pattern_of code = option_map (λ (rule : UnitRule). rule.label) (unit_rule code)

-- the format by a definition, and by the first of several that shows a field
abbrev pub format_by : Definition → Option (List ℕ)
format_by d = option_and_then pattern_of (unit_shown d)

abbrev pub default_format : List Definition → Option (List ℕ)
default_format definitions = option_and_then format_by (first_field definitions)

-- The rules at work.

the_pattern_of_months : default_format (datum_with None None ∷ field_titled (Some (codes "f")) None false (Some 3) None ∷ []) ≡ Some (codes "%b %Y")
unfolding pattern_of
the_pattern_of_months = refl

bins_have_none : default_format (field_titled (Some (codes "f")) None true (Some 3) None ∷ []) ≡ None
bins_have_none = refl

the_first_field_decides :
    default_format (field_titled (Some (codes "f")) None false None None ∷ field_titled (Some (codes "f")) None false (Some 3) None ∷ []) ≡ None
the_first_field_decides = refl
