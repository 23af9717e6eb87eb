-- What the two channels of a form show: a category and an amount, which isn't stacked.
use Rattle.std.proofs.Common.{◌≡◌, ℕ, Bool, true, false, List, [], ◌∷◌, ◌++◌, map, Option, Some, None, refl, ap, ◌∙◌}
use Rattle.std.specs.Prelude.{flat_map}
use Rattle.std.specs.Option.{option_map, option_and_then}
use Rattle.plain_rows.specs.declared.transforms.StackOf.{StackOf}
use Rattle.vl_spec.specs.declared.channels.Channel.{roll-Channel, fold-roll-Channel}
use Rattle.vl_spec.specs.declared.definitions.Definition.{Definition}
use Rattle.vl_spec.specs.declared.definitions.Definition.TheVariants as definition
use Rattle.vl_spec.specs.declared.definitions.FieldDefinition.{FieldDefinition}
use Rattle.vl_spec.specs.declared.definitions.FieldType.{FieldType}
use Rattle.vl_spec.specs.declared.definitions.FieldType.TheVariants.{Quantitative, Nominal}
use Rattle.vl_normalize.specs.declared.codes.TheConstants.{X, Y}
use Rattle.vl_compose.specs.Definitions.{definitions_at, definitions_of, conditions_here, channel_here, condition_here}
use Rattle.vl_compose.specs.Units.{UnitAt}
use Rattle.scale_infer.specs.Measures.{x_is_measure}
use Rattle.scale_infer.specs.Scales.{first_definition, first_at}
use Rattle.unit_plan.specs.Branches.{Branch, Under, branches_under}
use Rattle.unit_plan.specs.Branches.{conditions_here as conditions_under, channel_here as channel_under, condition_here as condition_under}
use Rattle.unit_plan.specs.Lanes.{branches_at}
use Rattle.unit_plan.specs.Measures.{measure_by, measure_of}
use Rattle.unit_plan.specs.Shows.{ShownAt, branch_shows, own_shows}
use Rattle.unit_plan.specs.Stacks.{plain_at, series_channels, series_of, stack_at, stack_of, stack_settings_of, stack_with}
use Rattle.unit_plan.specs.Stacks.{stacked_by, stacks_over, zero_if}
use Rattle.cell_names.specs.Names.{name_of}
use Rattle.first_form.specs.declared.form.FirstForm.{FirstForm}
use Rattle.chart_meaning.specs.FirstForms.{field_of, channel_parts, channels_of, bar}
use Rattle.chart_meaning.proofs.FormUnits.{form_unit_at}

-- ---- the definitions

abbrev pub category : FirstForm → Definition
category form = definition.Field (field_of form.x Nominal)

abbrev pub amount : FirstForm → Definition
amount form = definition.Field (field_of form.y Quantitative)

pub shown_known : (name : List ℕ) (type_ : FieldType) → definitions_of (roll-Channel (channel_parts name type_)) ≡ definition.Field (field_of name type_) ∷ []
shown_known name type_ =
    fold-roll-Channel (List Definition) (List Definition) (List Definition) conditions_here channel_here condition_here (channel_parts name type_)

branches_known : (name : List ℕ) (type_ : FieldType)
    → branches_under (roll-Channel (channel_parts name type_)) [] ≡ record { tests = []; shows = definition.Field (field_of name type_) } ∷ []
branches_known name type_ =
    ap (λ (f : Under). f []) (fold-roll-Channel Under Under Under conditions_under channel_under condition_under (channel_parts name type_))

pub definitions_x : (y_first : Bool) (form : FirstForm) → definitions_at (channels_of y_first form) X ≡ category form ∷ []
definitions_x false form = shown_known form.x Nominal
definitions_x true form = shown_known form.x Nominal

pub definitions_y : (y_first : Bool) (form : FirstForm) → definitions_at (channels_of y_first form) Y ≡ amount form ∷ []
definitions_y false form = shown_known form.y Quantitative
definitions_y true form = shown_known form.y Quantitative

abbrev pub branch_of : Definition → Branch
branch_of d = record { tests = []; shows = d }

pub branches_x : (y_first : Bool) (form : FirstForm) → branches_at (channels_of y_first form) X ≡ branch_of (category form) ∷ []
branches_x false form = branches_known form.x Nominal
branches_x true form = branches_known form.x Nominal

pub branches_y : (y_first : Bool) (form : FirstForm) → branches_at (channels_of y_first form) Y ≡ branch_of (amount form) ∷ []
branches_y false form = branches_known form.y Quantitative
branches_y true form = branches_known form.y Quantitative

-- ---- the measure

module _ (y_first : Bool) (form : FirstForm) where
  abbrev unit : UnitAt
  unit = form_unit_at y_first form

  pub first_x : first_at unit X ≡ Some (category form)
  first_x = ap first_definition (definitions_x y_first form)

  pub first_y : first_at unit Y ≡ Some (amount form)
  first_y = ap first_definition (definitions_y y_first form)

  -- it is y
  pub measure_known : measure_of unit ≡ Y
  measure_known = λ i. measure_by (x_is_measure (first_x i) (first_y i))

-- ---- all that it shows

abbrev shown_at : ℕ → Definition → ShownAt
shown_at channel d = record { channel = channel; shows = d }

abbrev pub form_shows : Bool → FirstForm → List ShownAt
form_shows false form = shown_at X (category form) ∷ shown_at Y (amount form) ∷ []
form_shows true form = shown_at Y (amount form) ∷ shown_at X (category form) ∷ []

pub own_known : (y_first : Bool) (form : FirstForm) → own_shows (form_unit_at y_first form) ≡ form_shows y_first form
own_known false form =
    λ i. map (branch_shows X) (branches_known form.x Nominal i) ++ (map (branch_shows Y) (branches_known form.y Quantitative i) ++ [])
own_known true form =
    λ i. map (branch_shows Y) (branches_known form.y Quantitative i) ++ (map (branch_shows X) (branches_known form.x Nominal i) ++ [])

-- ---- no stack

-- nothing tells series apart
abbrev series_among : List ShownAt → List (List ℕ)
series_among shows = flat_map (λ code. flat_map (plain_at code) shows) series_channels

series_none : (y_first : Bool) (form : FirstForm) → series_among (form_shows y_first form) ≡ []
series_none false form = refl
series_none true form = refl

module _ (y_first : Bool) (form : FirstForm) where
  abbrev the_unit : UnitAt
  the_unit = form_unit_at y_first form

  abbrev amounts : FieldDefinition
  amounts = field_of form.y Quantitative

  series_known : series_of the_unit ≡ []
  series_known = ap series_among (own_known y_first form) ∙ series_none y_first form

  -- by what tells series apart
  abbrev stack_over : List (List ℕ) → Option StackOf
  stack_over series =
      option_and_then (λ (name : List ℕ). option_map (stack_with the_unit name) (zero_if (stacks_over bar (amount form) series)))
      (name_of (measure_of the_unit) amounts)

  -- the name counts for nothing
  abbrev stack_named : Option (List ℕ) → Option StackOf
  stack_named found = option_and_then (λ (name : List ℕ). None) found

  pub stack_known : stack_settings_of the_unit ≡ None
  stack_known =
      ap (λ (m : ℕ). stack_at the_unit (first_at the_unit m)) (measure_known y_first form)
      ∙ ap (stack_at the_unit) (first_y y_first form)
      ∙ ap stack_over series_known
      ∙ ap (λ (m : ℕ). stack_named (name_of m amounts)) (measure_known y_first form)

  pub stack_none : stack_of the_unit ≡ None
  stack_none = ap (option_map (stacked_by (measure_of the_unit))) stack_known
