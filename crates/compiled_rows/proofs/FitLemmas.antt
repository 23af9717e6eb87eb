-- The numbers of a plan's steps are those of 32 bits: counts and offsets are cut so where transforms are read.
use Rattle.std.proofs.Common.{◌≡◌, refl, sym, ap, ◌∙◌, ℕ, suc, ◌-◌, ◌^◌, ℤ, pos, neg_ℤ, Bool, true, false, Option, Some, None, List, [], ◌∷◌, ◌++◌}
use Rattle.std.proofs.Common.{map, length, All, IfSome, arith, flat_map, is_some, unwrap_or, ◌*◌, if◌then◌else◌}
use Rattle.std.specs.Int.{int_min, int_max, int_div_euclid}
use Rattle.std.specs.Option.{option_map, option_map_or}
use Rattle.std.proofs.lemmas.Int.{ints, clamps}
use Rattle.std.proofs.lemmas.List.Elements.{All-nil, All-cons, All-append}
use Rattle.fixed_num.specs.Number.{million}
use Rattle.vl_spec.specs.declared.definitions.Bin.{Bin}
use Rattle.vl_spec.specs.declared.definitions.FieldDefinition.{FieldDefinition}
use Rattle.vl_spec.specs.declared.definitions.FieldType.{FieldType}
use Rattle.vl_spec.specs.declared.groupings.Frame.{Frame}
use Rattle.vl_spec.specs.declared.groupings.WindowOperation.{WindowOperation}
use Rattle.vl_spec.specs.declared.groupings.WindowTransform.{WindowTransform}
use Rattle.vl_spec.specs.declared.transforms.Transform.{Transform}
use Rattle.vl_spec.specs.declared.transforms.Transform.TheVariants as transform
use Rattle.vl_compose.specs.Units.{UnitAt, units_of}
use Rattle.vl_compose.specs.Views.{transforms_of}
use Rattle.vl_normalize.specs.Normal.{normal_form}
use Rattle.vl_normalize.specs.declared.codes.TheConstants.{X, Y}
use Rattle.cell_names.specs.Names.{bin_settings, bins_in, most_bins}
use Rattle.plain_rows.specs.declared.transforms.StackOf.{StackOf}
use Rattle.plan_kit.specs.declared.steps.Step.{Step}
use Rattle.plan_kit.specs.declared.steps.Step.TheVariants as step
use Rattle.unit_plan.specs.Bins.{bins_by, units_by, bins_of, units_of_time, bin_cuts, unit_cuts, bin_steps, unit_steps}
use Rattle.unit_plan.specs.Groups.{aggregates, groups_of, group_steps}
use Rattle.unit_plan.specs.Measures.{first_type}
use Rattle.unit_plan.specs.Reads.{field_of, read_of, is_read, reads, read_steps}
use Rattle.unit_plan.specs.Rows.{before}
use Rattle.unit_plan.specs.Shows.{ShownAt, shows_of, field_in}
use Rattle.unit_plan.specs.Stacks.{stack_step, stack_settings_of, stack_steps}
use Rattle.unit_plan.specs.Transforms.{count_in, offset_in, param_of, window_op, before_of, after_of, window_settings, step_of}
use Rattle.chart_plan.specs.Plan.{all_scales, unit_by}
use Rattle.compiled_rows.specs.Steps.{IsCount, IsOffset, WindowFits, StepFits, UnitFits, PlansFit}

-- ---- lists

pub all_mapped : {X Y : Type 0} (P : Y → Type 0) (f : X → Y) → ((x : X) → P (f x)) → (xs : List X) → All P (map f xs)
all_mapped P f each [] = All-nil P
all_mapped P f each (x ∷ xs) = All-cons P (f x) (map f xs) (each x) (all_mapped P f each xs)

pub all_flat : {X Y : Type 0} (P : Y → Type 0) (f : X → List Y) → ((x : X) → All P (f x)) → (xs : List X) → All P (flat_map f xs)
all_flat P f each [] = All-nil P
all_flat P f each (x ∷ xs) = All-append P (f x) (flat_map f xs) (each x) (all_flat P f each xs)

pub alone : {X : Type 0} (P : X → Type 0) (x : X) → P x → All P (x ∷ [])
alone P x p = All-cons P x [] p (All-nil P)

pub length_mapped : {X Y : Type 0} (f : X → Y) (xs : List X) → length (map f xs) ≡ length xs
length_mapped f [] = refl
length_mapped f (x ∷ xs) = ap suc (length_mapped f xs)

abbrev Fit : List Step → Type 0
Fit steps = All StepFits steps

none_fit : Fit []
none_fit = All-nil StepFits

-- ---- numbers

count_fits : (n : ℤ) → IsCount (count_in n)
count_fits n = grind arith

clamped : (q : ℤ) → IsOffset (int_max (neg_ℤ (pos (2 ^ 31))) (int_min q (pos (2 ^ 31 - 1))))
clamped q = record { least = omega (arith, ints, clamps); greatest = omega (arith, ints, clamps) }

offset_fits : (n : ℤ) → IsOffset (offset_in n)
offset_fits n = clamped (int_div_euclid n (pos million))

bound_fits : (o : Option ℤ) → IfSome (option_map offset_in o) IsOffset
bound_fits None = tt
bound_fits (Some n) = offset_fits n

before_fits : (frame : Option Frame) → IfSome (before_of frame) IsOffset
before_fits None = tt
before_fits (Some bounds) = bound_fits bounds.first

after_fits : (frame : Option Frame) → IfSome (after_of frame) IsOffset
after_fits None = record { least = omega (arith, ints); greatest = omega (arith, ints) }
after_fits (Some bounds) = bound_fits bounds.last

-- ---- transforms

param_fits : (o : WindowOperation) → IsCount (param_of o)
param_fits o = by o.param
  where
    by : (param : Option ℤ) → IsCount (option_map_or count_in param 1)
    by None = omega arith
    by (Some n) = count_fits n

window_fits : (w : WindowTransform) → WindowFits (window_settings w)
window_fits w = record {
  each = length_mapped param_of w.window ∙ sym (length_mapped window_op w.window);
  counts = all_mapped IsCount param_of param_fits w.window;
  before = before_fits w.frame;
  after = after_fits w.frame;
}

step_fits : (is_selection : List ℕ → Bool) (t : Transform) → StepFits (step_of is_selection t)
step_fits is_selection (transform.Filter f) = tt
step_fits is_selection (transform.Calculate c) = tt
step_fits is_selection (transform.Bin b) = count_fits (unwrap_or (bin_settings b.bin).maxbins (pos (10 * million)))
step_fits is_selection (transform.TimeUnit t) = tt
step_fits is_selection (transform.Aggregate a) = tt
step_fits is_selection (transform.JoinAggregate a) = tt
step_fits is_selection (transform.Stack s) = tt
step_fits is_selection (transform.Window w) = window_fits w
step_fits is_selection (transform.Lookup l) = tt
step_fits is_selection (transform.Fold f) = tt

-- ---- encodings

read_fits : (field : Option (List ℕ)) → Fit (read_of field)
read_fits None = none_fit
read_fits (Some field) = alone StepFits _ tt

reads_fit : (x y : Option FieldType) (s : ShownAt) → Fit (reads x y s)
reads_fit x y s = by (is_read x y s)
  where
    by : (b : Bool) → Fit (if b then read_of (field_of s.shows) else [])
    by true = read_fits (field_of s.shows)
    by false = none_fit

bins_fit : (channel : ℕ) (b : Option Bin) (field : Option (List ℕ)) → Fit (bins_by channel b field)
bins_fit channel None field = none_fit
bins_fit channel (Some b) None = none_fit
bins_fit channel (Some b) (Some field) = alone StepFits _ (count_fits (unwrap_or (bin_settings b).maxbins (most_bins channel)))

units_fit : (b : Option Bin) (unit : Option ℕ) (field : Option (List ℕ)) → Fit (units_by b unit field)
units_fit (Some b) unit field = none_fit
units_fit None None field = none_fit
units_fit None (Some unit) None = none_fit
units_fit None (Some unit) (Some field) = alone StepFits _ tt

unless_aggregated : (b : Bool) (steps : List Step) → Fit steps → Fit (if b then [] else steps)
unless_aggregated true steps h = none_fit
unless_aggregated false steps h = h

bins_of_fit : (channel : ℕ) (d : FieldDefinition) → Fit (bins_of channel d)
bins_of_fit channel d = unless_aggregated (is_some d.aggregate) (bins_by channel (bins_in d) d.field) (bins_fit channel (bins_in d) d.field)

units_of_fit : (d : FieldDefinition) → Fit (units_of_time d)
units_of_fit d = unless_aggregated (is_some d.aggregate) (units_by (bins_in d) d.time_unit d.field) (units_fit (bins_in d) d.time_unit d.field)

if_field : (f : FieldDefinition → List Step) → ((d : FieldDefinition) → Fit (f d)) → (d : Option FieldDefinition) → Fit (option_map_or f d [])
if_field f each None = none_fit
if_field f each (Some d) = each d

bin_cuts_fit : (s : ShownAt) → Fit (bin_cuts s)
bin_cuts_fit s = if_field (bins_of s.channel) (bins_of_fit s.channel) (field_in s.shows)

unit_cuts_fit : (s : ShownAt) → Fit (unit_cuts s)
unit_cuts_fit s = if_field units_of_time units_of_fit (field_in s.shows)

groups_fit : (unit : UnitAt) → Fit (group_steps unit)
groups_fit unit = by (aggregates unit)
  where
    by : (b : Bool) → Fit (if b then step.Group (groups_of unit) ∷ [] else [])
    by true = alone StepFits _ tt
    by false = none_fit

stack_fits : (s : Option StackOf) → Fit (stack_step s)
stack_fits None = none_fit
stack_fits (Some s) = alone StepFits _ tt

-- ---- units

before_all : (is_selection : List ℕ → Bool) (unit : UnitAt) → Fit (before is_selection unit)
before_all is_selection unit =
    let told = map (step_of is_selection) (transforms_of unit.round) in
    All-append StepFits (told ++ read_steps unit ++ bin_steps unit) (unit_steps unit)
    (All-append StepFits (told ++ read_steps unit) (bin_steps unit)
    (All-append StepFits told (read_steps unit)
    (all_mapped StepFits (step_of is_selection) (step_fits is_selection) (transforms_of unit.round))
    (all_flat StepFits (reads (first_type unit X) (first_type unit Y)) (reads_fit (first_type unit X) (first_type unit Y)) (shows_of unit)))
    (all_flat StepFits bin_cuts bin_cuts_fit (shows_of unit)))
    (all_flat StepFits unit_cuts unit_cuts_fit (shows_of unit))

all_steps : (is_selection : List ℕ → Bool) (unit : UnitAt) → Fit (before is_selection unit ++ (group_steps unit ++ stack_steps unit))
all_steps is_selection unit =
    All-append StepFits (before is_selection unit) (group_steps unit ++ stack_steps unit) (before_all is_selection unit)
    (All-append StepFits (group_steps unit) (stack_steps unit) (groups_fit unit) (stack_fits (stack_settings_of unit)))

pub plans_fit : PlansFit
plans_fit s =
    let n = normal_form s in
    all_mapped UnitFits (unit_by n.params (all_scales n (units_of n))) (λ unit. all_steps _ unit) (units_of n)
