-- The faults of scales, and where they stand. Whether a scale fits hangs on the kind of its cells. So where a member that would say this kind is there, but
-- is ill-formed and counts as absent, that member is at fault.
use Rattle.std.specs.Prelude.{◌≡◌, refl, ℕ, ◌||◌, ◌&&◌, not, Bool, true, Option, Some, None, List, [], ◌∷◌, ◌++◌, codes, find, is_some, if◌then◌else◌}
use Rattle.std.specs.Option.{option_map_or}
use Rattle.json_exact.specs.declared.json.Json.{Json}
use Rattle.vl_spec.specs.declared.definitions.Bin.TheVariants as bin
use Rattle.vl_spec.specs.declared.definitions.Definition.{Definition}
use Rattle.vl_spec.specs.declared.definitions.Definition.TheVariants as definition
use Rattle.vl_spec.specs.declared.definitions.FieldDefinition.{FieldDefinition}
use Rattle.vl_spec.specs.declared.definitions.FieldType.{FieldType}
use Rattle.vl_spec.specs.declared.definitions.FieldType.TheVariants.{Quantitative, Temporal, Ordinal, Nominal}
use Rattle.vl_spec.specs.declared.scales.Scale.{Scale}
use Rattle.scale_infer.specs.declared.codes.TheConstants.{ORDINAL}
use Rattle.scale_infer.specs.Types.{field_with, has_bins, scale_in, type_of}
use Rattle.vl_trails.specs.declared.fault.RuleFault.{RuleFault}
use Rattle.vl_trails.specs.Faults.{wrong_if}
use Rattle.vl_trails.specs.Trails.{Trail, to_member}
use Rattle.vl_rules.specs.Fits.{has_fit_type, has_unfit_range, has_unfit_scheme, has_unfit_type, is_ordinal}
use Rattle.vl_rules.specs.Leads.{holds}

-- ---- where they stand

-- the name of a member, unless it says something
abbrev pub unless_said : {A : Type 0} → Option A → List ℕ → List (List ℕ)
unless_said said name = if is_some said then [] else name ∷ []

-- Those that might say the kind of a field's cells and say nothing. Its `type` comes first, then bins and an aggregate, then a unit of time.
abbrev pub silent_others : FieldDefinition → List (List ℕ)
silent_others d =
    unless_said d.aggregate (codes "aggregate") ++ (unless_said d.bin (codes "bin") ++ unless_said d.time_unit (codes "timeUnit"))

abbrev pub silent_in : FieldDefinition → List (List ℕ)
silent_in d = codes "type" ∷ (if has_bins d.bin || is_some d.aggregate then [] else silent_others d)

abbrev pub silent_of : Definition → List (List ℕ)
silent_of (definition.Value cell) = []
silent_of (definition.Datum d) = unless_said d.type_ (codes "type")
silent_of (definition.Field d) = if is_some d.type_ then [] else silent_in d

-- the steps to the first of some members that the object at a trail has, whatever it holds
abbrev pub held_or : Json → Trail → List (List ℕ) → Trail → Trail
held_or tree trail names otherwise = option_map_or (to_member trail) (find (holds tree trail) names) otherwise

-- whether what a scale gives hangs on its type, where that is absent or doesn't fit: that of an opacity of cells that stand apart
abbrev pub hangs_on_type : ℕ → FieldType → Scale → Bool
hangs_on_type channel type_ s = is_ordinal channel type_ (Some ORDINAL) && not (has_fit_type channel type_ s)

-- the steps from a scale to its member of a name; but where what it gives hangs on its type, and it has one that is ill-formed or doesn't fit, to that
abbrev pub in_scale : Json → ℕ → FieldType → Scale → Trail → List ℕ → Trail
in_scale tree channel type_ s trail name =
    held_or tree trail (if hangs_on_type channel type_ s then codes "type" ∷ [] else []) (to_member trail name)

-- whether something of a scale fits cells of some kind
abbrev pub fits_some : (FieldType → Bool) → Bool
fits_some unfit = not (unfit Quantitative && unfit Temporal && unfit Ordinal && unfit Nominal)

-- Where the scale of the definition at a trail doesn't fit by the member of a name, what stands there is wrong; but where it hangs on the kind of the
-- cells, and the definition has a member that says nothing of that, though it might, that member.
abbrev pub unfit_at : Json → Bool → ℕ → Definition → Scale → Trail → List ℕ → Trail
unfit_at tree hangs channel d s trail name =
    held_or tree trail (if hangs then silent_of d else []) (in_scale tree channel (type_of d) s (to_member trail (codes "scale")) name)

-- the fault of a scale by its member of a name, where something of it doesn't fit cells of some kinds
abbrev pub unfit_by : Json → (FieldType → Bool) → ℕ → Definition → Scale → Trail → List ℕ → List RuleFault
unfit_by tree unfit channel d s trail name =
    wrong_if (unfit (type_of d)) (unfit_at tree (fits_some unfit) channel d s trail name)

-- ---- the rules, by the channel and the definition at the end of a trail

-- The type that a scale says fits the cells of its own definition. Else it is wrong.
abbrev pub unfit_type : Json → ℕ → Definition → Scale → Trail → List RuleFault
unfit_type tree channel d s trail = unfit_by tree (λ type_. has_unfit_type channel type_ s) channel d s trail (codes "type")

-- The range of an ordinal scale is any list, that of every other scale two numbers, but colours that run from one to another have none. Else it is
-- wrong.
abbrev pub unfit_range : Json → ℕ → Definition → Scale → Trail → List RuleFault
unfit_range tree channel d s trail = unfit_by tree (λ type_. has_unfit_range channel type_ s) channel d s trail (codes "range")

-- Colours that run from one to another aren't those of the scheme `tableau10`. Else it is wrong.
abbrev pub unfit_scheme : Json → ℕ → Definition → Scale → Trail → List RuleFault
unfit_scheme tree channel d s trail = unfit_by tree (λ type_. has_unfit_scheme channel type_ s) channel d s trail (codes "scheme")

-- the faults of the scale of a definition
abbrev pub scale_faults : Json → ℕ → Definition → Scale → Trail → List RuleFault
scale_faults tree channel d s trail =
    unfit_type tree channel d s trail ++ unfit_range tree channel d s trail ++ unfit_scheme tree channel d s trail

-- the same where a definition may have no scale
abbrev pub definition_faults : Json → ℕ → Definition → Trail → List RuleFault
definition_faults tree channel d trail = option_map_or (λ (s : Scale). scale_faults tree channel d s trail) (scale_in d) []

-- The rules at work.

its_type_says_all : silent_of (field_with (Some Quantitative) None None None None None) ≡ []
its_type_says_all = refl

bins_say_all_but_its_type : silent_of (field_with None None (Some (bin.Flag true)) None None None) ≡ codes "type" ∷ []
bins_say_all_but_its_type = refl

all_may_be_silent :
    silent_of (field_with None None None None None None) ≡ codes "type" ∷ codes "aggregate" ∷ codes "bin" ∷ codes "timeUnit" ∷ []
all_may_be_silent = refl
