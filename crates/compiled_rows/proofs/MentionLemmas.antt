-- Why columns that are made are none of the fields of facets.
use Rattle.std.proofs.Common.{◌≡◌, ◌≢◌, ℕ, zero, suc, not, true, Some, List, [], ◌∷◌, ◌++◌, All, map, flat_map, sym, ap, ◌∙◌, subst}
use Rattle.std.specs.Prelude.{slice_get}
use Rattle.std.specs.List.{list_all}
use Rattle.std.specs.Option.{option_map_or}
use Rattle.std.specs.Str.{bytes_eq}
use Rattle.std.proofs.lemmas.List.Elements.{All-head, All-tail}
use Rattle.std.proofs.lemmas.Slice.Eq.{bytes_eq-Decides}
use Rattle.vl_spec.specs.declared.sources.SourceOf.{SourceOf}
use Rattle.plan_kit.specs.declared.grids.FacetField.{FacetField}
use Rattle.plan_kit.specs.declared.grids.GridPlan.{GridPlan}
use Rattle.vega_assemble.specs.Mentioned.{in_facet, in_field, in_grid, in_order, in_param, in_plan, in_scale, in_selection, in_unit, mentioned}
use Rattle.vega_assemble.specs.Names.{stem_for}
use Rattle.chart_meaning.specs.Parts.{names_of}
use Rattle.compiled_rows.specs.Names.{MadeName, CellsName, CellColumn, RankColumn, KeyColumn, made_name}
use Rattle.compiled_rows.specs.Follows.{is_outside}
use Rattle.compiled_rows.specs.Leaves.{MentionedAreOutside, FieldsAreMentioned}
use Rattle.compiled_rows.specs.Parts.{is_one_of}
use Rattle.compiled_rows.proofs.FollowLemmas.{both_of}
use Rattle.compiled_rows.proofs.LeaveLemmas.{all_among}
use Rattle.compiled_rows.proofs.NewLemmas.{made_names_are_new}
use Rattle.compiled_rows.proofs.PartLemmas.{any_left, any_right, by_cases, or_either, or_left}
use Rattle.compiled_rows.proofs.StandLemmas.{no_value, same_value}

-- ---- names among others

among_all : (whole ns : List (List ℕ)) (x : List ℕ) → list_all (is_one_of whole) ns ≡ true → is_one_of ns x ≡ true → is_one_of whole x ≡ true
among_all whole [] x h e = absurd (cc)
among_all whole (n ∷ ns) x h e =
    let both = both_of (is_one_of whole n) (list_all (is_one_of whole) ns) h in
    or_either (bytes_eq n x) (is_one_of ns x) e
    (λ here. subst (λ m. is_one_of whole m ≡ true) ((bytes_eq-Decides n x).0 here) both.0)
    (λ later. among_all whole ns x both.1 later)

none_there : (whole : List (List ℕ)) (x : List ℕ) → All (λ name. x ≢ name) whole → is_one_of whole x ≡ true → ⊥
none_there [] x h e = absurd (cc)
none_there (n ∷ whole) x h e =
    or_either (bytes_eq n x) (is_one_of whole x) e
    (λ here. All-head (λ name. x ≢ name) n whole h (sym ((bytes_eq-Decides n x).0 here)))
    (λ later. none_there whole x (All-tail (λ name. x ≢ name) n whole h) later)

outside : (mentioned names : List (List ℕ)) → list_all (is_one_of mentioned) names ≡ true → (a : MadeName)
    → is_outside names (made_name (stem_for mentioned) a) ≡ true
outside mentioned names h a =
    let name = made_name (stem_for mentioned) a in
    by_cases (is_one_of names name)
    (λ there. absurd (none_there mentioned name (made_names_are_new mentioned a) (among_all mentioned names name h there)))
    (λ none. ap not none)

pub mentioned_are_outside : MentionedAreOutside
mentioned_are_outside mentioned names h = record {
  cell = outside mentioned names h CellColumn;
  rank = outside mentioned names h RankColumn;
  keys = λ place. outside mentioned names h (KeyColumn place);
  lists = λ scale column. outside mentioned names h (CellsName scale column);
}

-- ---- the fields of facets

field_there : (fields : List FacetField) (n : List ℕ) → is_one_of (map (λ (field : FacetField). field.name) fields) n ≡ true
    → is_one_of (flat_map in_field fields) n ≡ true
field_there [] n e = e
field_there (field ∷ fields) n e =
    or_either (bytes_eq field.name n) (is_one_of (map (λ (f : FacetField). f.name) fields) n) e
    (λ here. or_left (bytes_eq field.name n) (is_one_of (in_order field.order ++ flat_map in_field fields) n) here)
    (λ later. any_right (λ other. bytes_eq other n) (in_field field) (flat_map in_field fields) (field_there fields n later))

grid_there : (grids : List GridPlan) (place : ℕ) (grid : GridPlan) (n : List ℕ) → slice_get grids place ≡ Some grid → is_one_of (in_grid grid) n ≡ true
    → is_one_of (flat_map in_grid grids) n ≡ true
grid_there [] place grid n at e = absurd (no_value grid at)
grid_there (g ∷ grids) zero grid n at e =
    any_left (λ other. bytes_eq other n) (in_grid g) (flat_map in_grid grids)
    (subst (λ x. is_one_of (in_grid x) n ≡ true) (sym (same_value g grid at)) e)
grid_there (g ∷ grids) (suc place) grid n at e =
    any_right (λ other. bytes_eq other n) (in_grid g) (flat_map in_grid grids) (grid_there grids place grid n at e)

pub fields_are_mentioned : FieldsAreMentioned
fields_are_mentioned s p place grid f at facet =
    let sources = map (λ (source : SourceOf). source.name) s.sources in
    let params = flat_map in_param s.params in
    let units = flat_map in_unit p.units in
    let scales = flat_map in_scale p.scales in
    let grids = flat_map in_grid p.grids in
    let selections = flat_map in_selection p.selections in
    all_among (mentioned s p) (names_of f) (λ n there.
    any_right (λ other. bytes_eq other n) (sources ++ params) (in_plan p)
    (any_left (λ other. bytes_eq other n) (units ++ scales ++ grids) selections
    (any_right (λ other. bytes_eq other n) (units ++ scales) grids
    (grid_there p.grids place grid n at
    (ap (λ o. is_one_of (option_map_or in_facet o []) n) facet ∙ field_there f.fields n there)))))
