-- The lists of units: each gives the rows that the unit's steps leave, wherever names that are mentioned stand for the sources.
use Rattle.std.proofs.Common.{◌≡◌, refl, sym, ap, ◌∙◌, subst, ℕ, ◌≢◌, Bool, true, false, ◌||◌, if◌then◌else◌, Option, Some, None, List, []}
use Rattle.std.proofs.Common.{◌∷◌, ◌++◌, map, All, bytes_eq, filter, flat_map, get_or, unwrap_or, append_assoc, true≢false}
use Rattle.std.specs.List.{list_any}
use Rattle.std.proofs.lemmas.List.Elements.{All-nil, All-cons, All-head, All-tail}
use Rattle.std.proofs.lemmas.List.Folds.{Any-from_list_any}
use Rattle.std.proofs.lemmas.Slice.Eq.{bytes_eq-Decides}
use Rattle.fixed_num.specs.Ranges.{◌>>=◌}
use Rattle.cell_value.specs.Datum.{Datum}
use Rattle.cell_value.specs.State.{Dataset}
use Rattle.expr_eval.specs.Values.{Values}
use Rattle.vega_spec.specs.declared.transforms.Transform.{Transform}
use Rattle.vl_spec.specs.declared.sources.SourceOf.{SourceOf}
use Rattle.vl_spec.specs.declared.spec.VlSpec.{VlSpec}
use Rattle.plan_kit.specs.declared.plans.UnitPlan.{UnitPlan}
use Rattle.plan_kit.specs.declared.steps.Step.{Step}
use Rattle.plan_kit.specs.declared.steps.Step.TheVariants as step
use Rattle.plan_kit.specs.declared.plan.Plan.{Plan}
use Rattle.chart_plan.specs.Plan.{plan_of}
use Rattle.vega_lists.specs.Lists.{list_of, lists_of}
use Rattle.vega_lists.specs.Scopes.{Scope, no_lists, with_list, list_named}
use Rattle.vega_lists.specs.Transforms.{all_transformed}
use Rattle.vega_assemble.specs.Assembled.{none_list, unit_list, begun_list, is_begun, begun_lists, lists_made}
use Rattle.vega_assemble.specs.Mentioned.{in_lookup, in_step, in_unit, in_mark, in_plan, in_param, in_scale, in_grid, in_selection, mentioned}
use Rattle.vega_assemble.specs.Names.{stem_for, none_name, unit_name, begun_name}
use Rattle.vega_assemble.specs.Sources.{if_any, list_made, source_written}
use Rattle.vega_assemble.specs.Steps.{steps_written}
use Rattle.chart_meaning.specs.Rows.{rows_named}
use Rattle.compiled_rows.specs.Names.{NoneName, UnitName, BegunName, IsPlace}
use Rattle.compiled_rows.specs.Steps.{StepFits, UnitFits, FindsSource, IsNull}
use Rattle.compiled_rows.specs.Lists.{rows_left, unit_left, begun_left, all_left, all_begun, units_begun, with_all, unit_names, begun_names, units_scope}
use Rattle.compiled_rows.specs.Lists.{scale_lists, grid_lists, drag_lists, other_lists, stem_of, HasFewUnits, UnitsComeFirst}
use Rattle.compiled_rows.proofs.FitLemmas.{plans_fit}
use Rattle.compiled_rows.proofs.HeadLemmas.{sources_first, none_next}
use Rattle.compiled_rows.proofs.NewLemmas.{made_names_are_new}
use Rattle.compiled_rows.proofs.ReadLemmas.{EachGives, all_read, all_keep, elsewhere, in_two, rows_are_listed}
use Rattle.compiled_rows.proofs.StepLemmas.{all_steps_agree}

-- ---- names among others

abbrev IsAmong : List ℕ → List (List ℕ) → Type 0
IsAmong name names = list_any (bytes_eq name) names ≡ true

-- all of some names are among others
abbrev Among : List (List ℕ) → List (List ℕ) → Type 0
Among names others = (name : List ℕ) → IsAmong name names → IsAmong name others

or_left : (a b : Bool) → a ≡ true → (a || b) ≡ true
or_left a b e = ap (λ t. t || b) e

or_right : (a b : Bool) → b ≡ true → (a || b) ≡ true
or_right true b e = refl
or_right false b e = e

in_first : (xs ys : List (List ℕ)) → Among xs (xs ++ ys)
in_first [] ys name e = absurd (true≢false (sym e))
in_first (x ∷ xs) ys name e = by (bytes_eq name x) refl (in_first xs ys name)
  where
    by : (b : Bool) → bytes_eq name x ≡ b → (IsAmong name xs → IsAmong name (xs ++ ys)) → (bytes_eq name x || list_any (bytes_eq name) (xs ++ ys)) ≡ true
    by true is rest = or_left (bytes_eq name x) (list_any (bytes_eq name) (xs ++ ys)) is
    by false is rest =
        or_right (bytes_eq name x) (list_any (bytes_eq name) (xs ++ ys)) (rest (ap (λ t. t || list_any (bytes_eq name) xs) (sym is) ∙ e))

in_second : (xs ys : List (List ℕ)) → Among ys (xs ++ ys)
in_second [] ys name e = e
in_second (x ∷ xs) ys name e = or_right (bytes_eq name x) (list_any (bytes_eq name) (xs ++ ys)) (in_second xs ys name e)

in_head : (x : List ℕ) (xs : List (List ℕ)) → IsAmong x (x ∷ xs)
in_head x xs = or_left (bytes_eq x x) (list_any (bytes_eq x) xs) ((bytes_eq-Decides x x).1 refl)

-- those of each part are among those of all parts
each_part : {X : Type 0} (f : X → List (List ℕ)) (xs : List X) (names : List (List ℕ)) → Among (flat_map f xs) names → All (λ x. Among (f x) names) xs
each_part f [] names among = All-nil (λ x. Among (f x) names)
each_part f (x ∷ xs) names among =
    All-cons (λ y. Among (f y) names) x xs (λ name is. among name (in_first (f x) (flat_map f xs) name is))
    (each_part f xs names (λ name is. among name (in_second (f x) (flat_map f xs) name is)))

-- what holds of all names holds of one among them
holds_at : (P : List ℕ → Type 0) (names : List (List ℕ)) (name : List ℕ) → All P names → IsAmong name names → P name
holds_at P names name all among =
    let found = Any-from_list_any (bytes_eq name) names among in
    subst P (sym ((bytes_eq-Decides name (get_or names found.0 found.1)).0 (ap (bytes_eq name) found.3 ∙ found.4))) (all found.0 found.1 found.2)

-- ---- the names that a specification mentions

sources_mentioned : (s : VlSpec) (p : Plan) → Among (map (λ (source : SourceOf). source.name) s.sources) (mentioned s p)
sources_mentioned s p name among =
    in_first (map (λ (source : SourceOf). source.name) s.sources ++ flat_map in_param s.params) (in_plan p) name
    (in_first (map (λ (source : SourceOf). source.name) s.sources) (flat_map in_param s.params) name among)

units_mentioned : (s : VlSpec) (p : Plan) → Among (flat_map in_unit p.units) (mentioned s p)
units_mentioned s p name among =
    in_second (map (λ (source : SourceOf). source.name) s.sources ++ flat_map in_param s.params) (in_plan p) name
    (in_first (flat_map in_unit p.units ++ flat_map in_scale p.scales ++ flat_map in_grid p.grids) (flat_map in_selection p.selections) name
    (in_first (flat_map in_unit p.units ++ flat_map in_scale p.scales) (flat_map in_grid p.grids) name
    (in_first (flat_map in_unit p.units) (flat_map in_scale p.scales) name among)))

-- the parts of a unit
record UnitMentioned (names : List (List ℕ)) (u : UnitPlan) : Type 0 where
  source : IsAmong u.source names
  before : All (λ step. Among (in_step step) names) u.before
  after : All (λ step. Among (in_step step) names) u.after

unit_parts : (names : List (List ℕ)) (u : UnitPlan) → Among (in_unit u) names → UnitMentioned names u
unit_parts names u among =
    let first : Among (u.source ∷ flat_map in_step u.before) names
    = λ name is. among name (in_first ((u.source ∷ flat_map in_step u.before) ++ flat_map in_step u.after) (in_mark u.mark) name
    (in_first (u.source ∷ flat_map in_step u.before) (flat_map in_step u.after) name is)) in
    record {
      source = first u.source (in_head u.source (flat_map in_step u.before));
      before = each_part in_step u.before names (λ name is. first name (in_second (u.source ∷ []) (flat_map in_step u.before) name is));
      after = each_part in_step u.after names (λ name is. among name
          (in_first ((u.source ∷ flat_map in_step u.before) ++ flat_map in_step u.after) (in_mark u.mark) name
          (in_second (u.source ∷ flat_map in_step u.before) (flat_map in_step u.after) name is)));
    }

-- ---- scopes in which names that are mentioned stand for the sources

abbrev KeepsSources : List (List ℕ) → List Dataset → Scope → Type 0
KeepsSources names sources scope = (name : List ℕ) → IsAmong name names → scope name ≡ list_named sources name

finds_source : (names : List (List ℕ)) (sources : List Dataset) (scope : Scope) (step : Step) → KeepsSources names sources scope → Among (in_step step) names
    → FindsSource scope sources step
finds_source names sources scope (step.Filter e) keeps among = tt
finds_source names sources scope (step.Calculate e name) keeps among = tt
finds_source names sources scope (step.Bin b) keeps among = tt
finds_source names sources scope (step.Unit t) keeps among = tt
finds_source names sources scope (step.Group g) keeps among = tt
finds_source names sources scope (step.Join g) keeps among = tt
finds_source names sources scope (step.Stack s) keeps among = tt
finds_source names sources scope (step.Window w) keeps among = tt
finds_source names sources scope (step.Lookup source l) keeps among =
    keeps source (among source (in_head source (in_lookup l))) ∙ sym (rows_are_listed sources source)
finds_source names sources scope (step.Fold f) keeps among = tt

all_find : (names : List (List ℕ)) (sources : List Dataset) (scope : Scope) (steps : List Step) → KeepsSources names sources scope
    → All (λ step. Among (in_step step) names) steps → All (FindsSource scope sources) steps
all_find names sources scope [] keeps among = All-nil (FindsSource scope sources)
all_find names sources scope (first ∷ others) keeps among =
    All-cons (FindsSource scope sources) first others
    (finds_source names sources scope first keeps (All-head (λ step. Among (in_step step) names) first others among))
    (all_find names sources scope others keeps (All-tail (λ step. Among (in_step step) names) first others among))

both : {X : Type 0} (P : X → Type 0) (xs ys : List X) → All P xs → All P ys → All P (xs ++ ys)
both P [] ys a b = b
both P (x ∷ xs) ys a b = All-cons P x (xs ++ ys) (All-head P x xs a) (both P xs ys (All-tail P x xs a) b)

pub front_of : {X : Type 0} (P : X → Type 0) (xs ys : List X) → All P (xs ++ ys) → All P xs
front_of P [] ys a = All-nil P
front_of P (x ∷ xs) ys a = All-cons P x xs (All-head P x (xs ++ ys) a) (front_of P xs ys (All-tail P x (xs ++ ys) a))

-- ---- one list

pub transforms_back : (transforms : List Transform) → unwrap_or (if_any transforms) [] ≡ transforms
transforms_back [] = refl
transforms_back (first ∷ others) = refl

-- the list of a source's rows after steps
steps_listed : (values : Values) (sources : List Dataset) (scope : Scope) (stem name source : List ℕ) (steps : List Step) → IsNull values stem
    → All StepFits steps → All (FindsSource scope sources) steps → scope source ≡ list_named sources source
    → list_of values sources scope (list_made name source (steps_written stem steps)) ≡ rows_left values sources source steps
steps_listed values sources scope stem name source steps null fits finds there =
    (λ i. all_transformed values scope (transforms_back (steps_written stem steps) i) (there i))
    ∙ ap (all_transformed values scope (steps_written stem steps)) (sym (rows_are_listed sources source))
    ∙ all_steps_agree values sources scope stem steps (rows_named sources source) null fits finds

-- ---- all of them

-- what is known of a unit
record UnitKnown (names : List (List ℕ)) (u : UnitPlan) : Type 0 where
  fits : UnitFits u
  parts : UnitMentioned names u
  few : IsPlace u.number

keeps_on : (names : List (List ℕ)) (sources : List Dataset) (made : List ℕ) (scope : Scope) (rows : List Datum) → All (λ name. made ≢ name) names
    → KeepsSources names sources scope → KeepsSources names sources (with_list made rows scope)
keeps_on names sources made scope rows new keeps name among =
    elsewhere made name rows scope (holds_at (λ other. made ≢ other) names name new among) ∙ keeps name among

abbrev GivesUnit : Values → List Dataset → List (List ℕ) → UnitPlan → Type 0
GivesUnit values sources names u =
    EachGives values sources (unit_list (stem_for names)) (unit_left values sources) (KeepsSources names sources) u

abbrev GivesBegun : Values → List Dataset → List (List ℕ) → UnitPlan → Type 0
GivesBegun values sources names u =
    EachGives values sources (begun_list (stem_for names)) (begun_left values sources) (KeepsSources names sources) u

gives_unit : (values : Values) (sources : List Dataset) (names : List (List ℕ)) (u : UnitPlan) → IsNull values (stem_for names) → UnitKnown names u
    → GivesUnit values sources names u
gives_unit values sources names u null known = record {
  gives = λ scope keeps. steps_listed values sources scope (stem_for names) (unit_name (stem_for names) u.number) u.source (u.before ++ u.after) null known.fits
      (all_find names sources scope (u.before ++ u.after) keeps
      (both (λ step. Among (in_step step) names) u.before u.after known.parts.before known.parts.after))
      (keeps u.source known.parts.source);
  keeps =
      λ scope rows keeps. keeps_on names sources (unit_name (stem_for names) u.number) scope rows
      (made_names_are_new names (UnitName u.number)) keeps;
}

gives_begun : (values : Values) (sources : List Dataset) (names : List (List ℕ)) (u : UnitPlan) → IsNull values (stem_for names) → UnitKnown names u
    → GivesBegun values sources names u
gives_begun values sources names u null known = record {
  gives = λ scope keeps. steps_listed values sources scope (stem_for names) (begun_name (stem_for names) u.number) u.source u.before null
      (front_of StepFits u.before u.after known.fits) (all_find names sources scope u.before keeps known.parts.before) (keeps u.source known.parts.source);
  keeps =
      λ scope rows keeps. keeps_on names sources (begun_name (stem_for names) u.number) scope rows
      (made_names_are_new names (BegunName u.number)) keeps;
}

-- ---- the law

all_from : {X : Type 0} (P Q : X → Type 0) → ((x : X) → P x → Q x) → (xs : List X) → All P xs → All Q xs
all_from P Q each [] all = All-nil Q
all_from P Q each (x ∷ xs) all = All-cons Q x xs (each x (All-head P x xs all)) (all_from P Q each xs (All-tail P x xs all))

all_three : {X : Type 0} (A B C P : X → Type 0) → ((x : X) → A x → B x → C x → P x) → (xs : List X) → All A xs → All B xs → All C xs → All P xs
all_three A B C P each [] a b c = All-nil P
all_three A B C P each (x ∷ xs) a b c =
    All-cons P x xs (each x (All-head A x xs a) (All-head B x xs b) (All-head C x xs c))
    (all_three A B C P each xs (All-tail A x xs a) (All-tail B x xs b) (All-tail C x xs c))

pub all_kept : {X : Type 0} (P : X → Type 0) (test : X → Bool) (xs : List X) → All P xs → All P (filter test xs)
all_kept P test [] all = All-nil P
all_kept P test (x ∷ xs) all = by (test x) (All-head P x xs all) (all_kept P test xs (All-tail P x xs all))
  where
    by : (b : Bool) → P x → All P (filter test xs) → All P (if b then x ∷ filter test xs else filter test xs)
    by true here rest = All-cons P x (filter test xs) here rest
    by false here rest = rest

units_known : (s : VlSpec) → HasFewUnits s → All (UnitKnown (mentioned s (plan_of s))) (plan_of s).units
units_known s few =
    let names = mentioned s (plan_of s) in
    all_three UnitFits (λ u. Among (in_unit u) names) (λ (u : UnitPlan). IsPlace u.number) (UnitKnown names)
    (λ u fits among small. record { fits = fits; parts = unit_parts names u among; few = small })
    (plan_of s).units (plans_fit s) (each_part in_unit (plan_of s).units names (units_mentioned s (plan_of s))) few

-- the names of the sources are no names that are made
sources_apart : (s : VlSpec) (names : List (List ℕ)) (made : List ℕ) → All (λ name. made ≢ name) (mentioned s (plan_of s))
    → Among names (mentioned s (plan_of s)) → All (λ name. name ≢ made) names
sources_apart s [] made new among = All-nil (λ other. other ≢ made)
sources_apart s (name ∷ names) made new among =
    All-cons (λ other. other ≢ made) name names
    (λ same. holds_at (λ other. made ≢ other) (mentioned s (plan_of s)) name new (among name (in_head name names)) (sym same))
    (sources_apart s names made new (λ other is. among other (in_second (name ∷ []) names other is)))

-- the data sets behind the first, in three parts
pub parted : (stem : List ℕ) (p : Plan) → lists_made stem p ≡ map (unit_list stem) p.units ++ (begun_lists stem p ++ other_lists stem p)
parted stem p =
    append_assoc (map (unit_list stem) p.units ++ begun_lists stem p ++ scale_lists stem p) (grid_lists stem p) (drag_lists stem p)
    ∙ append_assoc (map (unit_list stem) p.units ++ begun_lists stem p) (scale_lists stem p) (grid_lists stem p ++ drag_lists stem p)
    ∙ append_assoc (map (unit_list stem) p.units) (begun_lists stem p) (other_lists stem p)

-- binding what is found and then put into a scope
then_read : (found : Option (List (List Datum))) (at : List (List Datum) → Scope) (go : Scope → Option Scope)
    → ((found >>= λ lists. Some (at lists)) >>= go) ≡ (found >>= λ lists. go (at lists))
then_read None at go = refl
then_read (Some lists) at go = refl

pub units_come_first : UnitsComeFirst
units_come_first s values sources same few null =
    let p = plan_of s in
    let names = mentioned s p in
    let stem = stem_for names in
    let known = units_known s few in
    let keeps : KeepsSources names sources (list_named sources) = λ name among. refl in
    let units : All (GivesUnit values sources names) p.units
    = all_from (UnitKnown names) (GivesUnit values sources names) (λ u k. gives_unit values sources names u null k) p.units known in
    let begun : All (GivesBegun values sources names) (units_begun p)
    = all_kept (GivesBegun values sources names) (is_begun p) p.units
    (all_from (UnitKnown names) (GivesBegun values sources names) (λ u k. gives_begun values sources names u null k) p.units known) in
    let new : All (λ name. name ≢ none_name stem) (map (λ (d : Dataset). d.name) sources)
    = sources_apart s (map (λ (d : Dataset). d.name) sources) (none_name stem) (made_names_are_new names NoneName)
    (λ name is. sources_mentioned s p name (subst (IsAmong name) same is)) in
    in_two values sources no_lists (map source_written s.sources) (none_list stem s.sources ∷ lists_made stem p)
    ∙ ap (λ o. o >>= λ scope. lists_of values sources scope (none_list stem s.sources ∷ lists_made stem p)) (sources_first values sources s.sources same)
    ∙ none_next values sources stem s.sources (lists_made stem p) new
    ∙ ap (lists_of values sources (list_named sources)) (parted stem p)
    ∙ in_two values sources (list_named sources) (map (unit_list stem) p.units) (begun_lists stem p ++ other_lists stem p)
    ∙ ap (λ o. o >>= λ scope. lists_of values sources scope (begun_lists stem p ++ other_lists stem p))
    (all_read values sources (unit_list stem) (unit_left values sources) (KeepsSources names sources) p.units (list_named sources) units keeps)
    ∙ then_read (all_left values sources p) (λ rows. with_all (unit_names stem p.units) rows (list_named sources))
    (λ scope. lists_of values sources scope (begun_lists stem p ++ other_lists stem p))
    ∙ ap (λ go. all_left values sources p >>= go) (λ i rows. behind rows units begun keeps i)
  where
    behind : (rows : List (List Datum)) → All (GivesUnit values sources (mentioned s (plan_of s))) (plan_of s).units
        → All (GivesBegun values sources (mentioned s (plan_of s))) (units_begun (plan_of s))
        → KeepsSources (mentioned s (plan_of s)) sources (list_named sources)
        → lists_of values sources (with_all (unit_names (stem_of s) (plan_of s).units) rows (list_named sources))
        (begun_lists (stem_of s) (plan_of s) ++ other_lists (stem_of s) (plan_of s))
        ≡ (all_begun values sources (plan_of s) >>= λ begun.
        lists_of values sources (units_scope (stem_of s) (plan_of s) sources rows begun) (other_lists (stem_of s) (plan_of s)))
    behind rows units begun keeps =
        let p = plan_of s in
        let names = mentioned s p in
        let stem = stem_for names in
        let scope = with_all (unit_names stem p.units) rows (list_named sources) in
        let still
        = all_keep values sources (unit_list stem) (unit_left values sources) (KeepsSources names sources) p.units rows (list_named sources) units keeps in
        in_two values sources scope (begun_lists stem p) (other_lists stem p)
        ∙ ap (λ o. o >>= λ next. lists_of values sources next (other_lists stem p))
        (all_read values sources (begun_list stem) (begun_left values sources) (KeepsSources names sources) (units_begun p) scope begun still)
        ∙ then_read (all_begun values sources p) (λ lists. with_all (begun_names stem (units_begun p)) lists scope)
        (λ next. lists_of values sources next (other_lists stem p))
