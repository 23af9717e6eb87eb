-- The top of a compiled specification: first what its data sets lack, then what they are.
use Rattle.std.proofs.Common.{◌≡◌, refl, sym, ap, ◌∙◌, ℕ, Bool, true, false, ◌||◌, Option, Some, None, List, [], ◌∷◌, ◌++◌, All, map, if◌then◌else◌}
use Rattle.std.specs.List.{list_any}
use Rattle.std.specs.Option.{option_map}
use Rattle.std.proofs.lemmas.List.Elements.{All-head, All-tail}
use Rattle.std.proofs.lemmas.List.Folds.{list_any-append}
use Rattle.fixed_num.specs.Ranges.{◌>>=◌, all_found}
use Rattle.cell_value.specs.Datum.{Datum}
use Rattle.cell_value.specs.State.{Dataset}
use Rattle.expr_syntax.specs.declared.expr.Expr.{Expr-F, fold-roll-Expr}
use Rattle.expr_syntax.specs.declared.expr.Expr.{Expr}
use Rattle.expr_syntax.specs.declared.expr.Expr.TheOpen as form
use Rattle.expr_syntax.specs.declared.expr.Expr.TheVariants as expr
use Rattle.expr_reading.specs.Mentions.{parameters_in}
use Rattle.expr_eval.specs.Values.{Values}
use Rattle.vega_spec.specs.declared.data.DataSet.{DataSet}
use Rattle.vega_lists.specs.Lists.{lists_of}
use Rattle.vega_lists.specs.Scopes.{Scope, no_lists}
use Rattle.vega_signals.specs.Lacking.{lacks, set_lacks}
use Rattle.vega_copies.specs.Scopes.{Names}
use Rattle.vl_spec.specs.declared.sources.SourceOf.{SourceOf}
use Rattle.vl_spec.specs.declared.spec.VlSpec.{VlSpec}
use Rattle.plan_kit.specs.declared.plans.UnitPlan.{UnitPlan}
use Rattle.chart_plan.specs.Plan.{plan_of}
use Rattle.chart_meaning.specs.Parameters.{values_in}
use Rattle.chart_meaning.specs.Rows.{mention_lost}
use Rattle.vega_assemble.specs.Assembled.{begun_list, begun_lists, is_begun, lists_made, none_list, sets_of, unit_list}
use Rattle.vega_assemble.specs.Names.{begun_name, unit_name}
use Rattle.vega_assemble.specs.Sources.{source_written}
use Rattle.compiled_rows.specs.Lists.{all_begun, all_left, begun_left, other_lists, stem_of, unit_left, units_begun, units_scope}
use Rattle.compiled_rows.specs.Lost.{StepTestsNoLost}
use Rattle.compiled_rows.specs.Steps.{IsNull}
use Rattle.compiled_rows.specs.Tops.{TopIsLinked, TopIsUnitsAndOthers, UnitTestsNoLost}
use Rattle.compiled_rows.specs.Values.{names_over}
use Rattle.compiled_rows.proofs.LinkLemmas.{begun_are_linked, rows_are_linked}
use Rattle.compiled_rows.proofs.LostLemmas.{begun_lack_alike, units_lack_alike}
use Rattle.compiled_rows.proofs.SignalLemmas.{names_at_top_are_these}
use Rattle.compiled_rows.proofs.StandLemmas.{no_value, same_value}
use Rattle.compiled_rows.proofs.UnitLemmas.{all_kept, front_of, parted, units_come_first}

-- ---- what data sets lack

sources_lack : (values : Values) (ss : List SourceOf) (others : List DataSet)
    → list_any (set_lacks values) (map source_written ss ++ others) ≡ list_any (set_lacks values) others
sources_lack values [] others = refl
sources_lack values (s ∷ ss) others = sources_lack values ss others

no_parameter : parameters_in (expr.Flag false) ≡ []
no_parameter = ap parameters_in (sym (expr.rolls-Flag false)) ∙ (let z : Expr-F Expr = form.Flag false in fold-roll-Expr _ _ z)

none_lacks : (values : Values) (stem : List ℕ) (ss : List SourceOf) → set_lacks values (none_list stem ss) ≡ false
none_lacks values stem ss = ap (λ names. list_any (lacks values) names || (false || false)) no_parameter

abbrev lost_in : Values → UnitPlan → Bool
lost_in values u = mention_lost values (u.before ++ u.after)

abbrev lost_before : Values → UnitPlan → Bool
lost_before values u = mention_lost values u.before

units_lack : (values : Values) (stem : List ℕ) (units : List UnitPlan) → IsNull values stem → All (UnitTestsNoLost values) units
    → list_any (set_lacks values) (map (unit_list stem) units) ≡ list_any (lost_in values) units
units_lack values stem [] null tests = refl
units_lack values stem (u ∷ units) null tests =
    λ i. units_lack_alike stem values u null (All-head (UnitTestsNoLost values) u units tests) i
    || units_lack values stem units null (All-tail (UnitTestsNoLost values) u units tests) i

begun_lack : (values : Values) (stem : List ℕ) (units : List UnitPlan) → IsNull values stem → All (UnitTestsNoLost values) units
    → list_any (set_lacks values) (map (begun_list stem) units) ≡ list_any (lost_before values) units
begun_lack values stem [] null tests = refl
begun_lack values stem (u ∷ units) null tests =
    λ i. begun_lack_alike stem values u null (front_of (StepTestsNoLost values) u.before u.after (All-head (UnitTestsNoLost values) u units tests)) i
    || begun_lack values stem units null (All-tail (UnitTestsNoLost values) u units tests) i

-- all data sets: those of units, of their rows before the aggregate, and the others
all_lack : (s : VlSpec) (values : Values) → IsNull values (stem_of s) → All (UnitTestsNoLost values) (plan_of s).units
    → list_any (set_lacks values) (sets_of (stem_of s) s (plan_of s))
    ≡ (list_any (lost_in values) (plan_of s).units
    || (list_any (lost_before values) (units_begun (plan_of s)) || list_any (set_lacks values) (other_lists (stem_of s) (plan_of s))))
all_lack s values null tests =
    let stem = stem_of s in
    let p = plan_of s in
    sources_lack values s.sources (none_list stem s.sources ∷ lists_made stem p)
    ∙ ap (λ b. b || list_any (set_lacks values) (lists_made stem p)) (none_lacks values stem s.sources)
    ∙ ap (list_any (set_lacks values)) (parted stem p)
    ∙ list_any-append (set_lacks values) (map (unit_list stem) p.units) (begun_lists stem p ++ other_lists stem p)
    ∙ ap (λ b. list_any (set_lacks values) (map (unit_list stem) p.units) || b) (list_any-append (set_lacks values) (begun_lists stem p) (other_lists stem p))
    ∙ (λ i. units_lack values stem p.units null tests i
    || (begun_lack values stem (units_begun p) null (all_kept (UnitTestsNoLost values) (is_begun p) p.units tests) i
    || list_any (set_lacks values) (other_lists stem p)))

-- ---- rows that are there, unless a step mentions a lost parameter

abbrev unless : {X : Type 0} → Bool → Option X → Option X
unless b o = if b then None else o

-- what is found of all, unless one isn't to be found
all_unless : {U X : Type 0} (lost : U → Bool) (f : U → Option X) (us : List U)
    → all_found (map (λ u. unless (lost u) (f u)) us) ≡ unless (list_any lost us) (all_found (map f us))
all_unless lost f [] = refl
all_unless {U} {X} lost f (u ∷ us) =
    ap (λ rest. unless (lost u) (f u) >>= λ x. rest >>= λ xs. Some (x ∷ xs)) (all_unless lost f us)
    ∙ by (lost u) (f u) (list_any lost us) (all_found (map f us))
  where
    by : (a : Bool) (o : Option X) (b : Bool) (os : Option (List X))
        → (unless a o >>= λ x. unless b os >>= λ xs. Some (x ∷ xs)) ≡ unless (a || b) (o >>= λ x. os >>= λ xs. Some (x ∷ xs))
    by true o b os = refl
    by false None true os = refl
    by false None false os = refl
    by false (Some x) true os = refl
    by false (Some x) false os = refl

-- three tests at first, or each where its part is found
spread : {A B C : Type 0} (a b c : Bool) (rows : Option A) (begun : Option B) (behind : A → B → Option C)
    → unless (a || (b || c)) (rows >>= λ r. begun >>= λ s. behind r s) ≡ (unless a rows >>= λ r. unless b begun >>= λ s. unless c (behind r s))
spread true b c rows begun behind = refl
spread false true c None begun behind = refl
spread false true c (Some r) begun behind = refl
spread false false true None begun behind = refl
spread false false true (Some r) None behind = refl
spread false false true (Some r) (Some s) behind = refl
spread false false false None begun behind = refl
spread false false false (Some r) None behind = refl
spread false false false (Some r) (Some s) behind = refl

-- a change of what is found last
changed : {A B C D : Type 0} (f : C → D) (rows : Option A) (begun : Option B) (behind : A → B → Option C)
    → option_map f (rows >>= λ r. begun >>= λ s. behind r s) ≡ (rows >>= λ r. begun >>= λ s. option_map f (behind r s))
changed f None begun behind = refl
changed f (Some r) None behind = refl
changed f (Some r) (Some s) behind = refl

-- ---- the laws

abbrev named_so : Values → Scope → Names
named_so values lists = record { lists = lists; values = values }

pub top_is_units_and_others : TopIsUnitsAndOthers
top_is_units_and_others s st h =
    let values = values_in s.params st in
    let stem = stem_of s in
    let p = plan_of s in
    let lost = list_any (lost_in values) p.units in
    let lost_there = list_any (lost_before values) (units_begun p) in
    let others = list_any (set_lacks values) (other_lists stem p) in
    let behind : List (List Datum) → List (List Datum) → Option Scope
    = λ rows begun. lists_of values st.sources (units_scope stem p st.sources rows begun) (other_lists stem p) in
    names_at_top_are_these stem s p st h.apart
    ∙ (λ i. unless (all_lack s values h.null h.tests i) (option_map (named_so values) (units_come_first s values st.sources h.sources h.few h.null i)))
    ∙ ap (unless (lost || (lost_there || others))) (changed (named_so values) (all_left values st.sources p) (all_begun values st.sources p) behind)
    ∙ spread lost lost_there others (all_left values st.sources p) (all_begun values st.sources p)
    (λ rows begun. option_map (named_so values) (behind rows begun))
    ∙ (λ i. sym (all_unless (lost_in values) (unit_left values st.sources) p.units) i >>= λ rows.
    sym (all_unless (lost_before values) (begun_left values st.sources) (units_begun p)) i
    >>= λ begun. unless others (option_map (named_so values) (behind rows begun)))

-- what stands behind names
pub record AreNames (values : Values) (sources : List Dataset) (sets : List DataSet) (names : Names) : Type 0 where
  pub lists : Scope
  pub read : lists_of values sources no_lists sets ≡ Some lists
  pub is : named_so values lists ≡ names

are_names : (values : Values) (sources : List Dataset) (sets : List DataSet) (names : Names) → names_over values sources sets ≡ Some names
    → AreNames values sources sets names
are_names values sources sets names = by (list_any (set_lacks values) sets) (lists_of values sources no_lists sets) refl
  where
    by : (b : Bool) (o : Option Scope) → lists_of values sources no_lists sets ≡ o → unless b (option_map (named_so values) o) ≡ Some names
        → AreNames values sources sets names
    by true o is e = absurd (no_value names e)
    by false None is e = absurd (no_value names e)
    by false (Some lists) is e = record { lists = lists; read = is; is = same_value (named_so values lists) names e }

pub top_is_linked : TopIsLinked
top_is_linked s st h names read copy is =
    let told = values_in s.params st in
    let found
    = are_names told st.sources (sets_of (stem_of s) s (plan_of s)) names (sym (names_at_top_are_these (stem_of s) s (plan_of s) st h.apart) ∙ read) in
    record {
      values = ap (λ (n : Names). n.values) (sym found.is);
      rows = λ k u at. ap (λ (n : Names). n.lists (unit_name (stem_of s) k)) (sym found.is)
          ∙ rows_are_linked s told st.sources h.sources h.few h.null found.lists found.read copy is k u at;
      begun = λ k u at wanted. ap (λ (n : Names). n.lists (begun_name (stem_of s) k)) (sym found.is)
          ∙ begun_are_linked s told st.sources h.sources h.few h.null found.lists found.read copy is k u at wanted;
    }
