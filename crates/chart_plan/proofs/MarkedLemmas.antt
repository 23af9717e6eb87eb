-- What marks say is what the views round a unit have, and places of units stand for these units.
use Rattle.std.proofs.Common.{◌≡◌, ℕ, suc, ◌+◌, ◌<◌, ◌≤◌, Bool, true, false, cond, ◌||◌, ◌&&◌, List, [], ◌∷◌, map}
use Rattle.std.proofs.Common.{eqb, get_or, length, refl, sym, subst, ap, ◌∙◌, arith}
use Rattle.std.specs.Prelude.{Option, Some, None, find, option_map, slice_get, slice_set}
use Rattle.std.specs.List.{cons_option, enumerate_from, filter_map, flat_map, fold, list_any}
use Rattle.std.specs.Option.{option_and_then, option_map_or, option_or, unwrap_or}
use Rattle.std.proofs.lemmas.Bool.{eqb-true, eqb-false}
use Rattle.std.proofs.lemmas.List.{get_or-replicate, get_or-set_same, get_or-set_other, length-replicate, length-set}
use Rattle.std.proofs.lemmas.Option.{slice_get-map, unwrap_or-slice_get}
use Rattle.vl_spec.specs.declared.params.ParamKind.{ParamKind}
use Rattle.vl_spec.specs.declared.params.ParamKind.TheVariants as kind
use Rattle.vl_spec.specs.declared.params.ParamOf.{ParamOf}
use Rattle.vl_spec.specs.declared.params.Selection.{Selection}
use Rattle.vl_compose.specs.declared.here.UnitHere.{UnitHere}
use Rattle.vl_compose.specs.Rounds.{ViewAt}
use Rattle.vl_compose.specs.Shown.{unit_shown}
use Rattle.vl_compose.specs.Units.{UnitAt}
use Rattle.plan_kit.specs.declared.plots.PlotPlan.{PlotPlan}
use Rattle.plan_kit.specs.declared.scales.ScalePlan.{ScalePlan}
use Rattle.guide_infer.specs.First.{first_given}
use Rattle.chart_plan.specs.Plots.{is_in, number_in}
use Rattle.chart_plan.specs.Selections.{concerns, drag_channels, first_concerned, has_param, is_concerned_in, is_named, kept_with, plan_by, plan_if, plot_drags}
use Rattle.chart_plan.specs.Selections.{selection_plan, selections_of, units_concerned}
use Rattle.chart_plan.specs.inner.Marked.{with_mark, with_view, no_marks, unit_marks, is_marked, marks_at, concerns_by, place_if}
use Rattle.chart_plan.specs.inner.Marked.{places_of, number_at, numbers_at, first_at, number_there, drags_numbered}
use Rattle.chart_plan.specs.inner.Marked.{drags_along, plan_marked, unit_there, kind_marked, param_marked, all_marked}

-- ---- marks

or_true : (b : Bool) → true ≡ (b || true)
or_true true = refl
or_true false = refl

or_false : (b : Bool) → b ≡ (b || false)
or_false true = refl
or_false false = refl

or_assoc : (a b c : Bool) → ((a || b) || c) ≡ (a || (b || c))
or_assoc true b c = refl
or_assoc false b c = refl

marked_got : (marks : List Bool) (n : ℕ) → is_marked marks n ≡ get_or marks n false
marked_got marks n = unwrap_or-slice_get marks n false

-- one more mark
marked_with : (marks : List Bool) (m n : ℕ) → n < length marks → is_marked (slice_set marks m true) n ≡ (is_marked marks n || eqb m n)
marked_with marks m n within = by (eqb m n) refl
  where
    by : (t : Bool) → eqb m n ≡ t → is_marked (slice_set marks m true) n ≡ (is_marked marks n || t)
    by true e =
        ap (λ k. is_marked (slice_set marks k true) n) (eqb-true m n e)
        ∙ marked_got (slice_set marks n true) n
        ∙ get_or-set_same marks n true false within
        ∙ or_true (is_marked marks n)
    by false e =
        marked_got (slice_set marks m true) n
        ∙ get_or-set_other marks m n true false (λ same. eqb-false m n e (sym same))
        ∙ sym (marked_got marks n)
        ∙ or_false (is_marked marks n)

-- as many as before
length_all : (ns : List ℕ) (marks : List Bool) → length (fold with_mark marks ns) ≡ length marks
length_all [] marks = refl
length_all (m ∷ ns) marks = length_all ns (slice_set marks m true) ∙ length-set marks m true

-- the marks of several numbers, and of several views
marked_all : (ns : List ℕ) (marks : List Bool) (n : ℕ) → n < length marks →
    is_marked (fold with_mark marks ns) n ≡ (is_marked marks n || list_any (λ m. eqb m n) ns)
marked_all [] marks n within = or_false (is_marked marks n)
marked_all (m ∷ ns) marks n within =
    marked_all ns (slice_set marks m true) n (subst (λ k. n < k) (sym (length-set marks m true)) within)
    ∙ ap (λ b. b || list_any (λ m. eqb m n) ns) (marked_with marks m n within)
    ∙ or_assoc (is_marked marks n) (eqb m n) (list_any (λ m. eqb m n) ns)

marked_round : (vs : List ViewAt) (marks : List Bool) (n : ℕ) → n < length marks →
    is_marked (fold with_view marks vs) n ≡ (is_marked marks n || list_any (has_param n) vs)
marked_round [] marks n within = or_false (is_marked marks n)
marked_round (v ∷ vs) marks n within =
    marked_round vs (with_view marks v) n (subst (λ k. n < k) (sym (length_all v.params marks)) within)
    ∙ ap (λ b. b || list_any (has_param n) vs) (marked_all v.params marks n within)
    ∙ or_assoc (is_marked marks n) (has_param n v) (list_any (has_param n) vs)

-- those of a unit
unit_has : (count n : ℕ) (u : UnitAt) → n < count → is_marked (unit_marks count u) n ≡ list_any (has_param n) u.round
unit_has count n u within =
    marked_round u.round (no_marks count) n (subst (λ k. n < k) (sym (length-replicate count false)) within)
    ∙ ap (λ b. b || list_any (has_param n) u.round) (marked_got (no_marks count) n ∙ get_or-replicate count n false false within)

concerned_same : (count n : ℕ) (s : Selection) (u : UnitAt) → n < count → concerns_by (unit_marks count u) n s u ≡ concerns n s u
concerned_same count n s u within = ap (option_map_or (λ names. list_any (is_named names) u.round) s.views) (unit_has count n u within)

-- ---- places

-- what is given where something holds
abbrev if_at : {B : Type 0} → (UnitAt → Option B) → (UnitAt → Bool) → UnitAt → Option B
if_at k c u = cond (c u) (k u) None

-- a place is kept where the unit there is, and gives what that gives
abbrev Fits : {B : Type 0} → (ℕ → Option B) → (UnitAt → Option B) → (ℕ × UnitAt → Option ℕ) → (UnitAt → Bool) → ℕ → UnitAt → Type 0
Fits h k keeps c j u = (keeps (j, u) ≡ cond (c u) (Some j) None) × (h j ≡ k u)

-- at all places from one on
abbrev AllFit : {B : Type 0} → (ℕ → Option B) → (UnitAt → Option B) → (ℕ × UnitAt → Option ℕ) → (UnitAt → Bool) → List UnitAt → ℕ → Type 0
AllFit h k keeps c us m = (i : ℕ) (u : UnitAt) → slice_get us i ≡ Some u → Fits h k keeps c (m + i) u

here_fits : {B : Type 0} (h : ℕ → Option B) (k : UnitAt → Option B) (keeps : ℕ × UnitAt → Option ℕ) (c : UnitAt → Bool)
    (u : UnitAt) (us : List UnitAt) (m : ℕ) →
    AllFit h k keeps c (u ∷ us) m → Fits h k keeps c m u
here_fits h k keeps c u us m all =
    let at : ℕ → Type 0 = λ j. Fits h k keeps c j u in
    let same : m + 0 ≡ m = omega arith in
    subst at same (all 0 u refl)

others_fit : {B : Type 0} (h : ℕ → Option B) (k : UnitAt → Option B) (keeps : ℕ × UnitAt → Option ℕ) (c : UnitAt → Bool)
    (u : UnitAt) (us : List UnitAt) (m : ℕ) →
    AllFit h k keeps c (u ∷ us) m → AllFit h k keeps c us (m + 1)
others_fit h k keeps c u us m all i v there =
    let at : ℕ → Type 0 = λ j. Fits h k keeps c j v in
    let same : m + suc i ≡ m + 1 + i = omega arith in
    subst at same (all (suc i) v there)

one_place : {B : Type 0} (h : ℕ → Option B) (b : Bool) (j : ℕ) (o : Option B) (ps : List ℕ) → h j ≡ o →
    filter_map h (cons_option (cond b (Some j) None) ps) ≡ cons_option (cond b o None) (filter_map h ps)
one_place h true j o ps e = ap (λ x. cons_option x (filter_map h ps)) e
one_place h false j o ps e = refl

places_give : {B : Type 0} (h : ℕ → Option B) (k : UnitAt → Option B) (keeps : ℕ × UnitAt → Option ℕ) (c : UnitAt → Bool) (us : List UnitAt) (m : ℕ) →
    AllFit h k keeps c us m → filter_map h (filter_map keeps (enumerate_from m us)) ≡ filter_map (if_at k c) us
places_give h k keeps c [] m all = refl
places_give h k keeps c (u ∷ us) m all =
    ap (λ o. filter_map h (cons_option o (filter_map keeps (enumerate_from (m + 1) us)))) (here_fits h k keeps c u us m all).0
    ∙ one_place h (c u) m (k u) (filter_map keeps (enumerate_from (m + 1) us)) (here_fits h k keeps c u us m all).1
    ∙ ap (cons_option (cond (c u) (k u) None)) (places_give h k keeps c us (m + 1) (others_fit h k keeps c u us m all))

first_place : {B : Type 0} (h : ℕ → Option B) (b : Bool) (j : ℕ) (o : Option B) (ps : List ℕ) → h j ≡ o →
    first_given h (cons_option (cond b (Some j) None) ps) ≡ option_or (cond b o None) (first_given h ps)
first_place h true j o ps e = ap (λ x. option_or x (first_given h ps)) e
first_place h false j o ps e = refl

place_gives : {B : Type 0} (h : ℕ → Option B) (k : UnitAt → Option B) (keeps : ℕ × UnitAt → Option ℕ) (c : UnitAt → Bool) (us : List UnitAt) (m : ℕ) →
    AllFit h k keeps c us m → first_given h (filter_map keeps (enumerate_from m us)) ≡ first_given (if_at k c) us
place_gives h k keeps c [] m all = refl
place_gives h k keeps c (u ∷ us) m all =
    ap (λ o. first_given h (cons_option o (filter_map keeps (enumerate_from (m + 1) us)))) (here_fits h k keeps c u us m all).0
    ∙ first_place h (c u) m (k u) (filter_map keeps (enumerate_from (m + 1) us)) (here_fits h k keeps c u us m all).1
    ∙ ap (option_or (cond (c u) (k u) None)) (place_gives h k keeps c us (m + 1) (others_fit h k keeps c u us m all))

-- ---- the first unit

one_found : (b : Bool) (u : UnitAt) (o : Option UnitAt) → option_or (cond b (Some u) None) o ≡ cond b (Some u) o
one_found true u o = refl
one_found false u o = refl

found_first : (c : UnitAt → Bool) (us : List UnitAt) → first_given (if_at (λ u. Some u) c) us ≡ find c us
found_first c [] = refl
found_first c (u ∷ us) = ap (option_or (cond (c u) (Some u) None)) (found_first c us) ∙ one_found (c u) u (find c us)

-- its number, in a plot
abbrev number : UnitAt → ℕ
number u = u.number

one_found_in : (a b : Bool) (u : UnitAt) (o : Option UnitAt) →
    option_or (cond b (cond a (Some (number u)) None) None) (option_map number o) ≡ option_map number (cond (a && b) (Some u) o)
one_found_in true true u o = refl
one_found_in true false u o = refl
one_found_in false true u o = refl
one_found_in false false u o = refl

found_in : (p c : UnitAt → Bool) (us : List UnitAt) →
    first_given (if_at (λ u. cond (p u) (Some (number u)) None) c) us ≡ option_map number (find (λ u. p u && c u) us)
found_in p c [] = refl
found_in p c (u ∷ us) =
    ap (option_or (cond (c u) (cond (p u) (Some (number u)) None) None)) (found_in p c us) ∙ one_found_in (p u) (c u) u (find (λ u. p u && c u) us)

-- ---- selections

marks_there : (count j : ℕ) (us : List UnitAt) (u : UnitAt) → slice_get us j ≡ Some u → marks_at (map (unit_marks count) us) j ≡ unit_marks count u
marks_there count j us u there =
    ap (λ o. unwrap_or o []) (slice_get-map (unit_marks count) us j ∙ ap (option_map (unit_marks count)) there)

kept_there : (count n j : ℕ) (s : Selection) (us : List UnitAt) (u : UnitAt) → n < count → slice_get us j ≡ Some u →
    place_if (map (unit_marks count) us) n s (j, u) ≡ cond (concerns n s u) (Some j) None
kept_there count n j s us u within there =
    ap (λ b. cond b (Some j) None) (ap (λ marks. concerns_by marks n s u) (marks_there count j us u there) ∙ concerned_same count n s u within)

-- where places give what the units there give
all_fit : {B : Type 0} (h : ℕ → Option B) (k : UnitAt → Option B) (count n : ℕ) (s : Selection) (us : List UnitAt) → n < count →
    ((j : ℕ) (u : UnitAt) → slice_get us j ≡ Some u → h j ≡ k u) → AllFit h k (place_if (map (unit_marks count) us) n s) (concerns n s) us 0
all_fit h k count n s us within gives i u there =
    let at : ℕ → Type 0 = λ j. Fits h k (place_if (map (unit_marks count) us) n s) (concerns n s) j u in
    let same : i ≡ 0 + i = omega arith in
    subst at same (kept_there count n i s us u within there, gives i u there)

numbers_same : (count n : ℕ) (s : Selection) (us : List UnitAt) → n < count →
    numbers_at (slice_get us) (places_of (map (unit_marks count) us) n s us) ≡ units_concerned n s us
numbers_same count n s us within =
    places_give (number_at (slice_get us)) (λ (u : UnitAt). Some u.number) (place_if (map (unit_marks count) us) n s) (concerns n s) us 0
    (all_fit (number_at (slice_get us)) (λ (u : UnitAt). Some u.number) count n s us within (λ j u there. ap (option_map (λ (v : UnitAt). v.number)) there))

first_same : (count n : ℕ) (s : Selection) (us : List UnitAt) → n < count →
    first_at (slice_get us) (places_of (map (unit_marks count) us) n s us) ≡ first_concerned n s us
first_same count n s us within =
    place_gives (slice_get us) (λ u. Some u) (place_if (map (unit_marks count) us) n s) (concerns n s) us 0
    (all_fit (slice_get us) (λ u. Some u) count n s us within (λ j u there. there))
    ∙ found_first (concerns n s) us

by_number : (scales : List ScalePlan) (codes : List ℕ) (plot : ℕ) (o : Option UnitAt) →
    option_map_or (drags_numbered scales codes plot) (option_map number o) [] ≡ option_map_or (λ (u : UnitAt). drags_numbered scales codes plot u.number) o []
by_number scales codes plot None = refl
by_number scales codes plot (Some u) = refl

drags_same : (count n : ℕ) (s : Selection) (us : List UnitAt) (scales : List ScalePlan) (plot : PlotPlan) → n < count →
    drags_along scales (slice_get us) (places_of (map (unit_marks count) us) n s us) (drag_channels s.select) plot ≡ plot_drags scales us n s plot
drags_same count n s us scales plot within =
    ap (λ o. option_map_or (drags_numbered scales (drag_channels s.select) plot.number) o [])
    (place_gives (number_there plot.number (slice_get us)) (number_in plot.number) (place_if (map (unit_marks count) us) n s) (concerns n s) us 0
    (all_fit (number_there plot.number (slice_get us)) (number_in plot.number) count n s us within
    (λ j u there. ap (option_and_then (number_in plot.number)) there))
    ∙ found_in (is_in plot.number) (concerns n s) us)
    ∙ by_number scales (drag_channels s.select) plot.number (find (is_concerned_in n s plot.number) us)

plan_same : (count n : ℕ) (name : List ℕ) (s : Selection) (us : List UnitAt) (scales : List ScalePlan) (plots : List PlotPlan) → n < count →
    plan_marked (map (unit_marks count) us) us (slice_get us) scales plots n name s ≡ selection_plan us scales plots n name s
plan_same count n name s us scales plots within = λ i. record {
  kept = kept_with name (numbers_same count n s us within i) s.select (first_same count n s us within i);
  drags = flat_map (λ (plot : PlotPlan). drags_same count n s us scales plot within i) plots;
}

kind_same : (count n : ℕ) (name : List ℕ) (k : ParamKind) (us : List UnitAt) (scales : List ScalePlan) (plots : List PlotPlan) → n < count →
    kind_marked (map (unit_marks count) us) us (slice_get us) scales plots n name k ≡ plan_by us scales plots n name k
kind_same count n name (kind.Value cell) us scales plots within = refl
kind_same count n name (kind.Expr e) us scales plots within = refl
kind_same count n name (kind.Select s) us scales plots within = ap (λ plan. Some plan) (plan_same count n name s us scales plots within)

same_from : (count m : ℕ) (ps : List ParamOf) (us : List UnitAt) (scales : List ScalePlan) (plots : List PlotPlan) → m + length ps ≤ count →
    filter_map (param_marked (map (unit_marks count) us) us (slice_get us) scales plots) (enumerate_from m ps)
    ≡ filter_map (plan_if us scales plots) (enumerate_from m ps)
same_from count m [] us scales plots within = refl
same_from count m (p ∷ ps) us scales plots within =
    let here : m < count = omega arith in
    let behind : m + 1 + length ps ≤ count = omega arith in
    λ i. cons_option (kind_same count m p.name p.kind us scales plots here i) (same_from count (m + 1) ps us scales plots behind i)

-- what stands at places of units that are lent
there_same : (units : List UnitHere) (place : ℕ) → unit_there units place ≡ slice_get (map unit_shown units) place
there_same units place = sym (slice_get-map unit_shown units place)

-- by marks of as many parameters as there are, the selections are those of the units
pub all_same : (count : ℕ) (marks : List (List Bool)) (ps : List ParamOf) (units : List UnitHere) (scales : List ScalePlan) (plots : List PlotPlan) →
    count ≡ length ps → marks ≡ map (unit_marks count) (map unit_shown units) →
    all_marked marks (map unit_shown units) (unit_there units) scales plots ps ≡ selections_of (map unit_shown units) scales plots ps
all_same count marks ps units scales plots same made =
    let within : 0 + length ps ≤ count = omega arith in
    (λ i. all_marked (made i) (map unit_shown units) (λ place. there_same units place i) scales plots ps)
    ∙ same_from count 0 ps (map unit_shown units) scales plots within
