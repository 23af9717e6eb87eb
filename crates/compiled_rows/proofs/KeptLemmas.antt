-- Why each signal of a compiled specification has a value exactly where no parameter is lost.
use Rattle.std.proofs.Common.{◌≡◌, ◌≢◌, inl, inr, ⊎_elim, ℕ, suc, ◌+◌, ◌&&◌, not, Bool, true, false, cond, Option, Some, None, List, [], ◌∷◌, ◌++◌}
use Rattle.std.proofs.Common.{map, filter, find, is_some, is_none, All, refl, sym, ap, ap₂, ◌∙◌, subst, arith}
use Rattle.std.specs.Prelude.{slice_get}
use Rattle.std.specs.Cmp.{both_ways}
use Rattle.std.specs.List.{list_all}
use Rattle.std.specs.Option.{option_map_or}
use Rattle.std.specs.Str.{bytes_eq}
use Rattle.std.proofs.lemmas.List.Elements.{All-nil, All-cons}
use Rattle.std.proofs.lemmas.Slice.Eq.{bytes_eq-Decides}
use Rattle.cell_value.specs.declared.cell.Cell.{Cell}
use Rattle.cell_value.specs.declared.cell.Cell.TheVariants.{Null}
use Rattle.cell_value.specs.declared.state.StoreOf.{StoreOf}
use Rattle.cell_value.specs.State.{State}
use Rattle.expr_syntax.specs.declared.expr.Expr.{Expr}
use Rattle.expr_eval.specs.Plain.{null_row}
use Rattle.expr_eval.specs.Stores.{store_named}
use Rattle.expr_eval.specs.Value.{value_of}
use Rattle.expr_eval.specs.Values.{Values}
use Rattle.vega_spec.specs.declared.signals.Signal.{Signal}
use Rattle.vega_signals.specs.Extents.{Settled}
use Rattle.vega_signals.specs.Settling.{as_given}
use Rattle.vl_spec.specs.declared.params.ParamKind.{ParamKind}
use Rattle.vl_spec.specs.declared.params.ParamKind.TheVariants as kind
use Rattle.vl_spec.specs.declared.params.ParamOf.{ParamOf}
use Rattle.plan_kit.specs.declared.scales.ScalePlan.{ScalePlan}
use Rattle.plan_kit.specs.declared.selections.SelectionPlan.{SelectionPlan}
use Rattle.chart_meaning.specs.Parameters.{has_name, value_under, values_over, expression_in, computed_here, all_computed, count_computed}
use Rattle.chart_meaning.specs.Parameters.{settled_after, settled, has_value, keeps_all}
use Rattle.vega_assemble.specs.Names.{none_name}
use Rattle.vega_assemble.specs.Signals.{kind_at, place_behind, signals_from}
use Rattle.compiled_rows.specs.Values.{HasNoStore, IsApart, name_of, is_set, is_selection, can_be_set, selects}
use Rattle.compiled_rows.specs.Values.{IsStateOfParams, NamesDiffer, StoresOfStatesAreApart}
use Rattle.compiled_rows.specs.Values.{SignalsAreKeptAlike}
use Rattle.compiled_rows.proofs.PartLemmas.{by_cases}
use Rattle.compiled_rows.proofs.RisingLemmas.{Has, Rises}
use Rattle.compiled_rows.proofs.ChoiceLemmas.{Other, all_apart, has_at}
use Rattle.compiled_rows.proofs.SignalLemmas.{top_signals}
use Rattle.compiled_rows.proofs.ValueLemmas.{of_selection}

-- ---- signals without value

every_name : (q : List ℕ → Bool) (stem : List ℕ) (scales : List ScalePlan) (selections : List SelectionPlan) (place : ℕ) (params : List ParamOf)
    → list_all (λ (s : Signal). q s.name) (signals_from stem scales selections place params) ≡ list_all (λ (p : ParamOf). q p.name) params
every_name q stem scales selections place [] = refl
every_name q stem scales selections place (p ∷ params) =
    ap₂ (λ a b. a && b) (one_name p.name p.kind) (every_name q stem scales selections (place_behind place p) params)
  where
    selected : (name : List ℕ) (o : Option SelectionPlan) → q (of_selection stem scales selections name place o).name ≡ q name
    selected name None = refl
    selected name (Some s) = refl

    one_name : (name : List ℕ) (k : ParamKind) → q (kind_at stem scales selections place name k).name ≡ q name
    one_name name (kind.Value c) = refl
    one_name name (kind.Expr e) = refl
    one_name name (kind.Select s) = selected name (slice_get selections place)

given_kept : (given : List (List ℕ × Cell)) (rest : Settled) → keeps_all (as_given given ++ rest) ≡ keeps_all rest
given_kept [] rest = refl
given_kept (x ∷ given) rest = given_kept given rest

-- ---- names that differ

pub differ : (a b : List ℕ) → a ≢ b → bytes_eq a b ≡ false
differ a b apart = by_cases (bytes_eq a b) (λ e. absurd (apart ((bytes_eq-Decides a b).0 e))) (λ e. e)

pub has_name_of : (params : List ParamOf) (p : ParamOf) → Has params p → Has (map name_of params) p.name
has_name_of [] p h = h
has_name_of (x ∷ params) p h = ⊎_elim (λ is. inl (ap name_of is)) (λ later. inr (has_name_of params p later)) h

-- of parameters whose names differ two of a name are one
one_of_name : (params : List ParamOf) → Rises Other (map name_of params) → (a b : ParamOf) → Has params a → Has params b → a.name ≡ b.name → a ≡ b
one_of_name [] h a b there other e = absurd there
one_of_name (x ∷ params) (above, rest) a b there other e =
    ⊎_elim
    (λ first. ⊎_elim (λ second. sym first ∙ second)
    (λ later. absurd (above b.name (has_name_of params b later) (ap name_of first ∙ e))) other)
    (λ here. ⊎_elim (λ second. absurd (above a.name (has_name_of params a here) (ap name_of second ∙ sym e)))
    (λ later. one_of_name params rest a b here later e) other) there

-- what a test keeps, by its name
pub kept_named : (test : ParamOf → Bool) (params : List ParamOf) (name : List ℕ) → Has (map name_of (filter test params)) name
    → (p : ParamOf) × Has params p × (test p ≡ true) × (p.name ≡ name)
kept_named test [] name h = absurd h
kept_named test (x ∷ params) name h = by (test x) refl h (kept_named test params name)
  where
    by : (b : Bool) → test x ≡ b → Has (map name_of (cond b (x ∷ filter test params) (filter test params))) name
        → (Has (map name_of (filter test params)) name → (p : ParamOf) × Has params p × (test p ≡ true) × (p.name ≡ name))
        → (p : ParamOf) × Has (x ∷ params) p × (test p ≡ true) × (p.name ≡ name)
    by true e h more = ⊎_elim (λ is. (x, inl refl, e, is)) (λ later. let (p, there, passes, is) = more later in (p, inr there, passes, is)) h
    by false e h more = let (p, there, passes, is) = more h in (p, inr there, passes, is)

-- ---- values of those that are computed

abbrev read : Option (List ℕ × Option Cell) → Option Cell
read found = option_map_or (λ (entry : List ℕ × Option Cell). entry.1) found (Some Null)

pub skip_given : (given : List (List ℕ × Cell)) (rest : Settled) (name : List ℕ) → (Has (map (λ (entry : List ℕ × Cell). entry.0) given) name → ⊥)
    → value_under (as_given given ++ rest) name ≡ value_under rest name
skip_given [] rest name none = refl
skip_given (x ∷ given) rest name none =
    ap (λ b. read (cond b (Some (x.0, Some x.1)) (find (has_name name) (as_given given ++ rest)))) (differ x.0 name (λ is. none (inl is)))
    ∙ skip_given given rest name (λ later. none (inr later))

module _ (values : Values) where
  abbrev computed_as : List ℕ → Option Expr → Settled
  computed_as name o = option_map_or (λ e. (name, value_of null_row values e) ∷ []) o []

  pub skip_one : (n name : List ℕ) (o : Option Expr) (rest : Settled) → bytes_eq n name ≡ false
      → value_under (computed_as n o ++ rest) name ≡ value_under rest name
  skip_one n name None rest e = refl
  skip_one n name (Some x) rest e = ap (λ b. read (cond b (Some (n, value_of null_row values x)) (find (has_name name) rest))) e

  -- a computed one has the value of its expression
  found_computed : (params : List ParamOf) → Rises Other (map name_of params) → (p : ParamOf) → Has params p → (e : Expr) → expression_in p.kind ≡ Some e
      → value_under (all_computed values params) p.name ≡ value_of null_row values e
  found_computed [] h p there e is = absurd there
  found_computed (x ∷ params) (above, rest) p there e is =
      ⊎_elim
      (λ first.
      ap (λ o. value_under (computed_as x.name o ++ all_computed values params) p.name) (ap (λ (q : ParamOf). expression_in q.kind) first ∙ is)
      ∙ ap (λ b. read (cond b (Some (x.name, value_of null_row values e)) (find (has_name p.name) (all_computed values params))))
      ((bytes_eq-Decides x.name p.name).1 (ap name_of first)))
      (λ later.
      skip_one x.name p.name (expression_in x.kind) (all_computed values params) (differ x.name p.name (above p.name (has_name_of params p later)))
      ∙ found_computed params rest p later e is)
      there

  kept_both : (xs ys : Settled) → keeps_all xs ≡ true → keeps_all ys ≡ true → keeps_all (xs ++ ys) ≡ true
  kept_both [] ys h k = k
  kept_both (x ∷ xs) ys h k = by (has_value x) h (λ e. kept_both xs ys e k)
    where
      by : (b : Bool) → (b && keeps_all xs) ≡ true → (keeps_all xs ≡ true → keeps_all (xs ++ ys) ≡ true) → (b && keeps_all (xs ++ ys)) ≡ true
      by true e more = more e
      by false e more = absurd (cc)

  one_kept : (n : List ℕ) (o : Option Expr) → ((e : Expr) → o ≡ Some e → is_some (value_of null_row values e) ≡ true) → keeps_all (computed_as n o) ≡ true
  one_kept n None h = refl
  one_kept n (Some e) h = ap (λ b. b && true) (h e refl)

  computed_kept : (params : List ParamOf)
      → ((p : ParamOf) → Has params p → (e : Expr) → expression_in p.kind ≡ Some e → is_some (value_of null_row values e) ≡ true)
      → keeps_all (all_computed values params) ≡ true
  computed_kept [] h = refl
  computed_kept (x ∷ params) h =
      kept_both (computed_here values x) (all_computed values params) (one_kept x.name (expression_in x.kind) (λ e is. h x (inl refl) e is))
      (computed_kept params (λ p there e is. h p (inr there) e is))

-- where all have values, every name does
every_value : (xs : Settled) (name : List ℕ) → keeps_all xs ≡ true → is_some (value_under xs name) ≡ true
every_value [] name e = refl
every_value (x ∷ xs) name e = by (has_value x) (bytes_eq x.0 name) refl e (every_value xs name)
  where
    by : (b t : Bool) → has_value x ≡ b → (b && keeps_all xs) ≡ true → (keeps_all xs ≡ true → is_some (value_under xs name) ≡ true)
        → is_some (read (cond t (Some x) (find (has_name name) xs))) ≡ true
    by true true is e more = is
    by true false is e more = more e
    by false t is e more = absurd (cc)

-- ---- which parameters are which

set_not_computed : (k : ParamKind) (e : Expr) → is_set k ≡ true → expression_in k ≡ Some e → ⊥
set_not_computed (kind.Value c) e h is = cc
set_not_computed (kind.Expr x) e h is = cc
set_not_computed (kind.Select s) e h is = cc

set_not_selection : (k : ParamKind) → is_set k ≡ true → is_selection k ≡ true → ⊥
set_not_selection (kind.Value c) h e = cc
set_not_selection (kind.Expr x) h e = cc
set_not_selection (kind.Select s) h e = cc

computed_not_selection : (k : ParamKind) → is_some (expression_in k) ≡ true → is_selection k ≡ true → ⊥
computed_not_selection (kind.Value c) h e = cc
computed_not_selection (kind.Expr x) h e = cc
computed_not_selection (kind.Select s) h e = cc

not_none : (o : Option Cell) → not (is_none o) ≡ is_some o
not_none None = refl
not_none (Some c) = refl

all_at : (q : ParamOf → Bool) (params : List ParamOf) (p : ParamOf) → list_all q params ≡ true → Has params p → q p ≡ true
all_at q [] p h there = absurd there
all_at q (x ∷ params) p h there = by (q x) refl h (all_at q params p)
  where
    by : (b : Bool) → q x ≡ b → (b && list_all q params) ≡ true → (list_all q params ≡ true → Has params p → q p ≡ true) → q p ≡ true
    by true is h more = ⊎_elim (λ first. ap q (sym first) ∙ is) (more h) there
    by false is h more = absurd (cc)

all_of : (q : ParamOf → Bool) (params : List ParamOf) → ((p : ParamOf) → Has params p → q p ≡ true) → list_all q params ≡ true
all_of q [] h = refl
all_of q (x ∷ params) h = ap₂ (λ a b. a && b) (h x (inl refl)) (all_of q params (λ p there. h p (inr there)))

module _ (params : List ParamOf) (st : State) where
  abbrev pub last : Values
  last = values_over st.stores (settled_after params st.stores (as_given st.params) (count_computed params))

  abbrev pub whole : Settled
  whole = as_given st.params ++ all_computed last params

  pub whole_is : settled params st ≡ whole
  whole_is = ap (settled_after params st.stores (as_given st.params)) (one_more (count_computed params))
    where
      one_more : (n : ℕ) → n + 1 ≡ suc n
      one_more n = omega arith

  module _ (distinct : NamesDiffer params) (of_state : IsStateOfParams params st) where
    names_rise : Rises Other (map name_of params)
    names_rise = all_apart (map name_of params) distinct

    -- the state gives no value to a computed one
    not_given : (p : ParamOf) → Has params p → (e : Expr) → expression_in p.kind ≡ Some e → Has (map (λ (entry : List ℕ × Cell). entry.0) st.params) p.name → ⊥
    not_given p there e is given =
        let (q, among, set, same) = kept_named can_be_set params p.name (subst (λ l. Has l p.name) of_state.given given) in
        set_not_computed p.kind e (ap can_be_set (sym (one_of_name params names_rise q p among there same)) ∙ set) is

    computed_value_is : (p : ParamOf) → Has params p → (e : Expr) → expression_in p.kind ≡ Some e → value_under whole p.name ≡ value_of null_row last e
    computed_value_is p there e is =
        skip_given st.params (all_computed last params) p.name (not_given p there e is) ∙ found_computed last params names_rise p there e is

    abbrev is_there : ParamOf → Bool
    is_there p = not (is_none (value_under whole p.name))

    each_is_there : list_all is_there params ≡ keeps_all whole
    each_is_there =
        both_ways (list_all is_there params) (keeps_all whole)
        (λ h. given_kept st.params (all_computed last params)
        ∙ computed_kept last params
        (λ p there e is. ap is_some (sym (computed_value_is p there e is)) ∙ sym (not_none (value_under whole p.name)) ∙ all_at is_there params p h there))
        (λ h. all_of is_there params (λ p there. not_none (value_under whole p.name) ∙ every_value whole p.name h))

    -- no store has the name of a parameter that is no selection
    no_store : (stores : List StoreOf) (name : List ℕ) → (Has (map (λ (store : StoreOf). store.name) stores) name → ⊥) → HasNoStore stores name
    no_store [] name none = refl
    no_store (s ∷ stores) name none =
        ap (λ b. cond b (Some s) (store_named stores name)) (differ s.name name (λ is. none (inl is))) ∙ no_store stores name (λ later. none (inr later))

    selection_of : (name : List ℕ) → Has (map (λ (store : StoreOf). store.name) st.stores) name
        → (p : ParamOf) × Has params p × (selects p ≡ true) × (p.name ≡ name)
    selection_of name h = kept_named selects params name (subst (λ l. Has l name) of_state.stores h)

    given_apart : (name : List ℕ) → Has (map (λ (entry : List ℕ × Cell). entry.0) st.params) name → HasNoStore st.stores name
    given_apart name h =
        no_store st.stores name (λ k.
        let (q, there, set, is) = kept_named can_be_set params name (subst (λ l. Has l name) of_state.given h) in
        let (p, among, selected, same) = selection_of name k in
        set_not_selection p.kind (ap can_be_set (sym (one_of_name params names_rise q p there among (is ∙ sym same))) ∙ set) selected)

    computed_apart : (p : ParamOf) → Has params p → IsApart st.stores p
    computed_apart p there computed =
        no_store st.stores p.name (λ k.
        let (q, among, selected, same) = selection_of p.name k in
        computed_not_selection p.kind computed (ap selects (sym (one_of_name params names_rise q p among there same)) ∙ selected))

    null_apart : (stem : List ℕ) → All (λ name. name ≢ none_name stem) (map name_of params) → HasNoStore st.stores (none_name stem)
    null_apart stem h =
        no_store st.stores (none_name stem) (λ k.
        let (q, among, selected, same) = selection_of (none_name stem) k in
        has_at (λ name. name ≢ none_name stem) (map name_of params) q.name h (has_name_of params q among) same)

all_given : (P : List ℕ → Type 0) (given : List (List ℕ × Cell)) → ((name : List ℕ) → Has (map (λ (entry : List ℕ × Cell). entry.0) given) name → P name)
    → All (λ (entry : List ℕ × Cell). P entry.0) given
all_given P [] h = All-nil (λ (entry : List ℕ × Cell). P entry.0)
all_given P (x ∷ given) h = All-cons (λ (entry : List ℕ × Cell). P entry.0) x given (h x.0 (inl refl)) (all_given P given (λ name there. h name (inr there)))

all_params : (P : ParamOf → Type 0) (params : List ParamOf) → ((p : ParamOf) → Has params p → P p) → All P params
all_params P [] h = All-nil P
all_params P (x ∷ params) h = All-cons P x params (h x (inl refl)) (all_params P params (λ p there. h p (inr there)))

pub stores_of_states_are_apart : StoresOfStatesAreApart
stores_of_states_are_apart stem params st distinct others of_state = record {
  given = all_given (HasNoStore st.stores) st.params (given_apart params st distinct of_state);
  computed = all_params (IsApart st.stores) params (computed_apart params st distinct of_state);
  none = null_apart params st distinct of_state stem others;
}

pub signals_are_kept_alike : SignalsAreKeptAlike
signals_are_kept_alike stem s p st names distinct of_state e =
    (λ i. list_all (λ (x : Signal). not (is_none ((e i).value x.name))) (top_signals stem s p i))
    ∙ every_name (λ name. not (is_none (value_under (settled s.params st) name))) stem p.scales p.selections 0 s.params
    ∙ ap (λ xs. list_all (λ (q : ParamOf). not (is_none (value_under xs q.name))) s.params) (whole_is s.params st)
    ∙ each_is_there s.params st distinct of_state
    ∙ ap keeps_all (sym (whole_is s.params st))
