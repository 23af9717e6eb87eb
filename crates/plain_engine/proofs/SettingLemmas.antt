-- Parameters that are set.
use Rattle.std.proofs.Common.{◌≡◌, ℕ, Bool, true, false, cond, not, ◌&&◌, ◌||◌, List, [], ◌∷◌, map, refl, sym, ap, ap₂, ◌∙◌}
use Rattle.std.specs.Prelude.{Ok, Err, if◌then◌else◌}
use Rattle.std.specs.List.{list_any}
use Rattle.std.specs.Str.{bytes_eq}
use Rattle.cell_value.specs.declared.cell.Cell.{Cell}
use Rattle.cell_value.specs.declared.state.ChartState.{ChartState}
use Rattle.cell_value.specs.declared.state.Params.{Params}
use Rattle.cell_value.specs.State.{dataset_of, state_of}
use Rattle.plot_scenes.specs.declared.scenes.Drawing.{Drawing}
use Rattle.param_flow.specs.declared.param_error.ParamError.{ParamError}
use Rattle.param_flow.specs.declared.param_error.ParamError.TheVariants as error
use Rattle.param_flow.specs.declared.reply.Reply.TheVariants.{Refused}
use Rattle.param_flow.specs.declared.reply.Cause.TheVariants as cause
use Rattle.param_flow.specs.Machine.{with_value, reply_to_chart, reply_to_set}
use Rattle.param_flow.specs.Semantics.{ParamOf}
use Rattle.param_flow.specs.Semantics as meaning
use Rattle.param_flow.specs.Settings.{is_settable, has_name, has_settable, params_set}
use Rattle.param_flow.specs.States.{settable_names}
use Rattle.vega_spec.specs.declared.names.Parameter.{Parameter}
use Rattle.vega_spec.specs.declared.names.ParameterKind.{ParameterKind}
use Rattle.vega_spec.specs.declared.names.ParameterKind.TheVariants as kind
use Rattle.vega_spec.specs.declared.spec.VgSpec.{VgSpec}
use Rattle.vega_spec.specs.Names.{parameters_of}
use Rattle.vega_meaning.specs.Charts.{picture_over}
use Rattle.vega_meaning.specs.Semantics.{param_kind_of, param_of, vega_semantics}
use Rattle.plain_engine.specs.inner.Kept.{param_names, IsKept}
use Rattle.plain_engine.specs.inner.Sources.{IsDrawingOf}
use Rattle.plain_engine.proofs.Replies.{kept_with}

same_kind : (k : ParameterKind) → meaning.is_settable (param_kind_of k) ≡ is_settable k
same_kind kind.Settable = refl
same_kind kind.Computed = refl
same_kind kind.Selection = refl

-- commands see the same parameters that can be set
same_settable : (params : List Parameter) (name : List ℕ)
    → list_any (λ (param : ParamOf). bytes_eq param.name name && meaning.is_settable param.kind) (map param_of params) ≡ has_settable params name
same_settable [] name = refl
same_settable (param ∷ params) name = λ i. (bytes_eq param.name name && same_kind param.kind i) || same_settable params name i

-- what can be set has a name
named : (params : List Parameter) (name : List ℕ) → has_name params name ≡ false → has_settable params name ≡ false
named [] name e = refl
named (param ∷ params) name e = here (bytes_eq param.name name) (is_settable param.kind) (has_name params name) (has_settable params name) e (named params name)
  where
    here : (same can any some : Bool) → (same || any) ≡ false → (any ≡ false → some ≡ false) → ((same && can) || some) ≡ false
    here true can any some e rest = absurd cc
    here false can any some e rest = rest e

-- the names stay
pub names_stay : (name : List ℕ) (value : Cell) (params : List (List ℕ × Cell)) → param_names (map (with_value name value) params) ≡ param_names params
names_stay name value [] = refl
names_stay name value (param ∷ params) = ap₂ (λ first rest. first ∷ rest) (same_name (bytes_eq param.0 name)) (names_stay name value params)
  where
    same_name : (b : Bool) → (cond b (param.0, value) param).0 ≡ param.0
    same_name true = refl
    same_name false = refl

-- what is kept once values were put in place
pub kept_put : (g : VgSpec) (st : ChartState) (old held : Drawing) (params : List (List ℕ × Cell)) → IsKept g st old
    → param_names params ≡ settable_names (vega_semantics g).params → IsDrawingOf g (map dataset_of st.sources) params st.stores held
    → (let put : ChartState = record { next_id = st.next_id; sources = st.sources; params = params; stores = st.stores } in IsKept g put held)
kept_put g st old held params h names drawn =
    let put : ChartState = record { next_id = st.next_id; sources = st.sources; params = params; stores = st.stores } in
    kept_with g put held h.rules h.selections (record {
      ids_read = h.is.ids_read;
      no_branch = h.is.no_branch;
      ids_rise = h.is.ids_rise;
      ids_distinct = h.is.ids_distinct;
      ids_below_next = h.is.ids_below_next;
      next_id_from = h.is.next_id_from;
      next_id_to = h.is.next_id_to;
      few_rows = h.is.few_rows;
    }) h.sources names h.stores drawn

module _ (g : VgSpec) (st : ChartState) (name : List ℕ) (value : Cell) where
  -- the state after the setting has these values
  abbrev now : List (List ℕ × Cell)
  now = map (with_value name value) st.params

  -- what was answered where a parameter was set
  module _ (next : Params) (e : params_set (parameters_of g) (record { params = st.params; stores = st.stores }) name value ≡ Ok next) where
    can : (has can_be : Bool) (given : Params)
        → (if not has then Err error.NoSuchName else (if can_be then Ok given else Err error.Computed)) ≡ Ok next
        → (can_be ≡ true) × (given ≡ next)
    can false can_be given e = absurd cc
    can true false given e = absurd cc
    can true true given e = (refl, cc)

    both : (has_settable (parameters_of g) name ≡ true) × (record { params = now; stores = st.stores } ≡ next)
    both = can (has_name (parameters_of g) name) (has_settable (parameters_of g) name) (record { params = now; stores = st.stores }) e

    pub values_set : next.params ≡ now
    values_set = ap (λ (params : Params). params.params) (sym both.1)

    pub reply_set : reply_to_chart (picture_over g (map dataset_of st.sources) next.params st.stores) ≡ reply_to_set (vega_semantics g) (state_of st) name value
    reply_set =
        let there : meaning.has_settable (vega_semantics g) name ≡ true = same_settable (parameters_of g) name ∙ both.0 in
        ap (λ params. reply_to_chart (picture_over g (map dataset_of st.sources) params st.stores)) values_set
        ∙ sym (rw there refl)

  -- where none was
  pub reply_refused : (e : ParamError) → params_set (parameters_of g) (record { params = st.params; stores = st.stores }) name value ≡ Err e
      → Refused cause.Name ≡ reply_to_set (vega_semantics g) (state_of st) name value
  reply_refused which e =
      let none : meaning.has_settable (vega_semantics g) name ≡ false =
      same_settable (parameters_of g) name
      ∙ cannot (has_name (parameters_of g) name) (has_settable (parameters_of g) name) _ e (named (parameters_of g) name) in
      sym (rw none refl)
    where
      cannot : (has can_be : Bool) (given : Params)
          → (if not has then Err error.NoSuchName else (if can_be then Ok given else Err error.Computed)) ≡ Err which
          → (has ≡ false → can_be ≡ false) → can_be ≡ false
      cannot false can_be given e none = none refl
      cannot true false given e none = refl
      cannot true true given e none = absurd cc
