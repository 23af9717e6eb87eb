-- What levels of signals stand for.
use Rattle.std.proofs.Common.{◌≡◌, ℕ, Bool, true, false, cond, ◌||◌, List, [], ◌∷◌, length, map, refl, sym, ap, ◌∙◌, subst}
use Rattle.std.specs.Borrow.{Bor}
use Rattle.std.specs.List.{list_any}
use Rattle.cell_value.specs.declared.cell.Cell.TheVariants.{Null}
use Rattle.cell_value.specs.declared.state.StoreOf.{StoreOf}
use Rattle.cell_value.specs.Datum.{CellAt}
use Rattle.expr_eval.specs.Answers.{RisesBy}
use Rattle.expr_eval.specs.Stores.{values_of_stores}
use Rattle.expr_eval.specs.Values.{Values}
use Rattle.vega_signals.specs.Extents.{Settled}
use Rattle.vega_signals.specs.Settling.{is_own, values_inside}
use Rattle.vega_drawing.specs.inner.Levels.{values_over}

-- whether one of some levels has a signal of the name
abbrev pub is_own_in : List ℕ → List (Bor Settled) → Bool
is_own_in name levels = list_any (λ (signals : Bor Settled). is_own signals.now name) levels

module _ (stores : List StoreOf) where
  -- a signal of a level hides the ends of a selection
  pub member_at : (levels : List (Bor Settled)) (name field : List ℕ)
      → cond (is_own_in name levels) Null ((values_of_stores stores).member name field) ≡ (values_over stores levels).member name field
  member_at [] name field = refl
  member_at (level ∷ outer) name field = here (is_own level.now name) (is_own_in name outer) (member_at outer name field)
    where
      here : (own more : Bool) → cond more Null ((values_of_stores stores).member name field) ≡ (values_over stores outer).member name field
          → cond (own || more) Null ((values_of_stores stores).member name field) ≡ cond own Null ((values_over stores outer).member name field)
      here true more e = refl
      here false more e = e

  pub hidden_member : (levels : List (Bor Settled)) (name field : List ℕ) → is_own_in name levels ≡ true → Null ≡ (values_over stores levels).member name field
  hidden_member levels name field own =
      sym (ap (λ b. cond b Null ((values_of_stores stores).member name field)) own) ∙ member_at levels name field

  pub outer_member : (levels : List (Bor Settled)) (name field : List ℕ) → is_own_in name levels ≡ false
      → (values_of_stores stores).member name field ≡ (values_over stores levels).member name field
  outer_member levels name field own =
      sym (ap (λ b. cond b Null ((values_of_stores stores).member name field)) own) ∙ member_at levels name field

  -- all else is read as it is of the stores
  pub stored_at : (levels : List (Bor Settled)) (store : List ℕ) → (values_of_stores stores).stored store ≡ (values_over stores levels).stored store
  stored_at [] store = refl
  stored_at (level ∷ outer) store = stored_at outer store

  pub selects_at : (levels : List (Bor Settled)) (store : List ℕ) (row : CellAt)
      → (values_of_stores stores).selects store row ≡ (values_over stores levels).selects store row
  selects_at [] store row = refl
  selects_at (level ∷ outer) store row = selects_at outer store row

  pub fields_at : (levels : List (Bor Settled)) (store : List ℕ) → (values_of_stores stores).fields store ≡ (values_over stores levels).fields store
  fields_at [] store = refl
  fields_at (level ∷ outer) store = fields_at outer store

  -- as many steps as a store has fields, at most
  pub few_steps_at : (levels : List (Bor Settled)) (store : List ℕ) (old new : ℕ) → RisesBy (length ((values_of_stores stores).fields store)) old new
      → RisesBy (length ((values_over stores levels).fields store)) old new
  few_steps_at levels store old new few = subst (λ fields. RisesBy (length fields) old new) (fields_at levels store) few

  pub no_length : (levels : List (Bor Settled)) (scale : List ℕ) → 0 ≡ (values_over stores levels).domain_length scale
  no_length [] scale = refl
  no_length (level ∷ outer) scale = no_length outer scale

  -- the values of signals, however the levels are held
  abbrev values_under : List Settled → Values
  values_under [] = values_of_stores stores
  values_under (signals ∷ outer) = values_inside signals (values_under outer)

  values_are_under : (levels : List (Bor Settled)) → values_over stores levels ≡ values_under (map (λ l. l.now) levels)
  values_are_under [] = refl
  values_are_under (level ∷ outer) = ap (values_inside level.now) (values_are_under outer)

  -- one level more
  pub values_entered : (levels outer : List (Bor Settled)) (signals : Settled) → map (λ l. l.now) levels ≡ signals ∷ map (λ l. l.now) outer
      → values_over stores levels ≡ values_inside signals (values_over stores outer)
  values_entered levels outer signals more =
      values_are_under levels ∙ ap values_under more ∙ ap (values_inside signals) (sym (values_are_under outer))
