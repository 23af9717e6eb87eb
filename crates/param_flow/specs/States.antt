-- Which states are those of a specification, and what each meaning of specifications keeps.
use Rattle.std.specs.Prelude.{◌≡◌, ◌≢◌, refl, ℕ, List, [], ◌∷◌, map, filter, All, AllPairs, codes}
use Rattle.cell_value.specs.declared.cell.Cell.{Cell}
use Rattle.cell_value.specs.State.{Dataset, State, IsState}
use Rattle.scene_tree.specs.Outcome.{Drawn}
use Rattle.selection_events.specs.Kept.{AreStoresOf, IsSelection, IsSeenOf}
use Rattle.param_flow.specs.Semantics.{Semantics, ParamOf, Picture, is_settable, seen_of}
use Rattle.param_flow.specs.Semantics as kind

-- the names of the parameters that commands may set
abbrev pub settable_names : List ParamOf → List (List ℕ)
settable_names params = map (λ (p : ParamOf). p.name) (filter (λ (p : ParamOf). is_settable p.kind) params)

-- The state has the sources that the specification names, in their order, a value for each parameter that can be set, and for each selection a store,
-- one that an event can leave.
pub record IsStateFor (meaning : Semantics) (st : State) : Type 0 where
  pub is : IsState st
  pub sources : map (λ (source : Dataset). source.name) st.sources ≡ meaning.sources
  pub params : map (λ (param : List ℕ × Cell). param.0) st.params ≡ settable_names meaning.params
  pub stores : AreStoresOf meaning.temporal meaning.plots meaning.selections st.stores

-- What each meaning keeps: each source has a name of its own, its selections are such, and of each state that is drawn the panels are of its
-- plots, and the scales of the kinds that it says.
pub record IsMeaning (meaning : Semantics) : Type 0 where
  pub apart : AllPairs (λ a b. a ≢ b) meaning.sources
  pub selections : All IsSelection meaning.selections
  pub seen : (st : State) (picture : Picture) → IsStateFor meaning st → meaning.draw st ≡ Drawn picture
      → IsSeenOf meaning.temporal meaning.plots (seen_of meaning st picture)

-- The rule at work.

a_computed_parameter_has_no_value_of_its_own :
    settable_names (record { name = codes "k"; kind = kind.Settable } ∷ record { name = codes "twice"; kind = kind.Computed } ∷ []) ≡ codes "k" ∷ []
a_computed_parameter_has_no_value_of_its_own = refl
