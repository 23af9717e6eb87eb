-- Kinds of parameters in a map.
use Rattle.std.specs.Prelude.{◌≡◌, ℕ, Bool, Option, List}
use Rattle.std.specs.Borrow.{Bor}
use Rattle.std.specs.Ordering.{nat_cmp}
use Rattle.std.specs.Cmp.Lexicographic.{slice_cmp}
use Rattle.std.specs.BTreeMap as tree
use Rattle.vl_spec.specs.declared.params.ParamOf.{ParamOf}
use Rattle.unit_plan.specs.Selections.{kind_named}

-- what is kept under a name
abbrev pub kind_in : tree.BTreeMap (Bor (List ℕ)) Bool → List ℕ → Option Bool
kind_in kinds name = tree.get_by (λ k. slice_cmp nat_cmp name k.now) kinds

-- the map has the kinds of these parameters
abbrev pub AreKinds : List ParamOf → tree.BTreeMap (Bor (List ℕ)) Bool → Type 0
AreKinds params kinds = (name : List ℕ) → kind_in kinds name ≡ kind_named params name
