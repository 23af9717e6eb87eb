-- What holds of specifications that are read.
use Rattle.std.specs.Prelude.{◌≡◌, ◌≤◌, ℕ, List, length, IsTrue, Ok, ◌+◌, ◌^◌, ◌<◌, None}
use Rattle.json_exact.specs.declared.json.Json.{Json}
use Rattle.json_exact.specs.Reading.{Reads}
use Rattle.vega_spec.specs.declared.spec.VgSpec.{VgSpec}
use Rattle.vega_building.specs.Spec.{spec_of}
use Rattle.vega_model.specs.Faults.{first_fault_of}
use Rattle.vega_model.specs.Reading.{read_of}
use Rattle.vega_copies.specs.Outlines.{outline_of, count_groups}
use Rattle.vega_copies.specs.Fitting.{folds_fit}
use Rattle.vega_copies.specs.Tested.{keeps_object, all_objects, has_sizes, KeepsRules}
use Rattle.vega_selections.specs.Kept.{KeepsSelections}
use Rattle.vega_standing.specs.OwnNames.{HasOwnNames}

-- what a specification keeps that its objects keep each by itself
pub record KeepsObjects (g : VgSpec) : Type 0 where
  pub top : IsTrue (keeps_object (outline_of g).object)
  pub marks : IsTrue (all_objects keeps_object (outline_of g).marks)
  pub sizes : IsTrue (has_sizes g)

-- where a tree has no fault and no object in it has a name twice, the specification that it says keeps this
abbrev pub ObjectsAreKept : Type 0
ObjectsAreKept = (tree : Json) → HasOwnNames tree → first_fault_of tree ≡ None → KeepsObjects (spec_of tree)

-- the product of the lengths of the folds on the path of each of its data sets is 8 at most
abbrev pub KeepsFolds : VgSpec → Type 0
KeepsFolds g = IsTrue (folds_fit (outline_of g).object.sets (outline_of g).marks)

-- where a tree has no fault and no object in it has a name twice, the folds of the specification that it says fit
abbrev pub FoldsAreKept : Type 0
FoldsAreKept = (tree : Json) → HasOwnNames tree → first_fault_of tree ≡ None → KeepsFolds (spec_of tree)

-- its groups, the top among them, can be numbered in 32 bits
abbrev pub HasFewGroups : VgSpec → Type 0
HasFewGroups g = 1 + count_groups (outline_of g).marks < 2 ^ 32

-- and where its groups are few besides, it keeps all rules
abbrev pub RulesAreKept : Type 0
RulesAreKept = (tree : Json) → HasOwnNames tree → first_fault_of tree ≡ None → HasFewGroups (spec_of tree) → KeepsRules (spec_of tree)

-- A tree that is read of at most 16 MiB has no name twice in an object and few groups: where it has no fault, the specification that it says
-- keeps all rules.
abbrev pub FilesKeepRules : Type 0
FilesKeepRules = (bytes : List ℕ) (tree : Json) → Reads bytes tree → length bytes ≤ 2 ^ 24 → first_fault_of tree ≡ None → KeepsRules (spec_of tree)

-- what is read of such a tree is a specification that keeps all rules
abbrev pub AcceptedKeepRules : Type 0
AcceptedKeepRules = (bytes : List ℕ) (tree : Json) (g : VgSpec) → Reads bytes tree → length bytes ≤ 2 ^ 24 → read_of tree ≡ Ok g → KeepsRules g

-- and whose selections have names of their own, and keep the same of each kind of click
abbrev pub AcceptedKeepSelections : Type 0
AcceptedKeepSelections =
    (bytes : List ℕ) (tree : Json) (g : VgSpec) → Reads bytes tree → length bytes ≤ 2 ^ 24 → read_of tree ≡ Ok g → KeepsSelections g
