-- What is read keeps all rules.
use Rattle.std.proofs.Common.{◌≡◌, ℕ, ◌≤◌, ◌^◌, List, length, refl, subst}
use Rattle.std.specs.Prelude.{Option, Some, None, Ok}
use Rattle.json_exact.specs.declared.json.Json.{Json}
use Rattle.json_exact.specs.Reading.{Reads}
use Rattle.spec_schema.specs.declared.fault.Fault.{Fault}
use Rattle.vega_model.specs.Faults.{first_fault_of}
use Rattle.vega_model.specs.Reading.{read_of, unless_fault}
use Rattle.vega_spec.specs.declared.spec.VgSpec.{VgSpec}
use Rattle.vega_building.specs.Spec.{spec_of}
use Rattle.vega_copies.specs.Tested.{KeepsRules}
use Rattle.vega_copies.proofs.PassLaw.{rules_pass}
use Rattle.vega_standing.specs.OwnNames.{HasOwnNames}
use Rattle.vega_standing.specs.Laws.{HasFewGroups}
use Rattle.vega_standing.proofs.ReadTrees.{read_own}
use Rattle.vega_standing.proofs.Groups.{few_groups}
use Rattle.vega_standing.proofs.Top.{IsTop, the_top, rules_kept}
use Rattle.vega_standing.proofs.FoldsKept.{folds_kept}

pub all_kept : (tree : Json) → HasOwnNames tree → first_fault_of tree ≡ None → HasFewGroups (spec_of tree) → KeepsRules (spec_of tree)
all_kept tree own e few = rules_pass (spec_of tree) (rules_kept tree own e (folds_kept tree own e) few)

pub files_kept : (bytes : List ℕ) (tree : Json) → Reads bytes tree → length bytes ≤ 2 ^ 24 → first_fault_of tree ≡ None → KeepsRules (spec_of tree)
files_kept bytes tree reads small e =
    let own : HasOwnNames tree = read_own bytes tree reads in
    let t : IsTop tree = the_top tree own e in
    all_kept tree own e (few_groups bytes tree t.members reads small t.opened)

-- what is read where there is no fault
pub read_as : (o : Option Fault) (g h : VgSpec) → unless_fault o h ≡ Ok g → (o ≡ None) × (h ≡ g)
read_as None g h e = (refl, cc)
read_as (Some f) g h e = absurd cc

pub accepted : (bytes : List ℕ) (tree : Json) (g : VgSpec) → Reads bytes tree → length bytes ≤ 2 ^ 24 → read_of tree ≡ Ok g → KeepsRules g
accepted bytes tree g reads small e =
    let read : (first_fault_of tree ≡ None) × (spec_of tree ≡ g) = read_as (first_fault_of tree) g (spec_of tree) e in
    subst KeepsRules read.1 (files_kept bytes tree reads small read.0)
