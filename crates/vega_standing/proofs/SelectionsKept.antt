-- The selections of what is read keep their rules.
use Rattle.std.proofs.Common.{◌≡◌, ℕ, ◌≤◌, ◌^◌, List, [], ◌∷◌, length, sym, ap, subst}
use Rattle.std.specs.Prelude.{None, Ok, codes, unwrap_or}
use Rattle.json_exact.specs.declared.json.Json.{Json}
use Rattle.json_exact.specs.Inside.{members_in}
use Rattle.json_exact.specs.Reading.{Reads}
use Rattle.vega_schema.specs.declared.codes.TheConstants.{TOP}
use Rattle.vega_parts.specs.Trails.{noted}
use Rattle.vega_parts.specs.Parts.{parts_at, parts_of}
use Rattle.vega_model.specs.Faults.{first_fault_of}
use Rattle.vega_model.specs.Reading.{read_of}
use Rattle.vega_spec.specs.declared.spec.Group.{Group, Group-F, out-Group}
use Rattle.vega_spec.specs.declared.spec.VgMark.{VgMark}
use Rattle.vega_spec.specs.declared.spec.VgSpec.{VgSpec}
use Rattle.vega_spec.specs.Names.{signals_of}
use Rattle.vega_building.specs.Parts.{members_of, objects_at}
use Rattle.vega_building.specs.Signals.{signal_of}
use Rattle.vega_building.specs.Spec.{spec_of, spec_with, marks_at}
use Rattle.vega_selections.specs.Marks.{names_in}
use Rattle.vega_selections.specs.Kept.{KeepsSelections}
use Rattle.vega_standing.specs.OwnNames.{HasOwnNames}
use Rattle.vega_standing.proofs.ReadTrees.{read_own}
use Rattle.vega_standing.proofs.Marks.{group_opened}
use Rattle.vega_standing.proofs.Top.{IsTop, the_top}
use Rattle.vega_standing.proofs.Whole.{read_as}
use Rattle.vega_standing.proofs.SelectedSignals.{KeepsSignals, top_signals, KeepsAmong, selections_among}

selections_kept : (tree : Json) → HasOwnNames tree → first_fault_of tree ≡ None → KeepsSelections (spec_of tree)
selections_kept tree own e =
    let t : IsTop tree = the_top tree own e in
    let g : VgSpec = spec_with t.members in
    let here : KeepsSignals (unwrap_or (objects_at signal_of t.members (codes "signals")) []) =
    top_signals (parts_of tree) t.rules.twice tree t.members (parts_at (noted 0 TOP tree ∷ []) tree) t.object t.parts in
    let signals : KeepsSignals (signals_of (out-Group g.group)) =
    subst (λ (x : Group-F Group VgMark). KeepsSignals (signals_of x)) (sym (group_opened t.members (marks_at t.members (codes "marks")))) here in
    let kept : KeepsAmong (names_in g.group) (signals_of (out-Group g.group)) = selections_among (names_in g.group) (signals_of (out-Group g.group)) signals in
    let whole : KeepsSelections g = record { own_names = kept.own_names; each = kept.each } in
    let same : members_of tree ≡ t.members = ap (λ o. unwrap_or (members_in o) []) t.opened in
    subst (λ ms. KeepsSelections (spec_with ms)) (sym same) whole

pub accepted : (bytes : List ℕ) (tree : Json) (g : VgSpec) → Reads bytes tree → length bytes ≤ 2 ^ 24 → read_of tree ≡ Ok g → KeepsSelections g
accepted bytes tree g reads small e =
    let read : (first_fault_of tree ≡ None) × (spec_of tree ≡ g) = read_as (first_fault_of tree) g (spec_of tree) e in
    subst KeepsSelections read.1 (selections_kept tree (read_own bytes tree reads) read.0)
