use Rattle.std.proofs.Common.{◌≡◌, drop, find}
use Rattle.std.specs.Str.{bytes_eq}
use Rattle.cell_value.specs.declared.state.Extent.{Extent}
use Rattle.selection_events.proofs.brushes.extent_of.Given as goal

abbrev pub invariant-loop-e : goal.invariant-loop-e
invariant-loop-e l =
    find (λ (e : Extent). bytes_eq e.channel l.channel) (drop l.e-index l.extents) ≡ find (λ (e : Extent). bytes_eq e.channel l.channel) l.extents
