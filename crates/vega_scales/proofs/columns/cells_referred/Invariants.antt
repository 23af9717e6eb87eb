use Rattle.std.proofs.Common.{◌≡◌, take}
use Rattle.vega_lists.specs.Held.{scope_read}
use Rattle.vega_scales.specs.Domains.{cells_referred}
use Rattle.vega_scales.proofs.columns.cells_referred.Given as goal

abbrev pub invariant-loop-reference : goal.invariant-loop-reference
invariant-loop-reference g l =
    l.out ≡ cells_referred (scope_read (g.L.ListReader.named l.lists)) (take l.reference-index l.references)
