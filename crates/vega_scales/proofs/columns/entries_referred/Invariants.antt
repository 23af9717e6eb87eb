use Rattle.std.proofs.Common.{◌≡◌, take}
use Rattle.vega_lists.specs.Held.{scope_read}
use Rattle.vega_scales.specs.Domains.{entries_referred}
use Rattle.vega_scales.proofs.columns.entries_referred.Given as goal

abbrev pub invariant-loop-reference : goal.invariant-loop-reference
invariant-loop-reference g l =
    l.out ≡ entries_referred (scope_read (g.L.ListReader.named l.lists)) l.field (take l.reference-index l.references)
