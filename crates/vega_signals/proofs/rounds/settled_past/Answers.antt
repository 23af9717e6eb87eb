use Rattle.std.proofs.Common.{◌≤◌, map, refl, ap, ◌∙◌, arith}
use Rattle.cell_value.specs.State.{dataset_of}
use Rattle.vega_lists.specs.Held.{scope_read}
use Rattle.vega_signals.specs.Extents.{Settled}
use Rattle.vega_signals.specs.Settling.{next_own, own_after}
use Rattle.vega_signals.proofs.RoundLemmas.{settled_at, found_as}
use Rattle.vega_signals.proofs.rounds.settled_past.Goals as goal

pub returns-then-are_same : goal.returns-then-are_same
returns-then-are_same g c =
    let object = c.args.object.now in
    let sources = map dataset_of object.sources.now in
    let lists = scope_read (g.O.ListReader.named object.lists.now) in
    let outer = g.P.ParamReader.values object.outer.now in
    let next : Settled → Settled = next_own sources lists outer object.given.now object.signals.now object.sets.now in
    settled_at next (own_after sources lists outer object.given.now object.signals.now object.sets.now) (λ n. refl) 1 c.args.rounds
    c.args.first c.in_ok-second.second c.requires.some c.requires.first (c.in_ok-second.ensures ∙ ap next c.as_slice.ensures)
    (c.are_same.ensures.0 c.if-are_same.true)
