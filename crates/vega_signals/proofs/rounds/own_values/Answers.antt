use Rattle.std.proofs.Common.{◌≡◌, map, length, IfOk, ◌∙◌, subst}
use Rattle.cell_value.specs.State.{dataset_of}
use Rattle.vega_lists.specs.Held.{scope_read}
use Rattle.vega_signals.specs.Extents.{Settled}
use Rattle.vega_signals.specs.Settling.{own_names, own_after}
use Rattle.vega_signals.proofs.rounds.own_values.Goals as goal

pub returns : goal.returns
returns g c =
    subst (λ (given : Settled). IfOk c.settled_over.result (λ now. now
    ≡ own_after (map dataset_of c.args.sources.now) (scope_read (g.O.ListReader.named c.args.lists.now)) (g.P.ParamReader.values c.args.outer.now) given
    c.args.signals.now c.args.sets.now (length (own_names c.args.signals.now c.args.sets.now))))
    (c.as_slice.ensures ∙ c.in_ok-given.ensures) c.settled_over.ensures
