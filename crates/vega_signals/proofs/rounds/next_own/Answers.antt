use Rattle.std.proofs.Common.{◌≡◌, map, IfOk, subst}
use Rattle.cell_value.specs.State.{dataset_of}
use Rattle.expr_eval.specs.Values.{Values}
use Rattle.vega_lists.specs.Held.{scope_read}
use Rattle.vega_signals.specs.inner.Next.{next_by}
use Rattle.vega_signals.proofs.KnownLemmas.{known_is_inside}
use Rattle.vega_signals.proofs.rounds.next_own.Goals as goal

pub returns : goal.returns
returns g c =
    let object = c.args.object.now in
    let outer = g.P.ParamReader.values object.outer.now in
    subst (λ (values : Values). IfOk c.next_by.result (λ next. next
    ≡ next_by (map dataset_of object.sources.now) (scope_read (g.O.ListReader.named object.lists.now)) object.given.now object.signals.now object.sets.now values))
    (known_is_inside c.args.now.now c.in_ok-own.own outer c.in_ok-own.ensures) c.next_by.ensures
