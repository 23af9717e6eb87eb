use Rattle.std.proofs.Common.{[], ◌∷◌, ◌++◌, sym, ap, ◌∙◌}
use Rattle.std.specs.Prelude.{option_map, option_to_list}
use Rattle.std.proofs.lemmas.Result.{IfOk-equal}
use Rattle.vega_assemble.specs.Signals.{clicked}
use Rattle.vega_assemble.proofs.signals.push_clicked.Goals as goal

pub returns-in_ok-clicked-in-Some : goal.returns-in_ok-clicked-in-Some
returns-in_ok-clicked-in-Some c =
    IfOk-equal _ _ _ _ c.push.ensures.ok
    (ap (λ made. c.args.out.now ++ made ∷ []) (c.in_ok-clicked-in-Some.ensures ∙ ap (clicked c.args.name.now) c.as_slice.ensures)
    ∙ ap (λ fields. c.args.out.now ++ option_to_list (option_map (clicked c.args.name.now) fields)) (sym c.in-Some.is))
