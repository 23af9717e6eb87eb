use Rattle.std.proofs.Common.{sym, subst}
use Rattle.std.specs.List.{All}
use Rattle.std.proofs.lemmas.List.Elements.{All-push}
use Rattle.std.proofs.lemmas.Result.{on_ok_weaker}
use Rattle.plot_scenes.specs.Axes.{IsAxisShown}
use Rattle.vega_drawing.proofs.axes.push_shown.Goals as goal

pub returns-in_ok-axis_over-clause-kept : goal.returns-in_ok-axis_over-clause-kept
returns-in_ok-axis_over-clause-kept c all =
    on_ok_weaker c.push.result
    (λ e. subst (All IsAxisShown) (sym e) (All-push IsAxisShown c.args.out.now _ all c.in_ok-axis_over.ensures.kept))
    c.push.ensures.ok
