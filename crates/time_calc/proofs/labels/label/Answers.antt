use Rattle.std.proofs.Common.{◌∙◌, ap, sym, Some, arith, FitsSigned, to_z-of_z}
use Rattle.std.specs.Int.{w64}
use Rattle.std.proofs.lemmas.Int.{ints}
use Rattle.time_calc.proofs.LabelLemmas.{gives_label}
use Rattle.time_calc.proofs.labels.label.Goals as goal

pub returns-in-Some : goal.returns-in-Some
returns-in-Some c =
    let here = c.in-Some.ensures in
    let low = here.low in let high = here.high in
    let instant : FitsSigned w64 c.in-Some.instant = omega (arith, ints) in
    gives_label c.args.at c.args.pattern.now _ c.labelled.result (sym here.value ∙ ap Some (sym (to_z-of_z instant))) c.labelled.ensures
