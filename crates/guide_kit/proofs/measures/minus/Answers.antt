use Rattle.std.proofs.Common.{not, ap, ◌∙◌}
use Rattle.fixed_num.specs.Number.{limit, signed}
use Rattle.guide_kit.proofs.CutLemmas.{difference_within, difference_beyond}
use Rattle.guide_kit.proofs.measures.minus.Goals as goal

pub returns-in-Some : goal.returns-in-Some
returns-in-Some c = difference_within c.args.a c.args.b _ c.in-Some.ensures.0 c.in-Some.ensures.1

pub returns-in-None : goal.returns-in-None
returns-in-None c =
    c.place_of.ensures ∙ ap (λ below. signed (not below) limit) c.is_negative.ensures
    ∙ difference_beyond c.args.a c.args.b c.millionths.ensures.in_range c.in-None.ensures
