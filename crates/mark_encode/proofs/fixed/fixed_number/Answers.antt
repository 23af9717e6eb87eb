use Rattle.std.proofs.Common.{◌∙◌}
use Rattle.mark_encode.proofs.FixedLemmas.{number_of_none, number_of_first}
use Rattle.mark_encode.proofs.fixed.fixed_number.Goals as goal

pub returns-in_default : goal.returns-in_default
returns-in_default c = number_of_none c.args.far c.args.values.now c.in_default.len_below

pub returns : goal.returns
returns c =
    c.number_alone.ensures ∙ number_of_first c.args.far c.args.values.now _ c.in-len1-up.len_at_least c.first-item.is
