use Rattle.plain_bins.proofs.BinLemmas.{less_rest_in_bits}
use Rattle.plain_bins.proofs.bins.multiple_before.Goals as goal

pub returns : goal.returns
returns c =
    less_rest_in_bits c.args.start c.args.step c.args.v _ _ _ c.requires.above_zero c.requires.from c.millionths.ensures.in_range
    c.millionths-2.ensures.in_range c.millionths-2.ensures.value c.rest_from.ensures c.millionths-2.type_inv c.rest_from.type_inv
    c.in-Some.ensures.1
