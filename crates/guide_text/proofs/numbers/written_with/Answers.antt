use Rattle.guide_text.proofs.UnitLemmas.{size_in_reach}
use Rattle.guide_text.proofs.numbers.written_with.Goals as goal

pub push_size-requires-clause-in_range : goal.push_size-requires-clause-in_range
push_size-requires-clause-in_range c =
    size_in_reach c.args.decimals c.hundredths.result c.units_of-units.result c.hundredths.ensures.few c.units_of-units.ensures.bound
