use Rattle.plain_groups.proofs.SortLemmas.{sort_gives}
use Rattle.plain_groups.proofs.numbers.sorted.Goals as goal

pub returns : goal.returns
returns c = sort_gives c.args.numbers.items c.sort_unstable.new.self.items c.sort_unstable.ensures.permutation c.sort_unstable.ensures.sorted
