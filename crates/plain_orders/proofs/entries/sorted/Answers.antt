use Rattle.plain_orders.specs.inner.Entries.{entry_cmp_total}
use Rattle.plain_orders.proofs.SortLemmas.{sort_gives}
use Rattle.plain_orders.proofs.EntryLemmas.{only_equal_entries_tie}
use Rattle.plain_orders.proofs.entries.sorted.Goals as goal

pub returns : goal.returns
returns c = sort_gives entry_cmp_total only_equal_entries_tie c.args.entries.items c.sort_unstable.new.self.items
    c.sort_unstable.ensures.permutation c.sort_unstable.ensures.sorted
