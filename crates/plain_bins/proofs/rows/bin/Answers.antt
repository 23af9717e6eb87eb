use Rattle.plain_bins.proofs.BinnedLemmas.{answer_are_rows}
use Rattle.plain_bins.proofs.rows.bin.Goals as goal

pub returns-clause-rows : goal.returns-clause-rows
returns-clause-rows c =
    let put = rw c.as_slice.ensures at c.binned.ensures in
    answer_are_rows c.args.b.now c.args.rows.now c.requires.rows c.binned.result put
