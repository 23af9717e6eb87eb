use Rattle.plain_rows.proofs.Readings.{reads_so}
use Rattle.plain_windows.proofs.WindowLemmas.{window_reads, windowed_are_rows}
use Rattle.plain_windows.proofs.windows.window.Goals as goal

pub returns-clause-read : goal.returns-clause-read
returns-clause-read c = let made = rw c.as_slice.ensures at c.windowed.ensures in
    reads_so c.windowed.result _ _ (window_reads c.args.w.now c.args.rows.now) made

pub returns-clause-rows : goal.returns-clause-rows
returns-clause-rows c = let made = rw c.as_slice.ensures at c.windowed.ensures in
    windowed_are_rows c.args.w.now c.args.rows.now c.requires.rows c.windowed.result made
