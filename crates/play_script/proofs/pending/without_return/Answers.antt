use Rattle.play_script.proofs.Shown.{last_dropped, last_kept}
use Rattle.play_script.proofs.pending.without_return.Goals as goal

pub returns-in-len1-up : goal.returns-in-len1-up
returns-in-len1-up c = last_dropped c.args.line.now _ c.in-len1-up.len_at_least c.if-last-eq13.true

pub returns-in_default-2 : goal.returns-in_default-2
returns-in_default-2 c = last_kept c.args.line.now _ c.in-len1-up.len_at_least c.if-last-eq13.false
