use Rattle.std.proofs.Common.{◌+◌, ◌^◌, arith}
use Rattle.play_script.proofs.Shown.{kept_full, kept_room}
use Rattle.play_script.proofs.pending.Pending.push.Goals as goal

pub returns-in_ok-push-clause-ok : goal.returns-in_ok-push-clause-ok
returns-in_ok-push-clause-ok c = λ line kept.
    rw c.in_ok-push.ensures.items (kept_room (2 ^ 20 + 2) c.args.self.now.first.items line c.args.byte kept (let n = c.len.ensures in
    omega arith))

pub returns-else-len-lt-MOST_KEPT_BYTES-clause-ok : goal.returns-else-len-lt-MOST_KEPT_BYTES-clause-ok
returns-else-len-lt-MOST_KEPT_BYTES-clause-ok c = λ line kept.
    kept_full (2 ^ 20 + 2) c.args.self.now.first.items line c.args.byte kept (let n = c.len.ensures in omega arith)
