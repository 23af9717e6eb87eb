use Rattle.std.proofs.Common.{◌≡◌, subst}
use Rattle.std.specs.Prelude.{codes, OnOk}
use Rattle.vl_trails.specs.declared.judging.Judging.{Judging}
use Rattle.vl_names.specs.Channels.{channel_at_faults}
use Rattle.vl_names.specs.inner.Looked.{known_shown}
use Rattle.vl_names.proofs.LoopLemmas.{two_parts}
use Rattle.vl_names.proofs.channels.judge_cross.Goals as goal

pub returns : goal.returns
returns c =
    let known = known_shown c.args.known.now in
    let all : Judging → Type 0 = λ j. OnOk c.judge_channel_at-2.result (c.judge_channel_at-2.new.j ≡ j) in
    subst all (two_parts c.args.j.now _ (channel_at_faults known c.args.of.now.row (codes "row"))
    (channel_at_faults known c.args.of.now.column (codes "column")) c.in_ok-judge_channel_at.ensures) c.judge_channel_at-2.ensures
