use Rattle.std.proofs.Common.{sym, ◌∙◌, arith}
use Rattle.json_exact.proofs.Front.{take-rest, skip_white-more, skip_white-here, skip_white-end}
use Rattle.json_exact.proofs.words.skip_white.Goals as goal

pub returns-then-not-is_white : goal.returns-then-not-is_white
returns-then-not-is_white c =
    take-rest c.args.bytes.now c.loop-i.i ∙ sym (skip_white-here c.args.bytes.now c.loop-i.i (omega arith) (cc)) ∙ c.loop-i.invariant

pub loop-i-preserved : goal.loop-i-preserved
loop-i-preserved c = skip_white-more c.args.bytes.now c.loop-i.i (omega arith) (cc) ∙ c.loop-i.invariant

pub returns : goal.returns
returns c = sym (skip_white-end c.args.bytes.now c.loop-i.i (omega arith)) ∙ c.loop-i.invariant
