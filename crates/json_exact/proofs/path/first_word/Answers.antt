use Rattle.std.proofs.Common.{arith}
use Rattle.json_exact.proofs.Paths.{word_ends, word_alone}
use Rattle.json_exact.proofs.path.first_word.Goals as goal

pub returns-then-b-eq47-clause-words : goal.returns-then-b-eq47-clause-words
returns-then-b-eq47-clause-words c =
    rw (c.split_at.ensures.front, c.split_at.ensures.back) (word_ends c.args.bytes.now c.loop-i.i (omega arith) c.loop-i.invariant (cc))

pub returns-clause-words : goal.returns-clause-words
returns-clause-words c = word_alone c.args.bytes.now (λ k h. c.loop-i.invariant k (omega arith))
