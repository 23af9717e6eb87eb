use Rattle.std.proofs.Common.{sym, ◌∙◌, arith}
use Rattle.json_exact.proofs.Front.{word-more, word-other, word-end}
use Rattle.json_exact.proofs.words.after_word.Goals as goal

pub returns-then-first_of-b : goal.returns-then-first_of-b
returns-then-first_of-b c =
    let e = word-other c.args.word.now c.loop-b.rest.now c.loop-b.b-index c.loop-b-test.true
    (λ same. c.if-first_of-b.true (c.first_of.ensures ∙ same)) in
    rw c.fault_at.ensures (sym c.loop-b.invariant ∙ e)

pub loop-b-preserved : goal.loop-b-preserved
loop-b-preserved c =
    let e = word-more c.args.word.now c.loop-b.rest.now c.loop-b.b-index c.loop-b-test.true (sym c.first_of.ensures
    ∙ c.if-first_of-b.false) in
    rw c.after_first-rest.ensures (sym e ∙ c.loop-b.invariant)

pub returns : goal.returns
returns c = sym c.loop-b.invariant ∙ (word-end c.args.word.now c.loop-b.rest.now c.loop-b.b-index (omega arith))
