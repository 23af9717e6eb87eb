use Rattle.expr_syntax.proofs.Called.{texts_more, texts_end}
use Rattle.expr_syntax.specs.inner.Calls.{texts_in}
use Rattle.expr_syntax.proofs.calls.texts_in.Goals as goal

pub loop-token-preserved : goal.loop-token-preserved
loop-token-preserved c =
    texts_more c.loop-token.texts c.push_text.new.texts (texts_in c.args.tokens.now) c.args.tokens.now c.loop-token.token-index
    c.token-item.result c.loop-token-test.true c.token-item.is c.in_ok-push_text.ensures c.loop-token.invariant

pub returns : goal.returns
returns c =
    texts_end c.loop-token.texts (texts_in c.args.tokens.now) c.args.tokens.now c.loop-token.token-index c.loop-token-test.false
    c.loop-token.invariant
