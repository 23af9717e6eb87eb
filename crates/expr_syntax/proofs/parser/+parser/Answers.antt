-- Each level by its equation, and each step of a loop by a lemma.
use Rattle.std.proofs.Common.{◌-◌, ◌+◌, sym, ◌∙◌, arith}
use Rattle.expr_syntax.specs.inner.Scanner.{cause}
use Rattle.expr_syntax.specs.inner.Parser.{inside_of, tree_at, most_arguments}
use Rattle.expr_syntax.proofs.Loops.{goes_on, closes, fails, runs_out, highest_more, links, unlinked, breaks, chain_out, whole_room}
use Rattle.expr_syntax.proofs.Loops.{loosens, fault_up, no_height, no_bracket, one_bracket, primary_there, unary_there, choice_there}
use Rattle.expr_syntax.proofs.parser.+parser.Goals as goal

pub tree_at-returns-then-limit-eq0-clause-gives : goal.tree_at-returns-then-limit-eq0-clause-gives
tree_at-returns-then-limit-eq0-clause-gives t c = no_height c.args.nesting c.args.limit c.args.level c.args.tokens.now c.if-limit-eq0.true

pub tree_at-returns-in-0-clause-gives : goal.tree_at-returns-in-0-clause-gives
tree_at-returns-in-0-clause-gives t c =
    rw (primary_there c.args.nesting c.args.limit c.args.level c.args.tokens.now (omega arith) c.in-0.is) c.primary_at.ensures.gives

pub tree_at-returns-in-1-clause-gives : goal.tree_at-returns-in-1-clause-gives
tree_at-returns-in-1-clause-gives t c =
    rw (unary_there c.args.nesting c.args.limit c.args.level c.args.tokens.now (omega arith) c.in-1.is) c.unary_at.ensures.gives

pub tree_at-returns-in-8-clause-gives : goal.tree_at-returns-in-8-clause-gives
tree_at-returns-in-8-clause-gives t c =
    rw (choice_there c.args.nesting c.args.limit c.args.level c.args.tokens.now (omega arith) c.in-8.is) c.choice_at.ensures.gives

pub inside_of-returns-then-nesting-eq0-clause-gives : goal.inside_of-returns-then-nesting-eq0-clause-gives
inside_of-returns-then-nesting-eq0-clause-gives t c = no_bracket c.args.nesting c.args.limit c.args.tokens.now c.if-nesting-eq0.true

pub inside_of-returns-clause-gives : goal.inside_of-returns-clause-gives
inside_of-returns-clause-gives t c = rw (one_bracket c.args.nesting c.args.limit c.args.tokens.now (omega arith)) c.tree_at.ensures.gives

pub arguments_at-returns-in-Err-clause-gives : goal.arguments_at-returns-in-Err-clause-gives
arguments_at-returns-in-Err-clause-gives t c =
    fails (inside_of c.args.nesting c.args.limit) c.loop.arguments most_arguments c.loop.counter c.loop.rest.now _ (cause c.in-Err.error)
    c.loop-test.true c.in-Err.ensures.gives c.loop.invariant.read

pub arguments_at-returns-then-not-starts-clause-gives : goal.arguments_at-returns-then-not-starts-clause-gives
arguments_at-returns-then-not-starts-clause-gives t c =
    let e =
    closes (inside_of c.args.nesting c.args.limit) c.loop.arguments most_arguments c.loop.counter c.loop.rest.now _ c.in-Ok.read.0.tree
    c.in-Ok.read.1.now c.loop-test.true c.in-Ok.ensures.gives (sym c.starts.ensures ∙ c.if-not-starts.true) c.loop.invariant.read in
    rw (c.in_ok-push.ensures.ok, c.into_tree.ensures) e

pub arguments_at-returns-then-not-starts-clause-told : goal.arguments_at-returns-then-not-starts-clause-told
arguments_at-returns-then-not-starts-clause-told t c =
    let more = highest_more c.loop.arguments c.in-Ok.read.0.tree in
    let so_far = c.loop.invariant.told in
    let here = c.in-Ok.ensures.told in
    let most = c.higher-highest.ensures in
    rw (c.in_ok-push.ensures.ok, c.into_tree.ensures) (omega (arith, more))

pub arguments_at-loop-preserved : goal.arguments_at-loop-preserved
arguments_at-loop-preserved t c =
    let more = highest_more c.loop.arguments c.in-Ok.read.0.tree in
    let so_far = c.loop.invariant.told in
    let here = c.in-Ok.ensures.told in
    let most = c.higher-highest.ensures in
    let e =
    goes_on (inside_of c.args.nesting c.args.limit) c.loop.arguments most_arguments c.loop.counter c.loop.rest.now _ c.in-Ok.read.0.tree
    c.in-Ok.read.1.now c.loop-test.true c.in-Ok.ensures.gives (sym c.starts.ensures ∙ c.if-not-starts.false) c.loop.invariant.read in
    record {
      read = rw (c.in_ok-push.ensures.ok, c.into_tree.ensures, c.after_first-rest.ensures) e;
      told = rw (c.in_ok-push.ensures.ok, c.into_tree.ensures) (omega (arith, more));
    }

pub arguments_at-returns-clause-gives : goal.arguments_at-returns-clause-gives
arguments_at-returns-clause-gives t c =
    runs_out (inside_of c.args.nesting c.args.limit) c.loop.arguments most_arguments c.loop.counter c.loop.rest.now _ c.loop-test.false
    c.loop.invariant.read

pub binary_at-returns-in-Err-clause-gives : goal.binary_at-returns-in-Err-clause-gives
binary_at-returns-in-Err-clause-gives t c =
    fault_up (c.args.level - 1) 1 c.args.level c.args.nesting c.args.limit c.args.tokens.now (cause c.in-Err.error) (omega arith)
    (omega arith) (omega arith) (omega arith) c.in-Err.ensures.gives

pub binary_at-returns-in-Err-chain_at-clause-gives : goal.binary_at-returns-in-Err-chain_at-clause-gives
binary_at-returns-in-Err-chain_at-clause-gives t c =
    let whole =
    loosens c.args.nesting c.args.limit c.loop-tight.tight c.args.tokens.now c.loop-tight.rest.now c.loop-tight.left.tree (omega arith)
    (omega arith) (omega arith) c.loop-tight.invariant.read in
    fault_up (c.args.level - (c.loop-tight.tight + 1)) (c.loop-tight.tight + 1) c.args.level c.args.nesting c.args.limit c.args.tokens.now
    (cause c.in-Err-chain_at.error) (omega arith) (omega arith) (omega arith) (omega arith) (rw whole c.in-Err-chain_at.ensures.gives)

pub binary_at-loop-tight-preserved : goal.binary_at-loop-tight-preserved
binary_at-loop-tight-preserved t c = record {
  read =
      loosens c.args.nesting c.args.limit c.loop-tight.tight c.args.tokens.now c.loop-tight.rest.now c.loop-tight.left.tree (omega arith)
      (omega arith) (omega arith) c.loop-tight.invariant.read ∙ c.in-Ok-chain_at.ensures.gives;
  told = c.in-Ok-chain_at.ensures.told;
}

pub chain_at-loop-init : goal.chain_at-loop-init
chain_at-loop-init t c = record {
  read =
      whole_room (tree_at c.args.nesting (c.args.limit - 1) (c.args.level - 1)) c.args.limit c.args.level c.args.first.tree
      c.args.tokens.now;
  told = c.requires.first;
}

pub chain_at-returns-in_default-clause-gives : goal.chain_at-returns-in_default-clause-gives
chain_at-returns-in_default-clause-gives t c =
    unlinked (tree_at c.args.nesting (c.args.limit - 1) (c.args.level - 1)) c.args.limit c.args.level c.loop.counter c.loop.left.tree
    c.loop.rest.now _ c.loop-test.true (sym c.operator_at.ensures ∙ c.in_default.is) c.loop.invariant.read

pub chain_at-returns-in-Err-clause-gives : goal.chain_at-returns-in-Err-clause-gives
chain_at-returns-in-Err-clause-gives t c =
    breaks (tree_at c.args.nesting (c.args.limit - 1) (c.args.level - 1)) c.args.limit c.args.level c.loop.counter c.loop.left.tree
    c.loop.rest.now _ c.in-Some.op (cause c.in-Err.error) c.loop-test.true (sym c.operator_at.ensures ∙ c.in-Some.is)
    (rw c.after_first.ensures at c.in-Err.ensures.gives) c.loop.invariant.read

pub chain_at-loop-preserved : goal.chain_at-loop-preserved
chain_at-loop-preserved t c = record {
  read =
      links (tree_at c.args.nesting (c.args.limit - 1) (c.args.level - 1)) c.args.limit c.args.level c.loop.counter c.loop.left.tree
      c.loop.rest.now _ c.in-Some.op c.in-Ok.read.0.tree c.in-Ok.read.1.now c.loop-test.true (sym c.operator_at.ensures ∙ c.in-Some.is)
      (rw c.after_first.ensures at c.in-Ok.ensures.gives) c.loop.invariant.read;
  told = c.in-Ok.ensures.told;
}

pub chain_at-returns-clause-gives : goal.chain_at-returns-clause-gives
chain_at-returns-clause-gives t c =
    chain_out (tree_at c.args.nesting (c.args.limit - 1) (c.args.level - 1)) c.args.limit c.args.level c.loop.counter c.loop.left.tree
    c.loop.rest.now _ c.loop-test.false c.loop.invariant.read
