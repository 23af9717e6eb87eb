use Rattle.std.proofs.Common.{◌<◌, List, ℕ, ap, sym, subst, length, drop, arith, false-eqb}
use Rattle.std.proofs.lemmas.Bool.{eqb-true}
use Rattle.std.specs.List.{prefix_len}
use Rattle.expr_syntax.specs.declared.token.Token.{Token}
use Rattle.expr_syntax.specs.Tokens.{is_blank}
use Rattle.expr_syntax.proofs.TokenLemmas.{Reached, reached_start, reached_token, reached_fault, reached_end, token_shorter, blanks_le}
use Rattle.expr_syntax.proofs.TokenLemmas.{fault_shape}
use Rattle.expr_syntax.proofs.scanner.tokens.Goals as goal

pub loop-rest-init : goal.loop-rest-init
loop-rest-init c = (
  c.skip_blanks-rest.utf8,
  subst (λ (rest : List ℕ). Reached c.args.text.now c.new-out.result rest) (sym c.skip_blanks-rest.ensures)
      (subst (λ (ts : List Token). Reached c.args.text.now ts (drop (prefix_len is_blank c.args.text.now) c.args.text.now))
      (sym c.new-out.ensures) (reached_start c.args.text.now)),
)

pub returns-in-Err-clause-shape : goal.returns-in-Err-clause-shape
returns-in-Err-clause-shape c = λ shape ts have.
    let some : 0 < length c.loop-rest.rest.now = omega (arith, false-eqb _ 0 c.loop-rest-test.ensures) in
    reached_fault c.args.text.now c.loop-rest.rest.now c.loop-rest.out c.loop-rest.invariant.1 some
    (fault_shape c.in-Err.error _ c.in-Err.ensures shape) ts have

pub loop-rest-smaller : goal.loop-rest-smaller
loop-rest-smaller c =
    let x : Token × List ℕ = (c.in-Ok.read.0, c.in-Ok.read.1.now) in
    omega (
      arith,
      token_shorter c.loop-rest.rest.now x c.in-Ok.ensures,
      blanks_le c.in-Ok.read.1.now,
      ap length c.skip_blanks-rest-in-loop-rest.ensures,
    )

pub loop-rest-preserved : goal.loop-rest-preserved
loop-rest-preserved c =
    let x : Token × List ℕ = (c.in-Ok.read.0, c.in-Ok.read.1.now) in (
      c.skip_blanks-rest-in-loop-rest.utf8,
      subst (λ (rest : List ℕ). Reached c.args.text.now c.push.new.self rest) (sym c.skip_blanks-rest-in-loop-rest.ensures)
          (subst (λ (ts : List Token). Reached c.args.text.now ts (drop (prefix_len is_blank c.in-Ok.read.1.now) c.in-Ok.read.1.now))
          (sym c.in_ok-push.ensures.ok)
          (reached_token c.args.text.now c.loop-rest.rest.now c.loop-rest.out x c.loop-rest.invariant.1 c.in-Ok.ensures)),
    )

pub returns-clause-ok : goal.returns-clause-ok
returns-clause-ok c =
    reached_end c.args.text.now c.loop-rest.rest.now c.loop-rest.out c.loop-rest.invariant.1 (eqb-true _ 0 (sym c.loop-rest-test.ensures))
