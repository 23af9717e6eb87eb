use Rattle.std.proofs.Common.{sym, ◌∙◌, ◌+◌, ◌-◌, length, string_bytes, arith}
use Rattle.std.specs.Prelude.{◌≡◌}
use Rattle.std.proofs.lemmas.Result.{err_from_is_err_and}
use Rattle.json_exact.specs.inner.Reader.{cause}
use Rattle.json_exact.proofs.Escapes.{char_sound}
use Rattle.json_exact.proofs.Quotes.{chars_end, chars_more, chars_fault, chars_none}
use Rattle.json_exact.proofs.texts.chars_of.Goals as goal

pub unreachable-requires : goal.unreachable-requires
unreachable-requires c = c.in-None.ensures.value
    (char_sound c.loop.rest.now (c.in_ok-code.code, c.in_ok-code.after.now) c.in_ok-code.ensures).scalar

pub returns-then-first_of-eq34 : goal.returns-then-first_of-eq34
returns-then-first_of-eq34 c =
    let e = chars_end (length c.args.bytes.now - c.loop.counter) (string_bytes c.loop.out) c.loop.rest.now (sym c.first_of.ensures
    ∙ c.if-first_of-eq34.true) (omega arith) in
    rw c.from_string.ensures (sym c.loop.invariant ∙ e)

pub returns : goal.returns
returns c =
    let e = chars_none (length c.args.bytes.now - c.loop.counter) (string_bytes c.loop.out) c.loop.rest.now (omega arith) in
    rw c.fault_at.ensures (sym c.loop.invariant ∙ e)

pub loop-preserved : goal.loop-preserved
loop-preserved c =
    let step = chars_more (length c.args.bytes.now - c.loop.counter) (length c.args.bytes.now - (c.loop.counter + 1))
    (string_bytes c.loop.out) c.loop.rest.now c.in_ok-code.after.now c.in_ok-code.code
    (λ same. c.if-first_of-eq34.false (c.first_of.ensures ∙ same)) (omega arith) c.in_ok-code.ensures in
    let code : c.in-Some.c ≡ c.in_ok-code.code = c.in-Some.ensures.value.1 in
    rw (c.in_ok-push-in-Some.ensures.bytes, code) (sym step ∙ c.loop.invariant)

pub returns-in_err-code : goal.returns-in_err-code
returns-in_err-code c =
    let fault = chars_fault (length c.args.bytes.now - c.loop.counter) (string_bytes c.loop.out) c.loop.rest.now
    (cause c.in_err-code.field-0.0) (λ same. c.if-first_of-eq34.false (c.first_of.ensures ∙ same)) (omega arith)
    c.in_err-code.ensures in
    let p = err_from_is_err_and c.from_residual.result c.from_residual.ensures.1 in
    rw (p.1, p.2, ← c.loop.invariant) fault
