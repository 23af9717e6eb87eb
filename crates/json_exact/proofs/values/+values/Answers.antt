use Rattle.std.proofs.Common.{refl, sym, ap, ◌∙◌, length, arith}
use Rattle.fixed_num.specs.Front.{first}
use Rattle.std.proofs.lemmas.Result.{err_from_is_err_and}
use Rattle.json_exact.specs.inner.Reader.{cause, member_at, value_at}
use Rattle.json_exact.proofs.Complete.{item_at}
use Rattle.json_exact.proofs.Loop.{goes_on, closes, breaks, fails, ends, begins_run, empty_sequence, too_deep, list_there, object_there}
use Rattle.json_exact.proofs.Loop.{flat_there}
use Rattle.json_exact.proofs.values.+values.Goals as goal

pub items_of-returns-then-first_of-eq93 : goal.items_of-returns-then-first_of-eq93
items_of-returns-then-first_of-eq93 t c =
    let e = empty_sequence 93 (item_at c.args.level) c.args.bytes.now (ap first (sym c.skip_white-rest.ensures) ∙ sym c.first_of.ensures
    ∙ c.if-first_of-eq93.true) in
    rw (c.new.ensures, c.after_first.ensures, c.skip_white-rest.ensures) e

pub items_of-loop-init : goal.items_of-loop-init
items_of-loop-init t c =
    let e = begins_run 93 (item_at c.args.level) c.args.bytes.now (λ same. c.if-first_of-eq93.false (c.first_of.ensures
    ∙ ap first c.skip_white-rest.ensures ∙ same)) in
    rw (c.in_ok-items.ensures, c.skip_white-rest.ensures) e

pub items_of-returns-in_err-item : goal.items_of-returns-in_err-item
items_of-returns-in_err-item t c =
    let fault = fails 93 (item_at c.args.level) c.loop.items (length c.args.bytes.now) c.loop.counter c.loop.rest.now _
    (cause c.in_err-item.field-0.0) c.loop-test.true c.in_err-item.ensures c.loop.invariant in
    let p = err_from_is_err_and c.from_residual-in_err-item.result c.from_residual-in_err-item.ensures.1 in
    rw (p.1, p.2) fault

pub items_of-returns-in-93 : goal.items_of-returns-in-93
items_of-returns-in-93 t c =
    let e = closes 93 (item_at c.args.level) c.loop.items (length c.args.bytes.now) c.loop.counter c.loop.rest.now _ c.in_ok-item.item
    c.in_ok-item.after.now c.loop-test.true c.in_ok-item.ensures (sym c.first_of-in-loop.ensures ∙ c.in-93.is) refl c.loop.invariant in
    rw (c.in_ok-push.ensures.ok, c.after_first-in-93.ensures) e

pub items_of-loop-preserved : goal.items_of-loop-preserved
items_of-loop-preserved t c =
    let e = goes_on 93 (item_at c.args.level) c.loop.items (length c.args.bytes.now) c.loop.counter c.loop.rest.now _ c.in_ok-item.item
    c.in_ok-item.after.now c.loop-test.true c.in_ok-item.ensures (sym c.first_of-in-loop.ensures ∙ c.in-44.is) c.loop.invariant in
    rw (c.in_ok-push.ensures.ok, c.after_first-rest.ensures) e

pub items_of-returns-in_default : goal.items_of-returns-in_default
items_of-returns-in_default t c =
    let e = breaks 93 (item_at c.args.level) c.loop.items (length c.args.bytes.now) c.loop.counter c.loop.rest.now _ c.in_ok-item.item
    c.in_ok-item.after.now c.loop-test.true c.in_ok-item.ensures (λ same. grind arith) (λ same. grind arith) c.loop.invariant in
    rw c.fault_at.ensures e

pub items_of-returns : goal.items_of-returns
items_of-returns t c =
    let e = ends 93 (item_at c.args.level) c.loop.items (length c.args.bytes.now) c.loop.counter c.loop.rest.now _ c.loop-test.false
    c.loop.invariant in
    rw c.fault_at-2.ensures e

pub members_of-returns-then-first_of-eq125 : goal.members_of-returns-then-first_of-eq125
members_of-returns-then-first_of-eq125 t c =
    let e = empty_sequence 125 (member_at (value_at c.args.level)) c.args.bytes.now (ap first (sym c.skip_white-rest.ensures)
    ∙ sym c.first_of.ensures ∙ c.if-first_of-eq125.true) in
    rw (c.new.ensures, c.after_first.ensures, c.skip_white-rest.ensures) e

pub members_of-loop-init : goal.members_of-loop-init
members_of-loop-init t c =
    let e = begins_run 125 (member_at (value_at c.args.level)) c.args.bytes.now (λ same. c.if-first_of-eq125.false (c.first_of.ensures
    ∙ ap first c.skip_white-rest.ensures ∙ same)) in
    rw (c.in_ok-members.ensures, c.skip_white-rest.ensures) e

pub members_of-returns-in_err-member : goal.members_of-returns-in_err-member
members_of-returns-in_err-member t c =
    let fault = fails 125 (member_at (value_at c.args.level)) c.loop.members.members (length c.args.bytes.now) c.loop.counter
    c.loop.rest.now _ (cause c.in_err-member.field-0.0) c.loop-test.true c.in_err-member.ensures c.loop.invariant in
    let p = err_from_is_err_and c.from_residual-in_err-member.result c.from_residual-in_err-member.ensures.1 in
    rw (p.1, p.2) fault

pub members_of-returns-in-125 : goal.members_of-returns-in-125
members_of-returns-in-125 t c =
    let e = closes 125 (member_at (value_at c.args.level)) c.loop.members.members (length c.args.bytes.now) c.loop.counter c.loop.rest.now _
    c.in_ok-member.member c.in_ok-member.after.now c.loop-test.true c.in_ok-member.ensures (sym c.first_of-in-loop.ensures
    ∙ c.in-125.is) refl c.loop.invariant in
    rw (c.into_seq.ensures, c.in_ok-members-2.ensures, c.after_first-in-125.ensures) e

pub members_of-loop-preserved : goal.members_of-loop-preserved
members_of-loop-preserved t c =
    let e = goes_on 125 (member_at (value_at c.args.level)) c.loop.members.members (length c.args.bytes.now) c.loop.counter c.loop.rest.now
    _ c.in_ok-member.member c.in_ok-member.after.now c.loop-test.true c.in_ok-member.ensures (sym c.first_of-in-loop.ensures
    ∙ c.in-44.is) c.loop.invariant in
    rw (c.in_ok-members-2.ensures, c.after_first-rest.ensures) e

pub members_of-returns-in_default : goal.members_of-returns-in_default
members_of-returns-in_default t c =
    let e = breaks 125 (member_at (value_at c.args.level)) c.loop.members.members (length c.args.bytes.now) c.loop.counter c.loop.rest.now _
    c.in_ok-member.member c.in_ok-member.after.now c.loop-test.true c.in_ok-member.ensures (λ same. grind arith) (λ same. grind arith)
    c.loop.invariant in
    rw c.fault_at.ensures e

pub members_of-returns : goal.members_of-returns
members_of-returns t c =
    let e = ends 125 (member_at (value_at c.args.level)) c.loop.members.members (length c.args.bytes.now) c.loop.counter c.loop.rest.now _
    c.loop-test.false c.loop.invariant in
    rw c.fault_at-2.ensures e

pub value_of-returns-in-91 : goal.value_of-returns-in-91
value_of-returns-in-91 t c =
    let e = too_deep c.args.level c.args.bytes.now c.if-level-eq0.true (grind arith) in
    rw c.fault_at.ensures e

pub value_of-returns-in-91-2 : goal.value_of-returns-in-91-2
value_of-returns-in-91-2 t c =
    let e = list_there c.args.level c.args.bytes.now (omega arith) (sym c.first_of.ensures ∙ c.in-91-2.is) in
    rw (e, ← c.after_first.ensures) c.list_of.ensures

pub value_of-returns-in-123 : goal.value_of-returns-in-123
value_of-returns-in-123 t c =
    let e = object_there c.args.level c.args.bytes.now (omega arith) (sym c.first_of.ensures ∙ c.in-123.is) in
    rw (e, ← c.after_first-in-123.ensures) c.object_of.ensures

pub value_of-returns-in_default : goal.value_of-returns-in_default
value_of-returns-in_default t c =
    let e = flat_there c.args.level c.args.bytes.now (λ same. grind arith) (λ same. grind arith) in
    rw e c.flat_of.ensures
