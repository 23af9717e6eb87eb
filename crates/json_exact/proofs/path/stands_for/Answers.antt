use Rattle.std.proofs.Common.{ℕ, eqb, List, length, Some, ap, sym, ◌∙◌, arith}
use Rattle.json_exact.proofs.Paths.{name_more, name_other, name_end, empty_by_length}
use Rattle.json_exact.proofs.path.stands_for.Goals as goal

pub returns-in_default : goal.returns-in_default
returns-in_default c =
    sym (name_other c.loop-byte.rest.now c.args.name.now c.loop-byte.byte-index (omega arith) (λ same. c.if-front-byte.false (grind arith)))
    ∙ c.loop-byte.invariant

pub returns-in_default-2 : goal.returns-in_default-2
returns-in_default-2 c =
    sym (name_other c.loop-byte.rest.now c.args.name.now c.loop-byte.byte-index (omega arith) (λ same. grind arith)) ∙ c.loop-byte.invariant

pub loop-byte-preserved : goal.loop-byte-preserved
loop-byte-preserved c =
    let e = name_more c.loop-byte.rest.now c.args.name.now c.loop-byte.byte-index (omega arith) (sym c.front_of.ensures ∙ c.in-Some.is
    ∙ ap Some c.if-front-byte.true) in
    rw c.after_front-rest.ensures (sym e ∙ c.loop-byte.invariant)

pub returns : goal.returns
returns c = name_end c.loop-byte.rest.now c.args.name.now c.loop-byte.byte-index c.is_empty.result (omega arith)
    (λ e. empty_by_length c.loop-byte.rest.now (grind arith)) (λ e. c.is_empty.ensures ∙ ap (λ (xs : List ℕ). eqb (length xs) 0) e)
    ∙ c.loop-byte.invariant
