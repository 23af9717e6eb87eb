use Rattle.std.proofs.Common.{arith, subst, sym, get_or, ◌-◌, ◌+◌, refl, ℕ}
use Rattle.time_calc.proofs.FormLemmas.{so_far_at_first, so_far_here, so_far_elsewhere, so_far_at_last, IsSoFar}
use Rattle.time_calc.proofs.forms.value.Goals as goal
use Rattle.time_calc.proofs.forms.value.Goals.{then-f-letter, else-f-letter}

pub loop-i-init : goal.loop-i-init
loop-i-init c = so_far_at_first c.args.letter c.args.form.now c.args.text.now c.requires.form c.requires.letter

pub overflow_mul-number : goal.overflow_mul-number
overflow_mul-number c =
    let step = so_far_here c.args.letter c.args.form.now c.args.text.now c.loop-i.i c.loop-i.number (get_or c.args.text.now c.loop-i.i 0 - 48)
    c.requires.form c.requires.letter (omega arith) c.if-f-letter.true refl c.loop-i.invariant in
    omega (arith, step.0)

pub overflow_add-number : goal.overflow_add-number
overflow_add-number c =
    let step = so_far_here c.args.letter c.args.form.now c.args.text.now c.loop-i.i c.loop-i.number (get_or c.args.text.now c.loop-i.i 0 - 48)
    c.requires.form c.requires.letter (omega arith) c.if-f-letter.true refl c.loop-i.invariant in
    omega (arith, step.0, step.1)

pub loop-i-preserved : goal.loop-i-preserved
loop-i-preserved c =
    let P : ℕ → Type 0 = λ n. IsSoFar c.args.letter c.args.form.now c.args.text.now (c.loop-i.i + 1) n in
    elim c.if-f-letter.branch [
      | then-f-letter w ↦
          subst P (sym w.number-is) (so_far_here c.args.letter c.args.form.now c.args.text.now c.loop-i.i c.loop-i.number w.from.result
          c.requires.form c.requires.letter (omega arith) w.if-f-letter.true (omega arith) c.loop-i.invariant).2
      | else-f-letter w ↦
          subst P (sym w.number-is) (so_far_elsewhere c.args.letter c.args.form.now c.args.text.now c.loop-i.i
          c.loop-i.number c.requires.form (omega arith) w.if-f-letter.false c.loop-i.invariant)
    ]

pub returns-clause-value : goal.returns-clause-value
returns-clause-value c = (so_far_at_last c.args.letter c.args.form.now c.args.text.now c.loop-i.i c.loop-i.number (omega arith) c.loop-i.invariant).0

pub returns-clause-bound : goal.returns-clause-bound
returns-clause-bound c = (so_far_at_last c.args.letter c.args.form.now c.args.text.now c.loop-i.i c.loop-i.number (omega arith) c.loop-i.invariant).1
