use Rattle.std.proofs.Common.{refl}
use Rattle.fixed_num.proofs.Numerals.{answers, more_left, stopped}
use Rattle.fixed_num.proofs.num.Num.read_decimal.Goals as goal

pub returns-in-Ok-default-empty : goal.returns-in-Ok-default-empty
returns-in-Ok-default-empty c =
    let a = answers c.args.b.now c.in-Ok-default-empty.field-0-1.now c.in-Ok-default-empty.number c.ok_or.result
    c.in-Ok-default-empty.ensures c.in-Ok-default-empty.len_below c.ok_or.ensures.value in
    record { number = a.number; shape = a.shape; range = a.range }

pub returns-in-Ok-default-len1-up-clause-shape : goal.returns-in-Ok-default-len1-up-clause-shape
returns-in-Ok-default-len1-up-clause-shape c = (
  λ _. more_left c.args.b.now c.in-Ok-default-len1-up.field-0-1.now c.in-Ok-default-len1-up.field-0-0 c.in-Ok-default-len1-up.ensures
      c.in-Ok-default-len1-up.len_at_least,
  λ _. refl,
)

pub returns-in-Ok-default-len1-up-clause-range : goal.returns-in-Ok-default-len1-up-clause-range
returns-in-Ok-default-len1-up-clause-range c = (
  λ e. cc,
  λ x. absurd (more_left c.args.b.now c.in-Ok-default-len1-up.field-0-1.now c.in-Ok-default-len1-up.field-0-0
      c.in-Ok-default-len1-up.ensures c.in-Ok-default-len1-up.len_at_least (x.1.0, x.1.1)),
)

pub returns-in-Err-clause-shape : goal.returns-in-Err-clause-shape
returns-in-Err-clause-shape c = (λ _. stopped c.args.b.now c.in-Err.field-0 c.in-Err.ensures, λ _. refl)

pub returns-in-Err-clause-range : goal.returns-in-Err-clause-range
returns-in-Err-clause-range c = (λ e. cc, λ x. absurd (stopped c.args.b.now c.in-Err.field-0 c.in-Err.ensures (x.1.0, x.1.1)))
