use Rattle.fixed_num.specs.inner.View.{parts}
use Rattle.fixed_num.proofs.Numerals.{front_parts, front_value, front_stop}
use Rattle.fixed_num.proofs.num.Num.read_front.Goals as goal

pub value-requires-clause-whole : goal.value-requires-clause-whole
value-requires-clause-whole c = (front_parts c.args.bytes.now c.in-Ok.rest.now (parts c.in-Ok.number) c.in-Ok.ensures.value).is.whole.digits

pub value-requires-clause-fraction : goal.value-requires-clause-fraction
value-requires-clause-fraction c = (front_parts c.args.bytes.now c.in-Ok.rest.now (parts c.in-Ok.number) c.in-Ok.ensures.value).is.fraction

pub returns-in-Ok : goal.returns-in-Ok
returns-in-Ok c = front_value c.args.bytes.now c.in-Ok.rest.now (parts c.in-Ok.number) c.value.result c.in-Ok.ensures.value c.value.ensures

pub returns-in-Err : goal.returns-in-Err
returns-in-Err c = front_stop c.args.bytes.now c.in-Err.left c.in-Err.ensures.value
