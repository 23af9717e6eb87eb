use Rattle.std.proofs.Common.{◌≡◌, Ok, Some, ap, ◌∙◌}
use Rattle.std.specs.Option.{option_map}
use Rattle.json_exact.specs.inner.Ahead.{step_at}
use Rattle.json_exact.proofs.ValueReaders.{some_is, fault_is}
use Rattle.json_exact.proofs.value_reader.ValueReader.next_value.Goals as goal

pub returns-in-Ok-Some-clause-next : goal.returns-in-Ok-Some-clause-next
returns-in-Ok-Some-clause-next c =
    let given : step_at c.args.self.stage c.args.self.most c.args.self.rest.now
    ≡ Ok (Some (c.in-Ok-Some.value, c.in-Ok-Some.stage, c.in-Ok-Some.rest.now)) = c.in-Ok-Some.ensures
    ∙ ap (λ o. Ok (option_map (λ x. (x.0, x.1, x.2.now)) o)) c.in-Ok-Some.field-0-is in
    some_is c.args.self.size c.args.self.stage c.args.self.most c.saturating_sub.result c.args.self.rest.now
    (c.in-Ok-Some.value, c.in-Ok-Some.stage, c.in-Ok-Some.rest.now) c.saturating_sub.ensures given

pub returns-in-Err-Fault-clause-next : goal.returns-in-Err-Fault-clause-next
returns-in-Err-Fault-clause-next c =
    fault_is c.args.self.size c.args.self.stage c.args.self.most c.in-Err-Fault.left c.saturating_sub-in-Err-Fault.result c.args.self.rest.now
    c.in-Err-Fault.field-0 c.in-Err-Fault.field-0-is c.in-Err-Fault.ensures c.saturating_sub-in-Err-Fault.ensures
