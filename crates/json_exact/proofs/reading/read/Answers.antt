-- What was read is what the function on lists gives, which is what the bytes spell.
use Rattle.std.proofs.Common.{◌≡◌, Ok, ap, inl, ◌∙◌}
use Rattle.json_exact.proofs.Sound.{text_sound}
use Rattle.json_exact.proofs.Whole.{is_complete, is_fault, fault_of, faults_at}
use Rattle.json_exact.proofs.reading.read.Goals as goal

pub returns-in-Ok-clause-sound : goal.returns-in-Ok-clause-sound
returns-in-Ok-clause-sound c = text_sound c.args.bytes.now c.in-Ok.tree c.in-Ok.ensures

pub returns-in-Ok-clause-complete : goal.returns-in-Ok-clause-complete
returns-in-Ok-clause-complete c = λ tree reads. inl (ap Ok (is_complete c.args.bytes.now c.in-Ok.tree tree c.in-Ok.ensures reads))

pub returns-in-Err-Fault-clause-complete : goal.returns-in-Err-Fault-clause-complete
returns-in-Err-Fault-clause-complete c = λ tree reads.
    absurd (is_fault c.args.bytes.now c.in-Err-Fault.left
    (fault_of c.args.bytes.now c.in-Err-Fault.field-0 c.in-Err-Fault.left c.in-Err-Fault.field-0-is c.in-Err-Fault.ensures) tree reads)

pub returns-in-Err-Fault-clause-fault : goal.returns-in-Err-Fault-clause-fault
returns-in-Err-Fault-clause-fault c = λ place e tree reads.
    is_fault c.args.bytes.now c.in-Err-Fault.left
    (fault_of c.args.bytes.now c.in-Err-Fault.field-0 c.in-Err-Fault.left c.in-Err-Fault.field-0-is c.in-Err-Fault.ensures) tree reads

pub returns-in-Err-Fault-clause-place : goal.returns-in-Err-Fault-clause-place
returns-in-Err-Fault-clause-place c = λ place e.
    let fault = fault_of c.args.bytes.now c.in-Err-Fault.field-0 c.in-Err-Fault.left c.in-Err-Fault.field-0-is c.in-Err-Fault.ensures in
    let same : place ≡ c.saturating_sub.result = cc in
    faults_at c.args.bytes.now c.in-Err-Fault.left place fault (same ∙ c.saturating_sub.ensures)
