use Rattle.std.proofs.Common.{sym, ap, ◌∙◌}
use Rattle.csv.specs.Records.{fields_of}
use Rattle.data_rows.specs.inner.Records.{cause_of}
use Rattle.data_rows.proofs.RecordLemmas.{found, no_text_of}
use Rattle.data_rows.proofs.records.next_record.Goals as goal

pub returns-in-Ok-clause-found : goal.returns-in-Ok-clause-found
returns-in-Ok-clause-found c =
    let e = c.in-Ok.ensures in
    found c.args.reader.now c.read_record.new.self (fields_of c.read_record.new.row) c.in-Ok.found c.requires
    (e.reads c.requires.trim c.requires.ready) (e.text c.requires.trim) (e.ready c.requires.trim) e.flexible

pub returns-in-Err-clause-text : goal.returns-in-Err-clause-text
returns-in-Err-clause-text c is =
    no_text_of c.args.reader.now c.read_record.new.self c.in-Err.error.kind c.requires
    (c.in-Err.ensures.why c.requires.trim c.requires.ready)
    (sym (c.cause_of.ensures ∙ ap cause_of c.kind.ensures) ∙ cc is)
