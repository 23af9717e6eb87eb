use Rattle.std.proofs.Common.{[], sym, ◌∙◌}
use Rattle.std.proofs.lemmas.Option.{slice_get-get_or}
use Rattle.csv.specs.Records.{fields_of}
use Rattle.data_rows.proofs.FieldLemmas.{at_place}
use Rattle.data_rows.proofs.records.field_in.Goals as goal

pub unreachable-requires : goal.unreachable-requires
unreachable-requires c = cc
    (slice_get-get_or (fields_of c.args.fields.now) c.args.i [] c.requires, at_place (fields_of c.args.fields.now) c.args.i, c.in-None.ensures.value)

pub returns : goal.returns
returns c = sym (at_place (fields_of c.args.fields.now) c.args.i) ∙ sym c.in-Some.ensures.value
