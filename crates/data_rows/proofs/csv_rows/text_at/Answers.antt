use Rattle.std.proofs.Common.{[], ap, ◌∙◌}
use Rattle.std.specs.Prelude.{unwrap_or}
use Rattle.csv.specs.Records.{fields_of}
use Rattle.data_rows.proofs.FieldLemmas.{at_place}
use Rattle.data_rows.proofs.csv_rows.text_at.Goals as goal

pub returns-in-Some : goal.returns-in-Some
returns-in-Some c = ap (λ found. unwrap_or found []) (c.in-Some.ensures.value ∙ at_place (fields_of c.args.fields.now) c.args.at)

pub returns-in-None : goal.returns-in-None
returns-in-None c = ap (λ found. unwrap_or found []) (c.in-None.ensures.value ∙ at_place (fields_of c.args.fields.now) c.args.at)
