use Rattle.std.proofs.Common.{◌≡◌, ◌+◌, ◌++◌, ◌∷◌, [], drop, ap, ◌∙◌}
use Rattle.csv.specs.Records.{fields_of}
use Rattle.data_rows.specs.Parse.{kind_of}
use Rattle.data_rows.specs.CsvRows.{columns_of}
use Rattle.data_rows.proofs.FieldLemmas.{one_made}
use Rattle.data_rows.proofs.header.columns_of.Goals as goal

pub loop-i-preserved : goal.loop-i-preserved
loop-i-preserved c =
    let parse = c.args.kinds.now.parse.now in
    let names = fields_of c.args.header.now in
    let name = c.field_in-name.result.now in
    let pushed : c.push.new.self ≡ c.loop-i.columns ++ (name, kind_of parse name) ∷ [] = cc (c.in_ok-push.ensures.ok, c.in_ok-of.ensures, c.of_field.ensures) in
    ap (λ l. l ++ columns_of parse (drop (c.loop-i.i + 1) names)) pushed
    ∙ one_made (λ name. (name, kind_of parse name)) names c.loop-i.i name c.loop-i.columns (columns_of parse names) c.field_in-name.ensures c.loop-i.invariant
