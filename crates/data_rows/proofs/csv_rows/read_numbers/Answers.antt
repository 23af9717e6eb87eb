use Rattle.std.proofs.Common.{◌≡◌, ◌+◌, ◌++◌, ◌∷◌, [], drop, map, ap, ◌∙◌}
use Rattle.csv.specs.Records.{fields_of}
use Rattle.data_rows.specs.Parse.{number_of}
use Rattle.data_rows.proofs.FieldLemmas.{one_made}
use Rattle.data_rows.proofs.csv_rows.read_numbers.Goals as goal

pub loop-i-preserved : goal.loop-i-preserved
loop-i-preserved c =
    let fields = fields_of c.args.fields.now in
    let text = c.field_in.result.now in
    let pushed : c.push.new.self ≡ c.loop-i.numbers ++ number_of text ∷ [] = cc (c.in_ok-push.ensures.ok, c.number_of.ensures) in
    ap (λ l. l ++ map number_of (drop (c.loop-i.i + 1) fields)) pushed
    ∙ one_made number_of fields c.loop-i.i text c.loop-i.numbers (map number_of fields) c.field_in.ensures c.loop-i.invariant
