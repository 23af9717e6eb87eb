use Rattle.std.proofs.Common.{◌∙◌, ap, sym, option_map}
use Rattle.std.proofs.lemmas.Option.{slice_get-map}
use Rattle.case_table.specs.TimeUnits.{rule_of}
use Rattle.case_table.proofs.time_units.rule_in.Goals as goal

pub returns : goal.returns
returns c = ap (option_map rule_of) c.row_at.ensures ∙ sym (slice_get-map rule_of c.args.table.now c.args.place)
