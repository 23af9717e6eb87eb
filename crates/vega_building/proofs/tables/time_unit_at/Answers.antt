use Rattle.case_table.specs.Names.{index_of, time_units}
use Rattle.vega_building.proofs.Lookups.{named_found}
use Rattle.vega_building.proofs.tables.time_unit_at.Goals as goal

pub returns : goal.returns
returns c =
    named_found (index_of time_units) c.args.members.now c.args.name.now _ _ _ c.in_ok-word_at.ensures c.as_str.ensures c.time_unit_of.ensures
