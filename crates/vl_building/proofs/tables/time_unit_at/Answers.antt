use Rattle.vl_building.specs.Names.{time_unit_named}
use Rattle.vl_building.proofs.Lookups.{named_found}
use Rattle.vl_building.proofs.tables.time_unit_at.Goals as goal

pub returns : goal.returns
returns c =
    named_found time_unit_named c.args.members.now c.args.name.now _ _ _ c.in_ok-word_at.ensures c.as_str.ensures c.time_unit_of.ensures
