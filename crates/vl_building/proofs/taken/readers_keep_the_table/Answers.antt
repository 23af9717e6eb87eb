use Rattle.vl_building.proofs.TakenValues.{values_kept}
use Rattle.vl_building.proofs.TakenNumbers.{numbers_kept}
use Rattle.vl_building.proofs.TakenNames.{names_kept, codes_kept}
use Rattle.vl_building.proofs.TakenObjects.{objects_kept}
use Rattle.vl_building.proofs.taken.readers_keep_the_table.Goals as goal

pub returns-clause-values : goal.returns-clause-values
returns-clause-values c = values_kept

pub returns-clause-numbers : goal.returns-clause-numbers
returns-clause-numbers c = numbers_kept

pub returns-clause-names : goal.returns-clause-names
returns-clause-names c = names_kept

pub returns-clause-codes : goal.returns-clause-codes
returns-clause-codes c = codes_kept

pub returns-clause-objects : goal.returns-clause-objects
returns-clause-objects c = objects_kept
