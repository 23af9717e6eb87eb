use Rattle.compiled_rows.proofs.NestedLemmas.{panels_stay_covered}
use Rattle.compiled_rows.proofs.part_laws.panels_stay_covered.Goals as goal

pub returns : goal.returns
returns c = panels_stay_covered
