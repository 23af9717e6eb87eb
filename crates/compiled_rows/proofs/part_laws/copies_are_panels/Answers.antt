use Rattle.compiled_rows.proofs.PanelLemmas.{copies_are_panels}
use Rattle.compiled_rows.proofs.part_laws.copies_are_panels.Goals as goal

pub returns : goal.returns
returns c = copies_are_panels
