use Rattle.compiled_rows.proofs.MentionLemmas.{mentioned_are_outside}
use Rattle.compiled_rows.proofs.part_laws.mentioned_are_outside.Goals as goal

pub returns : goal.returns
returns c = mentioned_are_outside
