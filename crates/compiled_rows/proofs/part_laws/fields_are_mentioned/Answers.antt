use Rattle.compiled_rows.proofs.MentionLemmas.{fields_are_mentioned}
use Rattle.compiled_rows.proofs.part_laws.fields_are_mentioned.Goals as goal

pub returns : goal.returns
returns c = fields_are_mentioned
