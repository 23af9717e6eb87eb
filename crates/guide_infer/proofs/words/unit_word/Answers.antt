use Rattle.std.proofs.Common.{◌∙◌}
use Rattle.guide_infer.specs.Words.{unit_word}
use Rattle.guide_infer.proofs.TableNames.{name_at_place}
use Rattle.guide_infer.proofs.words.unit_word.Goals as goal

pub returns : goal.returns
unfolding unit_word
returns c = c.name_in.ensures ∙ search name_at_place
