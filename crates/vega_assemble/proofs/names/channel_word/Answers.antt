use Rattle.std.proofs.Common.{◌∙◌}
use Rattle.vega_assemble.proofs.TableNames.{name_at_place}
use Rattle.vega_assemble.proofs.names.channel_word.Goals as goal

pub returns : goal.returns
returns c = c.name_in.ensures ∙ search name_at_place
