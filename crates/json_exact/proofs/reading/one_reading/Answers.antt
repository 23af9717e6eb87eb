-- Both trees are what the one function of the bytes gives.
use Rattle.std.proofs.Common.{sym, ◌∙◌}
use Rattle.json_exact.proofs.Complete.{text_again-whole}
use Rattle.fixed_num.proofs.Steps.{ok_is}
use Rattle.json_exact.proofs.reading.one_reading.Goals as goal

pub returns : goal.returns
returns c = λ bytes s t r u. ok_is s t (sym (text_again-whole bytes s r) ∙ text_again-whole bytes t u)
