use Rattle.std.proofs.Common.{ap, sym, ◌++◌, arith}
use Rattle.std.proofs.lemmas.Result.{IfOk-equal}
use Rattle.spec_schema.proofs.PathTexts.{char_kept}
use Rattle.spec_schema.proofs.fault.push_char.Goals as goal

pub returns-in_default : goal.returns-in_default
returns-in_default c =
    IfOk-equal _ _ _ _ c.push_plain.ensures
    (ap (λ text. c.args.out.now ++ text) (sym (char_kept c.args.c (λ e. omega arith) (λ e. omega arith))))
