use Rattle.std.proofs.Common.{ap, sym, ◌++◌, arith}
use Rattle.std.proofs.lemmas.Result.{IfOk-equal}
use Rattle.json_exact.proofs.Written.{char_kept}
use Rattle.json_exact.proofs.writing.push_char.Goals as goal

pub returns-in_default-2 : goal.returns-in_default-2
returns-in_default-2 c =
    IfOk-equal _ _ _ _ c.push_plain.ensures
    (ap (λ text. c.args.out.now ++ text) (sym (char_kept c.args.c (omega arith) (λ e. omega arith) (λ e. omega arith))))
