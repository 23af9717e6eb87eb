use Rattle.std.proofs.Common.{◌≡◌, ◌∙◌, [], ◌∷◌, ap, ◌++◌, set, take, unsigned_abs, arith}
use Rattle.std.proofs.lemmas.Int.{ints}
use Rattle.std.proofs.lemmas.List.{take_more_set}
use Rattle.fixed_num.specs.Decimal.{size_spelling}
use Rattle.fixed_num.proofs.SpellingLemmas.{spelling_below_zero, spelling_from_zero}
use Rattle.fixed_num.proofs.num.Num.write_decimal.Goals as goal

pub returns-then-count-lt0-clause-spelled : goal.returns-then-count-lt0-clause-spelled
returns-then-count-lt0-clause-spelled c =
    let size : c.unsigned_abs.result ≡ unsigned_abs c.args.self =
    omega (arith, ints, c.unsigned_abs.ensures.value, c.millionths-count.ensures.value) in
    let sign : take 1 (set c.args.buf.now 0 45) ≡ 45 ∷ [] = take_more_set c.args.buf.now 0 45 (omega arith) in
    c.put_size.ensures.written ∙ ap (λ x. x ++ size_spelling c.unsigned_abs.result) sign ∙ ap (λ n. 45 ∷ size_spelling n) size
    ∙ spelling_below_zero c.args.self (omega (arith, ints))

pub returns-else-count-lt0-clause-spelled : goal.returns-else-count-lt0-clause-spelled
returns-else-count-lt0-clause-spelled c =
    let size : c.unsigned_abs-else-count-lt0.result ≡ unsigned_abs c.args.self =
    omega (arith, ints, c.unsigned_abs-else-count-lt0.ensures.value, c.millionths-count.ensures.value) in
    c.put_size-else-count-lt0.ensures.written ∙ ap size_spelling size ∙ spelling_from_zero c.args.self (omega (arith, ints))
