use Rattle.std.proofs.Common.{ℕ, List, take, drop, ap, sym, subst, ◌∙◌, false}
use Rattle.fixed_num.specs.JsonNumber.{Reads}
use Rattle.std.specs.Str.{IsCharBoundary}
use Rattle.expr_syntax.specs.inner.Scanner.{number_len}
use Rattle.expr_syntax.proofs.Numbers.{cut_behind_number, word_ok, word_fault, is_number, no_number}
use Rattle.expr_syntax.proofs.scanner.number_at.Goals as goal

pub split_at-requires : goal.split_at-requires
split_at-requires c =
    subst (IsCharBoundary c.args.text.now) (sym (c.number_len.ensures ∙ ap (number_len false) c.as_bytes.ensures.value))
    (cut_behind_number c.args.text.now c.utf8.text)

pub returns-in-Ok : goal.returns-in-Ok
returns-in-Ok c =
    let len = c.number_len.ensures ∙ ap (number_len false) c.as_bytes.ensures.value in
    let word = c.as_bytes-2.ensures.value ∙ c.split_at.ensures.front ∙ ap (λ (n : ℕ). take n c.args.text.now) len in
    let rest = c.split_at.ensures.back ∙ ap (λ (n : ℕ). drop n c.args.text.now) len in
    let reads = subst (λ (w : List ℕ). Reads w c.in-Ok.number) word c.in-Ok.ensures.number in
    let fits =
    is_number c.in-Ok.number (λ out. let far = c.in-Ok.ensures.range.1 (c.in-Ok.number, c.in-Ok.ensures.number, out) in absurd cc) in
    rw rest (word_ok c.args.text.now c.in-Ok.number reads fits)

pub returns-in-Err : goal.returns-in-Err
returns-in-Err c =
    let len = c.number_len.ensures ∙ ap (number_len false) c.as_bytes.ensures.value in
    let word = c.as_bytes-2.ensures.value ∙ c.split_at.ensures.front ∙ ap (λ (n : ℕ). take n c.args.text.now) len in
    word_fault c.args.text.now
    (λ m reads fits.
    no_number c.as_bytes-2.result.now c.in-Err.field-0 c.in-Err.ensures.shape.0 c.in-Err.ensures.range.0 m
    (subst (λ (w : List ℕ). Reads w m) (sym word) reads) fits)
