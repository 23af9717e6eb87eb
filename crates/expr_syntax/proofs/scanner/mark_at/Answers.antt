use Rattle.std.proofs.Common.{ap, sym, subst, length, Some, ◌≡◌}
use Rattle.std.specs.Str.{IsCharBoundary}
use Rattle.expr_syntax.specs.inner.Scanner.{mark_at}
use Rattle.expr_syntax.proofs.Marks.{cut_behind_mark}
use Rattle.expr_syntax.proofs.scanner.mark_at.Goals as goal

pub split_at-requires : goal.split_at-requires
split_at-requires c =
    let found : mark_at c.args.text.now ≡ Some c.in-Some.mark = cc in
    subst (IsCharBoundary c.args.text.now) (sym (ap length c.text.ensures))
    (cut_behind_mark c.args.text.now c.in-Some.mark c.utf8.text found)
