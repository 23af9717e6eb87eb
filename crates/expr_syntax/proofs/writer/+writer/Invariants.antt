use Rattle.std.proofs.Common.{◌≡◌, ◌∷◌, ◌++◌, take}
use Rattle.std.specs.Prelude.{flat_map}
use Rattle.expr_syntax.specs.declared.token.Token.TheVariants.{Mark}
use Rattle.expr_syntax.specs.declared.token.Mark.TheVariants as mark
use Rattle.expr_syntax.specs.Writing.{written, as_part}
use Rattle.expr_syntax.proofs.writer.+writer.Given as goal

abbrev pub invariant-push_arguments-loop-argument : goal.invariant-push_arguments-loop-argument
invariant-push_arguments-loop-argument l =
    l.out ≡ l.initial.out ++ flat_map (λ e. Mark mark.Comma ∷ as_part (written e)) (take l.argument-index l.others)
