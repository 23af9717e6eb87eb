use Rattle.std.proofs.Common.{[], ◌∷◌, ◌++◌, ap, ◌∙◌}
use Rattle.std.proofs.lemmas.Result.{on_ok_weaker}
use Rattle.vega_copies.specs.inner.Copied.{rows_named}
use Rattle.vega_copies.proofs.copies.push_part.Goals as goal

pub returns : goal.returns
returns c =
    on_ok_weaker c.push_named.result
    (λ e. e ∙ ap (λ rows. c.args.parts.now ++ rows_named c.args.name.now rows ∷ []) c.in_ok-rows_copied.ensures)
    c.push_named.ensures
