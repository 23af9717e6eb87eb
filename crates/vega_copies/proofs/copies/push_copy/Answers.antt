use Rattle.std.proofs.Common.{[], ◌∷◌, ◌++◌, map, ap, ◌∙◌}
use Rattle.std.proofs.lemmas.List.{map-append}
use Rattle.std.proofs.lemmas.Result.{on_ok_weaker}
use Rattle.vega_copies.specs.inner.Copied.{copy_seen}
use Rattle.vega_copies.proofs.copies.push_copy.Goals as goal

pub returns : goal.returns
returns c =
    on_ok_weaker c.push.result
    (λ e. ap (map copy_seen) e
    ∙ map-append copy_seen c.args.copies.now (c.in_ok-copy_at.field-0 ∷ [])
    ∙ ap (λ copy. map copy_seen c.args.copies.now ++ copy ∷ []) c.in_ok-copy_at.ensures)
    c.push.ensures.ok
