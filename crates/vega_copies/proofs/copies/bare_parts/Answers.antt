use Rattle.std.proofs.Common.{◌<◌, [], ◌∷◌, ◌++◌, length, get_or, ap, ◌∙◌, arith}
use Rattle.vega_copies.specs.inner.Copied.{rows_named}
use Rattle.vega_copies.specs.inner.Counted.{bare_named}
use Rattle.vega_copies.proofs.CopyLemmas.{pair_more, pairs_ended, there}
use Rattle.vega_copies.proofs.copies.bare_parts.Goals as goal

pub loop-at-preserved : goal.loop-at-preserved
loop-at-preserved c =
    let all = c.min-at-end.ensures in
    let some = c.loop-at-test.true in
    let lists = c.args.lists.now in
    let within : c.loop-at.at < length lists = grind (arith, all, some) in
    let list = get_or lists c.loop-at.at [] in
    pair_more bare_named c.args.names.now lists c.loop-at.at c.index-names-at.result list c.loop-at.parts _ _
    (grind (arith, all, some)) within c.index-names-at.is (there lists c.loop-at.at [] list within)
    (c.in_ok-push_named.ensures ∙ ap (λ rows. c.loop-at.parts ++ rows_named c.index-names-at.result rows ∷ []) c.new.ensures) c.loop-at.invariant

pub returns : goal.returns
returns c =
    let all = c.min-at-end.ensures in
    let over = c.loop-at-test.false in
    pairs_ended bare_named c.args.names.now c.args.lists.now c.loop-at.at c.loop-at.parts _ (grind (arith, all, over)) c.loop-at.invariant
