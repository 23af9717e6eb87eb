use Rattle.std.proofs.Common.{rules, ◌≡◌, ◌++◌, [], ◌∷◌, length, ap, sym, ◌∙◌, arith}
use Rattle.std.proofs.lemmas.List.{length-append}
use Rattle.plain_facets.proofs.OrderLemmas.{placed_all, placed_all-push, placed_all-ascending, insert_key-placed}
use Rattle.plain_facets.proofs.sets.in_order.Goals as goal

pub loop-item-init : goal.loop-item-init
loop-item-init g c = ap (placed_all g.T.Ord.cmp c.args.items.items) c.new-found.ensures.empty ∙ placed_all-ascending g.T.Ord.cmp c.args.items.items

pub loop-item-preserved : goal.loop-item-preserved
loop-item-preserved g c =
    let popped : c.loop-item.left.items ≡ c.pop.new.self.items ++ c.in-Some.item ∷ [] = search rules in
    ap (placed_all g.T.Ord.cmp c.pop.new.self.items) (c.in_ok-insert.ensures.keys ∙ insert_key-placed g.T.Ord.cmp c.loop-item.found.keys c.in-Some.item)
    ∙ sym (placed_all-push g.T.Ord.cmp c.pop.new.self.items c.in-Some.item c.loop-item.found.keys)
    ∙ ap (λ l. placed_all g.T.Ord.cmp l c.loop-item.found.keys) (sym popped)
    ∙ c.loop-item.invariant

pub loop-item-smaller : goal.loop-item-smaller
loop-item-smaller g c =
    let popped : c.loop-item.left.items ≡ c.pop.new.self.items ++ c.in-Some.item ∷ [] = search rules in
    omega (arith, simp length-append at (ap length popped))
