use Rattle.std.proofs.Common.{rules, ◌≡◌, ◌++◌, [], ◌∷◌, length, ap, sym, ◌∙◌, arith}
use Rattle.std.proofs.lemmas.List.{length-append}
use Rattle.domain_kit.proofs.CellLemmas.{placed_all, placed_all-push, placed_all-ascending, insert_key-placed}
use Rattle.domain_kit.proofs.cells.set_of.Goals as goal

pub loop-cell-init : goal.loop-cell-init
loop-cell-init c = ap (placed_all c.args.cells) c.new-found.ensures.empty ∙ placed_all-ascending c.args.cells

pub loop-cell-preserved : goal.loop-cell-preserved
loop-cell-preserved c =
    let popped : c.loop-cell.left ≡ c.pop.new.self ++ c.in-Some.cell ∷ [] = search rules in
    ap (placed_all c.pop.new.self) (c.in_ok-insert.ensures.keys ∙ insert_key-placed c.loop-cell.found.keys c.in-Some.cell)
    ∙ sym (placed_all-push c.pop.new.self c.in-Some.cell c.loop-cell.found.keys)
    ∙ ap (λ l. placed_all l c.loop-cell.found.keys) (sym popped)
    ∙ c.loop-cell.invariant

pub loop-cell-smaller : goal.loop-cell-smaller
loop-cell-smaller c =
    let popped : c.loop-cell.left ≡ c.pop.new.self ++ c.in-Some.cell ∷ [] = search rules in
    omega (arith, simp length-append at (ap length popped))

pub returns : goal.returns
returns c =
    let none : c.loop-cell.left ≡ [] = search rules in
    ap (λ l. placed_all l c.loop-cell.found.keys) (sym none) ∙ c.loop-cell.invariant
