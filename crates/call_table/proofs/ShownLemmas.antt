-- One row more behind a reference.
use Rattle.std.proofs.Common.{◌≡◌, ◌≤◌, List, [], ◌∷◌, ◌++◌, subst, sym, arith, lit≤}
use Rattle.std.specs.Borrow.{Bor}
use Rattle.std.proofs.lemmas.List.Elements.{All-push}
use Rattle.cell_value.specs.declared.state.Keyed.{Keyed}
use Rattle.cell_value.specs.State.{greatest_id}
use Rattle.plain_facets.specs.Rows.{HaveIds}

pub one_row_more : (shown new : List (Bor Keyed)) (row : Bor Keyed) → HaveIds shown → row.now.key.id ≤ 100000 → new ≡ shown ++ row ∷ [] → HaveIds new
one_row_more shown new row have small e =
    let most : 100000 ≤ greatest_id = lit≤ tt in
    subst HaveIds (sym e) (All-push (λ (r : Bor Keyed). r.now.key.id ≤ greatest_id) shown row have (omega (arith, small, most)))
