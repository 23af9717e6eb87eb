use Rattle.std.proofs.Common.{◌≡◌, ◌<◌, List, [], ◌∷◌, map, take, length, unwrap_or, ap, arith}
use Rattle.cell_value.specs.declared.cell.Cell.{Cell}
use Rattle.cell_value.specs.Cell.{same_cells}
use Rattle.plain_groups.specs.inner.Places.{first_place}
use Rattle.plain_groups.proofs.PlaceLemmas.{places_more, leads_found, first_here, not_first, lone_keys}
use Rattle.plain_groups.proofs.aggregates.different.Goals as goal
use Rattle.plain_groups.proofs.aggregates.different.Goals.{then-branch-at, else-branch-at}

pub loop-at-preserved : goal.loop-at-preserved
loop-at-preserved c =
    let cells = c.args.cells.now in
    let at = c.loop-at.at in
    let cell = c.index-cells-at.result in
    let f : Cell → List Cell = λ cell. cell ∷ [] in
    let below : at < length cells = c.loop-at-test.true in
    let is = c.index-cells-at.is in
    let place : c.in_ok-leader.field-0 ≡ unwrap_or (first_place (map f (take at cells)) (f cell)) at =
    leads_found cells at cell below is f c.in_ok-lone.field-0.items _ c.in_ok-leader.field-0 c.in_ok-lone.ensures
    (c.loop-at.invariant.places c.in_ok-lone.field-0) c.in_ok-leader.ensures.place in
    record {
      counted =
          elim c.if-branch-at.branch [
            | then-branch-at w ↦ omega (
              arith,
              ap length (first_here cells at cell below is f same_cells lone_keys c.in_ok-leader.field-0 place w.if-branch-at.true),
              c.loop-at.invariant.counted,
              w.n-is,
            )
            | else-branch-at w ↦ omega (
              arith,
              ap length (not_first cells at cell below is f same_cells lone_keys c.in_ok-leader.field-0 place w.if-branch-at.false),
              c.loop-at.invariant.counted,
              w.n-is,
            )
          ];
      few = elim c.if-branch-at.branch [
        | then-branch-at w ↦ omega (arith, c.loop-at.invariant.few, w.n-is)
        | else-branch-at w ↦ omega (arith, c.loop-at.invariant.few, w.n-is)
      ];
      places = λ q. places_more cells at cell below is f q.items _ _ c.in_ok-lone.field-0.items
          c.in_ok-lone.ensures (c.loop-at.invariant.places q) (c.in_ok-leader.ensures.places q);
    }
