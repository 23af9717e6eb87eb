use Rattle.std.proofs.Common.{◌≡◌, ℕ, [], ◌∷◌, ◌++◌, map, ap, ◌∙◌}
use Rattle.std.proofs.lemmas.List.{map-append}
use Rattle.cell_value.specs.Datum.{Datum, datum_of}
use Rattle.plain_engine.specs.inner.Rows.{seen}
use Rattle.plain_engine.proofs.rows.push_row.Goals as goal

pub returns : goal.returns
returns c =
    let same : seen c.in_ok-drawn.drawn ≡ (c.args.unit, datum_of c.args.row.now) = λ i. (c.in_ok-drawn.ensures.unit i, c.in_ok-drawn.ensures.row i) in
    ap (map seen) c.in_ok-push.ensures.ok
    ∙ map-append seen c.args.out.now (c.in_ok-drawn.drawn ∷ [])
    ∙ ap (λ (entry : ℕ × Datum). map seen c.args.out.now ++ entry ∷ []) same
