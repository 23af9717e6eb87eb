use Rattle.std.proofs.Common.{inl, inr}
use Rattle.vega_drawing.proofs.HeaderLemmas.{headers_ended}
use Rattle.vega_drawing.proofs.headers.push_headers_at.Goals as goal

pub returns : goal.returns
returns c =
    elim c.in-None.ensures.steps [
      | inl places ↦ headers_ended _ _ _ c.loop-drawn.drawn-iterator.a.rest.now c.loop-drawn.drawn-iterator.b.rest.now (inl places.1.0) c.loop-drawn.invariant
      | inr cells ↦ headers_ended _ _ _ c.loop-drawn.drawn-iterator.a.rest.now c.loop-drawn.drawn-iterator.b.rest.now (inr cells.1.0) c.loop-drawn.invariant
    ]
