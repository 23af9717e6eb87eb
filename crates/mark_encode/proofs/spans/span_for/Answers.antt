use Rattle.std.proofs.Common.{◌∙◌, sym}
use Rattle.mark_shapes.specs.Spans.{span_of}
use Rattle.mark_encode.proofs.ShapeLemmas.{four_then}
use Rattle.mark_encode.proofs.spans.span_for.Goals as goal

pub returns-in-Some : goal.returns-in-Some
returns-in-Some g c =
    four_then span_of _ _ _ _ _ _ _ _ c.in_ok-near.ensures c.in_ok-far.ensures c.in_ok-middle.ensures c.in_ok-size.ensures
    ∙ sym c.span_of.ensures ∙ c.in-Some.is
