use Rattle.std.proofs.Common.{take, Ok, ◌++◌}
use Rattle.std.specs.Prelude.{codes}
use Rattle.std.specs.List.{flat_map}
use Rattle.chart_io.specs.declared.writing.WriteFault.{WriteFault}
use Rattle.svg_text.specs.inner.Printing.{Prints}
use Rattle.svg_text.specs.SceneText.{point_text}
use Rattle.svg_text.proofs.shapes.put_next_points.Given as goal

abbrev pub invariant-loop-point : goal.invariant-loop-point
invariant-loop-point g l = Prints {T = Unit {0}} {E = WriteFault} g.K.Sink.faults g.K.Sink.held l.initial.out l.initial.page l.out l.page
    (Ok tt) (flat_map (λ p. codes " " ++ point_text p) (take l.point-index l.points))
