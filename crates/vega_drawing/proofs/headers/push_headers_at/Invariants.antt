use Rattle.std.proofs.Common.{◌≡◌, ◌++◌, filter_map, zip}
use Rattle.vega_drawing.specs.Grids.{header_for}
use Rattle.vega_drawing.proofs.headers.push_headers_at.Given as goal

abbrev pub invariant-loop-drawn : goal.invariant-loop-drawn
invariant-loop-drawn l =
    l.out ++ filter_map (header_for l.place) (zip l.drawn-iterator.a.rest.now l.drawn-iterator.b.rest.now)
    ≡ l.initial.out ++ filter_map (header_for l.place) (zip l.places l.cells)
