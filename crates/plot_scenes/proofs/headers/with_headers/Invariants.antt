use Rattle.std.proofs.Common.{◌≡◌, drop}
use Rattle.plot_scenes.specs.Headers.{with_headers}
use Rattle.plot_scenes.proofs.headers.with_headers.Given as goal

abbrev pub invariant-loop-header : goal.invariant-loop-header
invariant-loop-header l = with_headers l.around (drop l.header-index l.headers) ≡ with_headers l.extents l.headers
