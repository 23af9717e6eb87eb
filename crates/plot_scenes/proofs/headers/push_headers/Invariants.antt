use Rattle.std.proofs.Common.{◌≡◌, ◌++◌, drop}
use Rattle.plot_scenes.specs.Headers.{header_items}
use Rattle.plot_scenes.proofs.headers.push_headers.Given as goal

abbrev pub invariant-loop-header : goal.invariant-loop-header
invariant-loop-header l =
    l.items ++ header_items l.size.0 l.size.1 l.around (drop l.header-index l.headers)
    ≡ l.fn.items ++ header_items l.size.0 l.size.1 l.extents l.headers
