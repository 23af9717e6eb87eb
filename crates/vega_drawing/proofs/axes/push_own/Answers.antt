use Rattle.std.proofs.Common.{map, sym}
use Rattle.vega_drawing.specs.inner.Kept.{scale_seen}
use Rattle.vega_drawing.proofs.KeptLemmas.{named_kept}
use Rattle.vega_drawing.proofs.axes.push_own.Goals as goal

pub push_shown-requires-clause-kept : goal.push_shown-requires-clause-kept
push_shown-requires-clause-kept c =
    named_kept (map scale_seen c.args.scales.now) c.as_str.result.now (scale_seen c.in-Some.scale.now) c.requires.kept (sym c.in-Some.ensures)
