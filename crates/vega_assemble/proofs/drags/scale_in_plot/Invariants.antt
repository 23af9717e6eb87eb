use Rattle.std.proofs.Common.{◌≡◌, drop}
use Rattle.std.specs.Prelude.{find, option_map}
use Rattle.vega_assemble.specs.Drags.{is_drag_in, scale_of}
use Rattle.vega_assemble.proofs.drags.scale_in_plot.Given as goal

abbrev pub invariant-loop-drag : goal.invariant-loop-drag
invariant-loop-drag l =
    option_map scale_of (find (is_drag_in l.plot l.channel) (drop l.drag-index l.s.drags)) ≡ option_map scale_of (find (is_drag_in l.plot l.channel) l.s.drags)
