use Rattle.std.proofs.Common.{◌≡◌, drop}
use Rattle.std.specs.Prelude.{fold}
use Rattle.plot_scenes.specs.Panels.{farther_down, reach_down}
use Rattle.plot_scenes.proofs.panels.reach_down.Given as goal

abbrev pub invariant-loop-panel : goal.invariant-loop-panel
invariant-loop-panel l = fold farther_down l.most (drop l.panel-index l.panels) ≡ reach_down l.fn.far l.panels
