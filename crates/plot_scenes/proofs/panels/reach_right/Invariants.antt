use Rattle.std.proofs.Common.{◌≡◌, drop}
use Rattle.std.specs.Prelude.{fold}
use Rattle.plot_scenes.specs.Panels.{farther_right, reach_right}
use Rattle.plot_scenes.proofs.panels.reach_right.Given as goal

abbrev pub invariant-loop-panel : goal.invariant-loop-panel
invariant-loop-panel l = fold farther_right l.most (drop l.panel-index l.panels) ≡ reach_right l.fn.far l.panels
