use Rattle.std.proofs.Common.{◌≡◌, ◌++◌}
use Rattle.std.specs.Option.{option_map}
use Rattle.guide_kit.specs.Ticks.{tick_of, each_that_has}
use Rattle.guide_kit.proofs.EachLemmas.{each_from}
use Rattle.guide_kit.proofs.ticks.ticks_of.Given as goal

abbrev pub invariant-loop-cell : goal.invariant-loop-cell
invariant-loop-cell l =
    let tick = tick_of l.s l.shows l.format in
    each_that_has tick l.cells ≡ option_map (λ all. l.ticks ++ all) (each_from _ _ tick l.cells l.cell-index)
