use Rattle.std.proofs.Common.{◌≡◌, map, drop}
use Rattle.fixed_num.specs.Ranges.{all_found}
use Rattle.fixed_num.proofs.FoundLemmas.{after}
use Rattle.plot_scenes.specs.Legends.{block_shown}
use Rattle.plot_scenes.proofs.legends.blocks_in.Given as goal

abbrev pub invariant-loop-shown : goal.invariant-loop-shown
invariant-loop-shown l =
    all_found (map block_shown l.legends) ≡ after l.blocks (all_found (map block_shown (drop l.shown-index l.legends)))
