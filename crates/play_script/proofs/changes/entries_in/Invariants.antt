use Rattle.std.proofs.Common.{◌≡◌, drop, map}
use Rattle.fixed_num.specs.Ranges.{all_found}
use Rattle.param_flow.specs.Commands.{modify_in}
use Rattle.play_script.specs.inner.Reading.{script_expression}
use Rattle.fixed_num.proofs.FoundLemmas.{after}
use Rattle.play_script.proofs.changes.entries_in.Given as goal

abbrev pub invariant-loop-entry : goal.invariant-loop-entry
invariant-loop-entry l =
    after l.out (all_found (map (modify_in script_expression) (drop l.entry-index l.entries)))
    ≡ all_found (map (modify_in script_expression) l.entries)
