use Rattle.std.proofs.Common.{◌≡◌, drop}
use Rattle.std.specs.List.{flat_map}
use Rattle.param_flow.specs.Change.{names_of_entry}
use Rattle.plain_engine.specs.inner.Mentions.{are_params}
use Rattle.plain_engine.proofs.mentions.are_entries_known.Given as goal

abbrev pub invariant-loop-entry : goal.invariant-loop-entry
invariant-loop-entry l =
    are_params l.params (flat_map names_of_entry (drop l.entry-index l.entries)) ≡ are_params l.params (flat_map names_of_entry l.entries)
