use Rattle.std.proofs.Common.{◌≡◌, drop}
use Rattle.std.specs.List.{list_all}
use Rattle.std.specs.BTreeSet.{contains_text}
use Rattle.vega_parts.proofs.updates.all_in.Given as goal

abbrev pub invariant-loop-field : goal.invariant-loop-field
invariant-loop-field l = list_all (contains_text l.set) (drop l.field-index l.fields) ≡ list_all (contains_text l.set) l.fields
