use Rattle.std.proofs.Common.{◌≡◌, ◌++◌, ℕ, List, drop}
use Rattle.std.specs.List.{list_any}
use Rattle.std.specs.Str.{bytes_eq}
use Rattle.std.specs.BTreeSet.{contains_text}
use Rattle.guide_infer.specs.Once.{once_behind, each_once}
use Rattle.guide_infer.proofs.once.each_once.Given as goal

abbrev pub invariant-loop-name : goal.invariant-loop-name
invariant-loop-name l =
    ((q : List ℕ) → contains_text l.set q ≡ list_any (bytes_eq q) l.out)
    × (l.out ++ once_behind l.out (drop l.name-index l.names) ≡ each_once l.names)
