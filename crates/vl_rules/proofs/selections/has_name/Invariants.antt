use Rattle.std.proofs.Common.{◌≡◌, drop}
use Rattle.std.specs.List.{list_any}
use Rattle.std.specs.Str.{bytes_eq}
use Rattle.vl_rules.proofs.selections.has_name.Given as goal

abbrev pub invariant-loop-n : goal.invariant-loop-n
invariant-loop-n l = list_any (λ n. bytes_eq n l.name) (drop l.n-index l.names) ≡ list_any (λ n. bytes_eq n l.name) l.names
