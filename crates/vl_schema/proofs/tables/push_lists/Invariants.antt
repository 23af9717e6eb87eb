use Rattle.std.proofs.Common.{◌≡◌, ◌++◌, take, map}
use Rattle.vl_schema.proofs.tables.push_lists.Given as goal

abbrev pub invariant-loop-names : goal.invariant-loop-names
invariant-loop-names l = l.out ≡ l.fn.out ++ map (λ names. map (λ name. name.now) names.now) (take l.names-index l.lists)
