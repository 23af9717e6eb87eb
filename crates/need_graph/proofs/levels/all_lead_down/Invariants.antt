use Rattle.std.proofs.Common.{◌≡◌, ℕ, true, length, Some}
use Rattle.std.specs.Prelude.{slice_get}
use Rattle.need_graph.specs.inner.Levels.{LeadsDown}
use Rattle.need_graph.proofs.levels.all_lead_down.Given as goal

abbrev pub invariant-loop-v : goal.invariant-loop-v
invariant-loop-v l = record {
  size : length l.flags ≡ l.v;
  down : (u : ℕ) → slice_get l.flags u ≡ Some true → LeadsDown l.levels l.needs u;
}
