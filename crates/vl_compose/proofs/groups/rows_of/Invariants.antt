use Rattle.std.proofs.Common.{◌≡◌, ℕ, take}
use Rattle.vl_compose.specs.Sharing.{sharing_at}
use Rattle.vl_compose.specs.inner.Rows.{row_at}
use Rattle.vl_compose.proofs.groups.rows_of.Given as goal

abbrev pub invariant-loop-unit : goal.invariant-loop-unit
invariant-loop-unit l = (h : ℕ) → row_at l.rows.items h ≡ sharing_at (take l.unit-index l.all) h
