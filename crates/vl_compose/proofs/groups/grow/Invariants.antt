use Rattle.std.proofs.Common.{◌≡◌, ℕ, ◌+◌, ◌-◌, length}
use Rattle.vl_compose.specs.inner.Rows.{row_at}
use Rattle.vl_compose.proofs.groups.grow.Given as goal

abbrev pub invariant-loop-alloc : goal.invariant-loop-alloc
invariant-loop-alloc l = (h : ℕ) → row_at l.rows.items h ≡ row_at l.fn.rows.items h

abbrev pub decreases-loop-alloc : goal.decreases-loop-alloc
decreases-loop-alloc l = (l.home + 1) - length l.rows.items
