use Rattle.std.proofs.Common.{ap, ◌∙◌}
use Rattle.std.specs.Ordering.{nat_cmp}
use Rattle.std.specs.Cmp.Lexicographic.{slice_cmp}
use Rattle.std.specs.FinMap.{entries, from_sorted, entries-from_sorted}
use Rattle.cell_value.proofs.row.Row.from_sorted.Goals as goal

pub returns-clause-entries : goal.returns-clause-entries
returns-clause-entries c =
    ap (λ v. entries {R = slice_cmp nat_cmp} (from_sorted v.items)) c.in_ok-new.ensures.ok
    ∙ entries-from_sorted (slice_cmp nat_cmp) c.args.entries.items c.requires
