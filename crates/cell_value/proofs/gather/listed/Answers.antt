use Rattle.std.proofs.Common.{◌≡◌, T, map, rules, arith, sym, subst}
use Rattle.std.proofs.lemmas.Grind.{common_steps}
use Rattle.std.specs.Ordering.{nat_cmp}
use Rattle.std.specs.Cmp.Lexicographic.{slice_cmp}
use Rattle.std.specs.FinMap.{is_sorted}
use Rattle.cell_value.specs.inner.Gather.{named}
use Rattle.cell_value.proofs.GatherLemmas.{named_sorted}
use Rattle.cell_value.proofs.gather.listed.Goals as goal

pub returns-clause-sorted : goal.returns-clause-sorted
returns-clause-sorted c =
    let items : c.loop-name.list.items ≡ map named c.args.cells.entries = first_of (search rules, grind (arith, common_steps)) in
    subst (λ l. T (is_sorted (slice_cmp nat_cmp) l)) (sym items) (named_sorted c.args.cells.entries c.len.ensures.ordered)
