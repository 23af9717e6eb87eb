use Rattle.std.proofs.Common.{length, sym, subst}
use Rattle.plain_rows.specs.Rows.{AreRows}
use Rattle.vega_lists.specs.Held.{rows_there}
use Rattle.vega_lists.specs.inner.Places.{IsThere}
use Rattle.vega_lists.proofs.PlaceLemmas.{begun_there}
use Rattle.vega_lists.proofs.ListLemmas.{begun_are_rows}
use Rattle.vega_lists.proofs.lists.with_own.Goals as goal

pub with_transformed-requires-clause-rows : goal.with_transformed-requires-clause-rows
with_transformed-requires-clause-rows g c =
    subst (λ p. AreRows (rows_there c.args.sources.now c.args.lists.made p)) (sym c.begun_place-begun.ensures)
    (begun_are_rows c.args.sources.now c.args.given.now c.args.lists c.args.set.now c.requires.sources c.requires.given c.requires.lists)

pub with_transformed-requires-clause-there : goal.with_transformed-requires-clause-there
with_transformed-requires-clause-there g c =
    subst (IsThere (length c.args.lists.made)) (sym c.begun_place-begun.ensures)
    (begun_there c.args.sources.now c.args.given.now c.args.lists c.args.set.now c.requires.given c.requires.placed)
