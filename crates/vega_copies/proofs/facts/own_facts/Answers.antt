use Rattle.std.proofs.Common.{sym, ◌∙◌}
use Rattle.vega_spec.specs.declared.spec.Group.{out-Group}
use Rattle.vega_copies.specs.Outlines.{object_here}
use Rattle.vega_copies.specs.inner.Levels.{names_at}
use Rattle.vega_copies.proofs.FactsLemmas.{lacking_own}
use Rattle.vega_copies.proofs.facts.own_facts.Goals as goal

pub returns-else-keeps_own-clause-stops : goal.returns-else-keeps_own-clause-stops
returns-else-keeps_own-clause-stops c =
    lacking_own c.args.cells.now (object_here (out-Group c.args.group.now))
    (names_at c.args.names.now.stores.now c.args.names.now.sources.now c.args.names.now.levels.now)
    (sym c.keeps_own.ensures ∙ c.if-keeps_own.false)
