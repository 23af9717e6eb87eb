use Rattle.std.proofs.Common.{[], map, sym, subst}
use Rattle.cell_value.specs.State.{dataset_of}
use Rattle.expr_eval.specs.Answers.{Evaluates}
use Rattle.expr_eval.specs.Stores.{values_of_stores}
use Rattle.vega_spec.specs.declared.spec.Group.{out-Group}
use Rattle.vega_copies.specs.inner.FactsMade.{lists_on, top_made}
use Rattle.vega_copies.specs.inner.FactsSeen.{copy_seen}
use Rattle.vega_copies.specs.inner.Levels.{names_at}
use Rattle.vega_copies.specs.inner.Outlined.{marks_in}
use Rattle.vega_copies.proofs.PathLemmas.{rows_on_paths}
use Rattle.vega_charts.proofs.TopLemmas.{top_kept, drawn_is, drawn_stops}
use Rattle.vega_charts.proofs.charts.drawing_of_made.Goals as goal

pub facts_of-requires-clause-object : goal.facts_of-requires-clause-object
facts_of-requires-clause-object c = top_kept c.args.g.now c.requires.kept

pub drawing_of_facts-requires-clause-rows : goal.drawing_of_facts-requires-clause-rows
drawing_of_facts-requires-clause-rows c = record {
  sources_are = c.requires.names.sources_are;
  on_paths = rows_on_paths c.args.names c.args.level.now (marks_in (out-Group c.args.g.now.group))
      c.args.made.now c.requires.level c.requires.names c.requires.marks;
}

pub returns-in-Ok : goal.returns-in-Ok
returns-in-Ok c =
    subst (Evaluates c.drawing_of_facts.result)
    (sym (drawn_is c.args.g.now (map dataset_of c.args.names.sources.now) (names_at c.args.names.stores.now c.args.names.sources.now c.args.names.levels.now)
    (copy_seen (lists_on c.args.names.sources.now (top_made c.args.level.now c.args.made.now)) c.in-Ok.facts
    [] (values_of_stores c.args.names.stores.now)) c.in-Ok.ensures.value))
    c.drawing_of_facts.ensures

pub returns-in-Err : goal.returns-in-Err
returns-in-Err c =
    drawn_stops c.args.g.now (map dataset_of c.args.names.sources.now)
    (names_at c.args.names.stores.now c.args.names.sources.now c.args.names.levels.now) c.in-Err.error
    c.in-Err.ensures.value
