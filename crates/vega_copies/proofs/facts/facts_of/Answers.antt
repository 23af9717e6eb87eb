use Rattle.std.proofs.Common.{None, map, refl, subst, sym}
use Rattle.cell_value.specs.State.{dataset_of}
use Rattle.vega_spec.specs.declared.spec.Group.{out-Group}
use Rattle.vega_copies.specs.Outlines.{object_here}
use Rattle.vega_copies.specs.inner.Levels.{names_at}
use Rattle.vega_copies.specs.inner.Made.{HaveCopies}
use Rattle.vega_copies.specs.inner.Outlined.{marks_in, marks_of}
use Rattle.vega_copies.proofs.FactsLemmas.{own_lost, answer_stops, answer_has, answered_facts, answered_fit}
use Rattle.vega_copies.proofs.facts.facts_of.Goals as goal

pub facts_inside-requires-clause-marks : goal.facts_inside-requires-clause-marks
facts_inside-requires-clause-marks c =
    subst (λ marks. HaveCopies c.args.names.now.stores.now c.args.names.now.sources.now c.args.names.now.levels.now marks c.args.made.now)
    (sym c.marks_in.ensures) c.requires.marks

pub returns-in-Ok-clause-value : goal.returns-in-Ok-clause-value
returns-in-Ok-clause-value c =
    let names = c.args.names.now in
    let o = object_here (out-Group c.args.group.now) in
    let marks = marks_in (out-Group c.args.group.now) in
    answered_facts names c.args.level.now o marks c.args.made.now c.requires.level c.requires.marks c.facts_over.result
    (answer_stops names.stores.now names.sources.now o names.levels.now c.in-Ok.own c.facts_inside.result
    None marks c.marks_in.result.now c.marks_in.ensures c.facts_over.result
    c.facts_over.ensures c.facts_inside.ensures.stops)
    (answer_has names.stores.now names.sources.now o names.levels.now c.in-Ok.own c.facts_inside.result
    None marks c.marks_in.result.now c.marks_in.ensures c.facts_over.result
    c.facts_over.ensures c.args.level.now.signals c.as_slice.result.now c.as_slice.ensures c.args.made.now c.args.made.now refl c.in-Ok.ensures.own
    c.facts_inside.ensures.facts)

pub returns-in-Ok-clause-fits : goal.returns-in-Ok-clause-fits
returns-in-Ok-clause-fits c =
    let names = c.args.names.now in
    let o = object_here (out-Group c.args.group.now) in
    let marks = marks_in (out-Group c.args.group.now) in
    answered_fit names c.args.level.now o marks c.args.made.now c.requires.level c.requires.marks c.facts_over.result
    (answer_has names.stores.now names.sources.now o names.levels.now c.in-Ok.own c.facts_inside.result
    None marks c.marks_in.result.now c.marks_in.ensures c.facts_over.result
    c.facts_over.ensures c.args.level.now.signals c.as_slice.result.now c.as_slice.ensures c.args.made.now c.args.made.now refl c.in-Ok.ensures.own
    c.facts_inside.ensures.facts)

pub returns-in-Err-clause-value : goal.returns-in-Err-clause-value
returns-in-Err-clause-value c =
    own_lost (map dataset_of c.args.names.now.sources.now) None (object_here (out-Group c.args.group.now)) (marks_of (marks_in (out-Group c.args.group.now)))
    (names_at c.args.names.now.stores.now c.args.names.now.sources.now c.args.names.now.levels.now) c.in-Err.error c.in-Err.ensures.stops
