use Rattle.std.proofs.Common.{[], map}
use Rattle.cell_value.specs.Datum.{datum_of}
use Rattle.vega_lists.specs.Held.{scope_in}
use Rattle.vega_signals.specs.inner.Rows.{scope_by}
use Rattle.vega_signals.proofs.RowLemmas.{kept_names, lookup_reads, reads_elsewhere}
use Rattle.vega_signals.proofs.steps.next_rows.Goals as goal

pub looked_up-requires-clause-names : goal.looked_up-requires-clause-names
looked_up-requires-clause-names g c = kept_names c.args.transform.now c.in-Some.l.now c.in-Some.ensures c.requires.kept

pub returns-in_ok-looked_up-in-Some-clause-read : goal.returns-in_ok-looked_up-in-Some-clause-read
returns-in_ok-looked_up-in-Some-clause-read g c =
    lookup_reads (g.P.ParamReader.values c.args.params.now) (scope_by (g.O.ListReader.named c.args.outer.now) c.args.lists.now)
    c.args.transform.now c.in-Some.l.now (map datum_of c.args.rows.now)
    (map datum_of c.in_ok-looked_up-in-Some.field-0) c.in-Some.ensures c.in_ok-looked_up-in-Some.ensures.read

pub returns-in-None-clause-read : goal.returns-in-None-clause-read
returns-in-None-clause-read g c =
    reads_elsewhere (g.P.ParamReader.values c.args.params.now) (scope_in [] c.args.empty.now)
    (scope_by (g.O.ListReader.named c.args.outer.now) c.args.lists.now) c.args.transform.now (map datum_of c.args.rows.now)
    c.transformed.result c.in-None.ensures c.transformed.ensures.read
