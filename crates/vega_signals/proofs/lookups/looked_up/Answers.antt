use Rattle.std.proofs.Common.{map, sym, subst}
use Rattle.cell_value.specs.Datum.{datum_of}
use Rattle.plain_rows.specs.Rows.{AreRows}
use Rattle.vega_lists.specs.Settings.{lookup_settings}
use Rattle.vega_signals.proofs.RowLemmas.{put_there, found_outside, looked_up_there}
use Rattle.vega_signals.proofs.lookups.looked_up.Goals as goal

pub looked_up_over-requires-clause-other : goal.looked_up_over-requires-clause-other
looked_up_over-requires-clause-other g c =
    subst AreRows
    (sym (put_there (g.O.ListReader.named c.args.outer.now) c.args.lists.now c.as_str-name.result.now
    c.args.l.now.from c.as_str-name.ensures c.in-Some.other.now c.in-Some.ensures))
    (c.requires.lists c.args.l.now.from)

pub looked_up_outside-requires-clause-other : goal.looked_up_outside-requires-clause-other
looked_up_outside-requires-clause-other g c =
    subst AreRows
    (sym (found_outside (g.O.ListReader.named c.args.outer.now) c.args.lists.now
    c.as_str-name.result.now c.args.l.now.from c.as_str-name.ensures c.in-None.ensures))
    (c.requires.lists c.args.l.now.from)

pub returns-in-Some-clause-read : goal.returns-in-Some-clause-read
returns-in-Some-clause-read g c =
    let outer = g.O.ListReader.named c.args.outer.now in
    looked_up_there outer c.args.lists.now c.args.l.now.from (lookup_settings c.args.l.now)
    c.in-Some.other.now (map datum_of c.args.rows.now) c.looked_up_over.result
    (put_there outer c.args.lists.now c.as_str-name.result.now c.args.l.now.from c.as_str-name.ensures c.in-Some.other.now c.in-Some.ensures)
    c.looked_up_over.ensures.read

pub returns-in-None-clause-read : goal.returns-in-None-clause-read
returns-in-None-clause-read g c =
    let outer = g.O.ListReader.named c.args.outer.now in
    looked_up_there outer c.args.lists.now c.args.l.now.from (lookup_settings c.args.l.now) (outer c.as_str-name.result.now) (map datum_of c.args.rows.now)
    c.looked_up_outside.result
    (found_outside outer c.args.lists.now c.as_str-name.result.now c.args.l.now.from c.as_str-name.ensures c.in-None.ensures) c.looked_up_outside.ensures.read
