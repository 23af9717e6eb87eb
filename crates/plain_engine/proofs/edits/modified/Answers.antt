use Rattle.std.proofs.Common.{◌≡◌, ◌+◌, ◌∷◌, drop, sym, ap, ◌∙◌}
use Rattle.std.proofs.lemmas.List.{drop_more}
use Rattle.cell_value.specs.Datum.{datum_of}
use Rattle.plain_engine.specs.inner.Edits.{datum_after}
use Rattle.plain_engine.proofs.EditLemmas.{settings_left, entry_done}
use Rattle.plain_engine.proofs.edits.modified.Goals as goal

pub loop-entry-preserved : goal.loop-entry-preserved
loop-entry-preserved g c =
    let values = g.P.ParamReader.values c.args.params.now in
    let row = datum_of c.args.row.now in
    let entries = c.args.entries.now in
    let index = c.loop-entry.entry-index in
    let entry = c.entry-item.result in
    let rest = drop (index + 1) entries in
    let now = datum_after c.loop-entry.made c.args.row.now in
    let at : drop index entries ≡ entry ∷ rest = drop_more entries index entry c.loop-entry-test.true
    ∙ ap (λ entry. entry ∷ rest) (sym c.entry-item.is) in
    sym (entry_done values row now entry rest _ c.in-Ok.ensures) ∙ sym (ap (λ entries. settings_left values row entries now) at)
    ∙ c.loop-entry.invariant
