use Rattle.plain_facets.proofs.PartLemmas.{parts_read, parts_have_ids}
use Rattle.plain_facets.proofs.parts.parts_of.Goals as goal

pub returns : goal.returns
returns c = record {
  read = parts_read c.args.fields.now c.args.copies.now c.args.rows.now c.in_ok-parts_shown.field-0 c.in_ok-parts_shown.ensures;
  ids = parts_have_ids c.args.fields.now c.args.copies.now c.args.rows.now c.in_ok-parts_shown.field-0 c.requires.ids c.in_ok-parts_shown.ensures;
}
