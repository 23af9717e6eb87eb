use Rattle.std.proofs.Common.{◌∙◌, ap, map, filter_map, slice_get}
use Rattle.plain_facets.specs.Facets.{members_from}
use Rattle.plain_facets.proofs.PartLemmas.{parts_there}
use Rattle.plain_facets.proofs.parts.parts_shown.Goals as goal

pub returns : goal.returns
returns c =
    parts_there c.args.fields.now c.args.rows.now c.args.copies.now _ _ _ c.requires.different c.in_ok-homes.ensures c.in_ok-members.ensures.len
    (λ k below. c.in_ok-members.ensures.value k below ∙ ap (members_from k 0) c.as_slice.ensures)
    (c.in_ok-all_rows_at.ensures ∙ ap (map (filter_map (slice_get c.args.rows.now))) c.as_slice-2.ensures.value)
