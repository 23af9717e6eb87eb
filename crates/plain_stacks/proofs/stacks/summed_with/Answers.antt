use Rattle.std.proofs.Common.{◌∙◌, ap, map, arith}
use Rattle.std.proofs.lemmas.List.{length-map}
use Rattle.cell_value.specs.Datum.{datum_of}
use Rattle.plain_stacks.specs.Stacks.{amount}
use Rattle.plain_stacks.proofs.StackLemmas.{summed_so, places_within}
use Rattle.plain_stacks.proofs.stacks.summed_with.Goals as goal

pub all_sums-requires-clause-within : goal.all_sums-requires-clause-within
all_sums-requires-clause-within c =
    places_within c.args.s.now c.args.rows.now c.args.lists.now c.args.homes.now c.args.ranks.now c.requires.partitions
    c.as_slice.result.now (c.as_slice.ensures ∙ c.in_ok-amounts.ensures
    ∙ ap (λ field. map (λ row. amount field (datum_of row)) c.args.rows.now) c.as_str.ensures)

pub all_sums-requires-clause-few : goal.all_sums-requires-clause-few
all_sums-requires-clause-few c = λ k below.
    omega (
      arith,
      c.requires.partitions.few k below,
      length-map c.args.rows.now datum_of,
      c.requires.rows.few,
      length-map c.args.rows.now (λ keyed. keyed.key),
    )

pub stacked_rows-requires-clause-summed : goal.stacked_rows-requires-clause-summed
stacked_rows-requires-clause-summed c =
    summed_so c.args.s.now c.args.rows.now c.args.lists.now c.args.homes.now c.args.ranks.now c.requires.partitions c.as_slice.result.now
    c.as_slice-sums.result.now c.args.greatest.now
    (c.as_slice.ensures ∙ c.in_ok-amounts.ensures ∙ ap
    (λ field. map (λ row. amount field (datum_of row)) c.args.rows.now) c.as_str.ensures)
    (c.as_slice-sums.ensures ∙ c.in_ok-sums.ensures)
