-- Rows by the sums of their partitions.
use Rattle.std.proofs.Common.{◌≡◌, ℕ, ◌<◌, ℤ, List, map, length, get_or, Option, arith}
use Rattle.std.proofs.Common.{sym, ap, ◌∙◌, subst}
use Rattle.std.proofs.lemmas.List.{length-map, get_or-map, get_or_default}
use Rattle.cell_value.specs.declared.state.Keyed.{Keyed}
use Rattle.cell_value.specs.Datum.{Datum, datum_of}
use Rattle.plain_rows.specs.declared.transforms.StackOf.{StackOf}
use Rattle.plain_orders.specs.Partitions.{datum_at}
use Rattle.plain_stacks.specs.declared.sums.Sums.{Sums}
use Rattle.plain_stacks.specs.Stacks.{row_span_with}
use Rattle.plain_stacks.specs.inner.Sums.{sums_at, span_by, AreSummed}

module _ (s : StackOf) (rows : List Keyed) (homes ranks : List ℕ) (sums : List Sums) (greatest : Option ℤ)
    (are : AreSummed s (map datum_of rows) homes ranks sums greatest) (i : ℕ) (row : Keyed) (own : Sums)
    (below : i < length rows) (at : row ≡ get_or rows i row) (of : own ≡ get_or sums (get_or homes i 0) own) where
  within : i < length (map datum_of rows)
  within = omega (arith, below, length-map rows datum_of)

  seen : datum_at (map datum_of rows) i ≡ datum_of row
  seen = get_or-map datum_of rows i row _ below ∙ ap datum_of (sym at)

  own_sums : sums_at sums (get_or homes i 0) ≡ own
  own_sums = get_or_default sums (get_or homes i 0) _ own (are.home i within) ∙ sym of

  -- the sums of a row's partition give where its value begins and ends
  pub span_there : span_by s (datum_of row) own (get_or ranks i 0) greatest ≡ row_span_with s greatest (map datum_of rows) (datum_of row)
  span_there =
      subst (λ (d : Datum). span_by s d own (get_or ranks i 0) greatest ≡ row_span_with s greatest (map datum_of rows) d) seen
      (subst (λ (o : Sums). span_by s (datum_at (map datum_of rows) i) o (get_or ranks i 0) greatest
      ≡ row_span_with s greatest (map datum_of rows) (datum_at (map datum_of rows) i)) own_sums (are.span i within))

  pub rank_there : get_or ranks i 0 < length own.before
  rank_there = subst (λ (o : Sums). get_or ranks i 0 < length o.before) own_sums (are.rank i within)
