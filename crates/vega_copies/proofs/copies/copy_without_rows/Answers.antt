use Rattle.std.specs.Prelude.{option_copied}
use Rattle.vega_copies.proofs.BareLemmas.{bare_seen}
use Rattle.vega_copies.proofs.copies.copy_without_rows.Goals as goal

pub returns : goal.returns
returns c = record {
  seen = bare_seen (option_copied c.args.facet) _ c.in_ok-parts_of_bare.ensures;
  parts = c.in_ok-parts_of_bare.ensures;
}
