use Rattle.std.proofs.Common.{subst, sym, ap, ◌∙◌, map}
use Rattle.plain_rows.specs.Rows.{AreRows}
use Rattle.vega_scales.proofs.columns.push_referred_entries.Goals as goal

pub push_entries-requires : goal.push_entries-requires
push_entries-requires g c =
    subst AreRows (sym (ap (map (λ row. row.now)) c.as_slice.ensures ∙ c.in_ok-rows.ensures)) (c.requires c.args.list.now)
