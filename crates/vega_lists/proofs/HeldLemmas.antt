-- The rows for which a name stands.
use Rattle.std.proofs.Common.{◌≡◌, ℕ, List, [], map, Option, unwrap_or, Result, Ok, Err, IfOk, sym, ap, ◌∙◌, subst}
use Rattle.text_kit.specs.declared.memory.OutOfMemory.{OutOfMemory}
use Rattle.cell_value.specs.declared.state.Keyed.{Keyed}
use Rattle.cell_value.specs.declared.state.Named.{Named}
use Rattle.cell_value.specs.Datum.{Datum, datum_of}
use Rattle.plain_rows.specs.declared.transforms.LookupOf.{LookupOf}
use Rattle.plain_rows.specs.Rows.{AreRows}
use Rattle.plain_rows.specs.Lookups.{data_looked_up}
use Rattle.vega_lists.specs.declared.held.Lists.{Lists}
use Rattle.vega_lists.specs.Held.{rows_found, scope_in, AreLists}

module _ (sources : List Named) (lists : Lists) (name : List ℕ) (found : Option (List Keyed)) (e : found ≡ rows_found sources lists name) where
  -- what was found under a name are rows
  pub found_are_rows : AreLists sources lists → AreRows (unwrap_or found [])
  found_are_rows are = subst (λ o. AreRows (unwrap_or o [])) (sym e) (are name)

  -- a lookup in what was found under a name
  pub looked_up_there : (from : List ℕ) (how settings : LookupOf) (rows : List Datum) (result : Result (List Keyed) OutOfMemory) → name ≡ from → how ≡ settings
      → IfOk result (λ out. map datum_of out ≡ data_looked_up how (map datum_of (unwrap_or found [])) rows)
      → IfOk result (λ out. map datum_of out ≡ data_looked_up settings (scope_in sources lists from) rows)
  looked_up_there from how settings rows (Ok out) same is h =
      h ∙ ap (λ o. data_looked_up how (map datum_of (unwrap_or o [])) rows) e
      ∙ ap (λ n. data_looked_up how (scope_in sources lists n) rows) same
      ∙ ap (λ s. data_looked_up s (scope_in sources lists from) rows) is
  looked_up_there from how settings rows (Err refused) same is h = tt
