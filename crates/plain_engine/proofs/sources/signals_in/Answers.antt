use Rattle.std.proofs.Common.{[], map, sym, ap, subst, ◌∙◌}
use Rattle.std.specs.Prelude.{unwrap_or}
use Rattle.cell_value.specs.State.{dataset_of}
use Rattle.expr_eval.specs.Stores.{values_of_stores}
use Rattle.vega_spec.specs.declared.spec.Group.{out-Group}
use Rattle.vega_signals.specs.Signals.{signal_values}
use Rattle.vega_lists.specs.Held.{AreSources}
use Rattle.vega_lists.proofs.StateLemmas.{sources_of_state}
use Rattle.vega_copies.proofs.ChartLaw.{rules_kept, sets_of_top, folds_of_top}
use Rattle.plain_engine.proofs.sources.signals_in.Goals as goal

pub signal_values-requires-clause-sources : goal.signal_values-requires-clause-sources
signal_values-requires-clause-sources c = subst AreSources (sym c.as_slice-2.ensures) (sources_of_state c.args.st.now c.requires.state)

pub signal_values-requires-clause-kept : goal.signal_values-requires-clause-kept
signal_values-requires-clause-kept c = sets_of_top c.args.g.now (rules_kept c.args.g.now c.requires.rules)

pub signal_values-requires-clause-folds : goal.signal_values-requires-clause-folds
signal_values-requires-clause-folds c = folds_of_top c.args.g.now (rules_kept c.args.g.now c.requires.rules)

pub returns-in-Ok : goal.returns-in-Ok
returns-in-Ok c =
    let top = out-Group c.args.g.now.group in
    let stores = sym c.as_slice.ensures ∙ sym c.in_ok-stores.ensures in
    sym (ap (λ found. unwrap_or found [])
    ((λ i. signal_values (values_of_stores (stores i)) top (map dataset_of (sym c.as_slice-2.ensures i)) (sym c.as_slice-3.ensures i)) ∙ c.in-Ok.ensures))

pub returns-in-Err-Overflow : goal.returns-in-Err-Overflow
returns-in-Err-Overflow c =
    let top = out-Group c.args.g.now.group in
    let stores = sym c.as_slice.ensures ∙ sym c.in_ok-stores.ensures in
    let out = rw c.in-Err-Overflow.field-0-is at c.in-Err-Overflow.ensures in
    c.new.ensures
    ∙ sym (ap (λ found. unwrap_or found [])
    ((λ i. signal_values (values_of_stores (stores i)) top (map dataset_of (sym c.as_slice-2.ensures i)) (sym c.as_slice-3.ensures i)) ∙ out))
