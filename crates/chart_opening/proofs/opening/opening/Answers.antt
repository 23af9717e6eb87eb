use Rattle.std.proofs.Common.{length, Ok, Err, ap, map, ◌∙◌, sym, arith}
use Rattle.std.proofs.lemmas.List.{length-map}
use Rattle.chart_opening.specs.Opening.{opening_by}
use Rattle.chart_opening.specs.Sources.{source_sets, all_of}
use Rattle.chart_opening.specs.inner.Reading.{the_reading}
use Rattle.chart_opening.specs.inner.Rows.{read_by, state_read}
use Rattle.chart_opening.proofs.FolderLemmas.{then_read, stopped, quiet, quiet_from, kept_still, no_memory_from}
use Rattle.chart_opening.proofs.OpeningLemmas.{over_sets, opened_as}
use Rattle.chart_opening.proofs.StateLemmas.{read_is_state}
use Rattle.chart_opening.proofs.opening.opening.Goals as goal

pub returns-in_err-all-clause-read : goal.returns-in_err-all-clause-read
returns-in_err-all-clause-read g c =
    no_memory_from _ _ _ _ _ (λ files. opening_by the_reading files c.args.g.now) c.from_residual.result c.from_residual.ensures.1 (omega arith)
    (kept_still (g.F.Folder.files c.args.folder.now))

pub returns-in-Err-clause-read : goal.returns-in-Err-clause-read
returns-in-Err-clause-read g c =
    opened_as _ _ _ _ (Err c.in-Err.why) c.args.g.now
    (stopped _ _ _ _ c.in-Err.why (λ files. all_of (map (read_by the_reading files) (source_sets c.args.g.now))) (λ files. state_read c.args.g.now)
    (over_sets _ _ _ _ (Err c.in-Err.why) _ (source_sets c.args.g.now)
    (ap (map (λ s. s.now)) c.as_slice-sets.ensures.value ∙ c.in_ok-all.ensures) c.in-Err.ensures.read))

pub returns-clause-read : goal.returns-clause-read
returns-clause-read g c =
    opened_as _ _ _ _ (Ok c.in_ok-state_read.field-0) c.args.g.now
    (then_read _ _ _ _ _ _ c.in-Ok.read _ (λ files. all_of (map (read_by the_reading files) (source_sets c.args.g.now)))
    (λ files. state_read c.args.g.now)
    (over_sets _ _ _ _ (Ok c.in-Ok.read) _ (source_sets c.args.g.now)
    (ap (map (λ s. s.now)) c.as_slice-sets.ensures.value ∙ c.in_ok-all.ensures) c.in-Ok.ensures.read)
    (quiet _ _ _ c.in_ok-state_read.field-0 c.in_ok-state_read.ensures))

pub returns-in_err-state_read-clause-read : goal.returns-in_err-state_read-clause-read
returns-in_err-state_read-clause-read g c =
    let why = c.in_err-state_read.field-0.0 in
    opened_as _ _ _ _ c.from_residual-in_err-state_read.result c.args.g.now
    (then_read _ _ _ _ _ _ c.in-Ok.read c.from_residual-in_err-state_read.result
    (λ files. all_of (map (read_by the_reading files) (source_sets c.args.g.now))) (λ files. state_read c.args.g.now)
    (over_sets _ _ _ _ (Ok c.in-Ok.read) _ (source_sets c.args.g.now)
    (ap (map (λ s. s.now)) c.as_slice-sets.ensures.value ∙ c.in_ok-all.ensures) c.in-Ok.ensures.read)
    (quiet_from _ _ (state_read c.args.g.now c.in-Ok.read) why c.from_residual-in_err-state_read.result c.from_residual-in_err-state_read.ensures.1
    c.in_err-state_read.ensures))

pub returns-clause-state : goal.returns-clause-state
returns-clause-state g c =
    read_is_state c.args.g.now c.in-Ok.read c.in_ok-state_read.field-0
    (c.in-Ok.ensures.number ∙ sym (length-map c.as_slice-sets.result.now (λ s. s.now))
    ∙ ap length (ap (map (λ s. s.now)) c.as_slice-sets.ensures.value ∙ c.in_ok-all.ensures))
    c.in_ok-state_read.ensures
