use Rattle.std.proofs.Common.{ℕ, List, ap, ◌∙◌, sym, subst}
use Rattle.text_kit.specs.Answer.{IsFault}
use Rattle.chart_opening.specs.Files.{bytes_of}
use Rattle.chart_opening.specs.inner.Reading.{the_reading}
use Rattle.chart_opening.specs.inner.Rows.{rows_of_file}
use Rattle.chart_opening.specs.inner.Stops.{refusal_of}
use Rattle.chart_opening.proofs.FolderLemmas.{then_read, stopped, quiet, quiet_from}
use Rattle.chart_opening.proofs.rows.read_rows.Goals as goal

pub returns-in-Err : goal.returns-in-Err
returns-in-Err g c =
    stopped _ _ _ _ c.in-Err.why (λ files. bytes_of files c.args.name.now) (λ files. rows_of_file the_reading c.args.set.now c.args.name.now)
    c.in-Err.ensures.read

pub returns-in_err-rows_of_file : goal.returns-in_err-rows_of_file
returns-in_err-rows_of_file g c =
    let why = c.in_err-rows_of_file.field-0.0 in
    let at : List ℕ → Type 0 = λ bytes. IsFault (refusal_of why) (rows_of_file the_reading c.args.set.now c.args.name.now bytes) in
    then_read _ _ _ _ _ _ c.in-Ok.bytes c.from_residual.result (λ files. bytes_of files c.args.name.now)
    (λ files. rows_of_file the_reading c.args.set.now c.args.name.now) c.in-Ok.ensures.read
    (quiet_from _ _ (rows_of_file the_reading c.args.set.now c.args.name.now c.in-Ok.bytes) why c.from_residual.result c.from_residual.ensures.1
    (subst at c.as_slice.ensures c.in_err-rows_of_file.ensures))

pub returns : goal.returns
returns g c =
    then_read _ _ _ _ _ _ c.in-Ok.bytes _ (λ files. bytes_of files c.args.name.now) (λ files. rows_of_file the_reading c.args.set.now c.args.name.now)
    c.in-Ok.ensures.read
    (quiet _ _ _ c.in_ok-rows_of_file.field-0
    (ap (λ bytes. rows_of_file the_reading c.args.set.now c.args.name.now bytes) (sym c.as_slice.ensures) ∙ c.in_ok-rows_of_file.ensures))
