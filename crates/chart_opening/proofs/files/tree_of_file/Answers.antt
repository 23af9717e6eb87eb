use Rattle.std.proofs.Common.{ℕ, List, ap, ◌∙◌, sym, subst}
use Rattle.text_kit.specs.Answer.{IsFault}
use Rattle.json_exact.specs.Reading.{Reads}
use Rattle.chart_opening.specs.inner.Stops.{refusal_of}
use Rattle.chart_opening.specs.Files.{bytes_of, tree_in}
use Rattle.chart_opening.specs.inner.Reading.{the_reading}
use Rattle.chart_opening.proofs.FolderLemmas.{then_read, stopped, quiet, quiet_from}
use Rattle.chart_opening.proofs.files.tree_of_file.Goals as goal

pub returns-in-Err-clause-read : goal.returns-in-Err-clause-read
returns-in-Err-clause-read g c =
    stopped _ _ _ _ c.in-Err.why (λ files. bytes_of files c.args.name.now) (λ files. tree_in the_reading c.args.name.now) c.in-Err.ensures.read

pub returns-in_err-tree_in-clause-read : goal.returns-in_err-tree_in-clause-read
returns-in_err-tree_in-clause-read g c =
    let why = c.in_err-tree_in.field-0.0 in
    let at : List ℕ → Type 0 = λ bytes. IsFault (refusal_of why) (tree_in the_reading c.args.name.now bytes) in
    then_read _ _ _ _ _ _ c.in-Ok.bytes c.from_residual.result (λ files. bytes_of files c.args.name.now)
    (λ files. tree_in the_reading c.args.name.now) c.in-Ok.ensures.read
    (quiet_from _ _ (tree_in the_reading c.args.name.now c.in-Ok.bytes) why c.from_residual.result c.from_residual.ensures.1
    (subst at c.as_slice.ensures c.in_err-tree_in.ensures.value))

pub returns-clause-read : goal.returns-clause-read
returns-clause-read g c =
    then_read _ _ _ _ _ _ c.in-Ok.bytes _ (λ files. bytes_of files c.args.name.now) (λ files. tree_in the_reading c.args.name.now) c.in-Ok.ensures.read
    (quiet _ _ _ c.in_ok-tree_in.field-0 (ap (λ bytes. tree_in the_reading c.args.name.now bytes) (sym c.as_slice.ensures) ∙ c.in_ok-tree_in.ensures.value))

pub returns-clause-tree : goal.returns-clause-tree
returns-clause-tree g c = record {
  bytes = c.in-Ok.bytes;
  reads = subst (λ bytes. Reads bytes c.in_ok-tree_in.field-0) c.as_slice.ensures c.in_ok-tree_in.ensures.reads;
  few = c.in-Ok.ensures.few;
}
