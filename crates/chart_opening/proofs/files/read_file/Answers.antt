use Rattle.std.proofs.Common.{◌≤◌, length, arith, sym, ap, subst, Err, Global}
use Rattle.chart_opening.specs.Files.{bytes_of, most_bytes}
use Rattle.chart_opening.proofs.FileLemmas.{read_stopped, whole_as}
use Rattle.chart_opening.proofs.FolderLemmas.{kept_still, no_memory_from}
use Rattle.chart_opening.proofs.files.read_file.Goals as goal

pub returns-in_err-buffer-clause-read : goal.returns-in_err-buffer-clause-read
returns-in_err-buffer-clause-read g c =
    no_memory_from _ _ _ _ _ (λ files. bytes_of files c.args.name.now) c.from_residual.result c.from_residual.ensures.1 (omega arith)
    (kept_still (g.F.Folder.files c.args.folder.now))

pub returns-in-Ok-clause-few : goal.returns-in-Ok-clause-few
returns-in-Ok-clause-few g c = subst (λ bytes. length bytes ≤ most_bytes) (sym c.from_vec.ensures) c.in-Ok.ensures.few

pub returns-in-Ok-clause-read : goal.returns-in-Ok-clause-read
returns-in-Ok-clause-read g c =
    whole_as _ _ _ _ _ c.args.name.now c.in-Ok.ensures.counted c.in-Ok.ensures.stays c.from_vec.result c.in-Ok.bytes c.from_vec.ensures c.in-Ok.ensures.told

pub returns-clause-read : goal.returns-clause-read
returns-clause-read g c =
    read_stopped Global _ _ _ _ c.args.name.now c.in-Err.ensures.counted c.in-Err.ensures.stays c.in-Err.why c.stop_of.result c.stop_of.ensures
    (λ is. c.in-Err.ensures.read (ap Err is)) c.in-Err.ensures.told
