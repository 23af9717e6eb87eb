use Rattle.chart_opening.specs.Compiled.{compiled_by}
use Rattle.chart_opening.proofs.FolderLemmas.{read_fault}
use Rattle.chart_opening.proofs.JsonLemmas.{by_each}
use Rattle.chart_opening.proofs.compiled.compiled_file.Goals as goal

pub returns-clause-read : goal.returns-clause-read
returns-clause-read g c = λ fault. read_fault _ _ c.compiled_in.result c.compiled_in.ensures.read fault

pub returns-clause-told : goal.returns-clause-told
returns-clause-told g c =
    by_each (g.F.Folder.files c.args.folder.now) c.compiled_in.result (λ reading files. compiled_by reading files c.args.name.now) c.compiled_in.ensures.is
