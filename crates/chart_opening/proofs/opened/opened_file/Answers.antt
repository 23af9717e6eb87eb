use Rattle.chart_opening.specs.Specs.{opened_by}
use Rattle.chart_opening.proofs.FolderLemmas.{read_fault}
use Rattle.chart_opening.proofs.JsonLemmas.{by_each}
use Rattle.chart_opening.proofs.opened.opened_file.Goals as goal

pub returns-clause-read : goal.returns-clause-read
returns-clause-read g c = λ fault. read_fault _ _ c.opened_in.result c.opened_in.ensures.read.read fault

pub returns-clause-told : goal.returns-clause-told
returns-clause-told g c =
    by_each (g.F.Folder.files c.args.folder.now) c.opened_in.result (λ reading files. opened_by reading files c.args.name.now) c.opened_in.ensures.read.is
