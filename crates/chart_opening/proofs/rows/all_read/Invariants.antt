use Rattle.std.proofs.Common.{◌≡◌, drop, length, map}
use Rattle.chart_opening.specs.Sources.{all_of}
use Rattle.chart_opening.specs.inner.Rows.{read_by}
use Rattle.chart_opening.specs.inner.Reading.{the_reading}
use Rattle.chart_opening.proofs.FolderLemmas.{Along}
use Rattle.chart_opening.proofs.rows.all_read.Given as goal

abbrev pub invariant-loop-set : goal.invariant-loop-set
invariant-loop-set g l = record {
  along : Along (g.F.Folder.faults l.initial.folder) (g.F.Folder.faults l.folder) (g.F.Folder.files l.initial.folder) (g.F.Folder.files l.folder) l.read
      (λ files. all_of (map (read_by the_reading files) (map (λ s. s.now) (drop l.set-index l.sets))))
      (λ files. all_of (map (read_by the_reading files) (map (λ s. s.now) l.sets)));
  number : length l.read ≡ l.set-index;
}
