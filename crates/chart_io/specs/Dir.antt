-- What the adapter of the runtime's files counts.
use Rattle.std.specs.Prelude.{ℕ}
use Rattle.chart_io.specs.declared.dir.DirFolder.{DirFolder}

-- how many calls of a folder have failed
abbrev pub folder_faults : {R : Type 0} → DirFolder R → ℕ
folder_faults folder = folder.failed
