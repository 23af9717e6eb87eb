use Rattle.std.proofs.Common.{◌≤◌, ◌^◌, ◌-◌, ◌+◌, length}
use Rattle.chart_opening.proofs.Fronts.{HasRead}
use Rattle.chart_opening.proofs.files.read_pieces.Given as goal

abbrev pub invariant-loop-folder : goal.invariant-loop-folder
invariant-loop-folder g l =
    (g.F.Folder.faults l.initial.folder ≤ g.F.Folder.faults l.folder)
    × HasRead (g.F.Folder.files l.initial.folder) (g.F.Folder.files l.folder) l.name l.bytes.items

abbrev pub decreases-loop-folder : goal.decreases-loop-folder
decreases-loop-folder g l = 2 ^ 24 + 1 - length l.bytes.items
