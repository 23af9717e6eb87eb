-- How what was made of rows is taken back.
use Rattle.std.specs.Prelude.{List, [], ◌∷◌, ◌++◌, take, drop}
use Rattle.cell_value.specs.declared.state.Keyed.{Keyed}
use Rattle.plain_engine.specs.declared.edits.Edit.{Edit}
use Rattle.plain_engine.specs.declared.edits.Edit.TheVariants as edit
use Rattle.plain_engine.specs.declared.undo.Mark.{Mark}
use Rattle.plain_engine.specs.declared.undo.Mark.TheVariants.{Stay, Insert, Replace}
use Rattle.plain_engine.specs.declared.undo.Undo.{Undo}

-- how the edit of a row is taken back
abbrev pub mark_of : Edit → Keyed → Mark
mark_of edit.Stay row = Stay
mark_of edit.Remove row = Insert row
mark_of (edit.Modify new) row = Replace row

-- the marks of rows
abbrev pub marked : List Edit → List Keyed → List Mark
marked [] rows = []
marked (edit ∷ edits) [] = []
marked (edit ∷ edits) (row ∷ rows) = mark_of edit row ∷ marked edits rows

-- the rows before their edits, from the rows after them; rows that were added at the end have no mark
abbrev pub restored : List Mark → List Keyed → List Keyed
restored [] rows = []
restored (Stay ∷ marks) rows = take 1 rows ++ restored marks (drop 1 rows)
restored (Insert old ∷ marks) rows = old ∷ restored marks rows
restored (Replace old ∷ marks) rows = old ∷ restored marks (drop 1 rows)

-- rows of which what was made of them is taken back
abbrev pub taken_back : Undo → List Keyed → List Keyed
taken_back undo rows = restored undo.marks rows
