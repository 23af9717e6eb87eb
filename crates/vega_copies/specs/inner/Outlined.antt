-- The marks of objects as outlines.
use Rattle.std.specs.Prelude.{ℕ, ◌+◌, ◌<◌, ◌^◌, Bool, true, false, List, [], map, unwrap_or}
use Rattle.vega_spec.specs.declared.marks.MarkType.{MarkType}
use Rattle.vega_spec.specs.declared.marks.MarkType.TheVariants as mark
use Rattle.vega_spec.specs.declared.spec.Group.{Group, Group-F, out-Group}
use Rattle.vega_spec.specs.declared.spec.VgMark.{VgMark, VgMark-F, fold-VgMark}
use Rattle.vega_copies.specs.Outlines.{Object, object_here, facet_in, Opened, Before, Marks, group_here, mark_here, in_a_row, numbered}
use Rattle.vega_copies.specs.Outlines.{count_marks, count_groups, PlainMark}

-- the marks of an object
abbrev pub marks_in : Group-F Group VgMark → List VgMark
marks_in g = unwrap_or g.marks []

-- whether a mark is a group
abbrev pub is_group_type : MarkType → Bool
is_group_type mark.Rect = false
is_group_type mark.Symbol = false
is_group_type mark.Line = false
is_group_type mark.Area = false
is_group_type mark.Rule = false
is_group_type mark.Text = false
is_group_type mark.Group = true

abbrev pub is_group : VgMark-F Group VgMark → Bool
is_group m = is_group_type m.type_

-- what a mark puts before the marks behind it
abbrev pub before_of : VgMark → Before
before_of = fold-VgMark Opened Before group_here mark_here

-- marks as an outline, none numbered yet
abbrev pub marks_of : List VgMark → Marks
marks_of marks = in_a_row (map before_of marks)

-- marks numbered from one number on, and the groups among them from another
abbrev pub marks_from : ℕ → ℕ → List VgMark → Marks
marks_from unit number marks = numbered unit number (marks_of marks)

-- a mark other than a group, by what it shows
abbrev pub plain_of : VgMark-F Group VgMark → PlainMark
plain_of m = record { type = m.type_; from = m.from; encode = m.encode; sort = m.sort }

-- a group as an object of a number
abbrev pub group_object : ℕ → VgMark-F Group VgMark → Object
group_object number m = record (object_here (out-Group m.group)) { number = number; facet = facet_in m.from; sort = m.sort; encode = m.encode }

-- Numbers for marks and groups that 32 bits can hold.
pub record AreFew (unit number : ℕ) (marks : List VgMark) : Type 0 where
  pub units : unit + count_marks (marks_of marks) < 2 ^ 32
  pub numbers : number + count_groups (marks_of marks) < 2 ^ 32

-- an object of a number by its members
abbrev pub object_numbered : ℕ → Group-F Group VgMark → Object
object_numbered number g = record (object_here g) { number = number }
