-- The marks of a specification other than groups, by their names. They are numbered from 0 in this order.
use Rattle.std.specs.Prelude.{ℕ, Bool, true, false, if◌then◌else◌, Option, List, [], ◌∷◌, flat_map, unwrap_or}
use Rattle.vega_spec.specs.declared.marks.MarkType.{MarkType}
use Rattle.vega_spec.specs.declared.marks.MarkType.TheVariants as mark
use Rattle.vega_spec.specs.declared.spec.Group.{Group, Group-F, fold-Group}
use Rattle.vega_spec.specs.declared.spec.VgMark.{VgMark, VgMark-F, fold-VgMark}

-- whether marks of a type are groups
abbrev pub is_group : MarkType → Bool
is_group mark.Rect = false
is_group mark.Symbol = false
is_group mark.Line = false
is_group mark.Area = false
is_group mark.Rule = false
is_group mark.Text = false
is_group mark.Group = true

-- the marks of an object
abbrev pub marks_in : Group-F Group VgMark → List VgMark
marks_in g = unwrap_or g.marks []

-- the names of marks, where they have some
abbrev pub MarkNames : Type 0
MarkNames = List (Option (List ℕ))

-- those in an object, from those of each of its marks
abbrev pub names_here : Group-F MarkNames MarkNames → MarkNames
names_here g = flat_map (λ names. names) (unwrap_or g.marks [])

-- those of a mark: its own, or those in the group that it is
abbrev pub mark_names_here : VgMark-F MarkNames MarkNames → MarkNames
mark_names_here m = if is_group m.type_ then m.group else m.name ∷ []

-- the names of the marks other than groups in an object, in the order of the text
abbrev pub names_in : Group → MarkNames
names_in = fold-Group MarkNames MarkNames names_here mark_names_here

-- those of a mark
abbrev pub mark_names : VgMark → MarkNames
mark_names = fold-VgMark MarkNames MarkNames names_here mark_names_here
