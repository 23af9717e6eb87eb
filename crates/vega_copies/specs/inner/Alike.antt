-- Groups of which each copy holds as many plots as any other.
use Rattle.std.specs.Prelude.{ℕ, ◌&&◌, ◌==◌, not, Bool, true, Option, Some, None, List, [], length}
use Rattle.std.specs.List.{list_any}
use Rattle.std.specs.Option.{option_map_or}
use Rattle.std.specs.Str.{bytes_eq}
use Rattle.vega_spec.specs.declared.marks.Facet.{Facet}
use Rattle.vega_spec.specs.declared.spec.Group.{Group, out-Group}
use Rattle.vega_spec.specs.declared.spec.VgMark.{VgMark, VgMark-F}
use Rattle.vega_lists.specs.Orders.{texts_in}
use Rattle.vega_copies.specs.Outlines.{Object, Marks, NoMarks, AMark, AGroup}
use Rattle.vega_copies.specs.inner.Outlined.{marks_in, marks_of, group_object}

-- whether a name is one of some
abbrev pub is_one_of : List (List ℕ) → List ℕ → Bool
is_one_of names name = list_any (λ other. bytes_eq other name) names

-- whether a facet divides none of the lists of these names
abbrev pub divides_none : List (List ℕ) → Option Facet → Bool
divides_none names None = true
divides_none names (Some f) = not (list_any (is_one_of names) (texts_in f.data_))

-- whether a group has no data sets, and its facet divides none of these lists
abbrev pub reads_none : List (List ℕ) → Object → Bool
reads_none names o = (length o.sets == 0) && divides_none names o.facet

-- whether this holds of each group among marks
abbrev pub all_read_none : List (List ℕ) → Marks → Bool
all_read_none names NoMarks = true
all_read_none names (AMark unit mark others) = all_read_none names others
all_read_none names (AGroup o inside others) = reads_none names o && (all_read_none names inside && all_read_none names others)

-- the names that the lists of a facet have in a copy
abbrev pub names_of_parts : Option Facet → List (List ℕ)
names_of_parts f = option_map_or (λ (f : Facet). texts_in f.name) f []

-- whether the copies of a group are alike: it has no data sets, and nothing that is counted in it reads the lists of a copy
abbrev pub are_alike : Object → Marks → Bool
are_alike o inside = (length o.sets == 0) && all_read_none (names_of_parts o.facet) inside

-- whether a group reads none of these lists, and neither does one in it
abbrev pub group_reads_none : List (List ℕ) → VgMark-F Group VgMark → Bool
group_reads_none names m = reads_none names (group_object 0 m) && all_read_none names (marks_of (marks_in (out-Group m.group)))
