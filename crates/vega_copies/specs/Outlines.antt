-- A specification as a tree of objects, in which the marks other than groups have their numbers.
use Rattle.std.specs.Prelude.{◌≡◌, refl, ℕ, suc, ◌+◌, Option, Some, None, List, [], ◌∷◌, unwrap_or}
use Rattle.std.specs.Option.{option_or}
use Rattle.vega_spec.specs.declared.data.DataSet.{DataSet}
use Rattle.vega_spec.specs.declared.encode.Encode.{Encode}
use Rattle.vega_spec.specs.declared.guides.Axis.{Axis}
use Rattle.vega_spec.specs.declared.guides.Layout.{Layout}
use Rattle.vega_spec.specs.declared.guides.Legend.{Legend}
use Rattle.vega_spec.specs.declared.marks.Facet.{Facet}
use Rattle.vega_spec.specs.declared.marks.MarkFrom.{MarkFrom}
use Rattle.vega_spec.specs.declared.marks.MarkFrom.TheVariants as from
use Rattle.vega_spec.specs.declared.marks.MarkType.{MarkType}
use Rattle.vega_spec.specs.declared.marks.MarkType.TheVariants as mark
use Rattle.vega_spec.specs.declared.orders.Sort.{Sort}
use Rattle.vega_spec.specs.declared.scales.Scale.{Scale as VegaScale}
use Rattle.vega_spec.specs.declared.signals.Signal.{Signal}
use Rattle.vega_spec.specs.declared.spec.Group.{Group, Group-F, fold-Group}
use Rattle.vega_spec.specs.declared.spec.VgMark.{VgMark-F}
use Rattle.vega_spec.specs.declared.spec.VgSpec.{VgSpec}

-- the top or a group, without the marks in it; the top has no facet, no order and no encode sets
pub record Object : Type 0 where
  -- its number among all objects, the outer before the inner
  pub number : ℕ
  pub sets : List DataSet
  pub signals : List Signal
  pub scales : List VegaScale
  pub layout : Option Layout
  pub axes : List Axis
  pub legends : List Legend
  pub title : Option (List ℕ)
  pub facet : Option Facet
  pub sort : Option Sort
  pub encode : Option Encode

-- a mark other than a group
pub record PlainMark : Type 0 where
  pub type : MarkType
  pub from : Option MarkFrom
  pub encode : Option Encode
  pub sort : Option Sort

-- The marks of an object, in the order of the text: none; a mark with its number, and then others; or a group with the marks in it, and
-- then others.
pub data Marks : Type 0 where
  NoMarks : Marks
  AMark : ℕ → PlainMark → Marks → Marks
  AGroup : Object → Marks → Marks → Marks

-- how many marks there are, those in groups among them, and how many groups
abbrev pub count_marks : Marks → ℕ
count_marks NoMarks = 0
count_marks (AMark unit m others) = suc (count_marks others)
count_marks (AGroup object inside others) = count_marks inside + count_marks others

abbrev pub count_groups : Marks → ℕ
count_groups NoMarks = 0
count_groups (AMark unit m others) = count_groups others
count_groups (AGroup object inside others) = suc (count_groups inside + count_groups others)

-- the marks and the groups numbered in the order of the text, marks from one number on and groups from another
abbrev pub numbered : ℕ → ℕ → Marks → Marks
numbered unit number NoMarks = NoMarks
numbered unit number (AMark old m others) = AMark unit m (numbered (suc unit) number others)
numbered unit number (AGroup object inside others) =
    AGroup (record object { number = number }) (numbered unit (suc number) inside)
    (numbered (unit + count_marks inside) (suc number + count_groups inside) others)

-- the least number of the marks, if there are any: the first in the order of the text has it
abbrev pub first_unit : Marks → Option ℕ
first_unit NoMarks = None
first_unit (AMark unit m others) = Some unit
first_unit (AGroup object inside others) = option_or (first_unit inside) (first_unit others)

-- an object with the marks in it
pub record Opened : Type 0 where
  pub object : Object
  pub marks : Marks

-- what a mark puts before the marks behind it
abbrev pub Before : Type 0
Before = Marks → Marks

-- marks one after the other
abbrev pub in_a_row : List Before → Marks
in_a_row [] = NoMarks
in_a_row (first ∷ others) = first (in_a_row others)

-- an object from its members, before it has a number
abbrev pub object_here : {A B : Type 0} → Group-F A B → Object
object_here g = record {
  number = 0;
  sets = unwrap_or g.data_ [];
  signals = unwrap_or g.signals [];
  scales = unwrap_or g.scales [];
  layout = g.layout;
  axes = unwrap_or g.axes [];
  legends = unwrap_or g.legends [];
  title = g.title;
  facet = None;
  sort = None;
  encode = None;
}

abbrev pub group_here : Group-F Opened Before → Opened
group_here g = record { object = object_here g; marks = in_a_row (unwrap_or g.marks []) }

-- the facet of a group, if it has one
abbrev pub facet_in : Option MarkFrom → Option Facet
facet_in None = None
facet_in (Some (from.Data name)) = None
facet_in (Some (from.Facet facet)) = Some facet

-- a mark of a type, before it has a number: a group has its object and marks, another mark only what it shows
abbrev pub mark_of_type : MarkType → VgMark-F Opened Before → Before
mark_of_type mark.Group m others =
    AGroup (record (m.group.object) { facet = facet_in m.from; sort = m.sort; encode = m.encode }) m.group.marks others
mark_of_type type m others = AMark 0 (record { type = type; from = m.from; encode = m.encode; sort = m.sort }) others

abbrev pub mark_here : VgMark-F Opened Before → Before
mark_here m = mark_of_type m.type_ m

-- a group, or the top, as an object with the marks in it, none of them numbered yet
abbrev pub opened : Group → Opened
opened = fold-Group Opened Before group_here mark_here

-- the top with its marks: these are numbered from 0 in the order of the text, and so are the groups, from 1
abbrev pub outline_of : VgSpec → Opened
outline_of g = record { object = (opened g.group).object; marks = numbered 0 1 (opened g.group).marks }

-- The rules at work.

-- an object without members
abbrev pub bare : Object
bare = record {
  number = 0;
  sets = [];
  signals = [];
  scales = [];
  layout = None;
  axes = [];
  legends = [];
  title = None;
  facet = None;
  sort = None;
  encode = None;
}

-- a mark that shows nothing
abbrev pub a_symbol : PlainMark
a_symbol = record { type = mark.Symbol; from = None; encode = None; sort = None }

-- a mark; a group with a mark and a group of a mark in it; a mark; and an empty group
abbrev some_marks : (ℕ → ℕ) → (ℕ → ℕ) → Marks
some_marks unit number =
    AMark (unit 0) a_symbol
    (AGroup (record bare { number = number 1 })
    (AMark (unit 1) a_symbol (AGroup (record bare { number = number 2 }) (AMark (unit 2) a_symbol NoMarks) NoMarks))
    (AMark (unit 3) a_symbol (AGroup (record bare { number = number 3 }) NoMarks NoMarks)))

numbers_in_the_order_of_the_text : numbered 0 1 (some_marks (λ n. 0) (λ n. 0)) ≡ some_marks (λ n. n) (λ n. n)
numbers_in_the_order_of_the_text = refl

the_least_number : first_unit (AGroup bare NoMarks (AGroup bare (AMark 4 a_symbol NoMarks) (AMark 5 a_symbol NoMarks))) ≡ Some 4
the_least_number = refl
