-- Why no object inside a compiled specification adds a signal or a data set.
use Rattle.std.proofs.Common.{◌≡◌, ℕ, suc, ◌+◌, List, [], ◌∷◌, map, sym, ap, ◌∙◌, subst}
use Rattle.vega_spec.specs.declared.marks.MarkType.{MarkType}
use Rattle.vega_spec.specs.declared.marks.MarkType.TheVariants as type
use Rattle.vega_spec.specs.declared.spec.Group.{Group, fold-roll-Group, out-roll-Group, roll-Group}
use Rattle.vega_spec.specs.declared.spec.VgMark.{VgMark, VgMark-F, fold-VgMark, fold-roll-VgMark}
use Rattle.vega_copies.specs.Outlines.{Before, Marks, Opened, count_groups, count_marks, group_here, in_a_row, mark_here, mark_of_type}
use Rattle.vega_copies.specs.Outlines.{numbered, object_here, opened, NoMarks as Nothing, AMark as Mark, AGroup as Inner}
use Rattle.vega_assemble.specs.Assembled.{held_at_top, made}
use Rattle.vega_assemble.specs.Made.{AGroup, AMark, Made, MadeMark, MadeObject, NoMarks, group_of, group_parts, mark_parts, mark_rolled, no_parts, parts_of}
use Rattle.vega_assemble.specs.Made.{rolled}
use Rattle.compiled_rows.specs.Values.{AddNothing, InsideAddsNothing}
use Rattle.compiled_rows.proofs.BareLemmas.{IsBare, all_bare}
use Rattle.vega_copies.proofs.OutlineLemmas.{opened_object}
use Rattle.compiled_rows.proofs.SignalLemmas.{list_back}

-- ---- numbers

still_add : (unit number : ℕ) (m : Marks) → AddNothing m → AddNothing (numbered unit number m)
still_add unit number Nothing h = tt
still_add unit number (Mark old m others) h = still_add (suc unit) number others h
still_add unit number (Inner object inside others) h = (
  h.0,
  h.1,
  still_add unit (suc number) inside h.2,
  still_add (unit + count_marks inside) (suc number + count_groups inside) others h.3,
)

-- ---- marks

abbrev opened_mark : VgMark → Before
opened_mark = fold-VgMark Opened Before group_here mark_here

abbrev row_of : List VgMark → Marks
row_of marks = in_a_row (map opened_mark marks)

by_type : (t : MarkType) (m : VgMark-F Opened Before) (others : Marks) → m.group.object.signals ≡ [] → m.group.object.sets ≡ []
    → AddNothing m.group.marks → AddNothing others → AddNothing (mark_of_type t m others)
by_type type.Rect m others signals sets inside h = h
by_type type.Symbol m others signals sets inside h = h
by_type type.Line m others signals sets inside h = h
by_type type.Area m others signals sets inside h = h
by_type type.Rule m others signals sets inside h = h
by_type type.Text m others signals sets inside h = h
by_type type.Group m others signals sets inside h = (signals, sets, inside, h)

bare_signals : (opened (roll-Group no_parts)).object.signals ≡ []
bare_signals = ap (λ (o : Opened). o.object.signals) (fold-roll-Group Opened Before group_here mark_here no_parts)

bare_sets : (opened (roll-Group no_parts)).object.sets ≡ []
bare_sets = ap (λ (o : Opened). o.object.sets) (fold-roll-Group Opened Before group_here mark_here no_parts)

bare_marks : (opened (roll-Group no_parts)).marks ≡ Nothing
bare_marks = ap (λ (o : Opened). o.marks) (fold-roll-Group Opened Before group_here mark_here no_parts)

mark_adds : (m : MadeMark) (others : Marks) → AddNothing others → AddNothing (opened_mark (mark_rolled m) others)
mark_adds m others h =
    subst (λ (f : Before). AddNothing (f others)) (sym (fold-roll-VgMark Opened Before group_here mark_here (mark_parts m)))
    (by_type m.type _ others bare_signals bare_sets (subst AddNothing (sym bare_marks) tt) h)

-- ---- groups

group_sets : (o : MadeObject) (marks : List VgMark) → (opened (group_of o marks)).object.sets ≡ o.sets
group_sets o marks =
    ap (λ x. x.sets) (opened_object (group_of o marks) ∙ ap object_here (out-roll-Group (parts_of o marks))) ∙ list_back o.sets

group_signals : (o : MadeObject) (marks : List VgMark) → (opened (group_of o marks)).object.signals ≡ o.signals
group_signals o marks =
    ap (λ x. x.signals) (opened_object (group_of o marks) ∙ ap object_here (out-roll-Group (parts_of o marks))) ∙ list_back o.signals

group_marks : (o : MadeObject) (marks : List VgMark) → (opened (group_of o marks)).marks ≡ row_of marks
group_marks o [] = ap (λ (x : Opened). x.marks) (fold-roll-Group Opened Before group_here mark_here (parts_of o []))
group_marks o (m ∷ marks) = ap (λ (x : Opened). x.marks) (fold-roll-Group Opened Before group_here mark_here (parts_of o (m ∷ marks)))

adds : (m : Made) → IsBare m → AddNothing (row_of (rolled m))
adds NoMarks h = tt
adds (AMark m others) h = mark_adds m (row_of (rolled others)) (adds others h)
adds (AGroup o inside others) h =
    subst (λ (f : Before). AddNothing (f (row_of (rolled others))))
    (sym (fold-roll-VgMark Opened Before group_here mark_here (group_parts o (rolled inside)))) (
      group_signals o (rolled inside) ∙ h.1,
      group_sets o (rolled inside) ∙ h.0,
      subst AddNothing (sym (group_marks o (rolled inside))) (adds inside h.2),
      adds others h.3,
    )

pub inside_adds_nothing : InsideAddsNothing
inside_adds_nothing stem s p =
    still_add 0 1 (opened (group_of ((made stem s p).object) (rolled (made stem s p).marks))).marks
    (subst AddNothing (sym (group_marks ((made stem s p).object) (rolled (made stem s p).marks)))
    (adds (made stem s p).marks (all_bare stem p p.view (held_at_top stem p)).2))
