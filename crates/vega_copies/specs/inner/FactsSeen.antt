-- The facts that the code holds, as definitions see them: they hold no rows, so what names stand for in each copy is told beside them.
use Rattle.std.specs.Prelude.{ℕ, ◌+◌, List, [], ◌∷◌, map}
use Rattle.std.specs.List.{All, AllZip, enumerate_from}
use Rattle.expr_eval.specs.Values.{Values}
use Rattle.vega_lists.specs.Scopes.{Scope}
use Rattle.vega_scales.specs.Scales.{FitsScale}
use Rattle.vega_signals.specs.Settling.{values_inside}
use Rattle.vega_spec.specs.declared.spec.VgMark.{VgMark}
use Rattle.vega_copies.specs.declared.facts.CopyFacts.{CopyFacts, CopyFacts-F, fold-CopyFacts, out-CopyFacts}
use Rattle.vega_copies.specs.declared.facts.MarkFacts.{MarkFacts, MarkFacts-F, fold-MarkFacts, out-MarkFacts}
use Rattle.vega_copies.specs.declared.facts.Step.{Step}
use Rattle.vega_copies.specs.Outlines.{Object, Marks, NoMarks, AMark, AGroup}
use Rattle.vega_copies.specs.Facts.{Facts, Found, NoneFound, FoundOf, CopyFound, gathered}
use Rattle.vega_copies.specs.inner.Outlined.{marks_of}

-- the rows for which names stand in the copy to which steps lead from the top, the inner before the outer
abbrev pub ListsOnPaths : Type 0
ListsOnPaths = List Step → Scope

-- what is found of a copy at the end of a path, where signals have these values round it
abbrev pub OnPath : Type 0
OnPath = List Step → Values → CopyFound

-- what is found of the mark at a place in such a copy, before what is found of those behind it
abbrev pub AtPlace : Type 0
AtPlace = List Step → Values → ℕ → Found → Found

-- what is found of marks from a place on
abbrev pub found_from : List Step → Values → ℕ → List AtPlace → Found
found_from path values place [] = NoneFound
found_from path values place (first ∷ others) = first path values place (found_from path values (place + 1) others)

-- one step more: the copy of this number of the mark at a place
abbrev pub path_to : List Step → ℕ → ℕ → List Step
path_to path place n = record { mark = place; copy = n } ∷ path

abbrev pub copy_here : ListsOnPaths → CopyFacts-F OnPath AtPlace → OnPath
copy_here lists c path outer =
    let values = values_inside c.signals outer in
    record {
      facts = record { cells = c.cells; names = record { lists = lists path; values = values }; domains = c.domains };
      inside = found_from path values 0 c.inside;
    }

abbrev pub mark_here : MarkFacts-F OnPath AtPlace → AtPlace
mark_here m path values place rest =
    FoundOf (gathered (map (λ (copy : ℕ × OnPath). copy.1 (path_to path place copy.0) values) (enumerate_from 0 m.copies))) m.across rest

-- a copy with those in it
abbrev pub copy_seen : ListsOnPaths → CopyFacts → OnPath
copy_seen lists = fold-CopyFacts OnPath AtPlace (copy_here lists) mark_here

-- a mark with its copies
abbrev pub mark_seen : ListsOnPaths → MarkFacts → AtPlace
mark_seen lists = fold-MarkFacts OnPath AtPlace (copy_here lists) mark_here

-- the copies of the mark at a place, from a number on
abbrev pub copies_seen : ListsOnPaths → List Step → Values → ℕ → ℕ → List CopyFacts → List CopyFound
copies_seen lists path values place n copies =
    map (λ (copy : ℕ × CopyFacts). copy_seen lists copy.1 (path_to path place copy.0) values) (enumerate_from n copies)

-- marks from a place on
abbrev pub marks_seen : ListsOnPaths → List Step → Values → ℕ → List MarkFacts → Found
marks_seen lists path values place found = found_from path values place (map (mark_seen lists) found)

-- the facts of a copy itself, and the values of signals in it
abbrev pub values_seen : CopyFacts → Values → Values
values_seen c outer = values_inside (out-CopyFacts c).signals outer

abbrev pub facts_seen : ListsOnPaths → CopyFacts → List Step → Values → Facts
facts_seen lists c path outer = record {
  cells = (out-CopyFacts c).cells;
  names = record { lists = lists path; values = values_seen c outer };
  domains = (out-CopyFacts c).domains;
}

-- ---- facts that fit what they are of

-- The facts of a copy of an object: each domain is such as its scale has, and this holds of what is in the copy.
pub record FitsObject (o : Object) (Inside : List MarkFacts → Type 0) (c : CopyFacts) : Type 0 where
  pub domains : AllZip FitsScale o.scales (out-CopyFacts c).domains
  pub inside : Inside (out-CopyFacts c).inside

-- there are facts of each mark, and so it is in each copy of a group
abbrev pub MarksFit : Marks → List MarkFacts → Type 0
MarksFit NoMarks [] = Unit {0}
MarksFit NoMarks (found ∷ more) = ⊥
MarksFit (AMark unit mark others) [] = ⊥
MarksFit (AMark unit mark others) (found ∷ more) = MarksFit others more
MarksFit (AGroup o inside others) [] = ⊥
MarksFit (AGroup o inside others) (found ∷ more) = All (FitsObject o (MarksFit inside)) (out-MarkFacts found).copies × MarksFit others more

-- the same of a copy of an object with these marks, and of one mark
abbrev pub FactsFit : Object → Marks → CopyFacts → Type 0
FactsFit o marks c = FitsObject o (MarksFit marks) c

abbrev pub OneFits : VgMark → MarkFacts → Type 0
OneFits m found = MarksFit (marks_of (m ∷ [])) (found ∷ [])
