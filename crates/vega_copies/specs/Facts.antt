-- What comes of rows in the copies of objects: all that a drawing asks of rows beside its items.
use Rattle.std.specs.Prelude.{◌≡◌, refl, ℕ, codes, Option, Some, None, List, [], ◌∷◌, map, if◌then◌else◌}
use Rattle.std.specs.Option.{option_map}
use Rattle.fixed_num.specs.Ranges.{◌>>=◌, all_found}
use Rattle.cell_value.specs.declared.cell.Cell.{Cell}
use Rattle.cell_value.specs.declared.cell.Cell.TheVariants.{Text}
use Rattle.cell_value.specs.State.{Dataset}
use Rattle.expr_eval.specs.Plain.{no_values}
use Rattle.plain_facets.specs.Facets.{four_rows}
use Rattle.vega_lists.specs.Scopes.{no_lists, with_list}
use Rattle.vega_scales.specs.declared.scaled.Scaled.{Scaled}
use Rattle.vega_scales.specs.Scales.{domain_of}
use Rattle.vega_spec.specs.declared.orders.Texts.TheVariants as texts
use Rattle.vega_copies.specs.Outlines.{Object, Marks, NoMarks, AMark, AGroup, bare, a_symbol}
use Rattle.vega_copies.specs.Scopes.{Names, outermost, keeps_signals}
use Rattle.vega_copies.specs.Facets.{copies_of, columns_across, by}
use Rattle.vega_copies.specs.CopyNames.{names_in_copy}

-- What comes of rows in one copy of an object, beside the copies in it.
pub record Facts : Type 0 where
  -- the fields of its own facet with their cells; None where it has no facet
  pub cells : Option (List (List ℕ × Cell))
  -- what names stand for in it
  pub names : Names
  -- what each of its own scales scales, in their order
  pub domains : List Scaled

-- Of each of some marks its copies, and how many stand side by side where its facet crosses two fields: a mark other than a group has no copies.
-- Of each copy its facts, and what was found of the marks in it.
mutual
  pub data Found : Type 0 where
    NoneFound : Found
    FoundOf : Copies → Option ℕ → Found → Found

  pub data Copies : Type 0 where
    NoCopies : Copies
    ACopy : Facts → Found → Copies → Copies

-- a copy of an object, with what was found of the marks in it
pub record CopyFound : Type 0 where
  pub facts : Facts
  pub inside : Found

-- copies as a list
abbrev pub copies_in : Copies → List CopyFound
copies_in NoCopies = []
copies_in (ACopy facts inside others) = record { facts = facts; inside = inside } ∷ copies_in others

abbrev pub gathered : List CopyFound → Copies
gathered [] = NoCopies
gathered (first ∷ others) = ACopy first.facts first.inside (gathered others)

-- the copies of the first of some marks, and what was found of those behind it
abbrev pub first_copies : Found → List CopyFound
first_copies NoneFound = []
first_copies (FoundOf made across others) = copies_in made

abbrev pub behind_first : Found → Found
behind_first NoneFound = NoneFound
behind_first (FoundOf made across others) = others

-- ---- the facts of a chart

-- The facts of a copy of an object that has these cells, where names stand for lists and values in it: the domains of its scales, also of those
-- that nothing reads. None where one of them is out of range, or one of its own signals is.
abbrev pub facts_here : Option (List (List ℕ × Cell)) → Object → Names → Option Facts
facts_here cells o names =
    if keeps_signals names o
    then option_map (λ domains. record { cells = cells; names = names; domains = domains }) (all_found (map (domain_of names.values names.lists) o.scales))
    else None

-- a copy of an object, where this is found of the marks in it
abbrev pub copy_found : Option (List (List ℕ × Cell)) → Object → Names → Option Found → Option CopyFound
copy_found cells o names found = do
  facts ← facts_here cells o names
  inside ← found
  Some (record { facts = facts; inside = inside })

-- What is found of marks in a copy of the object that has them, where names stand for lists and values there. None where a data set overflows,
-- or a number of some copy is out of range.
abbrev pub found_in : List Dataset → Marks → Names → Option Found
found_in sources NoMarks names = Some NoneFound
found_in sources (AMark unit m others) names = option_map (FoundOf NoCopies None) (found_in sources others names)
found_in sources (AGroup o inside others) names = do
  copies ← all_found (map (λ copy. names_in_copy sources names o copy >>= λ here.
      copy_found copy.cells o here (found_in sources inside here)) (copies_of names.lists o))
  rest ← found_in sources others names
  Some (FoundOf (gathered copies) (columns_across names.lists o) rest)

-- the facts of the top, as the one copy of itself, and of all copies in it
abbrev pub facts_of : List Dataset → Object → Marks → Names → Option CopyFound
facts_of sources o marks names = copy_found None o names (found_in sources marks names)

-- The rules at work.

-- what stands for four rows under `t`
abbrev four_listed : Names
four_listed = record (outermost no_values) { lists = with_list (codes "t") four_rows no_lists }

-- a facet of `t` by `a`, and in each copy a facet of its part by `b`, with a mark behind it
abbrev facets_in_each_other : Marks
facets_in_each_other =
    AGroup (record bare { facet = Some (by (codes "a" ∷ []) None) })
    (AGroup (record bare { facet = Some (record (by (codes "b" ∷ []) None) { data_ = texts.One (codes "part") }) }) NoMarks NoMarks)
    (AMark 0 a_symbol NoMarks)

-- the cells of copies, and of those in each
abbrev cells_found : CopyFound → Option (List (List ℕ × Cell))
cells_found c = c.facts.cells

abbrev cells_of_both : CopyFound → Option (List (List ℕ × Cell)) × List (Option (List (List ℕ × Cell)))
cells_of_both c = (cells_found c, map cells_found (first_copies c.inside))

abbrev the_cell : List ℕ → List ℕ → Option (List (List ℕ × Cell))
the_cell field cell = Some ((field, Text cell) ∷ [])

copies_in_copies : option_map (λ found. map cells_of_both (first_copies found)) (found_in [] facets_in_each_other four_listed) ≡ Some (
    (the_cell (codes "a") (codes "y"), the_cell (codes "b") (codes "p") ∷ the_cell (codes "b") (codes "q") ∷ [])
    ∷ (the_cell (codes "a") (codes "x"), the_cell (codes "b") (codes "q") ∷ [])
    ∷ (the_cell (codes "a") (codes "z"), the_cell (codes "b") (codes "p") ∷ [])
    ∷ [])
copies_in_copies = refl

-- a mark has no copies
a_mark_behind_a_group : option_map (λ found. first_copies (behind_first found)) (found_in [] facets_in_each_other four_listed) ≡ Some []
a_mark_behind_a_group = refl
