-- The facts of copies that were made, and what names stand for on paths to them.
use Rattle.std.specs.Prelude.{◌≡◌, ℕ, true, Option, Some, None, List, [], ◌∷◌, map, slice_get}
use Rattle.std.specs.Option.{option_map_or}
use Rattle.std.specs.List.{AllZip}
use Rattle.fixed_num.specs.Ranges.{◌>>=◌, all_found}
use Rattle.cell_value.specs.declared.cell.Cell.{Cell}
use Rattle.cell_value.specs.declared.state.Named.{Named}
use Rattle.cell_value.specs.declared.state.StoreOf.{StoreOf}
use Rattle.cell_value.specs.State.{Dataset}
use Rattle.vega_scales.specs.Scales.{domain_of, FitsScale}
use Rattle.vega_scales.specs.declared.scaled.Scaled.{Scaled}
use Rattle.vega_lists.specs.Held.{scope_read}
use Rattle.vega_signals.specs.Extents.{Settled}
use Rattle.vega_spec.specs.declared.scales.Scale.{Scale as VegaScale}
use Rattle.vega_spec.specs.declared.spec.Group.{Group, out-Group}
use Rattle.vega_spec.specs.declared.spec.VgMark.{VgMark, VgMark-F}
use Rattle.vega_copies.specs.declared.facts.CopyFacts.{CopyFacts, out-CopyFacts, roll-CopyFacts}
use Rattle.vega_copies.specs.declared.facts.MarkFacts.{MarkFacts, out-MarkFacts}
use Rattle.vega_copies.specs.declared.facts.OwnFacts.{OwnFacts}
use Rattle.vega_copies.specs.declared.facts.Step.{Step}
use Rattle.vega_copies.specs.declared.made.CopiesMade.{CopiesMade, out-CopiesMade}
use Rattle.vega_copies.specs.declared.made.CopyMade.{CopyMade, out-CopyMade}
use Rattle.vega_copies.specs.declared.names.Level.{Level}
use Rattle.vega_copies.specs.Outlines.{Object, Marks, NoMarks, AMark, AGroup}
use Rattle.vega_copies.specs.Scopes.{Names, keeps_signals}
use Rattle.vega_copies.specs.Facets.{Copy}
use Rattle.vega_copies.specs.CopyNames.{names_in_copy}
use Rattle.vega_copies.specs.Facts.{CopyFound, copy_found, found_in}
use Rattle.vega_copies.specs.inner.FactsSeen.{ListsOnPaths}
use Rattle.vega_copies.specs.inner.Made.{names_under, rows_under}
use Rattle.vega_copies.specs.inner.Outlined.{group_object, marks_in, marks_of}

-- ---- what names stand for on paths

-- where a path leads: the levels of names there, the inner before the outer, and what was made of the marks there
pub record MadeAt : Type 0 where
  pub levels : List Level
  pub inside : List CopiesMade

abbrev pub top_made : Level → List CopiesMade → MadeAt
top_made level made = record { levels = level ∷ []; inside = made }

-- in a copy
abbrev pub made_within : List Level → CopyMade → MadeAt
made_within levels copy = record { levels = (out-CopyMade copy).level ∷ levels; inside = (out-CopyMade copy).inside }

-- the copy to which a step leads, if there is one
abbrev pub copy_stepped : List CopiesMade → Step → Option CopyMade
copy_stepped inside step = slice_get inside step.mark >>= λ found. slice_get (out-CopiesMade found).copies step.copy

-- one step further; where there is no such copy, no further
abbrev pub made_behind : MadeAt → Step → MadeAt
made_behind here step = option_map_or (made_within here.levels) (copy_stepped here.inside step) here

-- where a path leads from the top, the inner steps before the outer
abbrev pub made_at : MadeAt → List Step → MadeAt
made_at top [] = top
made_at top (step ∷ outer) = made_behind (made_at top outer) step

-- the same one by one: what was made of the marks there
abbrev pub inside_behind : List CopiesMade → Step → List CopiesMade
inside_behind inside step = option_map_or (λ (copy : CopyMade). (out-CopyMade copy).inside) (copy_stepped inside step) inside

abbrev pub inside_at : List CopiesMade → List Step → List CopiesMade
inside_at made [] = made
inside_at made (step ∷ outer) = inside_behind (inside_at made outer) step

-- the levels of names there
abbrev pub levels_at : Level → List CopiesMade → List Step → List Level
levels_at level made [] = level ∷ []
levels_at level made (step ∷ outer) =
    option_map_or (λ (copy : CopyMade). (out-CopyMade copy).level ∷ levels_at level made outer) (copy_stepped (inside_at made outer) step)
    (levels_at level made outer)

-- the rows for which names stand there
abbrev pub lists_on : List Named → MadeAt → ListsOnPaths
lists_on sources top path = scope_read (rows_under sources (made_at top path).levels)

-- ---- facts of what was made

-- what a scale scales where names stand for lists and values
abbrev pub domain_at : Names → VegaScale → Option Scaled
domain_at names = domain_of names.values names.lists

-- what is found of a copy of an object with these marks
abbrev pub copy_found_at : List Dataset → Option (List (List ℕ × Cell)) → Object → Marks → Names → Option CopyFound
copy_found_at sources cells o inside names = copy_found cells o names (found_in sources inside names)

-- what is found of a copy of a group, from what names stand for round it
abbrev pub copy_found_in : List Dataset → VgMark-F Group VgMark → Names → Copy → Option CopyFound
copy_found_in sources m names copy =
    names_in_copy sources names (group_object 0 m) copy >>= λ here.
    copy_found_at sources copy.cells (group_object 0 m) (marks_of (marks_in (out-Group m.group))) here

-- what comes of rows in a copy of an object beside the copies in it, of its parts
abbrev pub own_with : Settled → Option (List (List ℕ × Cell)) → List Scaled → OwnFacts
own_with signals cells domains = record { cells = cells; signals = signals; domains = domains }

-- What holds of it, where names stand for lists and values there, its own signals have these values, and these are its cells.
pub record IsOwn (o : Object) (names : Names) (signals : Settled) (cells : Option (List (List ℕ × Cell))) (own : OwnFacts) : Type 0 where
  pub cells_are : own.cells ≡ cells
  pub signals_are : own.signals ≡ signals
  pub kept : keeps_signals names o ≡ true
  pub domains : all_found (map (domain_at names) o.scales) ≡ Some own.domains
  pub fits : AllZip FitsScale o.scales own.domains

-- the facts of a copy, where this was found of the marks in it
abbrev pub facts_over : OwnFacts → List MarkFacts → CopyFacts
facts_over own inside = roll-CopyFacts (record { cells = own.cells; signals = own.signals; domains = own.domains; inside = inside })

-- What holds of the facts of a copy of an object, where these are its levels of names, the values of its own signals and its cells, and this was
-- made of the marks in it.
pub record IsFactsOf (stores : List StoreOf) (sources : List Named) (o : Object)
    (Inside : List Level → List CopiesMade → List MarkFacts → Type 0) (levels : List Level)
    (signals : Settled) (cells : Option (List (List ℕ × Cell))) (made : List CopiesMade) (c : CopyFacts) : Type 0 where
  pub cells_are : (out-CopyFacts c).cells ≡ cells
  pub signals_are : (out-CopyFacts c).signals ≡ signals
  pub kept : keeps_signals (names_under stores sources levels) o ≡ true
  pub domains : all_found (map (domain_at (names_under stores sources levels)) o.scales) ≡ Some (out-CopyFacts c).domains
  pub fits : AllZip FitsScale o.scales (out-CopyFacts c).domains
  pub inside : Inside levels made (out-CopyFacts c).inside

-- the same of a copy of a group that was made
abbrev pub IsFactsIn : List StoreOf → List Named → Object
    → (List Level → List CopiesMade → List MarkFacts → Type 0) → List Level → CopyMade → CopyFacts → Type 0
IsFactsIn stores sources o Inside levels copy c =
    IsFactsOf stores sources o Inside ((out-CopyMade copy).level ∷ levels)
    (out-CopyMade copy).level.signals (out-CopyMade copy).cells (out-CopyMade copy).inside c

-- the facts of a group: those of its copies
pub record AreGroupFacts (stores : List StoreOf) (sources : List Named) (o : Object)
    (Inside : List Level → List CopiesMade → List MarkFacts → Type 0) (levels : List Level)
    (made : CopiesMade) (facts : MarkFacts) : Type 0 where
  pub copies : AllZip (IsFactsIn stores sources o Inside levels) (out-CopiesMade made).copies (out-MarkFacts facts).copies
  pub across : (out-MarkFacts facts).across ≡ (out-CopiesMade made).across

-- those of a mark other than a group
pub record IsNoFacts (facts : MarkFacts) : Type 0 where
  pub copies : (out-MarkFacts facts).copies ≡ []
  pub across : (out-MarkFacts facts).across ≡ None

-- the facts of each of some marks, where these are the levels of names and this was made of each
abbrev pub HasFacts : List StoreOf → List Named → Marks → List Level → List CopiesMade → List MarkFacts → Type 0
HasFacts stores sources NoMarks levels made [] = Unit {0}
HasFacts stores sources NoMarks levels made (facts ∷ more) = ⊥
HasFacts stores sources (AMark unit mark others) levels [] facts = ⊥
HasFacts stores sources (AMark unit mark others) levels (found ∷ made) [] = ⊥
HasFacts stores sources (AMark unit mark others) levels (found ∷ made) (facts ∷ more) = IsNoFacts facts × HasFacts stores sources others levels made more
HasFacts stores sources (AGroup o inside others) levels [] facts = ⊥
HasFacts stores sources (AGroup o inside others) levels (found ∷ made) [] = ⊥
HasFacts stores sources (AGroup o inside others) levels (found ∷ made) (facts ∷ more) =
    AreGroupFacts stores sources o (HasFacts stores sources inside) levels found facts × HasFacts stores sources others levels made more

-- the facts of one mark
abbrev pub OneHasFacts : List StoreOf → List Named → List Level → VgMark → CopiesMade → MarkFacts → Type 0
OneHasFacts stores sources levels m found facts = HasFacts stores sources (marks_of (m ∷ [])) levels (found ∷ []) (facts ∷ [])

-- those of a copy of a group
abbrev pub CopyHasFacts : List StoreOf → List Named → List Level → VgMark-F Group VgMark → CopyMade → CopyFacts → Type 0
CopyHasFacts stores sources levels m copy c =
    IsFactsIn stores sources (group_object 0 m) (HasFacts stores sources (marks_of (marks_in (out-Group m.group)))) levels copy c
