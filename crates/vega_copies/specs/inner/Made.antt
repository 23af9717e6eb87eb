-- The copies of groups as a tree that was made, as definitions see it.
use Rattle.std.specs.Prelude.{◌≡◌, Some, None, List, [], ◌∷◌, map}
use Rattle.std.specs.Borrow.{Bor}
use Rattle.std.specs.List.{All, AllZip}
use Rattle.cell_value.specs.State.{dataset_of}
use Rattle.cell_value.specs.declared.state.Named.{Named}
use Rattle.cell_value.specs.declared.state.StoreOf.{StoreOf}
use Rattle.expr_eval.specs.Stores.{values_of_stores}
use Rattle.expr_eval.specs.Values.{Values}
use Rattle.vega_lists.specs.Held.{scope_read, AreAllRows}
use Rattle.vega_lists.specs.Inside.{RowsByName, no_rows, rows_inside}
use Rattle.vega_signals.specs.Settling.{values_inside}
use Rattle.vega_spec.specs.declared.spec.Group.{Group, out-Group}
use Rattle.vega_spec.specs.declared.spec.VgMark.{VgMark, VgMark-F}
use Rattle.vega_copies.specs.declared.made.CopiesMade.{CopiesMade, out-CopiesMade}
use Rattle.vega_copies.specs.declared.made.CopyMade.{CopyMade, out-CopyMade}
use Rattle.vega_copies.specs.declared.names.Level.{Level}
use Rattle.vega_copies.specs.Outlines.{Object, Marks, NoMarks, AMark, AGroup}
use Rattle.vega_copies.specs.Scopes.{Names}
use Rattle.vega_copies.specs.Facets.{Copy, copies_of, columns_across}
use Rattle.vega_copies.specs.CopyNames.{names_in_copy}
use Rattle.vega_copies.specs.inner.Levels.{parts_over, rows_at}
use Rattle.vega_copies.specs.inner.Outlined.{marks_in, marks_of, group_object}
use Rattle.vega_copies.specs.inner.Standing.{MarksMayFold, MayStand}

-- ---- names under levels, the inner before the outer

abbrev pub levels_behind : List (Bor Level) → List Level
levels_behind levels = map (λ (level : Bor Level). level.now) levels

abbrev pub rows_under : List Named → List Level → RowsByName
rows_under sources [] = no_rows
rows_under sources (level ∷ outer) = rows_inside sources (parts_over level.parts (rows_under sources outer)) level.lists

abbrev pub values_under : List StoreOf → List Level → Values
values_under stores [] = values_of_stores stores
values_under stores (level ∷ outer) = values_inside level.signals (values_under stores outer)

abbrev pub names_under : List StoreOf → List Named → List Level → Names
names_under stores sources levels = record { lists = scope_read (rows_under sources levels); values = values_under stores levels }

-- ---- the tree

abbrev pub made_seen : CopyMade → Copy
made_seen m = record { cells = (out-CopyMade m).cells; parts = map dataset_of (out-CopyMade m).level.parts }

-- What holds of a copy of a group that was made where these are the levels round it, and what holds of the copies in it.
pub record IsMade (stores : List StoreOf) (sources : List Named) (o : Object) (inside : Marks)
    (Within : List Level → List CopiesMade → Type 0) (levels : List Level)
    (m : CopyMade) : Type 0 where
  -- what names stand for in it
  pub names : names_in_copy (map dataset_of sources) (names_under stores sources levels) o (made_seen m)
      ≡ Some (names_under stores sources ((out-CopyMade m).level ∷ levels))
  pub rows : AreAllRows (rows_under sources ((out-CopyMade m).level ∷ levels))
  pub folds : MarksMayFold (rows_under sources ((out-CopyMade m).level ∷ levels)) inside
  pub within : Within ((out-CopyMade m).level ∷ levels) (out-CopyMade m).inside

-- What was made of a group: its copies.
pub record IsGroupMade (stores : List StoreOf) (sources : List Named) (o : Object) (inside : Marks)
    (Within : List Level → List CopiesMade → Type 0) (levels : List Level)
    (found : CopiesMade) : Type 0 where
  pub copies : map made_seen (out-CopiesMade found).copies ≡ copies_of (names_under stores sources levels).lists o
  pub across : (out-CopiesMade found).across ≡ columns_across (names_under stores sources levels).lists o
  pub sound : All (IsMade stores sources o inside Within levels) (out-CopiesMade found).copies

-- Nothing was made of a mark other than a group.
pub record IsNoGroup (found : CopiesMade) : Type 0 where
  pub copies : (out-CopiesMade found).copies ≡ []
  pub across : (out-CopiesMade found).across ≡ None

-- What was made of each of some marks, where these are the levels of names.
abbrev pub AreMade : List StoreOf → List Named → Marks → List Level → List CopiesMade → Type 0
AreMade stores sources NoMarks levels [] = Unit {0}
AreMade stores sources NoMarks levels (found ∷ more) = ⊥
AreMade stores sources (AMark unit mark others) levels [] = ⊥
AreMade stores sources (AMark unit mark others) levels (found ∷ more) = IsNoGroup found × AreMade stores sources others levels more
AreMade stores sources (AGroup o inside others) levels [] = ⊥
AreMade stores sources (AGroup o inside others) levels (found ∷ more) =
    IsGroupMade stores sources o inside (AreMade stores sources inside) levels found × AreMade stores sources others levels more

-- what was made of one mark
abbrev pub OneMade : List StoreOf → List Named → List Level → VgMark → CopiesMade → Type 0
OneMade stores sources levels m found = AreMade stores sources (marks_of (m ∷ [])) levels (found ∷ [])

-- a copy of a group that was made
abbrev pub IsCopyMade : List StoreOf → List Named → List Level → VgMark-F Group VgMark → CopyMade → Type 0
IsCopyMade stores sources levels m made =
    let inside = marks_of (marks_in (out-Group m.group)) in
    IsMade stores sources (group_object 0 m) inside (AreMade stores sources inside) levels made

-- Marks that keep the rules, with what was made of each, where these are the levels of names.
pub record HaveCopies (stores : List StoreOf) (sources : List Named) (levels : List (Bor Level)) (marks : List VgMark) (found : List CopiesMade) : Type 0 where
  pub stand : MayStand (rows_at sources levels) marks
  pub made : AllZip (OneMade stores sources (levels_behind levels)) marks found
