-- What names stand for on paths to copies that were made.
use Rattle.std.proofs.Common.{◌≡◌, ℕ, zero, suc, Option, Some, None, List, [], ◌∷◌, Bor, refl, sym, ap, ◌∙◌, subst}
use Rattle.std.specs.Prelude.{slice_get}
use Rattle.std.specs.Option.{option_map_or}
use Rattle.std.specs.List.{All}
use Rattle.std.proofs.lemmas.List.Elements.{All-get_or}
use Rattle.std.proofs.lemmas.Option.{slice_get_within, get_or_from_slice_get}
use Rattle.fixed_num.specs.Ranges.{◌>>=◌}
use Rattle.cell_value.specs.declared.state.Named.{Named}
use Rattle.cell_value.specs.declared.state.StoreOf.{StoreOf}
use Rattle.vega_lists.specs.Held.{AreAllRows}
use Rattle.vega_spec.specs.declared.spec.VgMark.{VgMark}
use Rattle.vega_copies.specs.declared.facts.Step.{Step}
use Rattle.vega_copies.specs.declared.made.CopiesMade.{CopiesMade, out-CopiesMade}
use Rattle.vega_copies.specs.declared.made.CopyMade.{CopyMade, out-CopyMade}
use Rattle.vega_copies.specs.declared.names.Level.{Level}
use Rattle.vega_copies.specs.declared.names.NamesAt.{NamesAt}
use Rattle.vega_copies.specs.Outlines.{Marks, NoMarks, AMark, AGroup}
use Rattle.vega_copies.specs.inner.FactsMade.{MadeAt, top_made, made_within, copy_stepped, made_behind, made_at, inside_at, levels_at}
use Rattle.vega_copies.specs.inner.Levels.{rows_at, AreNames}
use Rattle.vega_copies.specs.inner.Made.{levels_behind, rows_under, IsMade, AreMade, HaveCopies}
use Rattle.vega_copies.specs.inner.Outlined.{marks_of}
use Rattle.vega_copies.proofs.MadeLemmas.{all_made}
use Rattle.vega_copies.proofs.StandLemmas.{rows_are_under}

-- what holds of an element at a place
at_there : {X : Type 0} (P : X → Type 0) (xs : List X) (n : ℕ) (x : X) → All P xs → slice_get xs n ≡ Some x → P x
at_there P xs n x all e = subst P (get_or_from_slice_get xs n x x e) (All-get_or P xs n x (slice_get_within xs n x e) all)

module _ (stores : List StoreOf) (sources : List Named) where
  -- what was made where a path leads
  pub record IsMadeAt (here : MadeAt) : Type 0 where
    pub marks : Marks
    pub made : AreMade stores sources marks here.levels here.inside
    pub rows : AreAllRows (rows_under sources here.levels)

  none_there : {A : Type 0} (o : Option CopyMade) (copy : CopyMade) → o ≡ None → o ≡ Some copy → A
  none_there o copy none some = absurd (let no : Some copy ≡ None = sym some ∙ none in cc)

  -- the copy to which a step leads was made
  stepped : (marks : Marks) (levels : List Level) (inside : List CopiesMade) (place n : ℕ) (copy : CopyMade) → AreMade stores sources marks levels inside
      → (slice_get inside place >>= λ found. slice_get (out-CopiesMade found).copies n) ≡ Some copy → IsMadeAt (made_within levels copy)
  stepped NoMarks levels [] place n copy made e = none_there None copy refl e
  stepped NoMarks levels (found ∷ more) place n copy made e = absurd made
  stepped (AMark unit m others) levels [] place n copy made e = absurd made
  stepped (AMark unit m others) levels (found ∷ more) zero n copy made e =
      none_there (slice_get (out-CopiesMade found).copies n) copy (ap (λ copies. slice_get copies n) made.0.copies) e
  stepped (AMark unit m others) levels (found ∷ more) (suc place) n copy made e = stepped others levels more place n copy made.1 e
  stepped (AGroup o deeper others) levels [] place n copy made e = absurd made
  stepped (AGroup o deeper others) levels (found ∷ more) zero n copy made e =
      let is : IsMade stores sources o deeper (AreMade stores sources deeper) levels copy =
      at_there (IsMade stores sources o deeper (AreMade stores sources deeper) levels) (out-CopiesMade found).copies n copy made.0.sound e in
      record { marks = deeper; made = is.within; rows = is.rows }
  stepped (AGroup o deeper others) levels (found ∷ more) (suc place) n copy made e = stepped others levels more place n copy made.1 e

  behind : (here : MadeAt) (step : Step) → IsMadeAt here → IsMadeAt (made_behind here step)
  behind here step is = by_copy (copy_stepped here.inside step) refl
    where
      by_copy : (o : Option CopyMade) → copy_stepped here.inside step ≡ o → IsMadeAt (option_map_or (made_within here.levels) o here)
      by_copy None e = is
      by_copy (Some copy) e = stepped is.marks here.levels here.inside step.mark step.copy copy is.made e

  on_path : (top : MadeAt) (path : List Step) → IsMadeAt top → IsMadeAt (made_at top path)
  on_path top [] is = is
  on_path top (step ∷ outer) is = behind (made_at top outer) step (on_path top outer is)

-- names stand for rows on all paths from the top
pub rows_on_paths : (names : NamesAt) (level : Level) (marks : List VgMark) (made : List CopiesMade) → levels_behind names.levels.now ≡ level ∷ []
    → AreNames names → HaveCopies names.stores.now names.sources.now names.levels.now marks made → (path : List Step)
    → AreAllRows (rows_under names.sources.now (made_at (top_made level made) path).levels)
rows_on_paths names level marks made levels are have path =
    let sources = names.sources.now in
    let stores = names.stores.now in
    let top : IsMadeAt stores sources (top_made level made) = record {
      marks = marks_of marks;
      made = subst (λ l. AreMade stores sources (marks_of marks) l made) levels (all_made stores sources (levels_behind names.levels.now) marks made have.made);
      rows = subst AreAllRows (rows_are_under sources names.levels.now ∙ ap (rows_under sources) levels) are.rows;
    } in
    (on_path stores sources (top_made level made) path top).rows

-- where a path leads, one by one
one_step : (levels : List Level) (inside : List CopiesMade) (o : Option CopyMade)
    → option_map_or (made_within levels) o (record { levels = levels; inside = inside })
    ≡ record {
      levels = option_map_or (λ (copy : CopyMade). (out-CopyMade copy).level ∷ levels) o levels;
      inside = option_map_or (λ (copy : CopyMade). (out-CopyMade copy).inside) o inside;
    }
one_step levels inside None = refl
one_step levels inside (Some copy) = refl

is_at : (level : Level) (made : List CopiesMade) (path : List Step)
    → made_at (top_made level made) path ≡ record { levels = levels_at level made path; inside = inside_at made path }
is_at level made [] = refl
is_at level made (step ∷ outer) =
    ap (λ (here : MadeAt). made_behind here step) (is_at level made outer)
    ∙ one_step (levels_at level made outer) (inside_at made outer) (copy_stepped (inside_at made outer) step)

-- names that stand for rows where these are the levels of a path
pub names_on_path : (sources : List Named) (level : Level) (made : List CopiesMade) (path : List Step) (levels : List (Bor Level))
    → levels_behind levels ≡ levels_at level made path
    → rows_under sources (made_at (top_made level made) path).levels ≡ rows_at sources levels
names_on_path sources level made path levels are =
    ap (rows_under sources) (ap (λ (here : MadeAt). here.levels) (is_at level made path) ∙ sym are) ∙ sym (rows_are_under sources levels)
