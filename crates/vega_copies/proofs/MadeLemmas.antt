-- Trees of copies: marks one after the other, and the copies of a group.
use Rattle.std.proofs.Common.{◌≡◌, ℕ, ◌+◌, ◌<◌, Bool, true, false, Some, List, [], ◌∷◌, ◌++◌, map, length, drop, take, get_or, Bor, refl}
use Rattle.std.proofs.Common.{sym, ap, ◌∙◌, subst, append-nil, append_assoc, add-one, Global}
use Rattle.std.specs.List.{All, AllZip}
use Rattle.std.proofs.lemmas.List.{drop_more, map-append, nil_from_length}
use Rattle.std.specs.declared.vec.IntoIter.{IntoIter}
use Rattle.std.specs.Vec.Iter.{into_iter_items, into_iter_len}
use Rattle.std.proofs.Math.Seq.{take-suc}
use Rattle.cell_value.specs.State.{Dataset, dataset_of}
use Rattle.cell_value.specs.declared.state.Named.{Named}
use Rattle.cell_value.specs.declared.state.StoreOf.{StoreOf}
use Rattle.vega_lists.specs.Held.{scope_read, AreAllRows}
use Rattle.vega_lists.specs.Inside.{RowsByName, rows_inside}
use Rattle.vega_signals.specs.Settling.{values_inside}
use Rattle.vega_spec.specs.declared.spec.Group.{out-Group}
use Rattle.vega_spec.specs.declared.spec.VgMark.{VgMark, out-VgMark}
use Rattle.vega_copies.specs.declared.copies.CopyOf.{CopyOf}
use Rattle.vega_copies.specs.declared.made.CopiesMade.{CopiesMade, CopiesMade-F, out-CopiesMade}
use Rattle.vega_copies.specs.declared.made.CopyMade.{CopyMade, CopyMade-F, out-CopyMade}
use Rattle.vega_copies.specs.declared.names.Level.{Level}
use Rattle.vega_copies.specs.declared.names.NamesAt.{NamesAt}
use Rattle.vega_copies.specs.Outlines.{Marks, object_here}
use Rattle.vega_copies.specs.Scopes.{Names, names_in_object}
use Rattle.vega_copies.specs.CopyNames.{names_in_copy}
use Rattle.vega_copies.specs.Facets.{Copy, copies_of, columns_across}
use Rattle.vega_copies.specs.inner.Copied.{copy_seen}
use Rattle.vega_copies.specs.inner.Levels.{parts_over, rows_at, names_at, names_over, names_with_level, rows_with_level, AreLevels}
use Rattle.vega_copies.specs.inner.Made.{levels_behind, rows_under, names_under, made_seen, IsGroupMade, IsNoGroup, AreMade, OneMade, IsCopyMade, HaveCopies}
use Rattle.vega_copies.specs.inner.Outlined.{marks_in, marks_of, is_group, group_object}
use Rattle.vega_copies.specs.inner.Standing.{MayStand, MarksMayFold}
use Rattle.vega_copies.proofs.OutlineLemmas.{plain_first, group_first}
use Rattle.vega_copies.proofs.StandLemmas.{rows_are_under, values_are_under, names_of_copy, rows_entered, marks_kept}

-- ---- names under levels

pub names_are_under : (stores : List StoreOf) (sources : List Named) (levels : List (Bor Level))
    → names_at stores sources levels ≡ names_under stores sources (levels_behind levels)
names_are_under stores sources levels = λ i. record {
  lists = scope_read (rows_are_under sources levels i);
  values = values_are_under stores levels i;
}

pub rows_with_under : (outer : NamesAt) (level : Level)
    → rows_with_level outer level ≡ rows_under outer.sources.now (level ∷ levels_behind outer.levels.now)
rows_with_under outer level =
    ap (λ (rows : RowsByName). rows_inside outer.sources.now (parts_over level.parts rows) level.lists) (rows_are_under outer.sources.now outer.levels.now)

pub names_with_under : (outer : NamesAt) (level : Level)
    → names_with_level outer level ≡ names_under outer.stores.now outer.sources.now (level ∷ levels_behind outer.levels.now)
names_with_under outer level = λ i. record {
  lists = scope_read (rows_with_under outer level i);
  values = values_inside level.signals (values_are_under outer.stores.now outer.levels.now i);
}

-- ---- what was made of marks, the first and the others

abbrev inside_of_mark : VgMark → Marks
inside_of_mark m = marks_of (marks_in (out-Group (out-VgMark m).group))

module _ (stores : List StoreOf) (sources : List Named) (levels : List Level) where
  abbrev group_and_more : VgMark → Marks → CopiesMade → List CopiesMade → Type 0
  group_and_more m others found more =
      IsGroupMade stores sources (group_object 0 (out-VgMark m)) (inside_of_mark m) (AreMade stores sources (inside_of_mark m)) levels found
      × AreMade stores sources others levels more

  group_opened : (m : VgMark) (ms : List VgMark) (found : CopiesMade) (more : List CopiesMade) → is_group (out-VgMark m) ≡ true
      → AreMade stores sources (marks_of (m ∷ ms)) levels (found ∷ more) → group_and_more m (marks_of ms) found more
  group_opened m ms found more e made = subst (λ row. AreMade stores sources row levels (found ∷ more)) (group_first m (marks_of ms) e) made

  group_closed : (m : VgMark) (ms : List VgMark) (found : CopiesMade) (more : List CopiesMade) → is_group (out-VgMark m) ≡ true
      → group_and_more m (marks_of ms) found more → AreMade stores sources (marks_of (m ∷ ms)) levels (found ∷ more)
  group_closed m ms found more e made = subst (λ row. AreMade stores sources row levels (found ∷ more)) (sym (group_first m (marks_of ms) e)) made

  plain_opened : (m : VgMark) (ms : List VgMark) (found : CopiesMade) (more : List CopiesMade) → is_group (out-VgMark m) ≡ false
      → AreMade stores sources (marks_of (m ∷ ms)) levels (found ∷ more) → IsNoGroup found × AreMade stores sources (marks_of ms) levels more
  plain_opened m ms found more e made = subst (λ row. AreMade stores sources row levels (found ∷ more)) (plain_first m (marks_of ms) e) made

  plain_closed : (m : VgMark) (ms : List VgMark) (found : CopiesMade) (more : List CopiesMade) → is_group (out-VgMark m) ≡ false
      → IsNoGroup found × AreMade stores sources (marks_of ms) levels more → AreMade stores sources (marks_of (m ∷ ms)) levels (found ∷ more)
  plain_closed m ms found more e made = subst (λ row. AreMade stores sources row levels (found ∷ more)) (sym (plain_first m (marks_of ms) e)) made

  -- a group alone, and another mark
  pub copies_made : (m : VgMark) (found : CopiesMade) → is_group (out-VgMark m) ≡ true → OneMade stores sources levels m found
      → IsGroupMade stores sources (group_object 0 (out-VgMark m)) (inside_of_mark m) (AreMade stores sources (inside_of_mark m)) levels found
  copies_made m found e made = (group_opened m [] found [] e made).0

  pub group_is : (m : VgMark) (found : CopiesMade) → is_group (out-VgMark m) ≡ true
      → IsGroupMade stores sources (group_object 0 (out-VgMark m)) (inside_of_mark m) (AreMade stores sources (inside_of_mark m)) levels found
      → OneMade stores sources levels m found
  group_is m found e made = group_closed m [] found [] e (made, tt)

  pub nothing_made : (m : VgMark) (found : CopiesMade) → is_group (out-VgMark m) ≡ false → OneMade stores sources levels m found → IsNoGroup found
  nothing_made m found e made = (plain_opened m [] found [] e made).0

  pub plain_is : (m : VgMark) (found : CopiesMade) → is_group (out-VgMark m) ≡ false → IsNoGroup found → OneMade stores sources levels m found
  plain_is m found e made = plain_closed m [] found [] e (made, tt)

  -- marks one after the other
  joined : (m : VgMark) (ms : List VgMark) (found : CopiesMade) (more : List CopiesMade) → OneMade stores sources levels m found
      → AreMade stores sources (marks_of ms) levels more → AreMade stores sources (marks_of (m ∷ ms)) levels (found ∷ more)
  joined m ms found more one rest = by_type (is_group (out-VgMark m)) refl
    where
      by_type : (b : Bool) → is_group (out-VgMark m) ≡ b → AreMade stores sources (marks_of (m ∷ ms)) levels (found ∷ more)
      by_type true e = group_closed m ms found more e (copies_made m found e one, rest)
      by_type false e = plain_closed m ms found more e (nothing_made m found e one, rest)

  parted : (m : VgMark) (ms : List VgMark) (found : CopiesMade) (more : List CopiesMade) → AreMade stores sources (marks_of (m ∷ ms)) levels (found ∷ more)
      → OneMade stores sources levels m found × AreMade stores sources (marks_of ms) levels more
  parted m ms found more made = by_type (is_group (out-VgMark m)) refl
    where
      by_type : (b : Bool) → is_group (out-VgMark m) ≡ b → OneMade stores sources levels m found × AreMade stores sources (marks_of ms) levels more
      by_type true e = let both = group_opened m ms found more e made in (group_is m found e both.0, both.1)
      by_type false e = let both = plain_opened m ms found more e made in (plain_is m found e both.0, both.1)

  not_none : (m : VgMark) (ms : List VgMark) → AreMade stores sources (marks_of (m ∷ ms)) levels [] → ⊥
  not_none m ms made = by_type (is_group (out-VgMark m)) refl
    where
      by_type : (b : Bool) → is_group (out-VgMark m) ≡ b → ⊥
      by_type true e = subst (λ row. AreMade stores sources row levels []) (group_first m (marks_of ms) e) made
      by_type false e = subst (λ row. AreMade stores sources row levels []) (plain_first m (marks_of ms) e) made

  pub all_made : (marks : List VgMark) (found : List CopiesMade)
      → AllZip (OneMade stores sources levels) marks found → AreMade stores sources (marks_of marks) levels found
  all_made [] [] each = tt
  all_made [] (f ∷ fs) each = absurd each
  all_made (m ∷ ms) [] each = absurd each
  all_made (m ∷ ms) (f ∷ fs) each = joined m ms f fs each.0 (all_made ms fs each.1)

  pub each_made : (marks : List VgMark) (found : List CopiesMade)
      → AreMade stores sources (marks_of marks) levels found → AllZip (OneMade stores sources levels) marks found
  each_made [] [] made = tt
  each_made [] (f ∷ fs) made = absurd made
  each_made (m ∷ ms) [] made = absurd (not_none m ms made)
  each_made (m ∷ ms) (f ∷ fs) made = let both = parted m ms f fs made in (both.0, each_made ms fs both.1)

-- ---- lists that are made bit by bit

zip_push : {A B : Type 0} (R : A → B → Type 0) (xs : List A) (ys : List B) (x : A) (y : B) → AllZip R xs ys → R x y → AllZip R (xs ++ x ∷ []) (ys ++ y ∷ [])
zip_push R [] [] x y each here = (here, tt)
zip_push R [] (b ∷ ys) x y each here = absurd each
zip_push R (a ∷ xs) [] x y each here = absurd each
zip_push R (a ∷ xs) (b ∷ ys) x y each here = (each.0, zip_push R xs ys x y each.1 here)

pub zip_more : {A B : Type 0} (R : A → B → Type 0) (xs : List A) (ys : List B) (i : ℕ) (x : A) (y : B) → i < length xs → x ≡ get_or xs i x
    → AllZip R (take i xs) ys → R x y → AllZip R (take (i + 1) xs) (ys ++ y ∷ [])
zip_more R xs ys i x y within is each here =
    let more : take (i + 1) xs ≡ take i xs ++ x ∷ [] =
    ap (λ k. take k xs) (add-one i) ∙ take-suc xs i x within ∙ ap (λ z. take i xs ++ z ∷ []) (sym is) in
    subst (λ front. AllZip R front (ys ++ y ∷ [])) (sym more) (zip_push R (take i xs) ys x y each here)

-- the element at a place, and those behind it
pub at_place : {X : Type 0} (xs : List X) (i : ℕ) (x : X) → i < length xs → x ≡ get_or xs i x → drop i xs ≡ x ∷ drop (i + 1) xs
at_place xs i x within is = drop_more xs i x within ∙ ap (λ y. y ∷ drop (i + 1) xs) (sym is)

-- nothing is left behind an iterator
pub none_left : {X : Type 0} (items : IntoIter X Global) → into_iter_len items ≡ 0 → into_iter_items items ≡ []
none_left items e = nil_from_length items.rest.items (sym items.rest.ok.0 ∙ e)

-- ---- the copies of a group, one after the other

module _ (whole : List Copy) where
  pub seen_next : (made new : List CopyMade) (one : CopyMade) (items rest : List CopyOf) (copy : CopyOf) → items ≡ copy ∷ rest → new ≡ made ++ one ∷ []
      → made_seen one ≡ copy_seen copy → map made_seen made ++ map copy_seen items ≡ whole → map made_seen new ++ map copy_seen rest ≡ whole
  seen_next made new one items rest copy told grown same are =
      ap (λ l. map made_seen l ++ map copy_seen rest) grown
      ∙ ap (λ l. l ++ map copy_seen rest) (map-append made_seen made (one ∷ []))
      ∙ append_assoc (map made_seen made) (made_seen one ∷ []) (map copy_seen rest)
      ∙ ap (λ c. map made_seen made ++ c ∷ map copy_seen rest) same
      ∙ ap (λ l. map made_seen made ++ map copy_seen l) (sym told)
      ∙ are

  pub seen_end : (made : List CopyMade) (items : List CopyOf) → items ≡ [] → map made_seen made ++ map copy_seen items ≡ whole → map made_seen made ≡ whole
  seen_end made items none are = sym (append-nil (map made_seen made)) ∙ ap (λ l. map made_seen made ++ map copy_seen l) (sym none) ∙ are

-- what is made of a group, from its copies
pub group_made : (names : NamesAt) (m : VgMark) (found : CopiesMade) (parts : CopiesMade-F CopiesMade CopyMade) → out-CopiesMade found ≡ parts
    → is_group (out-VgMark m) ≡ true
    → map made_seen parts.copies ≡ copies_of (scope_read (rows_at names.sources.now names.levels.now)) (group_object 0 (out-VgMark m))
    → parts.across ≡ columns_across (scope_read (rows_at names.sources.now names.levels.now)) (group_object 0 (out-VgMark m))
    → All (IsCopyMade names.stores.now names.sources.now (levels_behind names.levels.now) (out-VgMark m)) parts.copies
    → OneMade names.stores.now names.sources.now (levels_behind names.levels.now) m found
group_made names m found parts are e copies across sound =
    group_is names.stores.now names.sources.now (levels_behind names.levels.now) m found e
    (record {
      copies =
          ap (λ (p : CopiesMade-F CopiesMade CopyMade). map made_seen p.copies) are ∙ copies
          ∙ ap (λ (rows : RowsByName). copies_of (scope_read rows) (group_object 0 (out-VgMark m))) (rows_are_under names.sources.now names.levels.now);
      across =
          ap (λ (p : CopiesMade-F CopiesMade CopyMade). p.across) are ∙ across
          ∙ ap (λ (rows : RowsByName). columns_across (scope_read rows) (group_object 0 (out-VgMark m))) (rows_are_under names.sources.now names.levels.now);
      sound =
          subst (λ (p : CopiesMade-F CopiesMade CopyMade).
          All (IsCopyMade names.stores.now names.sources.now (levels_behind names.levels.now) (out-VgMark m)) p.copies)
          (sym are) sound;
    })

-- ---- a copy that is made

module _ (outer : NamesAt) (m : VgMark) (copy : CopyOf) where
  abbrev round : List Level
  round = levels_behind outer.levels.now

  abbrev sources_read : List Dataset
  sources_read = map dataset_of outer.sources.now

  -- what names stand for in it
  names_made : (made : CopyMade) (level : Level)
      → names_in_object sources_read (names_over outer copy.parts) (object_here (out-Group (out-VgMark m).group)) ≡ Some (names_with_level outer level)
      → made_seen made ≡ copy_seen copy
      → names_in_copy sources_read (names_under outer.stores.now outer.sources.now round) (group_object 0 (out-VgMark m)) (made_seen made)
      ≡ Some (names_under outer.stores.now outer.sources.now (level ∷ round))
  names_made made level found seen =
      (λ i. names_in_copy sources_read (sym (names_are_under outer.stores.now outer.sources.now outer.levels.now) i) (group_object 0 (out-VgMark m)) (seen i))
      ∙ names_of_copy sources_read outer (group_object 0 (out-VgMark m)) copy
      ∙ found
      ∙ ap Some (names_with_under outer level)

  -- what holds of it
  pub copy_made : (made : CopyMade) (parts : CopyMade-F CopiesMade CopyMade) → out-CopyMade made ≡ parts
      → names_in_object sources_read (names_over outer copy.parts) (object_here (out-Group (out-VgMark m).group)) ≡ Some (names_with_level outer parts.level)
      → record { cells = parts.cells; parts = map dataset_of parts.level.parts } ≡ copy_seen copy → AreAllRows (rows_with_level outer parts.level)
      → MayStand (rows_with_level outer parts.level) (marks_in (out-Group (out-VgMark m).group))
      → AllZip (OneMade outer.stores.now outer.sources.now (parts.level ∷ round)) (marks_in (out-Group (out-VgMark m).group)) parts.inside
      → IsCopyMade outer.stores.now outer.sources.now round (out-VgMark m) made
  copy_made made parts are found seen rows stand each = record {
    names =
        names_made made parts.level found
        (ap (λ (p : CopyMade-F CopiesMade CopyMade). record { cells = p.cells; parts = map dataset_of p.level.parts }) are ∙ seen)
        ∙ ap (λ (p : CopyMade-F CopiesMade CopyMade). Some (names_under outer.stores.now outer.sources.now (p.level ∷ round))) (sym are);
    rows =
        subst (λ (p : CopyMade-F CopiesMade CopyMade). AreAllRows (rows_under outer.sources.now (p.level ∷ round))) (sym are)
        (subst AreAllRows (rows_with_under outer parts.level) rows);
    folds =
        subst (λ (p : CopyMade-F CopiesMade CopyMade). MarksMayFold (rows_under outer.sources.now (p.level ∷ round)) (inside_of_mark m)) (sym are)
        (subst (λ rows. MarksMayFold rows (inside_of_mark m)) (rows_with_under outer parts.level) stand.folds);
    within =
        subst (λ (p : CopyMade-F CopiesMade CopyMade). AreMade outer.stores.now outer.sources.now (inside_of_mark m) (p.level ∷ round) p.inside) (sym are)
        (all_made outer.stores.now outer.sources.now (parts.level ∷ round) (marks_in (out-Group (out-VgMark m).group)) parts.inside each);
  }

-- ---- one more level

-- marks in a copy may stand where its level is the innermost
pub stand_with : (outer : NamesAt) (level : Level) (levels : List (Bor Level)) (marks : List VgMark)
    → levels_behind levels ≡ level ∷ levels_behind outer.levels.now
    → MayStand (rows_with_level outer level) marks → MayStand (rows_at outer.sources.now levels) marks
stand_with outer level levels marks more stand = subst (λ rows. MayStand rows marks) (sym (rows_entered outer level levels more)) stand

-- ---- copies that are entered

module _ (stores : List StoreOf) (sources : List Named) (outer : List (Bor Level)) (m : VgMark) (made : CopyMade)
    (is : IsCopyMade stores sources (levels_behind outer) (out-VgMark m) made) where
  -- what names stand for in a copy that was made
  pub names_in_made : (number : ℕ)
      → names_in_copy (map dataset_of sources) (names_at stores sources outer) (group_object number (out-VgMark m)) (made_seen made)
      ≡ Some (names_under stores sources ((out-CopyMade made).level ∷ levels_behind outer))
  names_in_made number =
      ap (λ (names : Names). names_in_copy (map dataset_of sources) names (group_object number (out-VgMark m)) (made_seen made))
      (names_are_under stores sources outer)
      ∙ is.names

  module _ (levels : List (Bor Level)) (more : levels_behind levels ≡ (out-CopyMade made).level ∷ levels_behind outer) where
    -- the names where its level is the innermost
    pub names_entered_are : names_under stores sources ((out-CopyMade made).level ∷ levels_behind outer) ≡ names_at stores sources levels
    names_entered_are = ap (names_under stores sources) (sym more) ∙ sym (names_are_under stores sources levels)

    rows_entered_are : rows_under sources ((out-CopyMade made).level ∷ levels_behind outer) ≡ rows_at sources levels
    rows_entered_are = ap (rows_under sources) (sym more) ∙ sym (rows_are_under sources levels)

    pub levels_in_made : AreLevels sources outer → AreLevels sources levels
    levels_in_made are = record { sources_are = are.sources_are; rows = subst AreAllRows rows_entered_are is.rows }

    -- the marks in it have their copies there
    pub copies_in_made : (found : List CopiesMade) → found ≡ (out-CopyMade made).inside
        → is_group (out-VgMark m) ≡ true → MayStand (rows_at sources outer) (m ∷ [])
        → HaveCopies stores sources levels (marks_in (out-Group (out-VgMark m).group)) found
    copies_in_made found there e stand = record {
      stand = record {
        kept = marks_kept (rows_at sources outer) m e stand;
        folds = subst (λ rows. MarksMayFold rows (inside_of_mark m)) rows_entered_are is.folds;
      };
      made =
          subst (AllZip (OneMade stores sources (levels_behind levels)) (marks_in (out-Group (out-VgMark m).group))) (sym there)
          (each_made stores sources (levels_behind levels) (marks_in (out-Group (out-VgMark m).group)) (out-CopyMade made).inside
          (subst (λ l. AreMade stores sources (inside_of_mark m) l (out-CopyMade made).inside) (sym more) is.within));
    }

-- the copies of a group where these are the levels
module _ (stores : List StoreOf) (sources : List Named) (levels : List (Bor Level)) (m : VgMark) (found : CopiesMade) (e : is_group (out-VgMark m) ≡ true)
    (one : OneMade stores sources (levels_behind levels) m found) where
  pub copies_are : (number : ℕ)
      → map made_seen (out-CopiesMade found).copies ≡ copies_of (names_at stores sources levels).lists (group_object number (out-VgMark m))
  copies_are number =
      (copies_made stores sources (levels_behind levels) m found e one).copies
      ∙ ap (λ (names : Names). copies_of names.lists (group_object number (out-VgMark m))) (sym (names_are_under stores sources levels))

  pub each_copy_made : All (IsCopyMade stores sources (levels_behind levels) (out-VgMark m)) (out-CopiesMade found).copies
  each_copy_made = (copies_made stores sources (levels_behind levels) m found e one).sound
