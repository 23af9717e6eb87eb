-- Why stops in turn are those of all rows, and a path over rows is painted by their first.
use Rattle.std.proofs.Common.{◌≡◌, ℕ, ◌+◌, ◌<◌, ◌≤◌, List, [], ◌∷◌, ◌++◌, length, drop, get_or, map, Option, Some, None, Err, refl, sym}
use Rattle.std.proofs.Common.{ap, ◌∙◌, add-one, arith}
use Rattle.std.specs.Borrow.{Bor}
use Rattle.std.proofs.Math.Seq.{drop-cons}
use Rattle.std.proofs.lemmas.List.{drop_all, append-nil}
use Rattle.fixed_num.specs.Ranges.{◌>>=◌, all_found}
use Rattle.fixed_num.proofs.FoundLemmas.{after, one_more}
use Rattle.cell_value.specs.declared.state.Keyed.{Keyed}
use Rattle.cell_value.specs.Datum.{Datum, datum_of}
use Rattle.expr_eval.specs.declared.error.EvalError.{EvalError}
use Rattle.expr_eval.specs.declared.error.EvalError.TheVariants.{Overflow, Memory}
use Rattle.expr_eval.specs.Answers.{Evaluates}
use Rattle.expr_eval.specs.Values.{Values}
use Rattle.scene_tree.specs.declared.scene.Item.{Item}
use Rattle.mark_encode.specs.Orders.{data_of}
use Rattle.mark_encode.specs.Paths.{PathValues, path_of, path_over}

-- what is found of the rows from a place on
module _ {Y : Type 0} (f : Datum → Option Y) (rows : List (Bor Keyed)) (i : ℕ) where
  abbrev pub found_from : Option (List Y)
  found_from = all_found (map f (data_of (drop i rows)))

  -- after the last row all is found
  pub finished : (out : List Y) (whole : Option (List Y)) → length rows ≤ i → whole ≡ after out found_from → whole ≡ Some out
  finished out whole past before =
      before ∙ ap (λ xs. after out (all_found (map f (data_of xs)))) (drop_all i rows past) ∙ ap Some (append-nil out)

module _ {Y : Type 0} (f : Datum → Option Y) (rows : List (Bor Keyed)) (i : ℕ) (row : Bor Keyed) where
  one_row : i < length rows → row ≡ get_or rows i row
      → found_from f rows i ≡ (f (datum_of row.now) >>= λ y. found_from f rows (i + 1) >>= λ ys. Some (y ∷ ys))
  one_row within is = rw (drop-cons rows i row within, add-one i, ← is) refl

  -- one row more
  pub next_row : (out grown : List Y) (y : Y) (whole : Option (List Y)) → i < length rows → row ≡ get_or rows i row
      → whole ≡ after out (found_from f rows i) → f (datum_of row.now) ≡ Some y → grown ≡ out ++ y ∷ []
      → whole ≡ after grown (found_from f rows (i + 1))
  next_row out grown y whole within is before this adds =
      before
      ∙ ap (after out) (one_row within is)
      ∙ ap (λ o. after out (o >>= λ y. found_from f rows (i + 1) >>= λ ys. Some (y ∷ ys))) this
      ∙ sym (one_more out y (found_from f rows (i + 1)))
      ∙ ap (λ l. after l (found_from f rows (i + 1))) (sym adds)

  -- an error at a row is the whole's
  pub stopped_row : (out : List Y) (whole : Option (List Y)) (e : EvalError) → i < length rows → row ≡ get_or rows i row
      → whole ≡ after out (found_from f rows i) → Evaluates {X = Y} (Err e) (f (datum_of row.now)) → Evaluates {X = List Y} (Err e) whole
  stopped_row out whole Overflow within is before told =
      before
      ∙ ap (after out) (one_row within is)
      ∙ ap (λ o. after out (o >>= λ y. found_from f rows (i + 1) >>= λ ys. Some (y ∷ ys))) told
  stopped_row out whole Memory within is before told = tt

-- before the first row nothing is found
pub starts : {Y : Type 0} (out : List Y) (whole : Option (List Y)) → out ≡ [] → whole ≡ after out whole
starts out None none = refl
starts out (Some found) none = ap (λ l. Some (l ++ found)) (sym none)

module _ (unit default : ℕ) (path : PathValues) (values : Values) where
  -- the path over rows of which one is the first
  pub over_first : (rows : List (Bor Keyed)) (first : Bor Keyed) → 1 ≤ length rows → first ≡ get_or rows 0 first
      → path_of unit default path values (datum_of first.now) (data_of rows) ≡ path_over unit default path values (data_of rows)
  over_first [] first some is = absurd (omega (arith, some))
  over_first (row ∷ rows) first some is =
      ap (λ (r : Bor Keyed). path_of unit default path values (datum_of r.now) (data_of (row ∷ rows))) is

  -- without rows there is no item
  pub over_none : (rows : List (Bor Keyed)) (items : List Item) → length rows < 1 → items ≡ []
      → path_over unit default path values (data_of rows) ≡ Some items
  over_none [] items none is = ap Some (sym is)
  over_none (row ∷ rows) items none is = absurd (omega (arith, none))
