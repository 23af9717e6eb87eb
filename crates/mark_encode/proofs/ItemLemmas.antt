-- Why items in turn give all items.
use Rattle.std.proofs.Common.{◌≡◌, ℕ, ◌+◌, ◌<◌, ◌≤◌, List, [], ◌∷◌, ◌++◌, length, drop, get_or, Option, Some, None, Err, refl, sym}
use Rattle.std.proofs.Common.{ap, ◌∙◌, append_assoc, add-one}
use Rattle.std.specs.Option.{option_map, option_to_list}
use Rattle.std.specs.List.{filter_map}
use Rattle.std.specs.Borrow.{Bor}
use Rattle.std.proofs.Math.Seq.{drop-cons}
use Rattle.std.proofs.lemmas.List.{drop_all, append-nil}
use Rattle.fixed_num.specs.Ranges.{◌>>=◌}
use Rattle.cell_value.specs.declared.state.Keyed.{Keyed}
use Rattle.cell_value.specs.Datum.{Datum, datum_of}
use Rattle.expr_eval.specs.declared.error.EvalError.{EvalError}
use Rattle.expr_eval.specs.declared.error.EvalError.TheVariants.{Overflow, Memory}
use Rattle.expr_eval.specs.Answers.{Evaluates}
use Rattle.scene_tree.specs.declared.scene.Item.{Item}
use Rattle.mark_encode.specs.Orders.{data_of}
use Rattle.mark_encode.specs.Items.{items_with}

-- one and the others
pub one_and_rest : {X : Type 0} (one : Option (Option X)) (rest : Option (List (Option X)))
    → option_map (filter_map (λ found. found)) (one >>= λ x. rest >>= λ xs. Some (x ∷ xs))
    ≡ (one >>= λ x. option_map (λ more. option_to_list x ++ more) (option_map (filter_map (λ found. found)) rest))
one_and_rest None rest = refl
one_and_rest (Some None) None = refl
one_and_rest (Some (Some x)) None = refl
one_and_rest (Some None) (Some xs) = refl
one_and_rest (Some (Some x)) (Some xs) = refl

-- what was taken before the others
taken_on : {X : Type 0} (items more : List X) (rest : Option (List X))
    → option_map (λ all. items ++ all) (option_map (λ all. more ++ all) rest) ≡ option_map (λ all. (items ++ more) ++ all) rest
taken_on items more None = refl
taken_on items more (Some all) = ap Some (sym (append_assoc items more all))

stopped : {X Y Z : Type 0} (one : Option X) (rest : X → Option Y) (f : Y → Z) (e : EvalError) → Evaluates {X = X} (Err e) one
    → Evaluates {X = Z} (Err e) (option_map f (one >>= rest))
stopped one rest f Overflow told = ap (λ one. option_map f (one >>= rest)) told
stopped one rest f Memory told = tt

along : {X : Type 0} (a b : Option X) (e : EvalError) → a ≡ b → Evaluates {X = X} (Err e) b → Evaluates {X = X} (Err e) a
along a b Overflow same told = same ∙ told
along a b Memory same told = tt

module _ (item : Datum → Option (Option Item)) (rows : List (Bor Keyed)) (i : ℕ) where
  -- the items from a row on
  abbrev pub items_from : Option (List Item)
  items_from = items_with item (data_of (drop i rows))

  -- after the last row these are all
  pub all_items : (items : List Item) (whole : Option (List Item)) → length rows ≤ i → whole ≡ option_map (λ all. items ++ all) items_from
      → whole ≡ Some items
  all_items items whole past before =
      before ∙ ap (λ xs. option_map (λ all. items ++ all) (items_with item (data_of xs))) (drop_all i rows past) ∙ ap Some (append-nil items)

module _ (item : Datum → Option (Option Item)) (rows : List (Bor Keyed)) (i : ℕ) (row : Bor Keyed) where
  one_item : i < length rows → row ≡ get_or rows i row → items_from item rows i
      ≡ (item (datum_of row.now) >>= λ found. option_map (λ more. option_to_list found ++ more) (items_from item rows (i + 1)))
  one_item within is = rw (drop-cons rows i row within, add-one i, ← is) (one_and_rest _ _)

  -- one item more
  pub next_item : (items grown : List Item) (found : Option Item) (whole : Option (List Item)) → i < length rows → row ≡ get_or rows i row
      → whole ≡ option_map (λ all. items ++ all) (items_from item rows i) → item (datum_of row.now) ≡ Some found
      → grown ≡ items ++ option_to_list found → whole ≡ option_map (λ all. grown ++ all) (items_from item rows (i + 1))
  next_item items grown found whole within is before this adds =
      before
      ∙ ap (λ o. option_map (λ all. items ++ all) o) (one_item within is)
      ∙ ap (λ o. option_map (λ all. items ++ all) (o >>= λ found. option_map (λ more. option_to_list found ++ more) (items_from item rows (i + 1)))) this
      ∙ taken_on items (option_to_list found) (items_from item rows (i + 1))
      ∙ ap (λ l. option_map (λ all. l ++ all) (items_from item rows (i + 1))) (sym adds)

  -- an error at a row is the whole's
  pub stopped_item : (items : List Item) (whole : Option (List Item)) (e : EvalError) → i < length rows → row ≡ get_or rows i row
      → whole ≡ option_map (λ all. items ++ all) (items_from item rows i) → Evaluates {X = Option Item} (Err e) (item (datum_of row.now))
      → Evaluates {X = List Item} (Err e) whole
  stopped_item items whole e within is before told =
      along whole _ e (before ∙ ap (λ o. option_map (λ all. items ++ all) o) (one_item within is)) (stopped _ _ _ e told)

-- before the first row there are none
pub no_items : (items : List Item) (whole : Option (List Item)) → items ≡ [] → whole ≡ option_map (λ all. items ++ all) whole
no_items items None none = refl
no_items items (Some all) none = ap (λ l. Some (l ++ all)) (sym none)
