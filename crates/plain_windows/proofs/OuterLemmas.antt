-- The least and the greatest of the numbers among the cells of a frame.
use Rattle.std.proofs.Common.{◌≡◌, ◌-◌, ℤ, Bool, true, false, Option, Some, None, List, [], ◌∷◌, map, take, drop, fold, refl, sym, ap, ◌∙◌}
use Rattle.std.specs.List.{cons_option}
use Rattle.std.proofs.lemmas.List.{take-map, drop-map}
use Rattle.cell_value.specs.declared.cell.Cell.{Cell}
use Rattle.cell_value.specs.Datum.{Datum}
use Rattle.expr_eval.specs.Numbers.{the_number, number_or_null}
use Rattle.expr_eval.specs.Builtins.{least_of, greatest_of}
use Rattle.plain_rows.specs.declared.transforms.OpOf.{OpOf}
use Rattle.plain_groups.specs.Aggregates.{aggregates, aggregate_of, numbers_among}
use Rattle.plain_groups.specs.GroupRows.{read_by}
use Rattle.plain_windows.specs.declared.frames.Frame.{Frame}
use Rattle.plain_windows.specs.inner.Levels.{outer, joined, outermost, numbers_read}
use Rattle.plain_windows.specs.inner.Views.{part}
use Rattle.plain_windows.proofs.LevelLemmas.{together}

among : (g : Bool) (cells : List Cell) → outermost g (map the_number cells) ≡ outermost g (map Some (numbers_among cells))
among g [] = refl
among g (cell ∷ cells) = pick (the_number cell) (among g cells)
  where
    pick : (o : Option ℤ) → outermost g (map the_number cells) ≡ outermost g (map Some (numbers_among cells))
        → joined g o (outermost g (map the_number cells)) ≡ outermost g (map Some (cons_option o (numbers_among cells)))
    pick None e = e
    pick (Some v) e = ap (joined g (Some v)) e

folded : (g : Bool) (n : ℤ) (ns : List ℤ) → joined g (Some n) (outermost g (map Some ns)) ≡ Some (fold (outer g) n ns)
folded g n [] = refl
folded g n (m ∷ ns) = sym (together g (Some n) (Some m) (outermost g (map Some ns))) ∙ folded g (outer g n m) ns

least_is : (ns : List ℤ) → outermost false (map Some ns) ≡ least_of ns
least_is [] = refl
least_is (n ∷ ns) = folded false n ns

greatest_is : (ns : List ℤ) → outermost true (map Some ns) ≡ greatest_of ns
greatest_is [] = refl
greatest_is (n ∷ ns) = folded true n ns

module _ (op : OpOf) (rows : List Datum) (frame : Frame) where
  abbrev read : Datum → Cell
  read other = read_by op other.cell

  joined_maps : (xs : List Datum) → map (λ (other : Datum). the_number (read other)) xs ≡ map the_number (map read xs)
  joined_maps [] = refl
  joined_maps (x ∷ xs) = ap (λ l. the_number (read x) ∷ l) (joined_maps xs)

  part_read : part frame (numbers_read op rows) ≡ map the_number (map read (part frame rows))
  part_read =
      ap (take (frame.to - frame.from)) (drop-map (λ (other : Datum). the_number (read other)) frame.from rows)
      ∙ take-map (λ (other : Datum). the_number (read other)) (frame.to - frame.from) (drop frame.from rows)
      ∙ joined_maps (part frame rows)

  pub least_read : Some (number_or_null (outermost false (part frame (numbers_read op rows)))) ≡ aggregate_of 7 (map read (part frame rows))
  unfolding aggregates
  least_read =
      let cells = map read (part frame rows) in
      ap (λ o. Some (number_or_null o))
      (ap (outermost false) part_read ∙ among false cells ∙ least_is (numbers_among cells))

  pub greatest_read : Some (number_or_null (outermost true (part frame (numbers_read op rows)))) ≡ aggregate_of 8 (map read (part frame rows))
  unfolding aggregates
  greatest_read =
      let cells = map read (part frame rows) in
      ap (λ o. Some (number_or_null o))
      (ap (outermost true) part_read ∙ among true cells ∙ greatest_is (numbers_among cells))
