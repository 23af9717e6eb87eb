-- Choices that are counted and not made.
use Rattle.std.proofs.Common.{◌≡◌, ℕ, zero, suc, ◌+◌, ◌-◌, ◌*◌, ◌<◌, ◌≤◌, min, Bool, true, false, cond, List, [], ◌∷◌, map, flat_map}
use Rattle.std.proofs.Common.{length, drop, get_or, leb, sym, ap, ap₂, ◌∙◌, arith, mul-zero, zero-mul, mul-suc, suc-mul}
use Rattle.std.proofs.lemmas.Bool.{leb-true, leb-false}
use Rattle.std.proofs.lemmas.List.{drop_all, drop_more, length-append, length-map}
use Rattle.cell_value.specs.declared.cell.Cell.{Cell}
use Rattle.cell_value.specs.Datum.{Datum}
use Rattle.plain_groups.proofs.PlaceLemmas.{by_cases}
use Rattle.plain_facets.specs.declared.copies.DividedBy.{DividedBy}
use Rattle.plain_facets.specs.Facets.{key_of, distinct_keys, choices, cells_of_fields, cells_of_rows, cells_with_rows, count_without_rows}

-- ---- numbers that stop at a greatest one

pub below : (most n : ℕ) → min n most ≤ most
below most n = grind arith

-- a product of what stopped
pub capped_product : (most p r : ℕ) → min (min p most * r) most ≡ min (p * r) most
capped_product most p zero = ap (λ k. min k most) (none (min p most) p)
  where
    none : (a b : ℕ) → a * 0 ≡ b * 0
    none a b = mul-zero a ∙ sym (mul-zero b)
capped_product most p (suc r) =
    by_cases (leb p most)
    (λ e. ap (λ k. min (k * suc r) most) (small p most (leb-true p most e)))
    (λ e. ap (λ k. min (k * suc r) most) (large p most (over p most e)) ∙ both_past (over p most e))
  where
    small : (p most : ℕ) → p ≤ most → min p most ≡ p
    small p most h = grind (arith, h)

    large : (p most : ℕ) → most ≤ p → min p most ≡ most
    large p most h = grind (arith, h)

    over : (p most : ℕ) → leb p most ≡ false → most ≤ p
    over p most e = omega (arith, leb-false p most e)

    parts : (k r : ℕ) → k * suc r ≡ k + k * r
    parts k r = omega (arith, mul-suc k r)

    past : (most p a b : ℕ) → most ≤ p → min (most + a) most ≡ min (p + b) most
    past most p a b h = grind (arith, h)

    both_past : most ≤ p → min (most * suc r) most ≡ min (p * suc r) most
    both_past h = ap (λ k. min k most) (parts most r) ∙ past most p (most * r) (p * r) h ∙ ap (λ k. min k most) (sym (parts p r))

-- what is left of what stopped far above
pub left_of_capped : (big most found n : ℕ) → most + found ≤ big → min (min n big - found) most ≡ min (n - found) most
left_of_capped big most found n far = grind (arith, far)

-- ---- how many choices there are

length_crossed : (rests : List (List Cell)) (cells : List Cell)
    → length (flat_map (λ cell. map (λ rest. cell ∷ rest) rests) cells) ≡ length cells * length rests
length_crossed rests [] = sym (zero-mul (length rests))
length_crossed rests (c ∷ cs) =
    length-append (map (λ rest. c ∷ rest) rests) (flat_map (λ cell. map (λ rest. cell ∷ rest) rests) cs)
    ∙ ap₂ (λ a b. a + b) (length-map rests (λ rest. c ∷ rest)) (length_crossed rests cs)
    ∙ more (length cs) (length rests)
  where
    more : (n k : ℕ) → k + n * k ≡ suc n * k
    more n k = omega (arith, suc-mul n k)

module _ (most : ℕ) (lists : List (List Cell)) (i : ℕ) (count : ℕ) where
  -- with one list more
  pub one_list_more : (cells : List Cell) (now whole : ℕ) → i < length lists → cells ≡ get_or lists i cells → now ≡ min (count * length cells) most
      → min (count * length (choices (drop i lists))) most ≡ whole → min (now * length (choices (drop (i + 1) lists))) most ≡ whole
  one_list_more cells now whole within at is so_far =
      let rests : List (List Cell) = choices (drop (i + 1) lists) in
      ap (λ k. min (k * length rests) most) is
      ∙ capped_product most (count * length cells) (length rests)
      ∙ ap (λ k. min k most) (regrouped count (length cells) (length rests))
      ∙ ap (λ k. min (count * k) most) (sym (length_crossed rests cells))
      ∙ ap (λ ls. min (count * length (choices ls)) most) (sym (drop_more lists i cells within ∙ ap (λ l. l ∷ drop (i + 1) lists) (sym at)))
      ∙ so_far
    where
      regrouped : (a b c : ℕ) → a * b * c ≡ a * (b * c)
      regrouped a b c = grind arith

  -- at the end all are counted
  pub all_lists : (whole : ℕ) → length lists ≤ i → count ≤ most → min (count * length (choices (drop i lists))) most ≡ whole → count ≡ whole
  all_lists whole past few so_far =
      alone count most few ∙ ap (λ ls. min (count * length (choices ls)) most) (sym (drop_all i lists past)) ∙ so_far
    where
      alone : (c most : ℕ) → c ≤ most → c ≡ min (c * 1) most
      alone c most few = grind (arith, few)

-- ---- the copies of a facet

module _ (d : DividedBy) (rows : List Datum) where
  abbrev crossed : Bool → List (List Cell)
  crossed b = cond b (choices (cells_of_fields d rows)) (cells_of_rows d rows)

  abbrev found_in : Bool → List (List Cell)
  found_in b = cond b (distinct_keys (map (key_of d.fields) rows)) (cells_of_rows d rows)

  -- of a facet that crosses its fields
  pub crossed_keys : (found : List (List Cell)) → d.crosses ≡ true → found ≡ distinct_keys (map (key_of d.fields) rows) → found ≡ cells_with_rows d rows
  crossed_keys found e is = is ∙ sym (ap found_in e)

  pub crossed_others : (fields found : List (List Cell)) (others most : ℕ) → d.crosses ≡ true → fields ≡ cells_of_fields d rows
      → found ≡ distinct_keys (map (key_of d.fields) rows) → others ≡ min (length (choices fields) - length found) most
      → others ≡ min (count_without_rows d rows) most
  crossed_others fields found others most e by_fields is counted =
      counted ∙ ap₂ (λ fs (ks : List (List Cell)). min (length (choices fs) - length ks) most) by_fields is
      ∙ ap (λ b. min (length (crossed b) - length (found_in b)) most) (sym e)

  -- of one that doesn't
  pub found_keys : (found : List (List Cell)) → d.crosses ≡ false → found ≡ cells_of_rows d rows → found ≡ cells_with_rows d rows
  found_keys found e is = is ∙ sym (ap found_in e)

  pub no_others : (most : ℕ) → d.crosses ≡ false → 0 ≡ min (count_without_rows d rows) most
  no_others most e = none (length (cells_of_rows d rows)) most ∙ ap (λ b. min (length (crossed b) - length (found_in b)) most) (sym e)
    where
      none : (n most : ℕ) → 0 ≡ min (n - n) most
      none n most = grind arith
