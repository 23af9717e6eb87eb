-- The least or the greatest number of parts of a list.
use Rattle.std.proofs.Common.{◌≡◌, ℕ, zero, suc, ◌+◌, ◌-◌, ◌*◌, ◌<◌, ◌≤◌, ◌/◌, ◌%◌, ℤ, Bool, true, false, cond, Option, Some, None}
use Rattle.std.proofs.Common.{List, [], ◌∷◌, ◌++◌, length, take, drop, get_or, append_assoc, ◌⊎◌, inl, inr, arith, refl, sym, ap, ap₂, ◌∙◌, subst}
use Rattle.std.proofs.lemmas.Int.{ints, clamps}
use Rattle.std.proofs.lemmas.List.{append-nil, drop_more, length-drop, length-take}
use Rattle.std.proofs.lemmas.Bool.{cases_lt, and_parts, and_cases, ltb-true, ltb-false, eqb-true, eqb-false}
use Rattle.std.specs.Prelude.{nat_lt, ◌==◌, ◌&&◌}
use Rattle.std.proofs.Math.Seq.{take-suc}
use Rattle.plain_windows.specs.inner.Levels.{AreLevels, Gives, outer, joined, outermost, paired, parts_pair}

-- whether an edge parts a pair
pub is_split : (from to edge : ℕ) → (nat_lt from to && edge % 2 == 1) ≡ true → (from < to) × (edge % 2 ≡ 1)
is_split from to edge h =
    let both = and_parts (nat_lt from to) (edge % 2 == 1) h in (ltb-true from to both.0, eqb-true (edge % 2) 1 both.1)

pub not_split : (from to edge : ℕ) → (nat_lt from to && edge % 2 == 1) ≡ false → from < to → edge % 2 ≡ 0
not_split from to edge h less = pick (and_cases (nat_lt from to) (edge % 2 == 1) h)
  where
    one : 1 ≤ edge % 2 → edge % 2 ≡ 1
    one l = omega (arith, l)

    is_even : ((edge % 2 == 1) ≡ false) → (edge % 2 < 1) ⊎ (1 ≤ edge % 2) → edge % 2 ≡ 0
    is_even f (inl l) = omega (arith, l)
    is_even f (inr l) = absurd (eqb-false (edge % 2) 1 f (one l))

    pick : (nat_lt from to ≡ false) ⊎ ((edge % 2 == 1) ≡ false) → edge % 2 ≡ 0
    pick (inl f) = let past = ltb-false from to f in absurd (omega (arith, past, less))
    pick (inr f) = is_even f (cases_lt (edge % 2) 1)

outer_together : (g : Bool) (a b c : ℤ) → outer g (outer g a b) c ≡ outer g a (outer g b c)
outer_together true a b c = omega (arith, ints, clamps)
outer_together false a b c = omega (arith, ints, clamps)

outer_swapped : (g : Bool) (a b : ℤ) → outer g a b ≡ outer g b a
outer_swapped true a b = omega (arith, ints, clamps)
outer_swapped false a b = omega (arith, ints, clamps)

module _ (g : Bool) where
  pub alone : (x : Option ℤ) → joined g x None ≡ x
  alone None = refl
  alone (Some a) = refl

  pub together : (x y z : Option ℤ) → joined g (joined g x y) z ≡ joined g x (joined g y z)
  together None y z = refl
  together (Some a) None z = refl
  together (Some a) (Some b) None = refl
  together (Some a) (Some b) (Some c) = ap Some (outer_together g a b c)

  swapped : (x y : Option ℤ) → joined g x y ≡ joined g y x
  swapped None y = sym (alone y)
  swapped (Some a) None = refl
  swapped (Some a) (Some b) = ap Some (outer_swapped g a b)

  both : (xs ys : List (Option ℤ)) → outermost g (xs ++ ys) ≡ joined g (outermost g xs) (outermost g ys)
  both [] ys = refl
  both (x ∷ xs) ys = ap (joined g x) (both xs ys) ∙ sym (together x (outermost g xs) (outermost g ys))

  -- pairs of a list
  dropped : (a : ℕ) (xs : List (Option ℤ)) → drop a (paired g xs) ≡ paired g (drop (2 * a) xs)
  dropped zero xs = refl
  dropped (suc a) [] = let e : 2 * suc a ≡ suc (suc (2 * a)) = omega arith in ap (λ k. paired g (drop k [])) (sym e)
  dropped (suc a) (x ∷ []) = let e : 2 * suc a ≡ suc (suc (2 * a)) = omega arith in ap (λ k. paired g (drop k (x ∷ []))) (sym e)
  dropped (suc a) (x ∷ y ∷ xs) =
      let e : 2 * suc a ≡ suc (suc (2 * a)) = omega arith in
      dropped a xs ∙ ap (λ k. paired g (drop k (x ∷ y ∷ xs))) (sym e)

  taken : (m : ℕ) (xs : List (Option ℤ)) → 2 * m ≤ length xs → take m (paired g xs) ≡ paired g (take (2 * m) xs)
  taken zero xs l = refl
  taken (suc m) [] l = absurd (omega (arith, l))
  taken (suc m) (x ∷ []) l = absurd (omega (arith, l))
  taken (suc m) (x ∷ y ∷ xs) l =
      let e : 2 * suc m ≡ suc (suc (2 * m)) = omega arith in
      ap (λ zs. joined g x y ∷ zs) (taken m xs (omega (arith, l)))
      ∙ ap (λ k. paired g (take k (x ∷ y ∷ xs))) (sym e)

  of_pairs : (m : ℕ) (xs : List (Option ℤ)) → length xs ≡ 2 * m → outermost g (paired g xs) ≡ outermost g xs
  of_pairs m [] e = refl
  of_pairs m (x ∷ []) e = absurd (omega (arith, e))
  of_pairs zero (x ∷ y ∷ xs) e = absurd (omega (arith, e))
  of_pairs (suc m) (x ∷ y ∷ xs) e =
      together x y (outermost g (paired g xs)) ∙ ap (λ z. joined g x (joined g y z)) (of_pairs m xs (omega (arith, e)))

  pub length_paired : (xs : List (Option ℤ)) → length (paired g xs) ≡ length xs / 2
  length_paired [] = omega arith
  length_paired (x ∷ []) = omega arith
  length_paired (x ∷ y ∷ xs) = let later = length_paired xs in omega (arith, later)

  -- one pair more
  pub next_pair : (xs : List (Option ℤ)) (at : ℕ) → at < length xs / 2
      → paired g (drop (2 * at) xs) ≡ joined g (get_or xs (2 * at) None) (get_or xs (2 * at + 1) None) ∷ paired g (drop (2 * (at + 1)) xs)
  next_pair xs at below =
      let e : 2 * at + 1 + 1 ≡ 2 * (at + 1) = omega arith in
      ap (paired g) (drop_more xs (2 * at) None (omega (arith, below))
      ∙ ap (λ zs. get_or xs (2 * at) None ∷ zs) (drop_more xs (2 * at + 1) None (omega (arith, below))))
      ∙ ap (λ k. joined g (get_or xs (2 * at) None) (get_or xs (2 * at + 1) None) ∷ paired g (drop k xs)) e

  few_pairs : (xs : List (Option ℤ)) → length xs ≤ 1 → paired g xs ≡ []
  few_pairs [] l = refl
  few_pairs (x ∷ []) l = refl
  few_pairs (x ∷ y ∷ xs) l = absurd (omega (arith, l))

  pub last_pair : (xs : List (Option ℤ)) (at : ℕ) → length xs / 2 ≤ at → paired g (drop (2 * at) xs) ≡ []
  last_pair xs at past = few_pairs (drop (2 * at) xs) (omega (arith, past, length-drop (2 * at) xs))

  -- without a first element, and without a last
  pub first_found : (xs : List (Option ℤ)) (from to : ℕ) (found : Option ℤ) → from < to → to ≤ length xs
      → joined g (joined g found (get_or xs from None)) (outermost g (take (to - (from + 1)) (drop (from + 1) xs)))
      ≡ joined g found (outermost g (take (to - from) (drop from xs)))
  first_found xs from to found some short =
      let more : to - from ≡ suc (to - (from + 1)) = omega (arith, some) in
      together found (get_or xs from None) (outermost g (take (to - (from + 1)) (drop (from + 1) xs)))
      ∙ ap (λ zs. joined g found (outermost g zs)) (sym (
      ap (λ k. take k (drop from xs)) more
      ∙ ap (take (suc (to - (from + 1)))) (drop_more xs from None (omega (arith, some, short)))))

  last_more : (xs : List (Option ℤ)) (from n k : ℕ) → k ≡ from + n → k < length xs
      → take (suc n) (drop from xs) ≡ take n (drop from xs) ++ get_or xs k None ∷ []
  last_more xs zero n k e l =
      let same : n ≡ k = omega (arith, e) in
      take-suc xs n None (omega (arith, e, l)) ∙ ap (λ j. take n xs ++ get_or xs j None ∷ []) same
  last_more [] (suc from) n k e l = absurd (omega (arith, l))
  last_more (x ∷ xs) (suc from) n zero e l = absurd (omega (arith, e))
  last_more (x ∷ xs) (suc from) n (suc k) e l = last_more xs from n k (omega (arith, e)) (omega (arith, l))

  pub last_found : (xs : List (Option ℤ)) (from to : ℕ) (found : Option ℤ) → from < to → to ≤ length xs
      → joined g (joined g found (get_or xs (to - 1) None)) (outermost g (take (to - 1 - from) (drop from xs)))
      ≡ joined g found (outermost g (take (to - from) (drop from xs)))
  last_found xs from to found some short =
      let n = to - 1 - from in
      let more : to - from ≡ suc n = omega (arith, some) in
      let last = get_or xs (to - 1) None in
      let front = take n (drop from xs) in
      let split : take (to - from) (drop from xs) ≡ front ++ last ∷ [] =
      ap (λ k. take k (drop from xs)) more
      ∙ last_more xs from n (to - 1) (omega (arith, some)) (omega (arith, some, short)) in
      together found last (outermost g front)
      ∙ ap (joined g found) (swapped last (outermost g front) ∙ ap (joined g (outermost g front)) (sym (alone last))
      ∙ sym (both front (last ∷ [])) ∙ ap (outermost g) (sym split))

  -- the same part in the next level
  halved : (xs : List (Option ℤ)) (a m : ℕ) → 2 * a + 2 * m ≤ length xs
      → outermost g (take m (drop a (paired g xs))) ≡ outermost g (take (2 * m) (drop (2 * a) xs))
  halved xs a m l =
      let rest = drop (2 * a) xs in
      let long : 2 * m ≤ length rest = omega (arith, l, length-drop (2 * a) xs) in
      ap (λ zs. outermost g (take m zs)) (dropped a xs)
      ∙ ap (outermost g) (taken m rest long)
      ∙ of_pairs m (take (2 * m) rest) (omega (arith, long, length-take (2 * m) rest))

  pub raised_same : (xs : List (Option ℤ)) (from to : ℕ) (found : Option ℤ) → (from < to → from % 2 ≡ 0) → (from < to → to % 2 ≡ 0)
      → to ≤ length xs → joined g found (outermost g (take (to / 2 - from / 2) (drop (from / 2) (paired g xs))))
      ≡ joined g found (outermost g (take (to - from) (drop from xs)))
  raised_same xs from to found even_from even_to short = either (cases_lt from to)
    where
      either : (from < to) ⊎ (to ≤ from) → joined g found (outermost g (take (to / 2 - from / 2) (drop (from / 2) (paired g xs))))
          ≡ joined g found (outermost g (take (to - from) (drop from xs)))
      either (inl some) =
          let a = from / 2 in
          let m = to / 2 - from / 2 in
          let even = even_from some in
          let ends = even_to some in
          let begins : 2 * a ≡ from = omega (arith, even) in
          let long : 2 * m ≡ to - from = omega (arith, even, ends, some) in
          ap (joined g found) (halved xs a m (omega (arith, begins, long, some, short))
          ∙ ap₂ (λ n k. outermost g (take n (drop k xs))) long begins)
      either (inr none) =
          let lower : to / 2 - from / 2 ≡ 0 = omega (arith, none) in
          let empty : to - from ≡ 0 = omega (arith, none) in
          ap (λ k. joined g found (outermost g (take k (drop (from / 2) (paired g xs))))) lower
          ∙ sym (ap (λ k. joined g found (outermost g (take k (drop from xs)))) empty)

  -- one level more
  module _ (level : List (Option ℤ)) (from to : ℕ) (found : Option ℤ) (short : to ≤ length level) where
    after_first : (begin : ℕ) (first : Option ℤ) → first ≡ cond (parts_pair from to from) (joined g found (get_or level from None)) found
        → begin ≡ cond (parts_pair from to from) (from + 1) from
        → (joined g first (outermost g (take (to - begin) (drop begin level)))
        ≡ joined g found (outermost g (take (to - from) (drop from level)))) × (begin < to → begin % 2 ≡ 0)
    after_first begin first e f = pick (parts_pair from to from) refl e f
      where
        pick : (b : Bool) → parts_pair from to from ≡ b → first ≡ cond b (joined g found (get_or level from None)) found
            → begin ≡ cond b (from + 1) from
            → (joined g first (outermost g (take (to - begin) (drop begin level)))
            ≡ joined g found (outermost g (take (to - from) (drop from level)))) × (begin < to → begin % 2 ≡ 0)
        pick true p e f =
            let split = is_split from to from p in
            let odd = split.1 in (
              ap₂ (λ x k. joined g x (outermost g (take (to - k) (drop k level)))) e f ∙ first_found level from to found split.0 short,
              λ less. omega (arith, odd, f),
            )
        pick false p e f = (
          ap₂ (λ x k. joined g x (outermost g (take (to - k) (drop k level)))) e f,
          λ less. let even = not_split from to from p (omega (arith, less, f)) in omega (arith, even, f),
        )

    after_last : (end : ℕ) (last : Option ℤ) → last ≡ cond (parts_pair from to to) (joined g found (get_or level (to - 1) None)) found
        → end ≡ cond (parts_pair from to to) (to - 1) to
        → (joined g last (outermost g (take (end - from) (drop from level)))
        ≡ joined g found (outermost g (take (to - from) (drop from level)))) × (from < end → end % 2 ≡ 0)
    after_last end last e f = pick (parts_pair from to to) refl e f
      where
        pick : (b : Bool) → parts_pair from to to ≡ b → last ≡ cond b (joined g found (get_or level (to - 1) None)) found
            → end ≡ cond b (to - 1) to
            → (joined g last (outermost g (take (end - from) (drop from level)))
            ≡ joined g found (outermost g (take (to - from) (drop from level)))) × (from < end → end % 2 ≡ 0)
        pick true p e f =
            let split = is_split from to to p in
            let odd = split.1 in (
              ap₂ (λ x k. joined g x (outermost g (take (k - from) (drop from level)))) e f ∙ last_found level from to found split.0 short,
              λ less. omega (arith, odd, f),
            )
        pick false p e f = (
          ap₂ (λ x k. joined g x (outermost g (take (k - from) (drop from level)))) e f,
          λ less. let even = not_split from to to p (omega (arith, less, f)) in omega (arith, even, f),
        )

  not_above : (b : Bool) (to end : ℕ) → end ≡ cond b (to - 1) to → end ≤ to
  not_above true to end e = omega (arith, e)
  not_above false to end e = omega (arith, e)

  pub one_level : (levels rest : List (List (Option ℤ))) (level : List (Option ℤ)) (from to begin end : ℕ)
      (found first last number : Option ℤ) → levels ≡ level ∷ rest
      → first ≡ cond (parts_pair from to from) (joined g found (get_or level from None)) found
      → begin ≡ cond (parts_pair from to from) (from + 1) from
      → last ≡ cond (parts_pair begin to to) (joined g first (get_or level (to - 1) None)) first
      → end ≡ cond (parts_pair begin to to) (to - 1) to
      → Gives g levels from to found number → Gives g rest (begin / 2) (end / 2) last number
  one_level levels rest level from to begin end found first last number split e f p q h =
      step (subst (λ ls. Gives g ls from to found number) split h)
    where
      step : Gives g (level ∷ rest) from to found number → Gives g rest (begin / 2) (end / 2) last number
      step h =
          let is : level ≡ h.level = h.are.0 in
          let short : to ≤ length level = omega (arith, h.within, ap length is) in
          let a = after_first level from to found short begin first e f in
          let b = after_last level begin to first short end last p q in
          let below : end ≤ to = not_above (parts_pair begin to to) to end q in
          let inside : end ≤ length level = omega (arith, below, short) in
          record {
            level = paired g level;
            are = subst (λ xs. AreLevels g (paired g xs) rest) (sym is) h.are.1;
            within = omega (arith, length_paired level, inside);
            gives = raised_same level begin end last (λ less. a.1 (omega (arith, less, below))) b.1 inside ∙ b.0 ∙ a.0
                ∙ ap (λ xs. joined g found (outermost g (take (to - from) (drop from xs)))) is ∙ h.gives;
          }

  nothing : (n k : ℕ) → outermost g (take n (drop k [])) ≡ None
  nothing zero zero = refl
  nothing (suc n) zero = refl
  nothing zero (suc k) = refl
  nothing (suc n) (suc k) = refl

  pub found_all : (from to : ℕ) (found number : Option ℤ) → Gives g [] from to found number → found ≡ number
  found_all from to found number h =
      sym (alone found) ∙ ap (joined g found) (sym (nothing (to - from) from))
      ∙ ap (λ xs. joined g found (outermost g (take (to - from) (drop from xs)))) (sym h.are) ∙ h.gives

  -- pairs, and levels, as they are put behind others
  pub pairs_more : (level next more : List (Option ℤ)) (at : ℕ) (x y r : Option ℤ) → at < length level / 2
      → x ≡ get_or level (2 * at) None → y ≡ get_or level (2 * at + 1) None → r ≡ joined g x y → more ≡ next ++ r ∷ []
      → next ++ paired g (drop (2 * at) level) ≡ paired g level → more ++ paired g (drop (2 * (at + 1)) level) ≡ paired g level
  pairs_more level next more at x y r below first second is pushed before =
      let rest = paired g (drop (2 * (at + 1)) level) in
      ap (λ l. l ++ rest) pushed ∙ append_assoc next (r ∷ []) rest
      ∙ ap (λ z. next ++ (z ∷ rest)) (is ∙ ap₂ (joined g) first second)
      ∙ ap (λ l. next ++ l) (sym (next_pair level at below)) ∙ before

  pub pairs_all : (level next : List (Option ℤ)) (at : ℕ) → length level / 2 ≤ at
      → next ++ paired g (drop (2 * at) level) ≡ paired g level → next ≡ paired g level
  pairs_all level next at past before =
      sym (append-nil next) ∙ ap (λ l. next ++ l) (sym (last_pair level at past)) ∙ before

  pub levels_more : (numbers level next : List (Option ℤ)) (levels more : List (List (Option ℤ))) → next ≡ paired g level
      → more ≡ levels ++ level ∷ []
      → ((rest : List (List (Option ℤ))) → AreLevels g level rest → AreLevels g numbers (levels ++ rest))
      → (rest : List (List (Option ℤ))) → AreLevels g next rest → AreLevels g numbers (more ++ rest)
  levels_more numbers level next levels more is pushed holds rest are =
      subst (λ m. AreLevels g numbers (m ++ rest)) (sym pushed)
      (subst (AreLevels g numbers) (sym (append_assoc levels (level ∷ []) rest))
      (holds (level ∷ rest) (refl, subst (λ xs. AreLevels g xs rest) is are)))

  pub levels_all : (numbers level : List (Option ℤ)) (levels : List (List (Option ℤ))) → level ≡ []
      → ((rest : List (List (Option ℤ))) → AreLevels g level rest → AreLevels g numbers (levels ++ rest)) → AreLevels g numbers levels
  levels_all numbers level levels none holds = subst (AreLevels g numbers) (append-nil levels) (holds [] none)

  pub fewer : (level next : List (Option ℤ)) → next ≡ paired g level → (level ≡ [] → ⊥) → length next < length level
  fewer [] next is some = absurd (some refl)
  fewer (x ∷ xs) next is some = omega (arith, ap length is, length_paired (x ∷ xs))

  -- at first
  pub gives_first : (levels : List (List (Option ℤ))) (numbers : List (Option ℤ)) (from to : ℕ) → AreLevels g numbers levels
      → to ≤ length numbers → Gives g levels from to None (outermost g (take (to - from) (drop from numbers)))
  gives_first levels numbers from to are short = record { level = numbers; are = are; within = short; gives = refl }
