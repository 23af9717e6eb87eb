-- Places of an order that go to their lists.
use Rattle.std.proofs.Common.{◌≡◌, ◌≢◌, ℕ, ◌+◌, ◌<◌, Bool, cond, List, [], ◌∷◌, ◌++◌, length, take, get_or, set, replicate}
use Rattle.std.proofs.Common.{eqb, arith, refl, sym, ap, ◌∙◌, subst}
use Rattle.std.proofs.lemmas.Bool.{eqb-true, eqb-false}
use Rattle.std.proofs.lemmas.List.{length-set, length-replicate, get_or-replicate, get_or-set_same, get_or-set_other}
use Rattle.std.proofs.lemmas.List.Elements.{filter_more}
use Rattle.plain_groups.proofs.PlaceLemmas.{by_cases}
use Rattle.plain_orders.specs.inner.Ranks.{dealt, IsRanked, AreDealt}

append_nil : (l : List ℕ) → l ++ [] ≡ l
append_nil [] = refl
append_nil (x ∷ l) = ap (λ l. x ∷ l) (append_nil l)

module _ (homes order : List ℕ) (at : ℕ) (below : at < length order) where
  abbrev place : ℕ
  place = get_or order at 0

  abbrev home : ℕ
  home = get_or homes place 0

  one_more : (k : ℕ) → dealt homes (take (at + 1) order) k ≡ dealt homes (take at order) k ++ cond (eqb home k) (place ∷ []) []
  one_more k = filter_more (λ p. eqb (get_or homes p 0) k) order at 0 below

  told_more : (old new : List (List ℕ)) (k : ℕ) → home < length old → new ≡ set old home (get_or old home [] ++ place ∷ [])
      → get_or old k [] ≡ dealt homes (take at order) k → get_or new k [] ≡ dealt homes (take (at + 1) order) k
  told_more old new k inside made was =
      ap (λ lists. get_or lists k []) made
      ∙ by_cases (eqb home k)
      (λ e. let is : home ≡ k = eqb-true home k e in
      ap (λ j. get_or (set old home (get_or old home [] ++ place ∷ [])) j []) (sym is)
      ∙ get_or-set_same old home (get_or old home [] ++ place ∷ []) [] inside
      ∙ ap (λ j. get_or old j [] ++ place ∷ []) is
      ∙ ap (λ list. list ++ place ∷ []) was
      ∙ ap {A = Bool} {B = List ℕ} (λ b. dealt homes (take at order) k ++ cond b (place ∷ []) []) (sym e))
      (λ e. get_or-set_other old home k (get_or old home [] ++ place ∷ []) [] (λ is. absurd (eqb-false home k e (sym is))) ∙ was
      ∙ sym (ap (λ b. dealt homes (take at order) k ++ cond b (place ∷ []) []) e ∙ append_nil (dealt homes (take at order) k)))
      ∙ sym (one_more k)

  ranked_more : (old new : List ℕ) (rank : ℕ) → place < length old → new ≡ set old place rank
      → rank ≡ length (dealt homes (take at order) home)
      → ((j : ℕ) → j < at → IsRanked homes order (get_or order j 0) (get_or old (get_or order j 0) 0))
      → (j : ℕ) → j < at + 1 → IsRanked homes order (get_or order j 0) (get_or new (get_or order j 0) 0)
  ranked_more old new rank inside made is was j within =
      by_cases (eqb place (get_or order j 0))
      (λ e. let same : place ≡ get_or order j 0 = eqb-true place (get_or order j 0) e in
      let here : get_or new place 0 ≡ rank = ap (λ l. get_or l place 0) made ∙ get_or-set_same old place rank 0 inside in
      let ranked : IsRanked homes order place (get_or new place 0) = (at, below, refl, here ∙ is) in
      subst (λ p. IsRanked homes order p (get_or new p 0)) same ranked)
      (λ e. let other : get_or order j 0 ≢ place = λ same. absurd (eqb-false place (get_or order j 0) e (sym same)) in
      let kept : get_or new (get_or order j 0) 0 ≡ get_or old (get_or order j 0) 0 =
      ap (λ l. get_or l (get_or order j 0) 0) made ∙ get_or-set_other old place (get_or order j 0) rank 0 other in
      let earlier : j < at = by_cases (eqb j at)
      (λ f. absurd (other (ap (λ k. get_or order k 0) (eqb-true j at f))))
      (λ f. let apart = eqb-false j at f in omega (arith, within, apart)) in
      subst (IsRanked homes order (get_or order j 0)) (sym kept) (was j earlier))

  pub dealt_more : (old new : List (List ℕ)) (ranks ranks_after : List ℕ) (rank : ℕ) → home < length homes → place < length homes
      → new ≡ set old home (get_or old home [] ++ place ∷ []) → rank ≡ length (get_or old home []) → ranks_after ≡ set ranks place rank
      → AreDealt homes order at old ranks → AreDealt homes order (at + 1) new ranks_after
  dealt_more old new ranks ranks_after rank lead inside made is put are = record {
    lists_long = ap length made ∙ length-set old home (get_or old home [] ++ place ∷ []) ∙ are.lists_long;
    ranks_long = ap length put ∙ length-set ranks place rank ∙ are.ranks_long;
    told = λ k within. told_more old new k (omega (arith, are.lists_long, lead)) made (are.told k within);
    ranked = ranked_more ranks ranks_after rank (omega (arith, are.ranks_long, inside)) put
        (is ∙ ap length (are.told home lead)) are.ranked;
  }

-- before the first place nothing has gone to a list
pub dealt_none : (homes order : List ℕ) (lists : List (List ℕ)) (ranks : List ℕ) → lists ≡ replicate (length homes) []
    → ranks ≡ replicate (length homes) 0
    → AreDealt homes order 0 lists ranks
dealt_none homes order lists ranks e f = record {
  lists_long = ap length e ∙ length-replicate (length homes) [];
  ranks_long = ap length f ∙ length-replicate (length homes) 0;
  told = λ k within. ap (λ l. get_or l k []) e ∙ get_or-replicate (length homes) k [] [] within;
  ranked = λ j below. absurd (omega (arith, below));
}
