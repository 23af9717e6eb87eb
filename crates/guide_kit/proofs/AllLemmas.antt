-- What is found for each of a list, one after the other.
use Rattle.std.proofs.Common.{◌≡◌, ℕ, ◌+◌, ◌<◌, List, [], ◌∷◌, ◌++◌, map, length, drop, get_or, Option, Some, None, Err, refl, sym, ap, ◌∙◌}
use Rattle.std.proofs.lemmas.List.{drop_more}
use Rattle.fixed_num.specs.Ranges.{◌>>=◌, all_found}
use Rattle.fixed_num.proofs.FoundLemmas.{after, one_more}
use Rattle.guide_kit.specs.declared.errors.GuideError.{GuideError}
use Rattle.guide_kit.specs.declared.errors.GuideError.TheVariants.{Overflow, Memory}
use Rattle.guide_kit.specs.Answers.{Draws}

none_before : {Y : Type 0} (o : Option (List Y)) → o ≡ after [] o
none_before None = refl
none_before (Some ys) = refl

-- before the first there are none
pub begun : {Y : Type 0} (o : Option (List Y)) (done : List Y) → done ≡ [] → o ≡ after done o
begun o done none = none_before o ∙ ap (λ l. after l o) (sym none)

module _ {X Y : Type 0} (one : X → Option Y) (xs : List X) (i : ℕ) (x : X) where
  at : i < length xs → x ≡ get_or xs i x → all_found (map one (drop i xs))
      ≡ (one x >>= λ y. all_found (map one (drop (i + 1) xs)) >>= λ ys. Some (y ∷ ys))
  at within is = ap (λ xs. all_found (map one xs)) (drop_more xs i x within ∙ ap (λ x. x ∷ drop (i + 1) xs) (sym is))

  -- one more
  pub next : (done grown : List Y) (y : Y) (whole : Option (List Y)) → i < length xs → x ≡ get_or xs i x
      → whole ≡ after done (all_found (map one (drop i xs))) → one x ≡ Some y → grown ≡ done ++ y ∷ []
      → whole ≡ after grown (all_found (map one (drop (i + 1) xs)))
  next done grown y whole within is before this adds =
      before ∙ ap (after done) (at within is ∙ ap (λ o. o >>= λ y. all_found (map one (drop (i + 1) xs)) >>= λ ys. Some (y ∷ ys)) this)
      ∙ sym (one_more done y (all_found (map one (drop (i + 1) xs))))
      ∙ ap (λ l. after l (all_found (map one (drop (i + 1) xs)))) (sym adds)

  -- an error at one is the whole's
  pub stopped : (done : List Y) (whole : Option (List Y)) (e : GuideError) → i < length xs → x ≡ get_or xs i x
      → whole ≡ after done (all_found (map one (drop i xs))) → Draws {X = Y} (Err e) (one x) → Draws {X = List Y} (Err e) whole
  stopped done whole Overflow within is before told =
      before ∙ ap (after done) (at within is ∙ ap (λ o. o >>= λ y. all_found (map one (drop (i + 1) xs)) >>= λ ys. Some (y ∷ ys)) told)
  stopped done whole Memory within is before told = tt
