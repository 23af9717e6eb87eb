-- What helps operations.
use Rattle.std.proofs.Common.{◌≡◌, ℕ, zero, suc, ◌+◌, ◌<◌, List, [], ◌∷◌, ◌++◌, length, take, get_or, arith, add-one, sym, ap, ◌∙◌, subst}
use Rattle.std.specs.List.{AllZip}
use Rattle.std.proofs.Math.Seq.{take-suc}
use Rattle.std.proofs.lemmas.Slice.Zip.{all_zipped_more}

module _ {A B : Type 0} (R : A → B → Type 0) where
  pub zip_more : (xs : List A) (i : ℕ) (x : A) (ys more : List B) (y : B) → i < length xs → x ≡ get_or xs i x → AllZip R (take i xs) ys
      → R x y → more ≡ ys ++ y ∷ [] → AllZip R (take (i + 1) xs) more
  zip_more xs i x ys more y below at before is pushed =
      let longer : take (i + 1) xs ≡ take i xs ++ x ∷ [] =
      ap (λ k. take k xs) (add-one i) ∙ take-suc xs i x below ∙ ap (λ z. take i xs ++ z ∷ []) (sym at) in
      subst (λ l. AllZip R l more) (sym longer)
      (subst (AllZip R (take i xs ++ x ∷ [])) (sym pushed) (all_zipped_more R (take i xs) ys x y before is))

  pub zip_at : (xs : List A) (ys : List B) (i : ℕ) (d : A) (e : B) → AllZip R xs ys → i < length xs → R (get_or xs i d) (get_or ys i e)
  zip_at [] ys i d e z below = absurd (omega (arith, below))
  zip_at (x ∷ xs) [] i d e z below = absurd z
  zip_at (x ∷ xs) (y ∷ ys) zero d e z below = z.0
  zip_at (x ∷ xs) (y ∷ ys) (suc i) d e z below = zip_at xs ys i d e z.1 (omega (arith, below))

  pub zip_there : (xs : List A) (ys : List B) (i : ℕ) (x : A) (y : B) → AllZip R xs ys → i < length xs → x ≡ get_or xs i x
      → y ≡ get_or ys i y → R x y
  zip_there xs ys i x y z below at is = subst (λ v. R v y) (sym at) (subst (R (get_or xs i x)) (sym is) (zip_at xs ys i x y z below))
