-- Elements with commas between them, read one after the other as a loop does.
use Rattle.std.proofs.Common.{◌≡◌, ℕ, zero, suc, ◌+◌, ◌-◌, ◌<◌, ◌≤◌, true, false, eqb, List, [], ◌∷◌, ◌++◌, length, drop, Option, Some}
use Rattle.std.proofs.Common.{None, Ok, Err, refl, sym, ◌∙◌, arith, inl, inr, ◌⊎◌, ◌||◌}
use Rattle.text_kit.specs.Answer.{IsFault}
use Rattle.std.proofs.lemmas.Bool.{cond-true, cond-false, ne_eqb, eq-eqb, or_from}
use Rattle.fixed_num.specs.Front.{Read, first}
use Rattle.json_exact.specs.inner.Reader.{skip_white, run_at, sequence_at, list_at, object_at, nested_at, flat_at, value_from, value_at}

module _ {A : Type 0} (close : ℕ) (element : List A → List ℕ → Read A) (out : List A) (count i : ℕ) (rest : List ℕ)
    (total : Read (List A)) where
  one : i < count → run_at close element (count - i) out rest ≡ run_at close element (suc (count - (i + 1))) out rest
  one lt =
      let k : count - i ≡ suc (count - (i + 1)) = omega arith in
      rw k refl

  -- another element follows
  pub goes_on : (x : A) (after : List ℕ) → i < count → element out rest ≡ Ok (x, after) → first after ≡ 44
      → run_at close element (count - i) out rest ≡ total
      → run_at close element (count - (i + 1)) (out ++ x ∷ []) (drop 1 after) ≡ total
  unfolding run_at
  goes_on x after lt h comma kept =
      let test : eqb (first after) 44 ≡ true = eq-eqb _ _ comma in
      let step : run_at close element (suc (count - (i + 1))) out rest ≡ run_at close element (count - (i + 1)) (out ++ x ∷ [])
      (drop 1 after) = rw (h, test) refl in
      sym step ∙ sym (one lt) ∙ kept

  -- the last one
  pub closes : (x : A) (after : List ℕ) → i < count → element out rest ≡ Ok (x, after) → first after ≡ close → eqb close 44 ≡ false
      → run_at close element (count - i) out rest ≡ total → total ≡ Ok (out ++ x ∷ [], drop 1 after)
  unfolding run_at
  closes x after lt h closing other kept =
      let test : eqb (first after) 44 ≡ false = rw closing other in
      let same : eqb (first after) close ≡ true = eq-eqb _ _ closing in
      let step : run_at close element (suc (count - (i + 1))) out rest ≡ Ok (out ++ x ∷ [], drop 1 after) = rw (h, test, same) refl in
      sym kept ∙ one lt ∙ step

  -- neither a comma nor the closing byte
  pub breaks : (x : A) (after : List ℕ) → i < count → element out rest ≡ Ok (x, after) → (first after ≡ 44 → ⊥) → (first after ≡ close → ⊥)
      → run_at close element (count - i) out rest ≡ total → total ≡ Err (length after)
  unfolding run_at
  breaks x after lt h comma closing kept =
      let test : eqb (first after) 44 ≡ false = ne_eqb _ _ comma in
      let same : eqb (first after) close ≡ false = ne_eqb _ _ closing in
      let step : run_at close element (suc (count - (i + 1))) out rest ≡ Err (length after) = rw (h, test, same) refl in
      sym kept ∙ one lt ∙ step

  -- an element that could not be read
  pub fails : (fault : Option ℕ) → i < count → IsFault fault (element out rest) → run_at close element (count - i) out rest ≡ total
      → IsFault fault total
  unfolding run_at
  fails None lt h kept = tt
  fails (Some place) lt h kept =
      let step : run_at close element (suc (count - (i + 1))) out rest ≡ Err place = rw h refl in
      sym kept ∙ one lt ∙ step

  -- no fuel is left
  pub ends : count ≤ i → run_at close element (count - i) out rest ≡ total → total ≡ Err (length rest)
  unfolding run_at
  ends le kept =
      let k : count - i ≡ 0 = omega arith in
      let step : run_at close element (count - i) out rest ≡ Err (length rest) = rw k refl in
      sym kept ∙ step

-- the loop begins, where the closing byte does not stand at once
pub begins_run : {A : Type 0} (close : ℕ) (element : List A → List ℕ → Read A) (bytes : List ℕ) → (first (skip_white bytes) ≡ close → ⊥)
    → run_at close element (length bytes - 0) [] (skip_white bytes) ≡ sequence_at close element bytes
unfolding sequence_at
begins_run close element bytes apart =
    let test : eqb (first (skip_white bytes)) close ≡ false = ne_eqb _ _ apart in
    let whole : length bytes - 0 ≡ length bytes = omega arith in
    rw (whole, test) refl

pub empty_sequence : {A : Type 0} (close : ℕ) (element : List A → List ℕ → Read A) (bytes : List ℕ) → first (skip_white bytes) ≡ close
    → sequence_at close element bytes ≡ Ok ([], drop 1 (skip_white bytes))
unfolding sequence_at
empty_sequence close element bytes same =
    let test : eqb (first (skip_white bytes)) close ≡ true = eq-eqb _ _ same in
    rw test refl

-- ---- a value by its first byte

pub too_deep : (level : ℕ) (bytes : List ℕ) → level ≡ 0 → (first bytes ≡ 91) ⊎ (first bytes ≡ 123)
    → value_at level bytes ≡ Err (length bytes)
unfolding value_at value_from
too_deep zero bytes e (inl b) =
    let test : (eqb (first bytes) 91 || eqb (first bytes) 123) ≡ true = rw b refl in
    cond-true _ _ _ test
too_deep zero bytes e (inr b) =
    let test : (eqb (first bytes) 91 || eqb (first bytes) 123) ≡ true = rw b refl in
    cond-true _ _ _ test
too_deep (suc level) bytes e b = absurd (omega arith)

pub list_there : (level : ℕ) (bytes : List ℕ) → 0 < level → first bytes ≡ 91
    → value_at level bytes ≡ list_at (value_at (level - 1)) (drop 1 bytes)
unfolding value_at value_from nested_at
list_there zero bytes some b = absurd (omega arith)
list_there (suc level) bytes some b =
    let k : suc level - 1 ≡ level = omega arith in
    rw (b, k) refl

pub object_there : (level : ℕ) (bytes : List ℕ) → 0 < level → first bytes ≡ 123
    → value_at level bytes ≡ object_at (value_at (level - 1)) (drop 1 bytes)
unfolding value_at value_from nested_at
object_there zero bytes some b = absurd (omega arith)
object_there (suc level) bytes some b =
    let k : suc level - 1 ≡ level = omega arith in
    rw (b, k) refl

pub flat_there : (level : ℕ) (bytes : List ℕ) → (first bytes ≡ 91 → ⊥) → (first bytes ≡ 123 → ⊥) → value_at level bytes ≡ flat_at bytes
unfolding value_at value_from
flat_there zero bytes list object = cond-false _ _ _ (or_from _ _ (ne_eqb _ _ list) (ne_eqb _ _ object))
flat_there (suc level) bytes list object = cond-false _ _ _ (or_from _ _ (ne_eqb _ _ list) (ne_eqb _ _ object))
