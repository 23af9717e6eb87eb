-- A value with white space round it, and elements with commas between them: what is spelled is read.
use Rattle.std.proofs.Common.{◌≡◌, ℕ, zero, suc, ◌<◌, true, false, eqb, List, [], ◌∷◌, ◌++◌, length, Ok, Err, refl, ap, ◌∙◌, append_assoc}
use Rattle.std.proofs.Common.{arith, inl, inr, ◌⊎◌}
use Rattle.std.proofs.lemmas.List.{length-append}
use Rattle.std.proofs.lemmas.Bool.{eqb-true, eq-eqb, cases_Bool, cond-false}
use Rattle.json_exact.specs.Reading.{is_white, IsWhite}
use Rattle.fixed_num.specs.Front.{Read, first, stop}
use Rattle.json_exact.specs.inner.Reader.{skip_white, padded_at, run_at, sequence_at}
use Rattle.fixed_num.proofs.Steps.{done}
use Rattle.json_exact.proofs.Parts.{skip_white-append, skip_white-stop}

pub padded_again : {A : Type 0} (element : List ℕ → Read A) (before word after rest : List ℕ) (x : A) → IsWhite before
    → is_white (first (word ++ (after ++ rest))) ≡ false → element (word ++ (after ++ rest)) ≡ Ok (x, after ++ rest) → IsWhite after
    → is_white (first rest) ≡ false
    → padded_at element ((before ++ word ++ after) ++ rest) ≡ Ok (x, rest)
padded_again element before word after rest x wb stop h wa end =
    let regrouped : ((before ++ word) ++ after) ++ rest ≡ before ++ (word ++ (after ++ rest)) = simp append_assoc in
    let starts : skip_white (((before ++ word) ++ after) ++ rest) ≡ word ++ (after ++ rest) =
    ap skip_white regrouped ∙ skip_white-append before (word ++ (after ++ rest)) wb ∙ skip_white-stop (word ++ (after ++ rest)) stop in
    let ends : skip_white (after ++ rest) ≡ rest = skip_white-append after rest wa ∙ skip_white-stop rest end in
    rw (starts, h, ends) refl

pub run_one : {A : Type 0} (close : ℕ) (element : List A → List ℕ → Read A) (fuel : ℕ) (out : List A) (word rest : List ℕ) (x : A)
    → eqb close 44 ≡ false → element out (word ++ close ∷ rest) ≡ Ok (x, close ∷ rest)
    → run_at close element (suc fuel) out (word ++ close ∷ rest) ≡ Ok (out ++ x ∷ [], rest)
unfolding run_at
run_one close element fuel out word rest x other h =
    let same : eqb close close ≡ true = eq-eqb close close refl in
    rw (h, other, same) refl

pub run_more : {A : Type 0} (close : ℕ) (element : List A → List ℕ → Read A) (fuel : ℕ) (out : List A) (front back rest : List ℕ) (x : A)
    (all : List A) → element out (front ++ (44 ∷ (back ++ close ∷ rest))) ≡ Ok (x, 44 ∷ (back ++ close ∷ rest))
    → run_at close element fuel (out ++ x ∷ []) (back ++ close ∷ rest) ≡ Ok (all, rest)
    → run_at close element (suc fuel) out ((front ++ 44 ∷ back) ++ close ∷ rest) ≡ Ok (all, rest)
unfolding run_at
run_more close element fuel out front back rest x all h others =
    ap (run_at close element (suc fuel) out) (append_assoc front (44 ∷ back) (close ∷ rest)) ∙ rw h others

pub sequence_none : {A : Type 0} (close : ℕ) (element : List A → List ℕ → Read A) (inside rest : List ℕ) → IsWhite inside
    → is_white close ≡ false → sequence_at close element (inside ++ close ∷ rest) ≡ Ok ([], rest)
unfolding sequence_at
sequence_none close element inside rest w stop =
    let starts : skip_white (inside ++ close ∷ rest) ≡ close ∷ rest =
    skip_white-append inside (close ∷ rest) w ∙ skip_white-stop (close ∷ rest) stop in
    let same : eqb close close ≡ true = eq-eqb close close refl in
    rw (starts, same) refl

-- a reader that begins with white space, and refuses the closing byte
pub record IsElement {A : Type 0} (close : ℕ) (element : List A → List ℕ → Read A) : Type 0 where
  pub skips : (out : List A) (bytes : List ℕ) → element out (skip_white bytes) ≡ element out bytes
  pub refuses : (out : List A) (bytes : List ℕ) → first (skip_white bytes) ≡ close → element out bytes ≡ Err (length (skip_white bytes))

pub run_skips : {A : Type 0} (close : ℕ) (element : List A → List ℕ → Read A) → IsElement close element
    → (fuel : ℕ) (out : List A) (bytes : List ℕ) → 0 < fuel
    → run_at close element fuel out (skip_white bytes) ≡ run_at close element fuel out bytes
unfolding run_at
run_skips close element is zero out bytes lt = absurd (omega arith)
run_skips close element is (suc fuel) out bytes lt = rw (is.skips out bytes) refl

run_refuses : {A : Type 0} (close : ℕ) (element : List A → List ℕ → Read A) (fuel k : ℕ) (out : List A) (bytes : List ℕ)
    → element out bytes ≡ Err k → 0 < fuel → run_at close element fuel out bytes ≡ Err k
unfolding run_at
run_refuses close element zero k out bytes e lt = absurd (omega arith)
run_refuses close element (suc fuel) k out bytes e lt = rw e refl

pub sequence_some : {A : Type 0} (close : ℕ) (element : List A → List ℕ → Read A) → IsElement close element
    → (bytes rest : List ℕ) (xs : List A) → 0 < length bytes → run_at close element (length bytes) [] bytes ≡ Ok (xs, rest)
    → sequence_at close element bytes ≡ Ok (xs, rest)
unfolding sequence_at
sequence_some close element is bytes rest xs some h =
    elim (cases_Bool (eqb (first (skip_white bytes)) close)) [
      | inl e ↦
          let no : run_at close element (length bytes) [] bytes ≡ Err (length (skip_white bytes)) =
          run_refuses close element (length bytes) (length (skip_white bytes)) [] bytes (is.refuses [] bytes (eqb-true _ _ e)) some in
          absurd cc
      | inr e ↦ cond-false _ _ _ e ∙ run_skips close element is (length bytes) [] bytes some ∙ h
    ]

-- the last element, and one that others follow, where there is fuel for each byte
pub run_last : {A : Type 0} (close : ℕ) (element : List A → List ℕ → Read A) (fuel : ℕ) (out : List A) (word rest : List ℕ) (x : A)
    → eqb close 44 ≡ false → length word < fuel → element out (word ++ close ∷ rest) ≡ Ok (x, close ∷ rest)
    → run_at close element fuel out (word ++ close ∷ rest) ≡ Ok (out ++ x ∷ [], rest)
run_last close element zero out word rest x other lt h = absurd (omega arith)
run_last close element (suc fuel) out word rest x other lt h = run_one close element fuel out word rest x other h

regrouped : {A : Type 0} (out others : List A) (x : A) (rest : List ℕ)
    → done {A = List A × List ℕ} ((out ++ x ∷ []) ++ others, rest) ≡ done {A = List A × List ℕ} (out ++ x ∷ others, rest)
regrouped {A} out others x rest = ap (λ (t : List A). done {A = List A × List ℕ} (t, rest)) (append_assoc out (x ∷ []) others)

pub run_next : {A : Type 0} (close : ℕ) (element : List A → List ℕ → Read A) (fuel : ℕ) (out : List A) (front back rest : List ℕ) (x : A)
    (xs : List A) → length (front ++ 44 ∷ back) < fuel
    → element out (front ++ (44 ∷ (back ++ close ∷ rest))) ≡ Ok (x, 44 ∷ (back ++ close ∷ rest))
    → ((fuel : ℕ) → length back < fuel
    → run_at close element fuel (out ++ x ∷ []) (back ++ close ∷ rest) ≡ Ok ((out ++ x ∷ []) ++ xs, rest))
    → run_at close element fuel out ((front ++ 44 ∷ back) ++ close ∷ rest) ≡ Ok (out ++ x ∷ xs, rest)
run_next close element zero out front back rest x xs lt h others = absurd (omega arith)
run_next close element (suc fuel) out front back rest x xs lt h others =
    run_more close element fuel out front back rest x ((out ++ x ∷ []) ++ xs) h
    (others fuel (omega (arith, length-append front (44 ∷ back)))) ∙ regrouped out xs x rest

pub sequence_again : {A : Type 0} (close : ℕ) (element : List A → List ℕ → Read A) → IsElement close element → is_white close ≡ false
    → (inside rest : List ℕ) (xs : List A) → ((xs ≡ []) × IsWhite inside) ⊎ (0 < length xs)
    → (0 < length xs → (fuel : ℕ) → length inside < fuel → run_at close element fuel [] (inside ++ close ∷ rest) ≡ Ok (xs, rest))
    → sequence_at close element (inside ++ close ∷ rest) ≡ Ok (xs, rest)
sequence_again close element is stop inside rest xs (inl e) h = rw e.0 (sequence_none close element inside rest e.1 stop)
sequence_again close element is stop inside rest xs (inr some) h =
    let len = length-append inside (close ∷ rest) in
    sequence_some close element is (inside ++ close ∷ rest) rest xs (omega arith) (h some (length (inside ++ close ∷ rest)) (omega arith))
