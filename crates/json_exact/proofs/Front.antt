-- What a loop has read so far, and what it still reads.
use Rattle.std.proofs.Common.{◌≡◌, ℕ, zero, suc, ◌+◌, ◌-◌, ◌<◌, ◌≤◌, true, false, eqb, List, [], ◌∷◌, length, get_or, take, drop, Ok, refl}
use Rattle.std.proofs.Common.{sym, arith}
use Rattle.std.proofs.lemmas.Bool.{cond-true, cond-false, eq-eqb, ne_eqb}
use Rattle.std.proofs.lemmas.List.{take_all, drop_all, length-drop}
use Rattle.std.proofs.Math.Seq.{drop-cons}
use Rattle.json_exact.specs.Reading.{is_white}
use Rattle.fixed_num.specs.Front.{first, stop}
use Rattle.json_exact.specs.inner.Reader.{skip_white, after_word}

pub next : (i : ℕ) → i + 1 ≡ suc i
next i = omega arith

-- `&xs[i..]`
pub take-rest : {A : Type 0} (xs : List A) (i : ℕ) → take (length xs - i) (drop i xs) ≡ drop i xs
take-rest xs i = take_all (length xs - i) (drop i xs) (omega (arith, length-drop i xs))

-- ---- white space

white-more : (bytes : List ℕ) (i : ℕ) → i < length bytes → is_white (get_or bytes i 0) ≡ true
    → skip_white (drop (suc i) bytes) ≡ skip_white (drop i bytes)
unfolding skip_white
white-more [] i lt e = absurd (omega arith)
white-more (b ∷ bytes) zero lt e = sym (cond-true _ (skip_white bytes) (b ∷ bytes) e)
white-more (b ∷ bytes) (suc i) lt e = white-more bytes i (omega arith) e

pub skip_white-more : (bytes : List ℕ) (i : ℕ) → i < length bytes → is_white (get_or bytes i 0) ≡ true
    → skip_white (drop (i + 1) bytes) ≡ skip_white (drop i bytes)
skip_white-more bytes i lt e = rw (next i) (white-more bytes i lt e)

pub skip_white-here : (bytes : List ℕ) (i : ℕ) → i < length bytes → is_white (get_or bytes i 0) ≡ false
    → skip_white (drop i bytes) ≡ drop i bytes
unfolding skip_white
skip_white-here [] i lt e = absurd (omega arith)
skip_white-here (b ∷ bytes) zero lt e = cond-false _ (skip_white bytes) (b ∷ bytes) e
skip_white-here (b ∷ bytes) (suc i) lt e = skip_white-here bytes i (omega arith) e

pub skip_white-end : (bytes : List ℕ) (i : ℕ) → length bytes ≤ i → skip_white (drop i bytes) ≡ []
unfolding skip_white
skip_white-end bytes i le = rw (drop_all i bytes le) refl

-- ---- words

pub word-more : (word bytes : List ℕ) (i : ℕ) → i < length word → first bytes ≡ get_or word i 0
    → after_word (drop i word) bytes ≡ after_word (drop (i + 1) word) (drop 1 bytes)
unfolding after_word
word-more word bytes i lt e =
    let same : eqb (first bytes) (get_or word i 0) ≡ true = eq-eqb _ _ e in
    rw (next i, drop-cons word i 0 lt) (cond-true _ (after_word (drop (suc i) word) (drop 1 bytes)) (stop bytes) same)

pub word-other : (word bytes : List ℕ) (i : ℕ) → i < length word → (first bytes ≡ get_or word i 0 → ⊥)
    → after_word (drop i word) bytes ≡ stop bytes
unfolding after_word
word-other word bytes i lt e =
    let other : eqb (first bytes) (get_or word i 0) ≡ false = ne_eqb _ _ e in
    rw (drop-cons word i 0 lt) (cond-false _ (after_word (drop (suc i) word) (drop 1 bytes)) (stop bytes) other)

pub word-end : (word bytes : List ℕ) (i : ℕ) → length word ≤ i → after_word (drop i word) bytes ≡ Ok bytes
unfolding after_word
word-end word bytes i le = rw (drop_all i word le) refl
