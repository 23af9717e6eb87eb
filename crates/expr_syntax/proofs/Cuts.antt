-- The bytes at the front that pass a test, and where a text may be cut.
use Rattle.std.proofs.Common.{◌≡◌, ℕ, suc, ◌+◌, ◌<◌, ◌≤◌, Bool, true, List, [], ◌∷◌, ◌++◌, length, take, drop, refl, ap, ◌∙◌, arith, inl}
use Rattle.std.proofs.Common.{inr}
use Rattle.std.specs.Prelude.{IsTrue}
use Rattle.std.specs.List.{AllByRecursion, prefix_len}
use Rattle.std.specs.Str.{IsUtf8, IsAscii, IsCharBoundary}
use Rattle.std.proofs.lemmas.Bool.{cases_Bool, cond-true, cond-false}
use Rattle.std.proofs.lemmas.Bool.Decides.{nat_tests}
use Rattle.std.proofs.lemmas.Str.{IsUtf8-from_ascii, IsCharBoundary-from_take}
use Rattle.std.proofs.lemmas.Str.Ascii.{IsAscii-nil, IsAscii-cons}
use Rattle.expr_syntax.specs.Tokens.{is_blank, is_name_start, is_name_byte, IsName, BeginsWithout}
use Rattle.fixed_num.specs.Front.{first}

pub one_more : (n : ℕ) → 1 + n ≡ suc n
one_more n = omega arith

-- each byte passes the test
abbrev pub AllPass : (ℕ → Bool) → List ℕ → Type 0
AllPass p bytes = AllByRecursion (λ b. IsTrue (p b)) bytes

pub front_passes : (p : ℕ → Bool) (bytes : List ℕ) → AllPass p (take (prefix_len p bytes) bytes)
front_passes p [] = tt
front_passes p (b ∷ bytes) = elim (cases_Bool (p b)) [
  | inl e ↦ rw (cond-true (p b) (1 + prefix_len p bytes) 0 e, one_more (prefix_len p bytes)) (e, front_passes p bytes)
  | inr e ↦ rw (cond-false (p b) (1 + prefix_len p bytes) 0 e) tt
]

pub front_ends : (p : ℕ → Bool) (bytes : List ℕ) → BeginsWithout p (drop (prefix_len p bytes) bytes)
front_ends p [] = tt
front_ends p (b ∷ bytes) = elim (cases_Bool (p b)) [
  | inl e ↦ rw (cond-true (p b) (1 + prefix_len p bytes) 0 e, one_more (prefix_len p bytes)) (front_ends p bytes)
  | inr e ↦ rw (cond-false (p b) (1 + prefix_len p bytes) 0 e) e
]

none_at : (p : ℕ → Bool) (rest : List ℕ) → BeginsWithout p rest → prefix_len p rest ≡ 0
none_at p [] w = refl
none_at p (b ∷ rest) w = cond-false (p b) (1 + prefix_len p rest) 0 w

pub front_is : (p : ℕ → Bool) (word rest : List ℕ) → AllPass p word → BeginsWithout p rest → prefix_len p (word ++ rest) ≡ length word
front_is p [] rest all w = none_at p rest w
front_is p (b ∷ word) rest all w =
    cond-true (p b) (1 + prefix_len p (word ++ rest)) 0 all.0 ∙ ap (λ n. 1 + n) (front_is p word rest all.1 w) ∙ one_more (length word)

pub front_le : (p : ℕ → Bool) (bytes : List ℕ) → prefix_len p bytes ≤ length bytes
front_le p [] = omega arith
front_le p (b ∷ bytes) = elim (cases_Bool (p b)) [
  | inl e ↦ rw (cond-true (p b) (1 + prefix_len p bytes) 0 e) (omega (arith, front_le p bytes))
  | inr e ↦ rw (cond-false (p b) (1 + prefix_len p bytes) 0 e) (omega arith)
]

-- ---- names

name_start-byte : (b : ℕ) → is_name_start b ≡ true → is_name_byte b ≡ true
name_start-byte b e = grind (arith, nat_tests)

pub name_byte-ascii : (b : ℕ) → is_name_byte b ≡ true → b < 128
name_byte-ascii b e = grind (arith, nat_tests)

pub name_passes : (word : List ℕ) → IsName word → AllPass is_name_byte word
name_passes [] n = absurd n
name_passes (b ∷ word) n = (name_start-byte b n.0, n.1)

-- a word of such bytes is a name where a name may begin with the first
pub passes_name : (bytes : List ℕ) → is_name_start (first bytes) ≡ true → IsName (take (prefix_len is_name_byte bytes) bytes)
passes_name [] e = absurd cc
passes_name (b ∷ bytes) e =
    rw (cond-true (is_name_byte b) (1 + prefix_len is_name_byte bytes) 0 (name_start-byte b e), one_more (prefix_len is_name_byte bytes))
    (e, front_passes is_name_byte bytes)

-- ---- cuts

pub all_ascii : (p : ℕ → Bool) → ((b : ℕ) → p b ≡ true → b < 128) → (word : List ℕ) → AllPass p word → IsAscii word
all_ascii p low [] all = IsAscii-nil
all_ascii p low (b ∷ word) all = IsAscii-cons b word (low b all.0) (all_ascii p low word all.1)

-- a text may be cut behind ASCII
pub cut_behind : (bytes : List ℕ) (n : ℕ) → IsUtf8 bytes → n ≤ length bytes → IsAscii (take n bytes) → IsCharBoundary bytes n
cut_behind bytes n u l a = IsCharBoundary-from_take bytes n u l (IsUtf8-from_ascii (take n bytes) a)

pub cut_behind_name : (bytes : List ℕ) → IsUtf8 bytes → IsCharBoundary bytes (prefix_len is_name_byte bytes)
cut_behind_name bytes u =
    cut_behind bytes (prefix_len is_name_byte bytes) u (front_le is_name_byte bytes)
    (all_ascii is_name_byte name_byte-ascii (take (prefix_len is_name_byte bytes) bytes) (front_passes is_name_byte bytes))

-- ---- blanks

blank-ascii : (b : ℕ) → is_blank b ≡ true → b < 128
blank-ascii b e = grind (arith, nat_tests)

pub cut_behind_blanks : (bytes : List ℕ) → IsUtf8 bytes → IsCharBoundary bytes (prefix_len is_blank bytes)
cut_behind_blanks bytes u =
    cut_behind bytes (prefix_len is_blank bytes) u (front_le is_blank bytes)
    (all_ascii is_blank blank-ascii (take (prefix_len is_blank bytes) bytes) (front_passes is_blank bytes))
