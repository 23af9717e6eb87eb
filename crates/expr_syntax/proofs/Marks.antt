-- The mark at the front is the longest that stands there.
use Rattle.std.proofs.Common.{◌≡◌, ℕ, ◌<◌, ◌≤◌, Bool, true, false, cond, eqb, ltb, ◌&&◌, List, [], ◌∷◌, ◌++◌, length, take, drop, get_or}
use Rattle.std.proofs.Common.{Option, Some, refl, sym, ap, subst, ◌∙◌, arith, append_assoc, length-append, inl, inr, ◌⊎◌}
use Rattle.std.specs.Prelude.{MatchOption}
use Rattle.std.specs.List.{list_all}
use Rattle.std.proofs.lemmas.Bool.Decides.{nat_tests}
use Rattle.std.proofs.lemmas.Bool.{eqb-true, cases_Bool}
use Rattle.std.proofs.lemmas.Option.{same_Some}
use Rattle.fixed_num.proofs.DigitLemmas.{both_true}
use Rattle.expr_syntax.specs.declared.token.Mark.{Mark as AnyMark}
use Rattle.expr_syntax.specs.declared.token.Mark.TheVariants.{Or, And, Like, NotLike, Same, NotSame, Less, LessSame, More, MoreSame, Not}
use Rattle.expr_syntax.specs.Tokens.{mark_text, IsLongest}
use Rattle.expr_syntax.specs.TokenText.{grows}
use Rattle.expr_syntax.specs.inner.Scanner.{mark_of, mark_at}
use Rattle.fixed_num.specs.Front.{first}
use Rattle.fixed_num.proofs.Steps.{begins}
use Rattle.expr_syntax.proofs.Steps.{either_way}
use Rattle.expr_syntax.proofs.Cuts.{cut_behind}
use Rattle.std.specs.Str.{IsUtf8, IsAscii, IsCharBoundary}
use Rattle.std.proofs.lemmas.List.{take_at}
use Rattle.std.proofs.lemmas.Str.Ascii.{IsAscii-nil, IsAscii-cons}

-- ---- every mark

abbrev is_plain : ℕ → Bool
is_plain b = ltb 0 b && ltb b 128

pub is_plain-bounds : (b : ℕ) → is_plain b ≡ true → (0 < b) × (b < 128)
is_plain-bounds b e = grind (arith, nat_tests)

pub mark_plain : (m : AnyMark) → list_all is_plain (mark_text m) ≡ true
mark_plain Or = refl
mark_plain m = refl

pub mark_some : (m : AnyMark) → 1 ≤ length (mark_text m)
mark_some Or = omega arith
mark_some m = omega arith

-- ---- a mark that was found stands there

-- the three bytes begin with the word
abbrev Opens : List ℕ → ℕ → ℕ → ℕ → Type 0
Opens [] a b c = Unit {0}
Opens (x ∷ []) a b c = a ≡ x
Opens (x ∷ y ∷ []) a b c = (a ≡ x) × (b ≡ y)
Opens (x ∷ y ∷ z ∷ []) a b c = (a ≡ x) × (b ≡ y) × (c ≡ z)
Opens (x ∷ y ∷ z ∷ w ∷ ws) a b c = ⊥

abbrev Found : ℕ → ℕ → ℕ → Option AnyMark → Type 0
Found a b c found = MatchOption found (Unit {0}) (λ m. Opens (mark_text m) a b c)

found : (a b c : ℕ) → Found a b c (mark_of a b c)
unfolding mark_of
found a b c =
    let P : Option AnyMark → Type 0 = Found a b c in
    either_way P (eqb a 124) _ _ (λ e. either_way P (eqb b 124) _ _ (λ f. (eqb-true a 124 e, eqb-true b 124 f)) (λ f. tt)) (λ n.
    either_way P (eqb a 38) _ _ (λ e. either_way P (eqb b 38) _ _ (λ f. (eqb-true a 38 e, eqb-true b 38 f)) (λ f. tt)) (λ n.
    either_way P (eqb a 61) _ _
    (λ e. either_way P (eqb b 61) _ _
    (λ f. either_way P (eqb c 61) _ _ (λ g. (eqb-true a 61 e, eqb-true b 61 f, eqb-true c 61 g))
    (λ g. (eqb-true a 61 e, eqb-true b 61 f))) (λ f. tt)) (λ n.
    either_way P (eqb a 33) _ _
    (λ e. either_way P (eqb b 61) _ _
    (λ f. either_way P (eqb c 61) _ _ (λ g. (eqb-true a 33 e, eqb-true b 61 f, eqb-true c 61 g))
    (λ g. (eqb-true a 33 e, eqb-true b 61 f))) (λ f. eqb-true a 33 e)) (λ n.
    either_way P (eqb a 60) _ _ (λ e. either_way P (eqb b 61) _ _ (λ f. (eqb-true a 60 e, eqb-true b 61 f)) (λ f. eqb-true a 60 e)) (λ n.
    either_way P (eqb a 62) _ _ (λ e. either_way P (eqb b 61) _ _ (λ f. (eqb-true a 62 e, eqb-true b 61 f)) (λ f. eqb-true a 62 e)) (λ n.
    either_way P (eqb a 43) _ _ (λ e. eqb-true a 43 e) (λ n.
    either_way P (eqb a 45) _ _ (λ e. eqb-true a 45 e) (λ n.
    either_way P (eqb a 42) _ _ (λ e. eqb-true a 42 e) (λ n.
    either_way P (eqb a 47) _ _ (λ e. eqb-true a 47 e) (λ n.
    either_way P (eqb a 37) _ _ (λ e. eqb-true a 37 e) (λ n.
    either_way P (eqb a 63) _ _ (λ e. eqb-true a 63 e) (λ n.
    either_way P (eqb a 58) _ _ (λ e. eqb-true a 58 e) (λ n.
    either_way P (eqb a 44) _ _ (λ e. eqb-true a 44 e) (λ n.
    either_way P (eqb a 46) _ _ (λ e. eqb-true a 46 e) (λ n.
    either_way P (eqb a 40) _ _ (λ e. eqb-true a 40 e) (λ n.
    either_way P (eqb a 41) _ _ (λ e. eqb-true a 41 e) (λ n.
    either_way P (eqb a 91) _ _ (λ e. eqb-true a 91 e) (λ n.
    either_way P (eqb a 93) _ _ (λ e. eqb-true a 93 e) (λ n.
    tt)))))))))))))))))))

plain_first : (x : ℕ) (xs : List ℕ) → list_all is_plain (x ∷ xs) ≡ true → (0 < x) × (list_all is_plain xs ≡ true)
plain_first x xs e = let b = both_true (is_plain x) (list_all is_plain xs) e in ((is_plain-bounds x b.0).0, b.1)

opened_one : (x : ℕ) (bytes : List ℕ) → 0 < x → get_or bytes 0 0 ≡ x → bytes ≡ x ∷ drop 1 bytes
opened_one x [] some e = absurd (omega arith)
opened_one x (a ∷ bytes) some e = ap (λ (b : ℕ). b ∷ bytes) e

opened_two : (x y : ℕ) (bytes : List ℕ) → 0 < x → 0 < y → get_or bytes 0 0 ≡ x → get_or bytes 1 0 ≡ y → bytes ≡ x ∷ y ∷ drop 2 bytes
opened_two x y [] some more e f = absurd (omega arith)
opened_two x y (a ∷ bytes) some more e f = cc (e, opened_one y bytes more f)

opened_three : (x y z : ℕ) (bytes : List ℕ) → 0 < x → 0 < y → 0 < z → get_or bytes 0 0 ≡ x → get_or bytes 1 0 ≡ y → get_or bytes 2 0 ≡ z
    → bytes ≡ x ∷ y ∷ z ∷ drop 3 bytes
opened_three x y z [] some more most e f g = absurd (omega arith)
opened_three x y z (a ∷ bytes) some more most e f g = cc (e, opened_two y z bytes more most f g)

opened : (word bytes : List ℕ) → list_all is_plain word ≡ true → Opens word (get_or bytes 0 0) (get_or bytes 1 0) (get_or bytes 2 0)
    → bytes ≡ word ++ drop (length word) bytes
opened [] bytes plain opens = refl
opened (x ∷ []) bytes plain opens = opened_one x bytes (plain_first x [] plain).0 opens
opened (x ∷ y ∷ []) bytes plain opens =
    let p = plain_first x (y ∷ []) plain in
    opened_two x y bytes p.0 (plain_first y [] p.1).0 opens.0 opens.1
opened (x ∷ y ∷ z ∷ []) bytes plain opens =
    let p = plain_first x (y ∷ z ∷ []) plain in
    let q = plain_first y (z ∷ []) p.1 in
    opened_three x y z bytes p.0 q.0 (plain_first z [] q.1).0 opens.0 opens.1 opens.2
opened (x ∷ y ∷ z ∷ w ∷ ws) bytes plain opens = absurd opens

pub mark_there : (bytes : List ℕ) (m : AnyMark) → mark_at bytes ≡ Some m → bytes ≡ mark_text m ++ drop (length (mark_text m)) bytes
mark_there bytes m e =
    let a = get_or bytes 0 0 in
    let b = get_or bytes 1 0 in
    let c = get_or bytes 2 0 in
    opened (mark_text m) bytes (mark_plain m) (subst (Found a b c) e (found a b c))

-- ---- and it is the longest

one_of : (b : Bool) (m n k : AnyMark) → cond b (Some m) (Some n) ≡ Some k → (m ≡ k) ⊎ (n ≡ k)
one_of true m n k e = inl (same_Some m k e)
one_of false m n k e = inr (same_Some n k e)

at_least : (n m k : AnyMark) → length (mark_text n) ≤ length (mark_text m) → m ≡ k → length (mark_text n) ≤ length (mark_text k)
at_least n m k l e = subst (λ (x : AnyMark). length (mark_text n) ≤ length (mark_text x)) e l

-- a mark at the front is no longer than the one that is found
none_longer : (n : AnyMark) (more : List ℕ) (m : AnyMark) → mark_at (mark_text n ++ more) ≡ Some m
    → length (mark_text n) ≤ length (mark_text m)
unfolding mark_of
none_longer Or more m e = at_least Or Or m (omega arith) (same_Some Or m e)
none_longer And more m e = at_least And And m (omega arith) (same_Some And m e)
none_longer Same more m e = at_least Same Same m (omega arith) (same_Some Same m e)
none_longer NotSame more m e = at_least NotSame NotSame m (omega arith) (same_Some NotSame m e)
none_longer LessSame more m e = at_least LessSame LessSame m (omega arith) (same_Some LessSame m e)
none_longer MoreSame more m e = at_least MoreSame MoreSame m (omega arith) (same_Some MoreSame m e)
none_longer Like more m e = elim (one_of (eqb (first more) 61) Same Like m e) [
  | inl s ↦ at_least Like Same m (omega arith) s
  | inr s ↦ at_least Like Like m (omega arith) s
]
none_longer NotLike more m e = elim (one_of (eqb (first more) 61) NotSame NotLike m e) [
  | inl s ↦ at_least NotLike NotSame m (omega arith) s
  | inr s ↦ at_least NotLike NotLike m (omega arith) s
]
none_longer n more m e = mark_some m

pub mark_longest : (bytes : List ℕ) (m : AnyMark) → mark_at bytes ≡ Some m → IsLongest m bytes
mark_longest bytes m e other rest same = none_longer other rest m (ap mark_at (sym same) ∙ e)

-- ---- the longest mark at the front is found

-- unless a `=` after it makes it longer
pub mark_found : (m : AnyMark) (rest : List ℕ) → (grows m && eqb (first rest) 61) ≡ false → mark_at (mark_text m ++ rest) ≡ Some m
unfolding mark_of
mark_found Not rest e = rw e refl
mark_found Less rest e = rw e refl
mark_found More rest e = rw e refl
mark_found Like rest e = rw e refl
mark_found NotLike rest e = rw e refl
mark_found m rest e = refl

-- a longer mark begins with it, and with a `=`
not_grown : (m longer : AnyMark) (rest : List ℕ) → mark_text longer ≡ mark_text m ++ 61 ∷ [] → IsLongest m (mark_text m ++ rest)
    → eqb (first rest) 61 ≡ false
not_grown m longer rest e longest = elim (cases_Bool (eqb (first rest) 61)) [
  | inl t ↦
      let there : rest ≡ 61 ∷ drop 1 rest = begins rest 61 (omega arith) (eqb-true _ _ t) in
      let both : mark_text m ++ rest ≡ mark_text longer ++ drop 1 rest =
      ap (λ (r : List ℕ). mark_text m ++ r) there ∙ sym (append_assoc (mark_text m) (61 ∷ []) (drop 1 rest))
      ∙ ap (λ (w : List ℕ). w ++ drop 1 rest) (sym e) in
      absurd (omega (arith, longest longer (drop 1 rest) both, ap length e, length-append (mark_text m) (61 ∷ [])))
  | inr f ↦ f
]

pub longest_stays : (m : AnyMark) (rest : List ℕ) → IsLongest m (mark_text m ++ rest) → (grows m && eqb (first rest) 61) ≡ false
longest_stays Not rest l = not_grown Not NotLike rest refl l
longest_stays Less rest l = not_grown Less LessSame rest refl l
longest_stays More rest l = not_grown More MoreSame rest refl l
longest_stays Like rest l = not_grown Like Same rest refl l
longest_stays NotLike rest l = not_grown NotLike NotSame rest refl l
longest_stays m rest l = refl

pub mark_again : (m : AnyMark) (rest : List ℕ) → IsLongest m (mark_text m ++ rest) → mark_at (mark_text m ++ rest) ≡ Some m
mark_again m rest l = mark_found m rest (longest_stays m rest l)

-- ---- a text may be cut behind a mark

plain_ascii : (word : List ℕ) → list_all is_plain word ≡ true → IsAscii word
plain_ascii [] e = IsAscii-nil
plain_ascii (x ∷ xs) e =
    let b = both_true (is_plain x) (list_all is_plain xs) e in
    IsAscii-cons x xs (is_plain-bounds x b.0).1 (plain_ascii xs b.1)

pub cut_behind_mark : (bytes : List ℕ) (m : AnyMark) → IsUtf8 bytes → mark_at bytes ≡ Some m → IsCharBoundary bytes (length (mark_text m))
cut_behind_mark bytes m u e =
    let there = mark_there bytes m e in
    let n = length (mark_text m) in
    let fits : n ≤ length bytes = omega (arith, ap length there, length-append (mark_text m) (drop n bytes)) in
    let front : take n bytes ≡ mark_text m = ap (take n) there ∙ take_at (mark_text m) (drop n bytes) n refl in
    cut_behind bytes n u fits (subst IsAscii (sym front) (plain_ascii (mark_text m) (mark_plain m)))
