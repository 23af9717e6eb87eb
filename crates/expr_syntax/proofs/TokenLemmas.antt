-- The token at the front, and that no bytes have two lists of tokens.
use Rattle.std.proofs.Common.{◌≡◌, ◌≢◌, ℕ, ◌+◌, ◌<◌, ◌≤◌, Bool, true, false, cond, eqb, ◌||◌, List, [], ◌∷◌, ◌++◌, length, take, drop}
use Rattle.std.proofs.Common.{get_or, ℤ, Ok, Err, Option, Some, None, refl, sym, ap, subst, ◌∙◌, arith, inl, inr, ◌⊎◌, append_assoc}
use Rattle.std.proofs.Common.{append-nil, length-append, length-drop, take-append-drop}
use Rattle.std.specs.Prelude.{IsErrOf}
use Rattle.std.specs.List.{prefix_len}
use Rattle.std.specs.Char.{is_ascii_digit}
use Rattle.std.proofs.lemmas.Bool.{cases_Bool, cond-true, cond-false, eqb-true, false≢true}
use Rattle.std.proofs.lemmas.Bool.Decides.{nat_tests}
use Rattle.std.proofs.lemmas.List.{take_at, drop_at, nil_from_length}
use Rattle.fixed_num.specs.Number.{IsNumber}
use Rattle.fixed_num.specs.JsonNumber.{Reads}
use Rattle.expr_syntax.specs.declared.token.Token.{Token}
use Rattle.expr_syntax.specs.declared.token.Token.TheVariants.{Name, Number, Quoted, Mark}
use Rattle.expr_syntax.specs.declared.token.Mark.{Mark as AnyMark}
use Rattle.expr_syntax.specs.declared.token.Mark.TheVariants.{Or}
use Rattle.expr_syntax.specs.Tokens.{is_blank, is_name_start, is_name_byte, IsName, mark_text, Means, IsToken, name, number, quoted, mark}
use Rattle.expr_syntax.specs.Tokens.{BeginsWithout, IsLongest, MayFollow, HasTokens, none, blank, token}
use Rattle.text_kit.specs.Answer.{IsFault}
use Rattle.expr_syntax.specs.declared.errors.ExprError.{ExprError}
use Rattle.expr_syntax.specs.declared.errors.ExprError.TheVariants.{Shape, Memory}
use Rattle.expr_syntax.specs.inner.Scanner.{cause, Read, mark_of, mark_at, after_mark, number_len, number_at, inside_at, as_quoted}
use Rattle.expr_syntax.specs.inner.Scanner.{name_at, is_quote, token_at}
use Rattle.fixed_num.specs.Front.{first}
use Rattle.fixed_num.proofs.Steps.{chosen, begins}
use Rattle.expr_syntax.proofs.Steps.{done, ok_is}
use Rattle.expr_syntax.proofs.Marks.{mark_there, mark_longest, mark_again, mark_some}
use Rattle.expr_syntax.proofs.Cuts.{one_more, front_ends, front_is, name_passes, passes_name}
use Rattle.expr_syntax.proofs.Numbers as numbers
use Rattle.expr_syntax.proofs.Texts as texts

-- ---- what is read is a token

-- a token stands before the rest
pub record Stands (bytes : List ℕ) (x : Token × List ℕ) : Type 0 where
  pub word : List ℕ
  pub parts : bytes ≡ word ++ x.1
  pub is : IsToken word x.0
  pub follows : MayFollow x.0 x.1

Stands-at : (bytes : List ℕ) (x y : Token × List ℕ) → x ≡ y → Stands bytes x → Stands bytes y
Stands-at bytes x y e s = subst (λ (z : Token × List ℕ). Stands bytes z) e s

name_sound : (bytes : List ℕ) → is_name_start (first bytes) ≡ true
    → Stands bytes (Name (take (prefix_len is_name_byte bytes) bytes), drop (prefix_len is_name_byte bytes) bytes)
name_sound bytes e =
    let n = prefix_len is_name_byte bytes in
    record {
      word = take n bytes;
      parts = sym (take-append-drop n bytes);
      is = name (take n bytes) (passes_name bytes e);
      follows = front_ends is_name_byte bytes;
    }

digit_adheres : (b : ℕ) → is_ascii_digit b ≡ true → numbers.adheres b ≡ true
digit_adheres b e = grind (arith, nat_tests)

digit_no_minus : (b : ℕ) → is_ascii_digit b ≡ true → b ≢ 45
digit_no_minus b e same = absurd (grind (arith, nat_tests))

number_sound : (bytes : List ℕ) (x : Token × List ℕ) → is_ascii_digit (first bytes) ≡ true → number_at bytes ≡ Ok x → Stands bytes x
number_sound bytes x d e =
    let n = number_len false bytes in
    let s = numbers.number_sound bytes x e in
    let u : get_or (take n bytes) 0 0 ≢ 45 = λ same. digit_no_minus (first bytes) d (sym (numbers.first_of_number bytes d) ∙ same) in
    Stands-at bytes (Number s.number, drop n bytes) x (sym s.token)
    (record {
      word = take n bytes;
      parts = sym (take-append-drop n bytes);
      is = number (take n bytes) s.number s.reads s.fits u;
      follows = numbers.number_ends false bytes;
    })

as_quoted-ok : (r : Read (List ℕ)) (x : Token × List ℕ) → as_quoted r ≡ Ok x → (y : List ℕ × List ℕ) × (r ≡ Ok y) × ((Quoted y.0, y.1) ≡ x)
as_quoted-ok (Ok y) x e = (y, refl, ok_is (Quoted y.0, y.1) x e)
as_quoted-ok (Err k) x e = absurd cc

quote_is : (b : ℕ) → is_quote b ≡ true → (b ≡ 39) ⊎ (b ≡ 34)
quote_is b e = elim (cases_Bool (eqb b 39)) [
  | inl s ↦ inl (eqb-true b 39 s)
  | inr s ↦ inr (eqb-true b 34 (sym (ap (λ (t : Bool). t || eqb b 34) s) ∙ e))
]

quote_some : (b : ℕ) → is_quote b ≡ true → 0 < b
quote_some b e = grind (arith, nat_tests)

quoted_sound : (bytes : List ℕ) (x : Token × List ℕ) → is_quote (first bytes) ≡ true
    → as_quoted (inside_at (first bytes) false (drop 1 bytes)) ≡ Ok x → Stands bytes x
quoted_sound bytes x q e =
    let quote = first bytes in
    let y = as_quoted-ok (inside_at quote false (drop 1 bytes)) x e in
    let s = texts.text_sound quote (drop 1 bytes) y.0 y.1 in
    let whole : bytes ≡ (quote ∷ s.inside ++ quote ∷ []) ++ y.0.1 =
    begins bytes quote (quote_some quote q) refl
    ∙ ap (λ (t : List ℕ). quote ∷ t) (s.parts ∙ sym (append_assoc s.inside (quote ∷ []) y.0.1)) in
    Stands-at bytes (Quoted y.0.0, y.0.1) x y.2
    (record {
      word = quote ∷ s.inside ++ quote ∷ [];
      parts = whole;
      is = quoted quote s.inside y.0.0 (quote_is quote q) s.means;
      follows = tt;
    })

after_mark-ok : (o : Option AnyMark) (bytes : List ℕ) (x : Token × List ℕ) → after_mark o bytes ≡ Ok x
    → (m : AnyMark) × (o ≡ Some m) × ((Mark m, drop (length (mark_text m)) bytes) ≡ x)
after_mark-ok None bytes x e = absurd cc
after_mark-ok (Some m) bytes x e = (m, refl, ok_is (Mark m, drop (length (mark_text m)) bytes) x e)

mark_sound : (bytes : List ℕ) (x : Token × List ℕ) → after_mark (mark_at bytes) bytes ≡ Ok x → Stands bytes x
mark_sound bytes x e =
    let a = after_mark-ok (mark_at bytes) bytes x e in
    let there = mark_there bytes a.0 a.1 in
    Stands-at bytes (Mark a.0, drop (length (mark_text a.0)) bytes) x a.2
    (record { word = mark_text a.0; parts = there; is = mark a.0; follows = subst (IsLongest a.0) there (mark_longest bytes a.0 a.1) })

pub token_sound : (bytes : List ℕ) (x : Token × List ℕ) → token_at bytes ≡ Ok x → Stands bytes x
unfolding token_at
token_sound bytes x e =
    let rest2 : Read Token = after_mark (mark_at bytes) bytes in
    let rest1 : Read Token = cond (is_quote (first bytes)) (as_quoted (inside_at (first bytes) false (drop 1 bytes))) rest2 in
    let rest0 : Read Token = cond (is_ascii_digit (first bytes)) (number_at bytes) rest1 in
    elim (chosen (is_name_start (first bytes)) (name_at bytes) rest0 (Ok x) e) [
      | inl c ↦ Stands-at bytes (Name (take (prefix_len is_name_byte bytes) bytes), drop (prefix_len is_name_byte bytes) bytes) x
          (ok_is (Name (take (prefix_len is_name_byte bytes) bytes), drop (prefix_len is_name_byte bytes) bytes) x c.1)
          (name_sound bytes c.0)
      | inr c ↦ elim (chosen (is_ascii_digit (first bytes)) (number_at bytes) rest1 (Ok x) c.1) [
        | inl d ↦ number_sound bytes x d.0 d.1
        | inr d ↦ elim (chosen (is_quote (first bytes)) (as_quoted (inside_at (first bytes) false (drop 1 bytes))) rest2 (Ok x) d.1) [
          | inl q ↦ quoted_sound bytes x q.0 q.1
          | inr q ↦ mark_sound bytes x q.1
        ]
      ]
    ]

-- ---- every token is read

name_first : (word rest : List ℕ) → IsName word → is_name_start (first (word ++ rest)) ≡ true
name_first [] rest n = absurd n
name_first (b ∷ word) rest n = n.0

name_again : (word rest : List ℕ) → IsName word → BeginsWithout is_name_byte rest → token_at (word ++ rest) ≡ done (Name word, rest)
unfolding token_at
name_again word rest n w =
    let len = front_is is_name_byte word rest (name_passes word n) w in
    cond-true (is_name_start (first (word ++ rest))) (name_at (word ++ rest)) _ (name_first word rest n)
    ∙ ap (λ (k : ℕ). done (Name (take k (word ++ rest)), drop k (word ++ rest))) len
    ∙ ap (λ (t : List ℕ). done (Name t, drop (length word) (word ++ rest))) (take_at word rest (length word) refl)
    ∙ ap (λ (t : List ℕ). done (Name word, t)) (drop_at word rest (length word) refl)

digit_no_start : (b : ℕ) → is_ascii_digit b ≡ true → is_name_start b ≡ false
digit_no_start b e = grind (arith, nat_tests)

number_again : (word rest : List ℕ) (m : ℤ) → Reads word m → IsNumber m → get_or word 0 0 ≢ 45 → BeginsWithout numbers.adheres rest
    → token_at (word ++ rest) ≡ done (Number m, rest)
unfolding token_at
number_again word rest m n k u w =
    let d = numbers.number_begins word rest n.0 n.1 u in
    cond-false (is_name_start (first (word ++ rest))) (name_at (word ++ rest)) _ (digit_no_start (first (word ++ rest)) d)
    ∙ cond-true (is_ascii_digit (first (word ++ rest))) (number_at (word ++ rest)) _ d
    ∙ numbers.number_again word rest m n k u w

quoted_read : (quote : ℕ) (bytes : List ℕ) → (quote ≡ 39) ⊎ (quote ≡ 34)
    → token_at (quote ∷ bytes) ≡ as_quoted (inside_at quote false bytes)
unfolding token_at
quoted_read quote bytes q = elim q [
  | inl e ↦ rw e refl
  | inr e ↦ rw e refl
]

quote_no_escape : (quote : ℕ) → (quote ≡ 39) ⊎ (quote ≡ 34) → 92 ≢ quote
quote_no_escape quote q e = elim q [ inl s ↦ absurd (omega arith) | inr s ↦ absurd (omega arith) ]

quoted_again : (quote : ℕ) (inside text rest : List ℕ) → (quote ≡ 39) ⊎ (quote ≡ 34) → Means quote inside text
    → token_at ((quote ∷ inside ++ quote ∷ []) ++ rest) ≡ done (Quoted text, rest)
quoted_again quote inside text rest q m =
    quoted_read quote ((inside ++ quote ∷ []) ++ rest) q
    ∙ ap (λ (t : List ℕ). as_quoted (inside_at quote false t)) (append_assoc inside (quote ∷ []) rest)
    ∙ ap as_quoted (texts.text_again quote rest (quote_no_escape quote q) m)

mark_read : (m : AnyMark) (rest : List ℕ)
    → token_at (mark_text m ++ rest) ≡ after_mark (mark_at (mark_text m ++ rest)) (mark_text m ++ rest)
unfolding token_at
mark_read Or rest = refl
mark_read m rest = refl

mark_again-token : (m : AnyMark) (rest : List ℕ) → IsLongest m (mark_text m ++ rest) → token_at (mark_text m ++ rest) ≡ done (Mark m, rest)
mark_again-token m rest l =
    mark_read m rest ∙ ap (λ (o : Option AnyMark). after_mark o (mark_text m ++ rest)) (mark_again m rest l)
    ∙ ap (λ (t : List ℕ). done (Mark m, t)) (drop_at (mark_text m) rest (length (mark_text m)) refl)

pub token_again : (word rest : List ℕ) (t : Token) → IsToken word t → MayFollow t rest → token_at (word ++ rest) ≡ done (t, rest)
token_again word rest t (name w n) f = name_again w rest n f
token_again word rest t (number w m r k u) f = number_again w rest m r k u f
token_again word rest t (quoted q inside text e m) f = quoted_again q inside text rest e m
token_again word rest t (mark m) f = mark_again-token m rest f

-- ---- one list of tokens

pub token_some : (word : List ℕ) (t : Token) → IsToken word t → 0 < length word
token_some word t (name [] n) = absurd n
token_some word t (name (b ∷ others) n) = omega arith
token_some word t (number [] m r k u) = absurd (false≢true (numbers.number_begins [] [] r.0 r.1 u))
token_some word t (number (b ∷ others) m r k u) = omega arith
token_some word t (quoted q inside text e m) = omega arith
token_some word t (mark m) = mark_some m

-- the bytes get fewer
pub token_shorter : (bytes : List ℕ) (x : Token × List ℕ) → token_at bytes ≡ Ok x → length x.1 < length bytes
token_shorter bytes x e =
    let s = token_sound bytes x e in
    omega (arith, ap length s.parts, length-append s.word x.1, token_some s.word x.0 s.is)

no_token_at_end : token_at [] ≡ Err tt
unfolding token_at mark_of
no_token_at_end = refl

blank_is : (b : ℕ) → is_blank b ≡ true → (b ≡ 32) ⊎ ((b ≡ 9) ⊎ ((b ≡ 10) ⊎ (b ≡ 13)))
blank_is b e = grind (arith, nat_tests)

no_token_at_blank : (b : ℕ) (rest : List ℕ) → is_blank b ≡ true → token_at (b ∷ rest) ≡ Err tt
unfolding token_at mark_of
no_token_at_blank b rest e = elim (blank_is b e) [
  | inl s ↦ rw s refl
  | inr o ↦ elim o [
    | inl s ↦ rw s refl
    | inr p ↦ elim p [ inl s ↦ rw s refl | inr s ↦ rw s refl ]
  ]
]

same_pair : (x y : Token × List ℕ) (r : Read Token) → r ≡ Ok x → r ≡ Ok y → x ≡ y
same_pair x y r e f = ok_is x y (sym e ∙ f)

no_pair : (x : Token × List ℕ) (r : Read Token) → r ≡ Ok x → r ≡ Err tt → ⊥
no_pair x r e f = cc

-- no bytes have no tokens
end_has : (bytes : List ℕ) (ts : List Token) → HasTokens bytes ts → bytes ≡ [] → ts ≡ []
end_has bytes ts none e = refl
end_has bytes ts (blank b rest tokens w h) e = absurd cc
end_has bytes ts (token word rest first others i f h) e =
    absurd (no_pair (first, rest) (token_at []) (ap token_at (sym e) ∙ token_again word rest first i f) no_token_at_end)

-- the tokens of bytes that begin with a blank are those of what follows
blank_has : (bytes : List ℕ) (ts : List Token) (b : ℕ) (rest : List ℕ) → HasTokens bytes ts → bytes ≡ b ∷ rest → is_blank b ≡ true
    → HasTokens rest ts
blank_has bytes ts b rest none e w = absurd cc
blank_has bytes ts b rest (blank c after tokens v h) e w = let same : after ≡ rest = cc in subst (λ (r : List ℕ). HasTokens r ts) same h
blank_has bytes ts b rest (token word after first others i f h) e w =
    absurd (no_pair (first, after) (token_at (b ∷ rest)) (ap token_at (sym e) ∙ token_again word after first i f)
    (no_token_at_blank b rest w))

-- the tokens after the first
pub record After (t : Token) (rest : List ℕ) (ts : List Token) : Type 0 where
  pub others : List Token
  pub all : ts ≡ t ∷ others
  pub have : HasTokens rest others

After-at : (x y : Token × List ℕ) (others : List Token) → x ≡ y → HasTokens x.1 others → After y.0 y.1 (x.0 ∷ others)
After-at x y others e h =
    record {
      others = others;
      all = ap (λ (z : Token × List ℕ). z.0 ∷ others) e;
      have = subst (λ (z : Token × List ℕ). HasTokens z.1 others) e h;
    }

pub token_has : (bytes : List ℕ) (ts : List Token) (x : Token × List ℕ) → HasTokens bytes ts → token_at bytes ≡ Ok x → After x.0 x.1 ts
token_has bytes ts x none e = absurd (no_pair x (token_at []) e no_token_at_end)
token_has bytes ts x (blank b rest tokens w h) e = absurd (no_pair x (token_at (b ∷ rest)) e (no_token_at_blank b rest w))
token_has bytes ts x (token word rest first others i f h) e =
    After-at (first, rest) x others (same_pair (first, rest) x (token_at (word ++ rest)) (token_again word rest first i f) e) h

pub has_token : (bytes : List ℕ) (ts : List Token) (x : Token × List ℕ) → token_at bytes ≡ Ok x → HasTokens x.1 ts
    → HasTokens bytes (x.0 ∷ ts)
has_token bytes ts x e h =
    let s = token_sound bytes x e in
    subst (λ (b : List ℕ). HasTokens b (x.0 ∷ ts)) (sym s.parts) (token s.word x.1 x.0 ts s.is s.follows h)

-- where there is no token and no blank there are no tokens
pub none_has : (bytes : List ℕ) (ts : List Token) → HasTokens bytes ts → 0 < length bytes → BeginsWithout is_blank bytes
    → token_at bytes ≡ Err tt → ⊥
none_has bytes ts none some w e = absurd (omega arith)
none_has bytes ts (blank b rest tokens v h) some w e = false≢true (sym w ∙ v)
none_has bytes ts (token word rest first others i f h) some w e =
    no_pair (first, rest) (token_at (word ++ rest)) (token_again word rest first i f) e

-- no bytes have two lists of tokens
pub one_list : {bytes : List ℕ} (xs ys : List Token) → HasTokens bytes xs → HasTokens bytes ys → xs ≡ ys
one_list xs ys none k = sym (end_has [] ys k refl)
one_list xs ys (blank b rest tokens w h) k = one_list tokens ys h (blank_has (b ∷ rest) ys b rest k refl w)
one_list xs ys (token word rest first others i f h) k =
    let a = token_has (word ++ rest) ys (first, rest) k (token_again word rest first i f) in
    ap (λ (ts : List Token). first ∷ ts) (one_list others a.others h a.have) ∙ sym a.all

-- ---- blanks at the front

pub blanks_have : (bytes : List ℕ) (ts : List Token) → HasTokens bytes ts → HasTokens (drop (prefix_len is_blank bytes) bytes) ts
blanks_have [] ts h = h
blanks_have (b ∷ bytes) ts h = elim (cases_Bool (is_blank b)) [
  | inl e ↦ rw (cond-true (is_blank b) (1 + prefix_len is_blank bytes) 0 e, one_more (prefix_len is_blank bytes))
      (blanks_have bytes ts (blank_has (b ∷ bytes) ts b bytes h refl e))
  | inr e ↦ rw (cond-false (is_blank b) (1 + prefix_len is_blank bytes) 0 e) h
]

pub have_blanks : (bytes : List ℕ) (ts : List Token) → HasTokens (drop (prefix_len is_blank bytes) bytes) ts → HasTokens bytes ts
have_blanks [] ts h = h
have_blanks (b ∷ bytes) ts h = elim (cases_Bool (is_blank b)) [
  | inl e ↦ blank b bytes ts e
      (have_blanks bytes ts (rw (cond-true (is_blank b) (1 + prefix_len is_blank bytes) 0 e, one_more (prefix_len is_blank bytes)) at h))
  | inr e ↦ rw (cond-false (is_blank b) (1 + prefix_len is_blank bytes) 0 e) at h
]

pub blanks_le : (bytes : List ℕ) → length (drop (prefix_len is_blank bytes) bytes) ≤ length bytes
blanks_le bytes = omega (arith, length-drop (prefix_len is_blank bytes) bytes)

-- ---- token by token

-- which tokens were read, and what is left
pub record Reached (text : List ℕ) (done : List Token) (rest : List ℕ) : Type 0 where
  pub back : (ts : List Token) → HasTokens rest ts → HasTokens text (done ++ ts)
  pub ahead : (ts : List Token) → HasTokens text ts → (us : List Token) × HasTokens rest us
  pub starts : BeginsWithout is_blank rest

pub reached_start : (text : List ℕ) → Reached text [] (drop (prefix_len is_blank text) text)
reached_start text = record {
  back = λ ts h. have_blanks text ts h;
  ahead = λ ts h. (ts, blanks_have text ts h);
  starts = front_ends is_blank text;
}

pub reached_token : (text rest : List ℕ) (so_far : List Token) (x : Token × List ℕ) → Reached text so_far rest → token_at rest ≡ Ok x
    → Reached text (so_far ++ x.0 ∷ []) (drop (prefix_len is_blank x.1) x.1)
reached_token text rest so_far x r e = record {
  back =
      λ ts h. subst (λ (l : List Token). HasTokens text l) (sym (append_assoc so_far (x.0 ∷ []) ts))
      (r.back (x.0 ∷ ts) (has_token rest ts x e (have_blanks x.1 ts h)));
  ahead = λ ts h. let u = r.ahead ts h in let a = token_has rest u.0 x u.1 e in (a.others, blanks_have x.1 a.others a.have);
  starts = front_ends is_blank x.1;
}

pub reached_fault : (text rest : List ℕ) (so_far : List Token) → Reached text so_far rest → 0 < length rest → token_at rest ≡ Err tt
    → (ts : List Token) → HasTokens text ts → ⊥
reached_fault text rest so_far r some e ts h = let u = r.ahead ts h in none_has rest u.0 u.1 some r.starts e

pub reached_end : (text rest : List ℕ) (so_far : List Token) → Reached text so_far rest → length rest ≡ 0 → HasTokens text so_far
reached_end text rest so_far r e =
    subst (λ (l : List Token). HasTokens text l) (append-nil so_far)
    (r.back [] (subst (λ (b : List ℕ). HasTokens b []) (sym (nil_from_length rest e)) none))

pub fault_shape : {A : Type 0} (error : ExprError) (given : Read Token) → IsFault (cause error) given → IsErrOf {T = A} (Err error) Shape
    → given ≡ Err tt
fault_shape Shape given f e = f
fault_shape Memory given f e = absurd cc
