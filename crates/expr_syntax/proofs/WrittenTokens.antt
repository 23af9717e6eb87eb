-- The text of tokens has these tokens, and tokens that were read can be written.
use Rattle.std.proofs.Common.{◌≡◌, ◌≢◌, ℕ, ◌<◌, Bool, true, false, cond, ◌||◌, ◌&&◌, List, [], ◌∷◌, ◌++◌, length, get_or, ℤ, pos, negsuc}
use Rattle.std.proofs.Common.{refl, sym, ap, subst, ◌∙◌, arith, inl}
use Rattle.std.specs.Prelude.{◌≤ℤ◌, ◌+ℤ◌, ◌-ℤ◌, flat_map}
use Rattle.std.proofs.lemmas.Int.{ints}
use Rattle.std.proofs.lemmas.Bool.{false≢true}
use Rattle.fixed_num.specs.Number.{signed, rounded, floor_quotient}
use Rattle.fixed_num.specs.JsonNumber.{Parts, Reads, scaled, decimal_value, number_of}
use Rattle.fixed_num.specs.Decimal.{spelling}
use Rattle.fixed_num.proofs.RoundTripLemmas.{written_is_read}
use Rattle.expr_syntax.specs.declared.token.Token.{Token}
use Rattle.expr_syntax.specs.declared.token.Token.TheVariants.{Name, Number, Quoted, Mark}
use Rattle.expr_syntax.specs.Tokens.{mark_text, IsToken, name, number, quoted, mark, MayFollow, HasTokens, none, blank, token}
use Rattle.expr_syntax.specs.TokenText.{escape_in_text, token_text, IsWritten, AreWritten, ends_operand, grows, clings, is_apart}
use Rattle.expr_syntax.specs.TokenText.{text_after, text_of_tokens}
use Rattle.fixed_num.specs.Front.{first}
use Rattle.expr_syntax.proofs.Marks.{mark_found, mark_longest}
use Rattle.expr_syntax.proofs.Numbers.{minus_of}
use Rattle.expr_syntax.proofs.Escaped.{text_means}
use Rattle.expr_syntax.proofs.Spelling.{no_minus}
use Rattle.expr_syntax.proofs.TokenLemmas.{token_some}

-- ---- a written token is the token

written_word : (t : Token) → IsWritten t → IsToken (token_text t) t
written_word (Name word) w = name word w
written_word (Number m) w = number (spelling m) m (written_is_read m w.0) w.0 (no_minus m w.0 w.1)
written_word (Quoted text) w = quoted 39 (flat_map escape_in_text text) text (inl refl) (text_means text)
written_word (Mark m) w = mark m

-- ---- what may follow it

never : (b : Bool) → (b && false) ≡ false
never true = refl
never false = refl

blank_free : (t : Token) → clings t 32 ≡ false
blank_free (Name word) = refl
blank_free (Number m) = refl
blank_free (Quoted text) = refl
blank_free (Mark m) = never (grows m)

end_free : (t : Token) → clings t 0 ≡ false
end_free (Name word) = refl
end_free (Number m) = refl
end_free (Quoted text) = refl
end_free (Mark m) = never (grows m)

-- a byte that does not cling to a token may follow it
free_follows : (t : Token) (rest : List ℕ) → clings t (first rest) ≡ false → MayFollow t rest
free_follows (Name word) [] e = tt
free_follows (Name word) (b ∷ rest) e = e
free_follows (Number m) [] e = tt
free_follows (Number m) (b ∷ rest) e = e
free_follows (Quoted text) rest e = tt
free_follows (Mark m) rest e = mark_longest (mark_text m ++ rest) m (mark_found m rest e)

-- ---- token by token

or_false : (a b : Bool) → (a || b) ≡ false → b ≡ false
or_false true b e = absurd (false≢true (sym e))
or_false false b e = e

same_first : (word rest : List ℕ) → 0 < length word → first (word ++ rest) ≡ first word
same_first [] rest some = absurd (omega arith)
same_first (b ∷ word) rest some = refl

-- a token before what follows it, with a blank between them or none
put_before : (t : Token) (gap : Bool) (front tail : List ℕ) (ts : List Token) → IsWritten t → 0 < length front
    → (gap ≡ false → clings t (first front) ≡ false) → HasTokens (front ++ tail) ts
    → HasTokens (token_text t ++ ((cond gap (32 ∷ []) [] ++ front) ++ tail)) (t ∷ ts)
put_before t true front tail ts w some free h =
    token (token_text t) (32 ∷ (front ++ tail)) t ts (written_word t w) (free_follows t (32 ∷ (front ++ tail)) (blank_free t))
    (blank 32 (front ++ tail) ts refl h)
put_before t false front tail ts w some free h =
    token (token_text t) (front ++ tail) t ts (written_word t w)
    (free_follows t (front ++ tail) (ap (clings t) (same_first front tail some) ∙ free refl)) h

after_has : (after : Bool) (t : Token) (us : List Token) → IsWritten t → AreWritten us
    → HasTokens (token_text t ++ text_after after t us) (t ∷ us)
after_has after t [] w ws = token (token_text t) [] t [] (written_word t w) (free_follows t [] (end_free t)) none
after_has after t (u ∷ us) w ws =
    put_before t (is_apart after t u) (token_text u) (text_after (ends_operand t) u us) (u ∷ us) w
    (token_some (token_text u) u (written_word u ws.0)) (or_false _ _) (after_has (ends_operand t) u us ws.0 ws.1)

-- the text of tokens has these tokens
pub written_has : (ts : List Token) → AreWritten ts → HasTokens (text_of_tokens ts) ts
written_has [] w = none
written_has (t ∷ ts) w = after_has false t ts w.0 w.1

-- ---- tokens that were read

from_zero : (n : ℕ) → pos 0 ≤ℤ pos n
from_zero n = omega (arith, ints)

scaled_up : (n : ℕ) (k : ℤ) → pos 0 ≤ℤ scaled (pos n) k
unfolding scaled rounded floor_quotient
scaled_up n (pos k) = from_zero _
scaled_up n (negsuc k) = from_zero _

value_up : (p : Parts) → p.minus ≡ false → pos 0 ≤ℤ decimal_value p
unfolding decimal_value
value_up p e =
    let n = number_of (p.whole ++ p.fraction) in
    subst (λ (b : Bool). pos 0 ≤ℤ scaled (signed b n) (p.exponent -ℤ pos (length p.fraction) +ℤ pos 6)) (sym e)
    (scaled_up n (p.exponent -ℤ pos (length p.fraction) +ℤ pos 6))

not_below : (word : List ℕ) (m : ℤ) → Reads word m → get_or word 0 0 ≢ 45 → pos 0 ≤ℤ m
not_below word m r u = subst (λ (n : ℤ). pos 0 ≤ℤ n) (sym r.2) (value_up r.0 (minus_of word r.0 r.1 u))

word_written : (word : List ℕ) (t : Token) → IsToken word t → IsWritten t
word_written word t (name w n) = n
word_written word t (number w m r k u) = (k, not_below w m r u)
word_written word t (quoted q inside text e m) = tt
word_written word t (mark m) = tt

pub read_written : {bytes : List ℕ} (ts : List Token) → HasTokens bytes ts → AreWritten ts
read_written ts none = tt
read_written ts (blank b rest tokens w h) = read_written tokens h
read_written ts (token word rest first others i f h) = (word_written word first i, read_written others h)

-- what is written of tokens that were read has these tokens
pub written_again : {bytes : List ℕ} (ts : List Token) → HasTokens bytes ts → HasTokens (text_of_tokens ts) ts
written_again ts h = written_has ts (read_written ts h)
