-- Numbers, lists, objects and all values look no further than the first byte that is left.
use Rattle.std.proofs.Common.{◌≡◌, ℕ, zero, suc, ◌<◌, ◌≤◌, Bool, true, false, cond, eqb, List, [], ◌∷◌, ◌++◌, length, drop, Option, Some}
use Rattle.std.proofs.Common.{None, Result, Ok, Err, ℤ, pos, refl, sym, ap, subst, ◌∙◌, append_assoc, arith, inl, inr, ◌||◌}
use Rattle.std.specs.Prelude.{codes}
use Rattle.std.specs.Char.{is_ascii_digit}
use Rattle.std.specs.List.{AllByRecursion}
use Rattle.std.proofs.lemmas.Bool.{cases_Bool, cond-true, cond-false, eqb-true, eq-eqb, ne_eqb}
use Rattle.std.proofs.lemmas.Bool.Decides.{nat_tests}
use Rattle.std.proofs.lemmas.List.{length-append}
use Rattle.fixed_num.specs.Number.{signed}
use Rattle.fixed_num.specs.JsonNumber.{Parts, number_of, decimal_value}
use Rattle.json_exact.specs.declared.json.Json.{Json}
use Rattle.json_exact.specs.declared.json.Json.TheVariants as json
use Rattle.json_exact.specs.declared.json.Member.{Member}
use Rattle.json_exact.specs.Reading.{is_white}
use Rattle.fixed_num.specs.Steps.{◌>>=◌}
use Rattle.fixed_num.specs.Front.{Read, first, stop, leading_digits, after_digits, digits_at, whole_at, fraction_at, is_sign, is_mark}
use Rattle.fixed_num.specs.Front.{signed_at, exponent_at, after_minus, parts_at}
use Rattle.json_exact.specs.inner.Reader.{skip_white, padded_at, word_at, quoted_at, number_tree, number_at, run_at, sequence_at, names_of}
use Rattle.json_exact.specs.inner.Reader.{member_at, list_at, object_at, nested_at, flat_at, value_from, value_at, text_at}
use Rattle.fixed_num.proofs.Steps.{done, begins, chosen}
use Rattle.json_exact.proofs.Parts.{skip_white-append, skip_white-stop}
use Rattle.fixed_num.proofs.Numerals.{digits_list, digits_sound}
use Rattle.json_exact.proofs.Sound.{white_sound, some_null, some_true, some_false}
use Rattle.json_exact.proofs.Causal.{outcome, Causal, stops, finds, binds, chooses, takes, same_reader, word}
use Rattle.json_exact.proofs.Reach.{LooksFueled, unfueled, quoted}

two_same : {A : Type 0} (a b : A) (r s : List ℕ) → a ≡ b → r ≡ s → done {A = A × List ℕ} (a, r) ≡ done {A = A × List ℕ} (b, s)
two_same a b r s e f = cc

abbrev failed_run : {A : Type 0} → ℕ → Read A
failed_run n = Err n

-- ---- numbers

digits_stop : (bytes : List ℕ) → is_ascii_digit (first (after_digits bytes)) ≡ false
unfolding after_digits
digits_stop [] = refl
digits_stop (b ∷ rest) = elim (cases_Bool (is_ascii_digit b)) [
  | inl e ↦ rw e (digits_stop rest)
  | inr e ↦ ap (λ (t : List ℕ). is_ascii_digit (first t)) (cond-false (is_ascii_digit b) (after_digits rest) (b ∷ rest) e) ∙ e
]

digits_first : (bytes other : List ℕ) → is_ascii_digit (first bytes) ≡ true → is_ascii_digit (first (leading_digits bytes ++ other)) ≡ true
unfolding leading_digits
digits_first [] other e = absurd cc
digits_first (b ∷ rest) other e = rw e e

digits : Causal digits_at
unfolding digits_at
digits bytes = elim (cases_Bool (is_ascii_digit (first bytes))) [
  | inl e ↦ record {
    front = leading_digits bytes;
    rest = after_digits bytes;
    found = Some (leading_digits bytes);
    parts = (digits_sound bytes).0;
    again = λ other same.
        let ds = leading_digits bytes in
        let k = digits_list ds other (digits_sound bytes).1 (ap is_ascii_digit same ∙ digits_stop bytes) in
        cond-true (is_ascii_digit (first (ds ++ other))) (Ok (leading_digits (ds ++ other), after_digits (ds ++ other)))
        (stop (ds ++ other)) (digits_first bytes other e) ∙ two_same _ _ _ _ k.0 k.1;
  }
  | inr e ↦ record {
    front = [];
    rest = bytes;
    found = None;
    parts = refl;
    again = λ other same. cond-false (is_ascii_digit (first other)) (Ok (leading_digits other, after_digits other)) (stop other)
        (ap is_ascii_digit same ∙ e);
  }
]

whole : Causal whole_at
unfolding whole_at
whole = takes (λ b. eqb b 48) (λ b rest. Ok (48 ∷ [], rest)) digits_at refl (λ b. finds (48 ∷ [])) digits

fraction : Causal fraction_at
unfolding fraction_at
fraction = takes (λ b. eqb b 46) (λ b rest. digits_at rest) (λ bytes. Ok ([], bytes)) refl (λ b. digits) (finds [])

abbrev signed_then : Bool → List ℕ → Read ℤ
signed_then minus bytes = digits_at bytes >>= λ x. Ok (signed minus (number_of x.0), x.1)

signed_is : (minus : Bool) → Causal (signed_then minus)
signed_is minus = binds digits_at (λ ds rest. Ok (signed minus (number_of ds), rest)) digits (λ ds. finds (signed minus (number_of ds)))

no_sign : (b : ℕ) → is_sign b ≡ false → eqb b 45 ≡ false
no_sign b e = grind (arith, nat_tests)

by_sign : (bytes : List ℕ) → cond (is_sign (first bytes)) (signed_then (eqb (first bytes) 45) (drop 1 bytes)) (signed_then false bytes)
    ≡ signed_at bytes
unfolding signed_at
by_sign bytes = elim (cases_Bool (is_sign (first bytes))) [
  | inl e ↦ rw e refl
  | inr e ↦ let positive : eqb (first bytes) 45 ≡ false = no_sign (first bytes) e in rw (e, positive) refl
]

signed_digits : Causal signed_at
signed_digits = same_reader (λ bytes. cond (is_sign (first bytes)) (signed_then (eqb (first bytes) 45) (drop 1 bytes))
    (signed_then false bytes)) signed_at by_sign
    (takes is_sign (λ b rest. signed_then (eqb b 45) rest) (signed_then false) refl (λ b. signed_is (eqb b 45)) (signed_is false))

exponent : Causal exponent_at
unfolding exponent_at
exponent = takes is_mark (λ b rest. signed_at rest) (λ bytes. Ok (pos 0, bytes)) refl (λ b. signed_digits) (finds (pos 0))

abbrev body : Bool → List ℕ → Read Parts
body minus bytes = whole_at bytes >>= λ w. fraction_at w.1 >>= λ f. exponent_at f.1 >>= λ e. Ok (
  record {
    minus = minus;
    whole = w.0;
    fraction = f.0;
    exponent = e.0;
  },
  e.1,
)

body_is : (minus : Bool) → Causal (body minus)
body_is minus =
    binds whole_at (λ w rest. fraction_at rest >>= λ f. exponent_at f.1 >>= λ e. Ok (
      record {
        minus = minus;
        whole = w;
        fraction = f.0;
        exponent = e.0;
      },
      e.1,
    )) whole
    (λ w. binds fraction_at (λ f rest. exponent_at rest >>= λ e. Ok (
      record {
        minus = minus;
        whole = w;
        fraction = f;
        exponent = e.0;
      },
      e.1,
    )) fraction
    (λ f. binds exponent_at (λ e rest. Ok (record { minus = minus; whole = w; fraction = f; exponent = e }, rest)) exponent
    (λ e. finds (record { minus = minus; whole = w; fraction = f; exponent = e }))))

by_minus : (bytes : List ℕ) → cond (eqb (first bytes) 45) (body true (drop 1 bytes)) (body false bytes) ≡ parts_at bytes
unfolding parts_at
by_minus bytes = elim (cases_Bool (eqb (first bytes) 45)) [
  | inl e ↦ rw e refl
  | inr e ↦ rw e refl
]

number : Causal number_at
unfolding number_at
number = binds parts_at (λ p rest. Ok (number_tree (decimal_value p), rest))
    (same_reader (λ bytes. cond (eqb (first bytes) 45) (body true (drop 1 bytes)) (body false bytes)) parts_at by_minus
    (takes (λ b. eqb b 45) (λ b rest. body true rest) (body false) refl (λ b. body_is true) (body_is false)))
    (λ p. finds (number_tree (decimal_value p)))

-- ---- white space

white_stop : (bytes : List ℕ) → is_white (first (skip_white bytes)) ≡ false
unfolding skip_white
white_stop [] = refl
white_stop (b ∷ rest) = elim (cases_Bool (is_white b)) [
  | inl e ↦ rw e (white_stop rest)
  | inr e ↦ ap (λ (t : List ℕ). is_white (first t)) (cond-false (is_white b) (skip_white rest) (b ∷ rest) e) ∙ e
]

skips : {A : Type 0} (x : A) → Causal (λ bytes. Ok (x, skip_white bytes))
skips {A} x bytes =
    let w = white_sound bytes in
    record {
      front = w.0;
      rest = skip_white bytes;
      found = Some x;
      parts = w.1;
      again = λ other e. ap (λ (t : List ℕ). done {A = A × List ℕ} (x, t)) (skip_white-append w.0 other w.2
          ∙ skip_white-stop other (ap is_white e ∙ white_stop bytes));
    }

pub skip_then : {A : Type 0} (element : List ℕ → Read A) → Causal element → Causal (λ bytes. element (skip_white bytes))
skip_then element causal = binds (λ bytes. Ok (tt {0}, skip_white bytes)) (λ x rest. element rest) (skips tt) (λ x. causal)

pub padded : {A : Type 0} (element : List ℕ → Read A) → Causal element → Causal (padded_at element)
padded element causal = binds (λ bytes. element (skip_white bytes)) (λ x rest. Ok (x, skip_white rest))
    (skip_then element causal) (λ x. skips x)

-- ---- lists and objects

module _ {A : Type 0} (close : ℕ) (element : List A → List ℕ → Read A) (high : 0 < close) (causal : (out : List A) → Causal (element out))
    (refuses : (out : List A) (bytes : List ℕ) → first bytes ≡ 0 → element out bytes ≡ Err (length bytes)) where
  abbrev RunLook : List A → List ℕ → Type 0
  RunLook out bytes = LooksFueled (λ fuel. run_at close element fuel out) bytes

  abbrev behind : ℕ → List A → A × List ℕ → Read (List A)
  behind fuel out x = cond (eqb (first x.1) 44) (run_at close element fuel (out ++ x.0 ∷ []) (drop 1 x.1))
      (cond (eqb (first x.1) close) (Ok (out ++ x.0 ∷ [], drop 1 x.1)) (stop x.1))

  run_zero : (fuel : ℕ) (out : List A) (bytes other : List ℕ) → length other ≤ length bytes → element out bytes ≡ Err (length other)
      → length bytes ≤ fuel → run_at close element fuel out bytes ≡ Err (length other)
  unfolding run_at
  run_zero zero out bytes other shorter e le =
      let same : length bytes ≡ length other = omega arith in
      ap (λ (n : ℕ). failed_run n) same
  run_zero (suc fuel) out bytes other shorter e le = ap (λ r. r >>= behind fuel out) e

  run_go : (fuel : ℕ) (out : List A) (bytes rest : List ℕ) (x : A) → 0 < fuel → element out bytes ≡ Ok (x, rest)
      → (less : ℕ) × (fuel ≡ suc less) × (run_at close element fuel out bytes ≡ behind less out (x, rest))
  unfolding run_at
  run_go zero out bytes rest x lt e = absurd (omega arith)
  run_go (suc fuel) out bytes rest x lt e = (fuel, refl, ap (λ r. r >>= behind fuel out) e)

  never : (out : List A) (bytes rest : List ℕ) (x : A) → element out bytes ≡ Ok (x, rest) → element out bytes ≡ Err (length bytes) → ⊥
  never out bytes rest x e f = absurd cc

  taken : (out : List A) (bytes rest : List ℕ) (x : A) → element out bytes ≡ Ok (x, rest) → 0 < length bytes
  taken out [] rest x e = absurd (never out [] rest x e (refuses out [] refl))
  taken out (b ∷ bytes) rest x e = omega arith

  -- behind an element
  after_element : (out : List A) (bytes front rest : List ℕ) (x : A) → bytes ≡ front ++ rest
      → ((other : List ℕ) → first other ≡ first rest → element out (front ++ other) ≡ Ok (x, other))
      → ((y : A) (later : List ℕ) → length later < length bytes → RunLook (out ++ y ∷ []) later) → RunLook out bytes
  after_element out bytes front rest x parts again more = elim (cases_Bool (eqb (first rest) 44)) [
    | inl comma ↦
        let here = eqb-true (first rest) 44 comma in
        let rest_is : rest ≡ 44 ∷ drop 1 rest = begins rest 44 (omega arith) here in
        let len = ap length parts ∙ length-append front rest in
        let len_rest = ap length rest_is in
        let l = more x (drop 1 rest) (omega arith) in
        record {
          front = front ++ (44 ∷ l.front);
          rest = l.rest;
          found = l.found;
          parts = parts ∙ ap (λ (t : List ℕ). front ++ t) (rest_is ∙ ap (λ (t : List ℕ). 44 ∷ t) l.parts)
              ∙ sym (append_assoc front (44 ∷ l.front) l.rest);
          again = λ fuel other e le.
              let tail : List ℕ = l.front ++ other in
              let fits : length (front ++ (44 ∷ tail)) ≤ fuel =
              subst (λ (t : List ℕ). length t ≤ fuel) (append_assoc front (44 ∷ l.front) other) le in
              let read = again (44 ∷ tail) (sym here) in
              let many = length-append front (44 ∷ tail) in
              let g = run_go fuel out (front ++ (44 ∷ tail)) (44 ∷ tail) x
              (omega (arith, taken out (front ++ (44 ∷ tail)) (44 ∷ tail) x read)) read in
              ap (run_at close element fuel out) (append_assoc front (44 ∷ l.front) other) ∙ g.2 ∙ l.again g.0 other e (omega (arith, g.1));
        }
    | inr no_comma ↦ elim (cases_Bool (eqb (first rest) close)) [
      | inl closing ↦
          let here = eqb-true (first rest) close closing in
          let rest_is : rest ≡ close ∷ drop 1 rest = begins rest close high here in
          record {
            front = front ++ (close ∷ []);
            rest = drop 1 rest;
            found = Some (out ++ x ∷ []);
            parts = parts ∙ ap (λ (t : List ℕ). front ++ t) rest_is ∙ sym (append_assoc front (close ∷ []) (drop 1 rest));
            again = λ fuel other e le.
                let read = again (close ∷ other) (sym here) in
                let fits : length (front ++ (close ∷ other)) ≤ fuel =
                subst (λ (t : List ℕ). length t ≤ fuel) (append_assoc front (close ∷ []) other) le in
                let g = run_go fuel out (front ++ (close ∷ other)) (close ∷ other) x
                (omega (arith, taken out (front ++ (close ∷ other)) (close ∷ other) x read)) read in
                let not_comma : eqb close 44 ≡ false = ap (λ (b : ℕ). eqb b 44) (sym here) ∙ no_comma in
                let is_close : eqb close close ≡ true = eq-eqb close close refl in
                ap (run_at close element fuel out) (append_assoc front (close ∷ []) other) ∙ g.2
                ∙ cond-false (eqb close 44) (run_at close element g.0 (out ++ x ∷ []) other)
                (cond (eqb close close) (Ok (out ++ x ∷ [], other)) (stop (close ∷ other))) not_comma
                ∙ cond-true (eqb close close) (Ok (out ++ x ∷ [], other)) (stop (close ∷ other)) is_close;
          }
      | inr no_close ↦ record {
        front = front;
        rest = rest;
        found = None;
        parts = parts;
        again = λ fuel other e le.
            let read = again other e in
            let g = run_go fuel out (front ++ other) other x (omega (arith, taken out (front ++ other) other x read)) read in
            let not_comma : eqb (first other) 44 ≡ false = ap (λ (b : ℕ). eqb b 44) e ∙ no_comma in
            let not_close : eqb (first other) close ≡ false = ap (λ (b : ℕ). eqb b close) e ∙ no_close in
            g.2 ∙ cond-false (eqb (first other) 44) (run_at close element g.0 (out ++ x ∷ []) (drop 1 other))
            (cond (eqb (first other) close) (Ok (out ++ x ∷ [], drop 1 other)) (stop other)) not_comma
            ∙ cond-false (eqb (first other) close) (Ok (out ++ x ∷ [], drop 1 other)) (stop other) not_close;
      }
    ]
  ]

  run_next : (out : List A) (bytes front rest : List ℕ) (found : Option A) → bytes ≡ front ++ rest
      → ((other : List ℕ) → first other ≡ first rest → element out (front ++ other) ≡ outcome found other)
      → ((y : A) (later : List ℕ) → length later < length bytes → RunLook (out ++ y ∷ []) later) → RunLook out bytes
  run_next out bytes front rest None parts again more = record {
    front = front;
    rest = rest;
    found = None;
    parts = parts;
    again = λ fuel other e le. run_zero fuel out (front ++ other) other (omega (arith, length-append front other)) (again other e) le;
  }
  run_next out bytes front rest (Some x) parts again more = after_element out bytes front rest x parts again more

  run_from : (out : List A) (bytes : List ℕ) → ((y : A) (later : List ℕ) → length later < length bytes → RunLook (out ++ y ∷ []) later)
      → RunLook out bytes
  run_from out bytes more =
      let l = causal out bytes in
      run_next out bytes l.front l.rest l.found l.parts l.again more

  run : (bound : ℕ) (out : List A) (bytes : List ℕ) → length bytes ≤ bound → RunLook out bytes
  run zero out bytes le = run_from out bytes (λ y later lt. absurd (omega arith))
  run (suc bound) out bytes le = run_from out bytes (λ y later lt. run bound (out ++ y ∷ []) later (omega arith))

  enough : (fuel : ℕ) (bytes : List ℕ) → length bytes ≤ fuel
      → run_at close element (length bytes) [] bytes ≡ run_at close element fuel [] bytes
  enough fuel bytes le =
      let l = run (length bytes) [] bytes (omega arith) in
      let len : length (l.front ++ l.rest) ≡ length bytes = ap length (sym l.parts) in
      ap (run_at close element (length bytes) []) l.parts ∙ l.again (length bytes) l.rest refl (omega arith)
      ∙ sym (l.again fuel l.rest refl (omega arith)) ∙ ap (run_at close element fuel []) (sym l.parts)

  abbrev opened : List ℕ → Read (List A)
  opened rest = cond (eqb (first rest) close) (Ok ([], drop 1 rest)) (run_at close element (length rest) [] rest)

  opened_is : Causal opened
  opened_is = takes (λ b. eqb b close) (λ b rest. Ok ([], rest)) (λ rest. run_at close element (length rest) [] rest)
      (ne_eqb 0 close (λ e. omega arith)) (λ b. finds [])
      (unfueled (λ fuel. run_at close element fuel []) (λ bytes. run (length bytes) [] bytes (omega arith)))

  pub sequence : Causal (sequence_at close element)
  unfolding sequence_at
  sequence = same_reader (λ bytes. opened (skip_white bytes)) (sequence_at close element)
      (λ bytes.
      let w = white_sound bytes in
      let shorter : length (skip_white bytes) ≤ length bytes = omega (arith, ap length w.1, length-append w.0 (skip_white bytes)) in
      ap (λ r. cond (eqb (first (skip_white bytes)) close) (Ok ([], drop 1 (skip_white bytes))) r)
      (enough (length bytes) (skip_white bytes) shorter))
      (skip_then opened opened_is)

-- ---- values

member_refuses : (value : List ℕ → Read Json) (out : List Member) (bytes : List ℕ) → first bytes ≡ 0
    → member_at value out bytes ≡ Err (length bytes)
unfolding member_at quoted_at
member_refuses value out bytes e =
    let same : skip_white bytes ≡ bytes = skip_white-stop bytes (rw e refl) in
    rw (same, e) refl

abbrev named : (List ℕ → Read Json) → List ℕ → List ℕ → Read Member
named value name rest = cond (eqb (first rest) 58) (padded_at value (drop 1 rest) >>= λ x. Ok (record { name = name; value = x.0 }, x.1))
    (stop rest)

member : (value : List ℕ → Read Json) → Causal value → (out : List Member) → Causal (member_at value out)
unfolding member_at
member value causal out = binds (padded_at (quoted_at (names_of out))) (named value)
    (padded (quoted_at (names_of out)) (quoted (names_of out)))
    (λ name. takes (λ b. eqb b 58) (λ b rest. padded_at value rest >>= λ x. Ok (record { name = name; value = x.0 }, x.1))
    (λ rest. stop rest) refl (λ b. binds (padded_at value) (λ v rest. Ok (record { name = name; value = v }, rest))
    (padded value causal) (λ v. finds (record { name = name; value = v }))) stops)

-- a reader of values refuses where there is no byte
abbrev Refuses : (List ℕ → Read Json) → Type 0
Refuses value = (bytes : List ℕ) → first bytes ≡ 0 → value bytes ≡ Err (length bytes)

padded_refuses : (value : List ℕ → Read Json) → Refuses value → (out : List Json) (bytes : List ℕ) → first bytes ≡ 0
    → padded_at value bytes ≡ Err (length bytes)
padded_refuses value h out bytes e =
    let same : skip_white bytes ≡ bytes = skip_white-stop bytes (rw e refl) in
    ap (λ (t : List ℕ). value t >>= λ x. Ok (x.0, skip_white x.1)) same ∙ ap (λ r. r >>= λ x. Ok (x.0, skip_white x.1)) (h bytes e)

list : (value : List ℕ → Read Json) → Causal value → Refuses value → Causal (list_at value)
unfolding list_at
list value causal h = binds (sequence_at 93 (λ out. padded_at value)) (λ items rest. Ok (json.List items, rest))
    (sequence 93 (λ out. padded_at value) (omega arith) (λ out. padded value causal) (padded_refuses value h))
    (λ items. finds (json.List items))

object : (value : List ℕ → Read Json) → Causal value → Causal (object_at value)
unfolding object_at
object value causal = binds (sequence_at 125 (member_at value)) (λ members rest. Ok (json.Object members, rest))
    (sequence 125 (member_at value) (omega arith) (member value causal) (member_refuses value)) (λ members. finds (json.Object members))

word_tree : (w : List ℕ) (tree : Json) → AllByRecursion (λ b. 0 < b) w → Causal (word_at w tree)
word_tree w tree some = word w (λ rest. Ok (tree, rest)) some (finds tree)

flat : Causal flat_at
unfolding flat_at
flat = chooses (λ b. eqb b 34) (λ bytes. quoted_at [] bytes >>= λ x. Ok (json.Text x.0, x.1)) _
    (binds (quoted_at []) (λ t rest. Ok (json.Text t, rest)) (quoted []) (λ t. finds (json.Text t)))
    (chooses (λ b. eqb b 110) (word_at (codes "null") json.Null) _ (word_tree (codes "null") json.Null some_null)
    (chooses (λ b. eqb b 116) (word_at (codes "true") (json.Flag true)) _ (word_tree (codes "true") (json.Flag true) some_true)
    (chooses (λ b. eqb b 102) (word_at (codes "false") (json.Flag false)) number_at
    (word_tree (codes "false") (json.Flag false) some_false) number)))

from : (nested : List ℕ → Read Json) → Causal nested → Causal (value_from nested)
unfolding value_from
from nested causal = chooses (λ b. eqb b 91 || eqb b 123) nested flat_at causal flat

whole_refuses : (bytes : List ℕ) → first bytes ≡ 0 → whole_at bytes ≡ Err (length bytes)
unfolding whole_at digits_at
whole_refuses bytes e = rw e refl

number_refuses : (bytes : List ℕ) → first bytes ≡ 0 → number_at bytes ≡ Err (length bytes)
unfolding number_at parts_at
number_refuses bytes e =
    let positive : eqb (first bytes) 45 ≡ false = rw e refl in
    let unsigned : after_minus bytes ≡ bytes = cond-false (eqb (first bytes) 45) (drop 1 bytes) bytes positive in
    rw (unsigned, whole_refuses bytes e) refl

from_refuses : (nested : List ℕ → Read Json) → Refuses (value_from nested)
unfolding value_from flat_at
from_refuses nested bytes e = rw e (number_refuses bytes e)

refuses : (level : ℕ) → Refuses (value_at level)
unfolding value_at
refuses zero bytes e = from_refuses (λ rest. stop rest) bytes e
refuses (suc level) bytes e = from_refuses (nested_at (value_at level)) bytes e

two_tests : {A : Type 0} (a b : Bool) (x y z : A) → cond a x (cond b y z) ≡ cond (a || b) (cond a x y) z
two_tests true b x y z = refl
two_tests false b x y z = refl

nested : (value : List ℕ → Read Json) → Causal value → Refuses value → Causal (value_from (nested_at value))
unfolding value_from nested_at
nested value causal h =
    same_reader (λ bytes. cond (eqb (first bytes) 91) (list_at value (drop 1 bytes))
    (cond (eqb (first bytes) 123) (object_at value (drop 1 bytes)) (flat_at bytes))) (value_from (nested_at value))
    (λ bytes. two_tests (eqb (first bytes) 91) (eqb (first bytes) 123) _ _ _)
    (takes (λ b. eqb b 91) (λ b rest. list_at value rest)
    (λ bytes. cond (eqb (first bytes) 123) (object_at value (drop 1 bytes)) (flat_at bytes)) refl (λ b. list value causal h)
    (takes (λ b. eqb b 123) (λ b rest. object_at value rest) flat_at refl (λ b. object value causal) flat))

pub value : (level : ℕ) → Causal (value_at level)
unfolding value_at
value zero = from (λ rest. stop rest) stops
value (suc level) = nested (value_at level) (value level) (refuses level)

-- ---- all of the bytes

-- where a fault is, another text that goes on with the same byte has it too
pub record SameFault (bytes : List ℕ) (k : ℕ) : Type 0 where
  pub front : List ℕ
  pub rest : List ℕ
  pub parts : bytes ≡ front ++ rest
  pub left : length rest ≡ k
  pub again : (more : List ℕ) → first more ≡ first rest → 0 < length more → text_at (front ++ more) ≡ Err (length more)

abbrev whole_value : List ℕ → Read Json
whole_value bytes = padded_at (value_at 128) bytes

abbrev all_read : Json × List ℕ → Result Json ℕ
all_read x = cond (eqb (length x.1) 0) (Ok x.0) (stop x.1)

abbrev failed_at : ℕ → Result Json ℕ
failed_at k = Err k

ok_no : (x : Json) (k : ℕ) → done x ≡ failed_at k → ⊥
ok_no x k e = absurd cc

bound_err : (j k : ℕ) → failed_at j ≡ failed_at k → j ≡ k
bound_err j k e = cc

not_all : (x : Json × List ℕ) (k : ℕ) → all_read x ≡ Err k → length x.1 ≡ k
not_all x k e = elim (chosen (eqb (length x.1) 0) (Ok x.0) (stop x.1) (failed_at k) e) [
  | inl c ↦ absurd (ok_no x.0 k c.1)
  | inr c ↦ bound_err (length x.1) k c.1
]

fault_from : (bytes front rest : List ℕ) (found : Option Json) (k : ℕ) → bytes ≡ front ++ rest
    → ((other : List ℕ) → first other ≡ first rest → whole_value (front ++ other) ≡ outcome found other)
    → (whole_value bytes >>= all_read) ≡ Err k → SameFault bytes k
unfolding text_at
fault_from bytes front rest None k parts again e =
    let here : whole_value bytes ≡ Err (length rest) = ap whole_value parts ∙ again rest refl in
    record {
      front = front;
      rest = rest;
      parts = parts;
      left = bound_err (length rest) k (sym (ap (λ r. r >>= all_read) here) ∙ e);
      again = λ more same some. ap (λ r. r >>= all_read) (again more same);
    }
fault_from bytes front rest (Some x) k parts again e =
    let here : whole_value bytes ≡ Ok (x, rest) = ap whole_value parts ∙ again rest refl in
    record {
      front = front;
      rest = rest;
      parts = parts;
      left = not_all (x, rest) k (sym (ap (λ r. r >>= all_read) here) ∙ e);
      again = λ more same some.
          let behind_it : eqb (length more) 0 ≡ false = ne_eqb (length more) 0 (λ none. omega arith) in
          ap (λ r. r >>= all_read) (again more same) ∙ cond-false (eqb (length more) 0) (Ok x) (stop more) behind_it;
    }

pub same_fault : (bytes : List ℕ) (k : ℕ) → text_at bytes ≡ Err k → SameFault bytes k
unfolding text_at
same_fault bytes k e =
    let l = padded (value_at 128) (value 128) bytes in
    fault_from bytes l.front l.rest l.found k l.parts l.again e
