-- A reader looks no further than the first byte that is left: what it answers depends on nothing behind it.
use Rattle.std.proofs.Common.{◌≡◌, ℕ, ◌+◌, ◌-◌, ◌*◌, ◌<◌, Bool, true, false, cond, eqb, leb, ltb, not, List, [], ◌∷◌, ◌++◌, length, drop}
use Rattle.std.proofs.Common.{Option, Some, None, Result, Ok, Err, refl, sym, ap, ◌∙◌, append_assoc, arith, inl, inr, ◌||◌, ◌&&◌}
use Rattle.std.specs.Prelude.{unwrap_or}
use Rattle.std.specs.List.{AllByRecursion}
use Rattle.std.specs.Char.{is_ascii_hexdigit}
use Rattle.std.proofs.lemmas.Bool.{cases_Bool, cond-true, cond-false, ne_eqb, and_left, lt-leb}
use Rattle.std.proofs.lemmas.Bool.Decides.{nat_tests}
use Rattle.json_exact.specs.Reading.{short_escape, hex_value, of_pair}
use Rattle.fixed_num.specs.Steps.{◌>>=◌}
use Rattle.fixed_num.specs.Front.{Read, first, stop}
use Rattle.json_exact.specs.inner.Reader.{after_word, hex_at, hex_pair_at, low_at, after_high_at, long_at, short_escape_at, escape_at}
use Rattle.json_exact.specs.inner.Reader.{tail_at, three_at, four_at, plain_at, char_at}

-- what was found, or a fault, before the bytes that are left
abbrev pub outcome : {A : Type 0} → Option A → List ℕ → Read A
outcome (Some x) bytes = Ok (x, bytes)
outcome None bytes = Err (length bytes)

-- what stands before the first byte that is left decides, with that byte
pub record Looks {A : Type 0} (element : List ℕ → Read A) (bytes : List ℕ) : Type 0 where
  pub front : List ℕ
  pub rest : List ℕ
  pub found : Option A
  pub parts : bytes ≡ front ++ rest
  pub again : (other : List ℕ) → first other ≡ first rest → element (front ++ other) ≡ outcome found other

abbrev pub Causal : {A : Type 0} → (List ℕ → Read A) → Type 0
Causal element = (bytes : List ℕ) → Looks element bytes

pub same_first : (front a b : List ℕ) → first a ≡ first b → first (front ++ a) ≡ first (front ++ b)
same_first [] a b e = e
same_first (x ∷ front) a b e = refl

pub stops : {A : Type 0} → Causal {A = A} (λ bytes. stop bytes)
stops bytes = record { front = []; rest = bytes; found = None; parts = refl; again = λ other e. refl }

pub finds : {A : Type 0} (x : A) → Causal (λ bytes. Ok (x, bytes))
finds x bytes = record { front = []; rest = bytes; found = Some x; parts = refl; again = λ other e. refl }

-- one reader and then another
bound : {A B : Type 0} (element : List ℕ → Read A) (next : A → List ℕ → Read B) → ((x : A) → Causal (next x))
    → (bytes front rest : List ℕ) (found : Option A) → bytes ≡ front ++ rest
    → ((other : List ℕ) → first other ≡ first rest → element (front ++ other) ≡ outcome found other)
    → Looks (λ bytes. element bytes >>= λ x. next x.0 x.1) bytes
bound element next causal bytes front rest None parts again =
    record { front = front; rest = rest; found = None; parts = parts; again = λ other e. ap (λ r. r >>= λ x. next x.0 x.1) (again other e) }
bound element next causal bytes front rest (Some x) parts again =
    let l = causal x rest in
    record {
      front = front ++ l.front;
      rest = l.rest;
      found = l.found;
      parts = parts ∙ ap (λ (t : List ℕ). front ++ t) l.parts ∙ sym (append_assoc front l.front l.rest);
      again = λ other e.
          let same : first (l.front ++ other) ≡ first rest = same_first l.front other l.rest e ∙ ap first (sym l.parts) in
          ap (λ (t : List ℕ). element t >>= λ x. next x.0 x.1) (append_assoc front l.front other)
          ∙ ap (λ r. r >>= λ x. next x.0 x.1) (again (l.front ++ other) same) ∙ l.again other e;
    }

pub binds : {A B : Type 0} (element : List ℕ → Read A) (next : A → List ℕ → Read B) → Causal element → ((x : A) → Causal (next x))
    → Causal (λ bytes. element bytes >>= λ x. next x.0 x.1)
binds element next causal each bytes =
    let l = causal bytes in
    bound element next each bytes l.front l.rest l.found l.parts l.again

-- one of two readers, by the first byte
pub chooses : {A : Type 0} (test : ℕ → Bool) (then otherwise : List ℕ → Read A) → Causal then → Causal otherwise
    → Causal (λ bytes. cond (test (first bytes)) (then bytes) (otherwise bytes))
chooses test then otherwise causal other_causal bytes = elim (cases_Bool (test (first bytes))) [
  | inl e ↦
      let l = causal bytes in
      record {
        front = l.front;
        rest = l.rest;
        found = l.found;
        parts = l.parts;
        again = λ other same.
            let here : test (first (l.front ++ other)) ≡ true =
            ap test (same_first l.front other l.rest same ∙ ap first (sym l.parts)) ∙ e in
            cond-true _ (then (l.front ++ other)) (otherwise (l.front ++ other)) here ∙ l.again other same;
      }
  | inr e ↦
      let l = other_causal bytes in
      record {
        front = l.front;
        rest = l.rest;
        found = l.found;
        parts = l.parts;
        again = λ other same.
            let here : test (first (l.front ++ other)) ≡ false =
            ap test (same_first l.front other l.rest same ∙ ap first (sym l.parts)) ∙ e in
            cond-false _ (then (l.front ++ other)) (otherwise (l.front ++ other)) here ∙ l.again other same;
      }
]

-- the same, where the first reader goes on behind that byte
pub takes : {A : Type 0} (test : ℕ → Bool) (then : ℕ → List ℕ → Read A) (otherwise : List ℕ → Read A) → test 0 ≡ false
    → ((b : ℕ) → Causal (then b)) → Causal otherwise
    → Causal (λ bytes. cond (test (first bytes)) (then (first bytes) (drop 1 bytes)) (otherwise bytes))
takes test then otherwise none causal other_causal [] =
    let l = other_causal [] in
    record {
      front = l.front;
      rest = l.rest;
      found = l.found;
      parts = l.parts;
      again = λ other same.
          let here : test (first (l.front ++ other)) ≡ false =
          ap test (same_first l.front other l.rest same ∙ ap first (sym l.parts)) ∙ none in
          cond-false _ (then (first (l.front ++ other)) (drop 1 (l.front ++ other))) (otherwise (l.front ++ other)) here
          ∙ l.again other same;
    }
takes test then otherwise none causal other_causal (b ∷ bytes) = elim (cases_Bool (test b)) [
  | inl e ↦
      let l = causal b bytes in
      record {
        front = b ∷ l.front;
        rest = l.rest;
        found = l.found;
        parts = ap (λ (t : List ℕ). b ∷ t) l.parts;
        again = λ other same.
            cond-true _ (then b (l.front ++ other)) (otherwise (b ∷ (l.front ++ other))) e ∙ l.again other same;
      }
  | inr e ↦
      let l = other_causal (b ∷ bytes) in
      record {
        front = l.front;
        rest = l.rest;
        found = l.found;
        parts = l.parts;
        again = λ other same.
            let here : test (first (l.front ++ other)) ≡ false =
            ap test (same_first l.front other l.rest same ∙ ap first (sym l.parts)) ∙ e in
            cond-false _ (then (first (l.front ++ other)) (drop 1 (l.front ++ other))) (otherwise (l.front ++ other)) here
            ∙ l.again other same;
      }
]

-- ---- characters

hex : (low high : ℕ) → Causal (hex_at low high)
unfolding hex_at
hex low high = takes (λ b. is_ascii_hexdigit b && leb low (hex_value b) && leb (hex_value b) high) (λ b rest. Ok (hex_value b, rest))
    (λ bytes. stop bytes) refl (λ b. finds (hex_value b)) stops

hex_pair : (n : ℕ) → Causal (hex_pair_at n)
unfolding hex_pair_at
hex_pair n = binds (hex_at 0 15) (λ c rest. hex_at 0 15 rest >>= λ d. Ok ((n * 16 + c) * 16 + d.0, d.1)) (hex 0 15)
    (λ c. binds (hex_at 0 15) (λ d rest. Ok ((n * 16 + c) * 16 + d, rest)) (hex 0 15) (λ d. finds ((n * 16 + c) * 16 + d)))

pub low : Causal low_at
unfolding low_at
low = binds (hex_at 13 13) (λ a rest. hex_at 12 15 rest >>= λ b. hex_pair_at (a * 16 + b.0) b.1) (hex 13 13)
    (λ a. binds (hex_at 12 15) (λ b rest. hex_pair_at (a * 16 + b) rest) (hex 12 15) (λ b. hex_pair (a * 16 + b)))

-- two readers that give the same
pub same_reader : {A : Type 0} (f g : List ℕ → Read A) → ((bytes : List ℕ) → f bytes ≡ g bytes) → Causal f → Causal g
same_reader f g same causal bytes =
    let l = causal bytes in
    record {
      front = l.front;
      rest = l.rest;
      found = l.found;
      parts = l.parts;
      again = λ other e. sym (same (l.front ++ other))
          ∙ l.again other e;
    }

bind_cond : {A B : Type 0} (b : Bool) (x y : Result A ℕ) (f : A → Result B ℕ) → cond b (x >>= f) (y >>= f) ≡ (cond b x y >>= f)
bind_cond true x y f = refl
bind_cond false x y f = refl

-- a word gives nothing but the bytes after it
abbrev pub word_then : {A : Type 0} → List ℕ → (List ℕ → Read A) → List ℕ → Read A
word_then word next bytes = after_word word bytes >>= next

zero_no : (b : ℕ) → 0 < b → eqb 0 b ≡ false
zero_no b some = ne_eqb 0 b (λ e. omega arith)

pub word : {A : Type 0} (w : List ℕ) (next : List ℕ → Read A) → AllByRecursion (λ b. 0 < b) w → Causal next → Causal (word_then w next)
unfolding after_word
word [] next some causal = causal
word (b ∷ w) next some causal =
    same_reader (λ bytes. cond (eqb (first bytes) b) (word_then w next (drop 1 bytes)) (stop bytes)) (word_then (b ∷ w) next)
    (λ bytes. bind_cond (eqb (first bytes) b) (after_word w (drop 1 bytes)) (stop bytes) next)
    (takes (λ c. eqb c b) (λ c rest. word_then w next rest) (λ bytes. stop bytes) (zero_no b some.0) (λ c. word w next some.1 causal) stops)

after_high : (high : ℕ) → Causal (after_high_at high)
unfolding after_high_at
after_high high = word (92 ∷ 117 ∷ []) (λ rest. low_at rest >>= λ low. Ok (of_pair high low.0, low.1)) (omega arith, (omega arith, tt))
    (binds low_at (λ n rest. Ok (of_pair high n, rest)) low (λ n. finds (of_pair high n)))

when : {A : Type 0} (b : Bool) (then otherwise : List ℕ → Read A) → Causal then → Causal otherwise
    → Causal (λ bytes. cond b (then bytes) (otherwise bytes))
when true then otherwise c d = c
when false then otherwise c d = d

long : Causal long_at
unfolding long_at
long =
    let last : ℕ → List ℕ → Read ℕ = λ n rest. cond (leb 0xD800 n && ltb n 0xDC00) (after_high_at n rest) (Ok (n, rest)) in
    let last_is : (n : ℕ) → Causal (last n) =
    λ n. when (leb 0xD800 n && ltb n 0xDC00) (after_high_at n) (λ rest. Ok (n, rest)) (after_high n) (finds n) in
    binds (hex_at 0 15) (λ a rest. hex_at 0 (cond (eqb a 13) 11 15) rest >>= λ b. hex_pair_at (a * 16 + b.0) b.1 >>= λ n. last n.0
    n.1) (hex 0 15)
    (λ a. binds (hex_at 0 (cond (eqb a 13) 11 15)) (λ b rest. hex_pair_at (a * 16 + b) rest >>= λ n. last n.0 n.1)
    (hex 0 (cond (eqb a 13) 11 15))
    (λ b. binds (hex_pair_at (a * 16 + b)) last (hex_pair (a * 16 + b)) last_is))

is_short : Option ℕ → Bool
is_short None = false
is_short (Some c) = true

short_is : (o : Option ℕ) (bytes : List ℕ) → cond (is_short o) (Ok (unwrap_or o 0, drop 1 bytes)) (stop bytes) ≡ short_escape_at o bytes
unfolding is_short
short_is None bytes = refl
short_is (Some c) bytes = refl

short : Causal (λ bytes. short_escape_at (short_escape (first bytes)) bytes)
unfolding is_short
short = same_reader (λ bytes. cond (is_short (short_escape (first bytes))) (Ok (unwrap_or (short_escape (first bytes)) 0, drop 1 bytes))
    (stop bytes)) (λ bytes. short_escape_at (short_escape (first bytes)) bytes) (λ bytes. short_is (short_escape (first bytes)) bytes)
    (takes (λ b. is_short (short_escape b)) (λ b rest. Ok (unwrap_or (short_escape b) 0, rest)) (λ bytes. stop bytes) refl
    (λ b. finds (unwrap_or (short_escape b) 0)) stops)

escape : Causal escape_at
unfolding escape_at
escape = takes (λ b. eqb b 117) (λ b rest. long_at rest) (λ bytes. short_escape_at (short_escape (first bytes)) bytes) refl
    (λ b. long) short

low_no : (least most : ℕ) → 0 < least → (leb least 0 && leb 0 most) ≡ false
low_no least most some = and_left _ _ (lt-leb least 0 some)

tail : (least most n : ℕ) → 0 < least → Causal (tail_at least most n)
unfolding tail_at
tail least most n some = takes (λ b. leb least b && leb b most) (λ b rest. Ok (n * 64 + (b - 128), rest)) (λ bytes. stop bytes)
    (low_no least most some) (λ b. finds (n * 64 + (b - 128))) stops

cond_some : (b : Bool) (n m : ℕ) → 0 < n → 0 < m → 0 < cond b n m
cond_some true n m h k = h
cond_some false n m h k = k

three : (b : ℕ) → Causal (three_at b)
unfolding three_at
three b = binds (tail_at (cond (eqb b 224) 160 128) (cond (eqb b 237) 159 191) (b - 224)) (λ x rest. tail_at 128 191 x rest)
    (tail (cond (eqb b 224) 160 128) (cond (eqb b 237) 159 191) (b - 224) (cond_some (eqb b 224) 160 128 (omega arith) (omega arith)))
    (λ x. tail 128 191 x (omega arith))

four : (b : ℕ) → Causal (four_at b)
unfolding four_at
four b = binds (tail_at (cond (eqb b 240) 144 128) (cond (eqb b 244) 143 191) (b - 240))
    (λ x rest. tail_at 128 191 x rest >>= λ y. tail_at 128 191 y.0 y.1)
    (tail (cond (eqb b 240) 144 128) (cond (eqb b 244) 143 191) (b - 240) (cond_some (eqb b 240) 144 128 (omega arith) (omega arith)))
    (λ x. binds (tail_at 128 191 x) (λ y rest. tail_at 128 191 y rest) (tail 128 191 x (omega arith)) (λ y. tail 128 191 y (omega arith)))

-- the readers behind the first byte of a character, from the longest
plain_4 : Causal (λ bytes. cond (leb 240 (first bytes) && leb (first bytes) 244) (four_at (first bytes) (drop 1 bytes)) (stop bytes))
plain_4 = takes (λ b. leb 240 b && leb b 244) four_at (λ bytes. stop bytes) refl four stops

plain_3 : Causal (λ bytes. cond (leb 224 (first bytes) && leb (first bytes) 239) (three_at (first bytes) (drop 1 bytes))
    (cond (leb 240 (first bytes) && leb (first bytes) 244) (four_at (first bytes) (drop 1 bytes)) (stop bytes)))
plain_3 = takes (λ b. leb 224 b && leb b 239) three_at
    (λ bytes. cond (leb 240 (first bytes) && leb (first bytes) 244) (four_at (first bytes) (drop 1 bytes)) (stop bytes)) refl three plain_4

abbrev from_two : List ℕ → Read ℕ
from_two bytes = cond (leb 194 (first bytes) && leb (first bytes) 223) (tail_at 128 191 (first bytes - 192) (drop 1 bytes))
    (cond (leb 224 (first bytes) && leb (first bytes) 239) (three_at (first bytes) (drop 1 bytes))
    (cond (leb 240 (first bytes) && leb (first bytes) 244) (four_at (first bytes) (drop 1 bytes)) (stop bytes)))

plain_2 : Causal from_two
plain_2 = takes (λ b. leb 194 b && leb b 223) (λ b rest. tail_at 128 191 (b - 192) rest)
    (λ bytes. cond (leb 224 (first bytes) && leb (first bytes) 239) (three_at (first bytes) (drop 1 bytes))
    (cond (leb 240 (first bytes) && leb (first bytes) 244) (four_at (first bytes) (drop 1 bytes)) (stop bytes))) refl
    (λ b. tail 128 191 (b - 192) (omega arith)) plain_3

-- the first byte of ASCII that stands for itself, with the one test that a byte is there
one_byte : (b : ℕ) (x y : Read ℕ) (bytes : List ℕ)
    → cond (leb 32 b && (not (eqb b 34) && ltb b 128)) x (cond (ltb b 32 || eqb b 34) (stop bytes) y)
    ≡ cond (ltb b 32 || eqb b 34) (stop bytes) (cond (ltb b 128) x y)
one_byte b x y bytes = elim (cases_Bool (ltb b 32 || eqb b 34)) [
  | inl e ↦
      let otherwise : (leb 32 b && (not (eqb b 34) && ltb b 128)) ≡ false = grind (arith, nat_tests) in
      rw (otherwise, e) refl
  | inr e ↦ elim (cases_Bool (ltb b 128)) [
    | inl f ↦
        let then : (leb 32 b && (not (eqb b 34) && ltb b 128)) ≡ true = grind (arith, nat_tests) in
        rw (then, e, f) refl
    | inr f ↦
        let otherwise : (leb 32 b && (not (eqb b 34) && ltb b 128)) ≡ false = grind (arith, nat_tests) in
        rw (otherwise, e, f) refl
  ]
]

plain : Causal (λ bytes. plain_at (first bytes) bytes)
unfolding plain_at
plain = same_reader (λ bytes. cond (leb 32 (first bytes) && (not (eqb (first bytes) 34) && ltb (first bytes) 128))
    (Ok (first bytes, drop 1 bytes)) (cond (ltb (first bytes) 32 || eqb (first bytes) 34) (stop bytes) (from_two bytes)))
    (λ bytes. plain_at (first bytes) bytes) (λ bytes. one_byte (first bytes) (Ok (first bytes, drop 1 bytes)) (from_two bytes) bytes)
    (takes (λ b. leb 32 b && (not (eqb b 34) && ltb b 128)) (λ b rest. Ok (b, rest))
    (λ bytes. cond (ltb (first bytes) 32 || eqb (first bytes) 34) (stop bytes) (from_two bytes)) refl (λ b. finds b)
    (chooses (λ b. ltb b 32 || eqb b 34) (λ bytes. stop bytes) from_two stops plain_2))

pub char : Causal char_at
unfolding char_at
char = takes (λ b. eqb b 92) (λ b rest. escape_at rest) (λ bytes. plain_at (first bytes) bytes) refl (λ b. escape) plain
