-- The text of a field without its escapes, byte by byte and character by character.
use Rattle.std.proofs.Common.{◌≡◌, ℕ, ◌≤◌, List, [], ◌∷◌, ◌++◌, refl, sym, ap, ◌∙◌, arith, inl, inr, append-nil}
use Rattle.std.specs.Prelude.{◌==◌, Bool, true, false, encode_utf8, encode_utf8_all}
use Rattle.std.proofs.lemmas.Bool.{cases_lt}
use Rattle.std.proofs.lemmas.Bool.Decides.{nat_tests}
use Rattle.std.proofs.lemmas.List.{append_assoc}
use Rattle.std.proofs.lemmas.Str.{encodes-append}
use Rattle.json_exact.proofs.Letters.{encode_1, encode_2, encode_3, encode_4}
use Rattle.vl_building.specs.Fields.{is_mark, field_name}
use Rattle.vl_building.specs.inner.Escapes.{waiting, stepped, waits_behind}

-- a mark is no `\`
mark_apart : (c : ℕ) → is_mark c ≡ true → (c == 92) ≡ false
mark_apart c is = grind (arith, nat_tests)

is_backslash : (c : ℕ) → (c == 92) ≡ true → c ≡ 92
is_backslash c is = grind (arith, nat_tests)

-- what the definition and the walk give at a byte
plain : (c : ℕ) (others : List ℕ) → (c == 92) ≡ false → field_name (c ∷ others) ≡ c ∷ field_name others
plain c others isnt = rw isnt refl

after_mark : (c : ℕ) (others : List ℕ) → is_mark c ≡ true → field_name (92 ∷ c ∷ others) ≡ field_name (c ∷ others)
after_mark c others mark = rw mark refl

after_other : (c : ℕ) (others : List ℕ) → is_mark c ≡ false → field_name (92 ∷ c ∷ others) ≡ 92 ∷ field_name (c ∷ others)
after_other c others mark = rw mark refl

at_mark : (w : Bool) (c : ℕ) (others : List ℕ) → is_mark c ≡ true → waits_behind w (c ∷ others) ≡ c ∷ waits_behind false others
at_mark w c others mark = rw mark refl

at_backslash : (w : Bool) (c : ℕ) (others : List ℕ) → is_mark c ≡ false → (c == 92) ≡ true
    → waits_behind w (c ∷ others) ≡ waiting w ++ waits_behind true others
at_backslash w c others mark back = rw (mark, back) refl

at_other : (w : Bool) (c : ℕ) (others : List ℕ) → is_mark c ≡ false → (c == 92) ≡ false
    → waits_behind w (c ∷ others) ≡ waiting w ++ c ∷ waits_behind false others
at_other w c others mark back = rw (mark, back) refl

-- one more byte
record Both (cs : List ℕ) : Type 0 where
  waits : waits_behind true cs ≡ field_name (92 ∷ cs)
  free : waits_behind false cs ≡ field_name cs

one_more : (c : ℕ) (others : List ℕ) → Both others → (m b : Bool) → is_mark c ≡ m → (c == 92) ≡ b → Both (c ∷ others)
one_more c others both true b mark back =
    let same : c ∷ waits_behind false others ≡ field_name (c ∷ others) =
    ap (λ t. c ∷ t) both.free ∙ sym (plain c others (mark_apart c mark)) in
    record {
      waits = at_mark true c others mark ∙ same ∙ sym (after_mark c others mark);
      free = at_mark false c others mark ∙ same;
    }
one_more c others both false true mark back =
    let same : waits_behind true others ≡ field_name (c ∷ others) =
    both.waits ∙ ap (λ d. field_name (d ∷ others)) (sym (is_backslash c back)) in
    record {
      waits = at_backslash true c others mark back ∙ ap (λ t. 92 ∷ t) same ∙ sym (after_other c others mark);
      free = at_backslash false c others mark back ∙ same;
    }
one_more c others both false false mark back =
    let same : c ∷ waits_behind false others ≡ field_name (c ∷ others) = ap (λ t. c ∷ t) both.free ∙ sym (plain c others back) in
    record {
      waits = at_other true c others mark back ∙ ap (λ t. 92 ∷ t) same ∙ sym (after_other c others mark);
      free = at_other false c others mark back ∙ same;
    }

both_are : (cs : List ℕ) → Both cs
both_are [] = record { waits = refl; free = refl }
both_are (c ∷ others) = one_more c others (both_are others) (is_mark c) (c == 92) refl refl

-- the walk gives the name
pub walked : (text : List ℕ) → waits_behind false text ≡ field_name text
walked text = (both_are text).free

-- ---- a character

-- a byte that is none of the four
high_mark : (b : ℕ) → 128 ≤ b → is_mark b ≡ false
high_mark b l = grind (arith, nat_tests)

high_back : (b : ℕ) → 128 ≤ b → (b == 92) ≡ false
high_back b l = grind (arith, nat_tests)

high : (w : Bool) (b : ℕ) (others : List ℕ) → 128 ≤ b → waits_behind w (b ∷ others) ≡ waiting w ++ b ∷ waits_behind false others
high w b others l = at_other w b others (high_mark b l) (high_back b l)

low : (w : Bool) (c : ℕ) (rest : List ℕ) → encode_utf8 c ≡ c ∷ [] → (m b : Bool) → is_mark c ≡ m → (c == 92) ≡ b
    → waits_behind w (encode_utf8 c ++ rest) ≡ stepped w c ++ waits_behind (c == 92) rest
low w c rest one true b mark back = rw (one, mark, mark_apart c mark) refl
low w c rest one false true mark back = rw (one, mark, back) refl
low w c rest one false false mark back = rw (one, mark, back) (sym (append_assoc (waiting w) (c ∷ []) (waits_behind false rest)))

two : (w : Bool) (a b : ℕ) (rest : List ℕ) → 128 ≤ a → 128 ≤ b → waits_behind w (a ∷ b ∷ rest) ≡ waiting w ++ a ∷ b ∷ waits_behind false rest
two w a b rest la lb = high w a (b ∷ rest) la ∙ ap (λ t. waiting w ++ a ∷ t) (high false b rest lb)

three : (w : Bool) (a b c : ℕ) (rest : List ℕ) → 128 ≤ a → 128 ≤ b → 128 ≤ c
    → waits_behind w (a ∷ b ∷ c ∷ rest) ≡ waiting w ++ a ∷ b ∷ c ∷ waits_behind false rest
three w a b c rest la lb lc = high w a (b ∷ c ∷ rest) la ∙ ap (λ t. waiting w ++ a ∷ t) (two false b c rest lb lc)

four : (w : Bool) (a b c d : ℕ) (rest : List ℕ) → 128 ≤ a → 128 ≤ b → 128 ≤ c → 128 ≤ d
    → waits_behind w (a ∷ b ∷ c ∷ d ∷ rest) ≡ waiting w ++ a ∷ b ∷ c ∷ d ∷ waits_behind false rest
four w a b c d rest la lb lc ld = high w a (b ∷ c ∷ d ∷ rest) la ∙ ap (λ t. waiting w ++ a ∷ t) (three false b c d rest lb lc ld)

stepped_high : (w : Bool) (c : ℕ) (rest : List ℕ) → 128 ≤ c
    → stepped w c ++ waits_behind (c == 92) rest ≡ waiting w ++ (encode_utf8 c ++ waits_behind false rest)
stepped_high w c rest l = rw (high_mark c l, high_back c l) (append_assoc (waiting w) (encode_utf8 c) (waits_behind false rest))

tall : (w : Bool) (c : ℕ) (rest bytes : List ℕ) → 128 ≤ c → encode_utf8 c ≡ bytes
    → waits_behind w (bytes ++ rest) ≡ waiting w ++ (bytes ++ waits_behind false rest)
    → waits_behind w (encode_utf8 c ++ rest) ≡ stepped w c ++ waits_behind (c == 92) rest
tall w c rest bytes l is given = ap (λ bs. waits_behind w (bs ++ rest)) is ∙ given
    ∙ ap (λ bs. waiting w ++ (bs ++ waits_behind false rest)) (sym is) ∙ sym (stepped_high w c rest l)

character : (w : Bool) (c : ℕ) (rest : List ℕ) → waits_behind w (encode_utf8 c ++ rest) ≡ stepped w c ++ waits_behind (c == 92) rest
character w c rest = elim (cases_lt c 128) [
  | inl h ↦ low w c rest (encode_1 c h) (is_mark c) (c == 92) refl refl
  | inr h ↦ elim (cases_lt c 2048) [
    | inl k ↦ tall w c rest _ h (encode_2 c h k) (two w _ _ rest (omega arith) (omega arith))
    | inr k ↦ elim (cases_lt c 65536) [
      | inl j ↦ tall w c rest _ h (encode_3 c k j) (three w _ _ _ rest (omega arith) (omega arith) (omega arith))
      | inr j ↦ tall w c rest _ h (encode_4 c j) (four w _ _ _ _ rest (omega arith) (omega arith) (omega arith) (omega arith))
    ]
  ]
]

-- the walk so far: what is written, with what the rest gives, is what all gives
abbrev pub Walked : List ℕ → Bool → List ℕ → Type 0
Walked out waits chars = (rest : List ℕ) → out ++ waits_behind waits rest ≡ waits_behind false (encode_utf8_all chars ++ rest)

one_character : (out chars : List ℕ) (w : Bool) (c : ℕ) → Walked out w chars → Walked (out ++ stepped w c) (c == 92) (chars ++ c ∷ [])
one_character out chars w c so_far rest =
    append_assoc out (stepped w c) (waits_behind (c == 92) rest)
    ∙ ap (λ t. out ++ t) (sym (character w c rest)) ∙ so_far (encode_utf8 c ++ rest)
    ∙ ap (waits_behind false) (sym (append_assoc (encode_utf8_all chars) (encode_utf8 c) rest)
    ∙ ap (λ t. t ++ rest) (ap (λ t. encode_utf8_all chars ++ t) (sym (append-nil (encode_utf8 c))) ∙ sym (encodes-append chars (c ∷ []))))

pub next_walked : (old new chars : List ℕ) (w b : Bool) (c : ℕ) → new ≡ old ++ stepped w c → b ≡ (c == 92) → Walked old w chars
    → Walked new b (chars ++ c ∷ [])
next_walked old new chars w b c written test so_far rest =
    ap (λ t. t ++ waits_behind b rest) written ∙ ap (λ d. (old ++ stepped w c) ++ waits_behind d rest) test
    ∙ one_character old chars w c so_far rest

pub all_characters : (out chars text : List ℕ) (w : Bool) → Walked out w chars → encode_utf8_all chars ≡ text
    → out ++ waiting w ≡ field_name text
all_characters out chars text w so_far is =
    so_far [] ∙ ap (waits_behind false) (append-nil (encode_utf8_all chars) ∙ is) ∙ walked text
