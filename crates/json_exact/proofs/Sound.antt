-- What is read is spelled so.
use Rattle.std.proofs.Common.{◌≡◌, ℕ, zero, suc, ◌<◌, ◌≤◌, true, false, cond, eqb, List, [], ◌∷◌, ◌++◌, length, drop, Ok, refl, sym, ap}
use Rattle.std.proofs.Common.{subst, ◌∙◌, append_assoc, arith, inl, inr, ◌||◌}
use Rattle.std.specs.Prelude.{codes, AllPairs}
use Rattle.std.specs.List.{AllByRecursion, list_any}
use Rattle.std.specs.Str.{bytes_eq}
use Rattle.std.proofs.lemmas.Bool.{eqb-true, cases_Bool, cond-true, cond-false}
use Rattle.std.proofs.lemmas.List.{append-nil, nil_from_length}
use Rattle.std.proofs.Math.Nat.{max-le}
use Rattle.fixed_num.specs.JsonNumber as numbers
use Rattle.fixed_num.specs.JsonNumber.{Parts, decimal_value}
use Rattle.json_exact.specs.declared.json.Json.{Json}
use Rattle.json_exact.specs.declared.json.Json.TheVariants as json
use Rattle.json_exact.specs.declared.json.Member.{Member}
use Rattle.json_exact.specs.Reading.{is_white, IsWhite, IsQuoted, Spells, SpellsPadded, SpellsItems, SpellsMember, SpellsMembers, null, yes}
use Rattle.json_exact.specs.Reading.{no, number, huge, text, list, object, padded, no_item, last_item, more_items, member, no_member}
use Rattle.json_exact.specs.Reading.{last_member, more_members, depth, Reads}
use Rattle.fixed_num.specs.Steps.{◌>>=◌}
use Rattle.fixed_num.specs.Front.{Read, first, stop, parts_at}
use Rattle.json_exact.specs.inner.Reader.{skip_white, padded_at, after_word, word_at, quoted_at, number_at, number_tree, run_at}
use Rattle.json_exact.specs.inner.Reader.{sequence_at, list_at, object_at, member_at, nested_at, flat_at, value_from, value_at, text_at}
use Rattle.json_exact.specs.inner.Reader.{names_of}
use Rattle.json_exact.proofs.Depth.{deepest, deepest_value, depth-List, depth-Object}
use Rattle.fixed_num.proofs.Steps.{bind_ok, chosen, guarded, ok_is, Takes, Sound, Sound-at, begins}
use Rattle.fixed_num.proofs.Numerals.{NumberIs, parts_sound}
use Rattle.fixed_num.proofs.RangeLemmas.{in_range_at_number, in_range_elsewhere, is_number_or_not}
use Rattle.json_exact.proofs.Quotes.{Quoted, quoted_sound}
use Rattle.json_exact.proofs.Runs.{IsElement, run_skips}
use Rattle.json_exact.proofs.Apart.{Differ, apart_pushed}
use Rattle.json_exact.proofs.Complete.{item_at, item-is, member-is}

-- ---- white space

pub white_sound : (bytes : List ℕ) → (before : List ℕ) × (bytes ≡ before ++ skip_white bytes) × IsWhite before
unfolding skip_white
white_sound [] = ([], refl, tt)
white_sound (b ∷ rest) = elim (cases_Bool (is_white b)) [
  | inl e ↦
      let r = white_sound rest in (
        b ∷ r.0,
        ap (λ (t : List ℕ). b ∷ t) r.1
            ∙ ap (λ (t : List ℕ). b ∷ (r.0 ++ t)) (sym (cond-true _ (skip_white rest) (b ∷ rest) e)),
        (e, r.2),
      )
  | inr e ↦ ([], sym (cond-false _ (skip_white rest) (b ∷ rest) e), tt)
]

pub padded_sound : {A : Type 0} (P Q : A → List ℕ → Type 0) (element : List ℕ → Read A) → Sound P element
    → ((x : A) (before word after : List ℕ) → IsWhite before → P x word → IsWhite after → Q x (before ++ word ++ after))
    → Sound Q (padded_at element)
padded_sound P Q element sound pads bytes x e =
    let b = bind_ok (element (skip_white bytes)) (λ y. Ok (y.0, skip_white y.1)) x e in
    let t = sound (skip_white bytes) b.0 b.1 in
    let front = white_sound bytes in
    let back = white_sound b.0.1 in
    let whole : bytes ≡ (front.0 ++ t.word ++ back.0) ++ skip_white b.0.1 =
    front.1 ∙ ap (λ (r : List ℕ). front.0 ++ r) (t.parts ∙ ap (λ (r : List ℕ). t.word ++ r) back.1) ∙ simp append_assoc in
    Sound-at Q bytes (b.0.0, skip_white b.0.1) x (ok_is (b.0.0, skip_white b.0.1) x b.2) (record {
      word = front.0 ++ t.word ++ back.0;
      parts = whole;
      is = pads b.0.0 front.0 t.word back.0 front.2 t.is back.2;
    })

-- ---- elements with commas between them

-- what stands before the closing byte
pub record Closes {A : Type 0} (Q : List A → List ℕ → Type 0) (Kept : List A → Type 0) (close : ℕ) (bytes : List ℕ)
    (x : List A × List ℕ) : Type 0 where
  pub inside : List ℕ
  pub parts : bytes ≡ inside ++ close ∷ x.1
  pub is : Q x.0 inside
  pub kept : Kept x.0

-- what holds of a run of elements
pub record Joins {A : Type 0} (P : A → List ℕ → Type 0) (Q : List A → List ℕ → Type 0) : Type 0 where
  pub none : (inside : List ℕ) → IsWhite inside → Q [] inside
  pub last : (x : A) (inside : List ℕ) → P x inside → Q (x ∷ []) inside
  pub more : (x y : A) (xs : List A) (front back : List ℕ) → P x front → Q (y ∷ xs) back → Q (x ∷ y ∷ xs) (front ++ 44 ∷ back)

-- what may come after the elements that are done, and what is kept as they come
pub record Elements {A : Type 0} (P : A → List ℕ → Type 0) (Kept : List A → Type 0) (element : List A → List ℕ → Read A) : Type 0 where
  pub sound : (out : List A) → Kept out → (bytes : List ℕ) (x : A × List ℕ) → element out bytes ≡ Ok x
      → Takes P bytes x × Kept (out ++ x.0 ∷ [])

-- what the elements after those that are done say
pub record After {A : Type 0} (Q : List A → List ℕ → Type 0) (Kept : List A → Type 0) (close : ℕ) (out : List A) (bytes : List ℕ)
    (x : List A × List ℕ) : Type 0 where
  pub xs : List A
  pub inside : List ℕ
  pub all : x.0 ≡ out ++ xs
  pub some : 0 < length xs
  pub parts : bytes ≡ inside ++ close ∷ x.1
  pub is : Q xs inside
  pub kept : Kept x.0

module _ {A : Type 0} (P : A → List ℕ → Type 0) (Q : List A → List ℕ → Type 0) (Kept : List A → Type 0) (joins : Joins P Q) where
  run_more : (x : A) (xs : List A) (front back : List ℕ) → P x front → 0 < length xs → Q xs back → Q (x ∷ xs) (front ++ 44 ∷ back)
  run_more x [] front back p some q = absurd (omega arith)
  run_more x (y ∷ xs) front back p some q = joins.more x y xs front back p q

  pub run_sound : (close : ℕ) (element : List A → List ℕ → Read A) → 0 < close → Elements P Kept element
      → (fuel : ℕ) (out : List A) (bytes : List ℕ) (x : List A × List ℕ) → Kept out → run_at close element fuel out bytes ≡ Ok x
      → After Q Kept close out bytes x
  unfolding run_at
  run_sound close element high are zero out bytes x kept e = absurd cc
  run_sound close element high are (suc fuel) out bytes x kept e =
      let then : A × List ℕ → Read (List A) =
      λ y. cond (eqb (first y.1) 44) (run_at close element fuel (out ++ y.0 ∷ []) (drop 1 y.1))
      (cond (eqb (first y.1) close) (Ok (out ++ y.0 ∷ [], drop 1 y.1)) (stop y.1)) in
      let b = bind_ok (element out bytes) then x e in
      let s = are.sound out kept bytes b.0 b.1 in
      let t = s.0 in
      elim (chosen (eqb (first b.0.1) 44) (run_at close element fuel (out ++ b.0.0 ∷ []) (drop 1 b.0.1))
      (cond (eqb (first b.0.1) close) (Ok (out ++ b.0.0 ∷ [], drop 1 b.0.1)) (stop b.0.1)) (Ok x) b.2) [
        | inl c ↦
            let k = run_sound close element high are fuel (out ++ b.0.0 ∷ []) (drop 1 b.0.1) x s.1 c.1 in
            let whole : bytes ≡ (t.word ++ 44 ∷ k.inside) ++ close ∷ x.1 =
            t.parts ∙ ap (λ (w : List ℕ). t.word ++ w) (begins b.0.1 44 (omega arith) (eqb-true _ _ c.0)
            ∙ ap (λ (w : List ℕ). 44 ∷ w) k.parts) ∙ sym (append_assoc t.word (44 ∷ k.inside) (close ∷ x.1)) in
            record {
              xs = b.0.0 ∷ k.xs;
              inside = t.word ++ 44 ∷ k.inside;
              all = k.all ∙ append_assoc out (b.0.0 ∷ []) k.xs;
              some = omega arith;
              parts = whole;
              is = run_more b.0.0 k.xs t.word k.inside t.is k.some k.is;
              kept = k.kept;
            }
        | inr c ↦
            let g = guarded (eqb (first b.0.1) close) (length b.0.1) (Ok (out ++ b.0.0 ∷ [], drop 1 b.0.1)) x c.1 in
            let whole : bytes ≡ t.word ++ close ∷ drop 1 b.0.1 =
            t.parts ∙ ap (λ (w : List ℕ). t.word ++ w) (begins b.0.1 close high (eqb-true _ _ g.0)) in
            subst (λ z. After Q Kept close out bytes z) (ok_is (out ++ b.0.0 ∷ [], drop 1 b.0.1) x g.1) (record {
              xs = b.0.0 ∷ [];
              inside = t.word;
              all = refl;
              some = omega arith;
              parts = whole;
              is = joins.last b.0.0 t.word t.is;
              kept = s.1;
            })
      ]

  no_fuel : (close : ℕ) (element : List A → List ℕ → Read A) (bytes : List ℕ) (x : List A × List ℕ)
      → run_at close element (length bytes) [] (skip_white bytes) ≡ Ok x → 0 < length bytes
  unfolding run_at skip_white
  no_fuel close element [] x e = absurd cc
  no_fuel close element (b ∷ bytes) x e = omega arith

  pub sequence_sound : (close : ℕ) (element : List A → List ℕ → Read A) → 0 < close → IsElement close element → Elements P Kept element
      → Kept [] → (bytes : List ℕ) (x : List A × List ℕ) → sequence_at close element bytes ≡ Ok x → Closes Q Kept close bytes x
  unfolding sequence_at
  sequence_sound close element high skips are start bytes x e =
      let w = white_sound bytes in
      elim (chosen (eqb (first (skip_white bytes)) close) (Ok ([], drop 1 (skip_white bytes)))
      (run_at close element (length bytes) [] (skip_white bytes)) (Ok x) e) [
        | inl c ↦
            let whole : bytes ≡ w.0 ++ close ∷ drop 1 (skip_white bytes) =
            w.1 ∙ ap (λ (t : List ℕ). w.0 ++ t) (begins (skip_white bytes) close high (eqb-true _ _ c.0)) in
            subst (λ z. Closes Q Kept close bytes z) (ok_is ([], drop 1 (skip_white bytes)) x c.1) (record {
              inside = w.0;
              parts = whole;
              is = joins.none w.0 w.2;
              kept = start;
            })
        | inr c ↦
            let some : 0 < length bytes = no_fuel close element bytes x c.1 in
            let k = run_sound close element high are (length bytes) [] bytes x start
            (sym (run_skips close element skips (length bytes) [] bytes some) ∙ c.1) in
            record { inside = k.inside; parts = k.parts; is = subst (λ (ys : List A). Q ys k.inside) (sym k.all) k.is; kept = k.kept }
      ]

-- ---- words

after_word_sound : (word bytes rest : List ℕ) → AllByRecursion (λ b. 0 < b) word → after_word word bytes ≡ Ok rest → bytes ≡ word ++ rest
unfolding after_word
after_word_sound [] bytes rest some e = ok_is bytes rest e
after_word_sound (b ∷ word) bytes rest some e =
    let g = guarded (eqb (first bytes) b) (length bytes) (after_word word (drop 1 bytes)) rest e in
    begins bytes b some.0 (eqb-true _ _ g.0) ∙ ap (λ (w : List ℕ). b ∷ w) (after_word_sound word (drop 1 bytes) rest some.1 g.1)

word_sound : (word : List ℕ) (tree : Json) → AllByRecursion (λ b. 0 < b) word → Sound (λ t w. (t ≡ tree) × (w ≡ word)) (word_at word tree)
word_sound word tree some bytes x e =
    let b = bind_ok (after_word word bytes) (λ rest. Ok (tree, rest)) x e in
    Sound-at (λ t w. (t ≡ tree) × (w ≡ word)) bytes (tree, b.0) x (ok_is (tree, b.0) x b.2)
    (record { word = word; parts = after_word_sound word bytes b.0 some b.1; is = (refl, refl) })

-- ---- values

-- the word spells the tree, in which no more than level lists and objects stand in one another
abbrev pub Value : ℕ → Json → List ℕ → Type 0
Value level tree word = Spells tree word × (depth tree ≤ level)

abbrev pub PaddedValue : ℕ → Json → List ℕ → Type 0
PaddedValue level tree word = SpellsPadded tree word × (depth tree ≤ level)

abbrev pub Items : ℕ → List Json → List ℕ → Type 0
Items level items inside = SpellsItems items inside × (deepest items ≤ level)

abbrev pub MemberValue : ℕ → Member → List ℕ → Type 0
MemberValue level m word = SpellsMember m word × (depth m.value ≤ level)

abbrev pub Members : ℕ → List Member → List ℕ → Type 0
Members level members inside = SpellsMembers members inside × (deepest_value members ≤ level)

pub item_joins : (level : ℕ) → Joins (PaddedValue level) (Items level)
item_joins level = record {
  none = λ inside w. (no_item inside w, omega arith);
  last = λ x inside p. (last_item x inside p.0, max-le p.1 (omega arith));
  more = λ x y xs front back p q. (more_items x y xs front back p.0 q.0, max-le p.1 q.1);
}

pub member_joins : (level : ℕ) → Joins (MemberValue level) (Members level)
member_joins level = record {
  none = λ inside w. (no_member inside w, omega arith);
  last = λ x inside p. (last_member x inside p.0, max-le p.1 (omega arith));
  more = λ x y xs front back p q. (more_members x y xs front back p.0 q.0, max-le p.1 q.1);
}

pub padded_value_sound : (level : ℕ) → Sound (Value level) (value_at level) → Sound (PaddedValue level) (padded_at (value_at level))
padded_value_sound level sound =
    padded_sound (Value level) (PaddedValue level) (value_at level) sound
    (λ x before word after wb p wa. (padded x before word after wb p.0 wa, p.1))

-- the white space on both sides of a name is kept as lists
pub record PaddedName (name word : List ℕ) : Type 0 where
  pub before : List ℕ
  pub quoted : List ℕ
  pub after : List ℕ
  pub whole : word ≡ before ++ quoted ++ after
  pub white_before : IsWhite before
  pub is : IsQuoted quoted name
  pub white_after : IsWhite after

abbrev pub NamedPadded : List (List ℕ) → List ℕ → List ℕ → Type 0
NamedPadded names name word = PaddedName name word × (list_any (bytes_eq name) names ≡ false)

pub member_sound : (level : ℕ) → Sound (Value level) (value_at level) → (out : List Member)
    → Sound (λ m word. MemberValue level m word × (list_any (bytes_eq m.name) (names_of out) ≡ false)) (member_at (value_at level) out)
unfolding member_at
member_sound level sound out bytes x e =
    let names = names_of out in
    let name_then : (List ℕ × List ℕ) → Read Member =
    λ name. cond (eqb (first name.1) 58)
    (padded_at (value_at level) (drop 1 name.1) >>= λ y. Ok (record { name = name.0; value = y.0 }, y.1)) (stop name.1) in
    let b = bind_ok (padded_at (quoted_at names) bytes) name_then x e in
    let t = padded_sound (Quoted names) (NamedPadded names) (quoted_at names) (quoted_sound names)
    (λ name before word after wb q wa. (
      record {
        before = before;
        quoted = word;
        after = after;
        whole = refl;
        white_before = wb;
        is = q.0;
        white_after = wa;
      },
      q.1,
    )) bytes b.0 b.1 in
    let g = guarded (eqb (first b.0.1) 58) (length b.0.1)
    (padded_at (value_at level) (drop 1 b.0.1) >>= λ y. Ok (record { name = b.0.0; value = y.0 }, y.1)) x b.2 in
    let v = bind_ok (padded_at (value_at level) (drop 1 b.0.1)) (λ y. Ok (record { name = b.0.0; value = y.0 }, y.1)) x g.1 in
    let k = padded_value_sound level sound (drop 1 b.0.1) v.0 v.1 in
    let m : Member = record { name = b.0.0; value = v.0.0 } in
    let front = t.is.0 in
    let rest : b.0.1 ≡ 58 ∷ (k.word ++ v.0.1) = begins b.0.1 58 (omega arith) (eqb-true _ _ g.0) ∙ ap (λ (w : List ℕ). 58 ∷ w) k.parts in
    let whole : bytes ≡ (front.before ++ front.quoted ++ front.after ++ 58 ∷ k.word) ++ v.0.1 =
    t.parts ∙ ap (λ (w : List ℕ). t.word ++ w) rest ∙ ap (λ (w : List ℕ). w ++ (58 ∷ (k.word ++ v.0.1))) front.whole
    ∙ sym (append_assoc (front.before ++ front.quoted ++ front.after) (58 ∷ k.word) v.0.1) in
    Sound-at (λ m word. MemberValue level m word × (list_any (bytes_eq m.name) names ≡ false)) bytes (m, v.0.1) x (ok_is (m, v.0.1) x v.2)
    (record {
      word = front.before ++ front.quoted ++ front.after ++ 58 ∷ k.word;
      parts = whole;
      is = (
        (member m front.before front.quoted front.after k.word front.white_before front.is front.white_after k.is.0, k.is.1),
        t.is.1,
      );
    })

abbrev pub Any : List Json → Type 0
Any items = Unit {0}

pub items_are : (level : ℕ) → Sound (Value level) (value_at level) → Elements (PaddedValue level) Any (item_at level)
items_are level sound = record { sound = λ out kept bytes x e. (padded_value_sound level sound bytes x e, tt) }

abbrev pub Apart : List Member → Type 0
Apart members = AllPairs Differ members

pub members_are : (level : ℕ) → Sound (Value level) (value_at level) → Elements (MemberValue level) Apart (member_at (value_at level))
members_are level sound = record {
  sound = λ out kept bytes x e.
      let t = member_sound level sound out bytes x e in
      (record { word = t.word; parts = t.parts; is = t.is.0 }, apart_pushed out x.0 kept t.is.1);
}

list_sound : (level : ℕ) → Sound (Value level) (value_at level) → (bytes : List ℕ) (x : Json × List ℕ) → first bytes ≡ 91
    → list_at (value_at level) (drop 1 bytes) ≡ Ok x → Takes (Value (suc level)) bytes x
unfolding list_at
list_sound level sound bytes x front e =
    let b = bind_ok (sequence_at 93 (item_at level) (drop 1 bytes)) (λ items. Ok (json.List items.0, items.1)) x e in
    let k = sequence_sound (PaddedValue level) (Items level) Any (item_joins level) 93 (item_at level) (omega arith) (item-is level)
    (items_are level sound) tt (drop 1 bytes) b.0 b.1 in
    let deep : depth (json.List b.0.0) ≤ suc level = rw (depth-List b.0.0) (omega (arith, k.is.1)) in
    Sound-at (Value (suc level)) bytes (json.List b.0.0, b.0.1) x (ok_is (json.List b.0.0, b.0.1) x b.2) (record {
      word = 91 ∷ k.inside ++ 93 ∷ [];
      parts = begins bytes 91 (omega arith) front ∙ ap (λ (w : List ℕ). 91 ∷ w) (k.parts ∙ sym (append_assoc k.inside (93 ∷ []) b.0.1));
      is = (list b.0.0 k.inside k.is.0, deep);
    })

pub none_apart : Apart []
none_apart = λ i j d lt within. absurd (omega arith)

object_sound : (level : ℕ) → Sound (Value level) (value_at level) → (bytes : List ℕ) (x : Json × List ℕ) → first bytes ≡ 123
    → object_at (value_at level) (drop 1 bytes) ≡ Ok x → Takes (Value (suc level)) bytes x
unfolding object_at
object_sound level sound bytes x front e =
    let b = bind_ok (sequence_at 125 (member_at (value_at level)) (drop 1 bytes)) (λ members. Ok (json.Object members.0, members.1)) x e in
    let k = sequence_sound (MemberValue level) (Members level) Apart (member_joins level) 125 (member_at (value_at level)) (omega arith)
    (member-is level) (members_are level sound) none_apart (drop 1 bytes) b.0 b.1 in
    let deep : depth (json.Object b.0.0) ≤ suc level = rw (depth-Object b.0.0) (omega (arith, k.is.1)) in
    Sound-at (Value (suc level)) bytes (json.Object b.0.0, b.0.1) x (ok_is (json.Object b.0.0, b.0.1) x b.2) (record {
      word = 123 ∷ k.inside ++ 125 ∷ [];
      parts = begins bytes 123 (omega arith) front ∙ ap (λ (w : List ℕ). 123 ∷ w) (k.parts ∙ sym (append_assoc k.inside (125 ∷ []) b.0.1));
      is = (object b.0.0 k.inside k.kept k.is.0, deep);
    })

-- what is read as a list or an object is one
abbrev NestedSound : ℕ → (List ℕ → Read Json) → Type 0
NestedSound level nested = (bytes : List ℕ) (x : Json × List ℕ) → (eqb (first bytes) 91 || eqb (first bytes) 123) ≡ true
    → nested bytes ≡ Ok x → Takes (Value level) bytes x

nested_sound : (level : ℕ) → Sound (Value level) (value_at level) → NestedSound (suc level) (nested_at (value_at level))
unfolding nested_at
nested_sound level sound bytes x front e =
    elim (chosen (eqb (first bytes) 91) (list_at (value_at level) (drop 1 bytes)) (object_at (value_at level) (drop 1 bytes)) (Ok x) e) [
      | inl c ↦ list_sound level sound bytes x (eqb-true _ _ c.0) c.1
      | inr c ↦ object_sound level sound bytes x (eqb-true (first bytes) 123 (rw c.0 at front)) c.1
    ]

word_value : (level : ℕ) (word : List ℕ) (tree : Json) → AllByRecursion (λ b. 0 < b) word → (bytes : List ℕ) (x : Json × List ℕ)
    → word_at word tree bytes ≡ Ok x → Value level tree word → Takes (Value level) bytes x
word_value level word tree some bytes x e v =
    let t = word_sound word tree some bytes x e in
    record {
      word = t.word;
      parts = t.parts;
      is = subst (λ (y : Json). Value level y t.word) (sym t.is.0) (subst (λ (w : List ℕ). Value level tree w) (sym t.is.1) v);
    }

flat_value : (level : ℕ) {A : Type 0} (P : A → List ℕ → Type 0) (make : A → Json) (element : List ℕ → Read A) → Sound P element
    → ((a : A) (word : List ℕ) → P a word → Value level (make a) word)
    → Sound (Value level) (λ bytes. element bytes >>= λ y. Ok (make y.0, y.1))
flat_value level P make element sound made bytes x e =
    let b = bind_ok (element bytes) (λ y. Ok (make y.0, y.1)) x e in
    let t = sound bytes b.0 b.1 in
    Sound-at (Value level) bytes (make b.0.0, b.0.1) x (ok_is (make b.0.0, b.0.1) x b.2) (record {
      word = t.word;
      parts = t.parts;
      is = made b.0.0 t.word t.is;
    })

pub some_null : AllByRecursion (λ b. 0 < b) (codes "null")
some_null = (omega arith, (omega arith, (omega arith, (omega arith, tt))))

pub some_true : AllByRecursion (λ b. 0 < b) (codes "true")
some_true = (omega arith, (omega arith, (omega arith, (omega arith, tt))))

pub some_false : AllByRecursion (λ b. 0 < b) (codes "false")
some_false = (omega arith, (omega arith, (omega arith, (omega arith, (omega arith, tt)))))

pub number_value : (level : ℕ) (p : Parts) (word : List ℕ) → numbers.Spells word p → Value level (number_tree (decimal_value p)) word
number_value level p word s = elim (is_number_or_not (decimal_value p)) [
  | inl k ↦ rw (in_range_at_number (decimal_value p) k) (number (decimal_value p) word (p, s, refl) k, omega arith)
  | inr none ↦ rw (in_range_elsewhere (decimal_value p) none) (huge (decimal_value p) word (p, s, refl) none, omega arith)
]

flat_sound : (level : ℕ) → Sound (Value level) flat_at
unfolding flat_at number_at
flat_sound level bytes x e =
    elim (chosen (eqb (first bytes) 34) (quoted_at [] bytes >>= λ y. Ok (json.Text y.0, y.1)) _ (Ok x) e) [
      | inl d ↦ flat_value level (Quoted []) json.Text (quoted_at []) (quoted_sound [])
          (λ t word q. (text t word q.0, omega arith)) bytes x d.1
      | inr d ↦ elim (chosen (eqb (first bytes) 110) (word_at (codes "null") json.Null bytes) _ (Ok x) d.1) [
        | inl w ↦ word_value level (codes "null") json.Null some_null bytes x w.1 (null, omega arith)
        | inr w ↦ elim (chosen (eqb (first bytes) 116) (word_at (codes "true") (json.Flag true) bytes) _ (Ok x) w.1) [
          | inl v ↦ word_value level (codes "true") (json.Flag true) some_true bytes x v.1 (yes, omega arith)
          | inr v ↦ elim (chosen (eqb (first bytes) 102) (word_at (codes "false") (json.Flag false) bytes) _ (Ok x) v.1) [
            | inl u ↦ word_value level (codes "false") (json.Flag false) some_false bytes x u.1 (no, omega arith)
            | inr u ↦ flat_value level NumberIs (λ p. number_tree (decimal_value p)) parts_at parts_sound (number_value level) bytes x u.1
          ]
        ]
      ]
    ]

value_from_sound : (level : ℕ) (nested : List ℕ → Read Json) → NestedSound level nested → Sound (Value level) (value_from nested)
unfolding value_from
value_from_sound level nested sound bytes x e =
    elim (chosen (eqb (first bytes) 91 || eqb (first bytes) 123) (nested bytes) (flat_at bytes) (Ok x) e) [
      | inl c ↦ sound bytes x c.0 c.1
      | inr c ↦ flat_sound level bytes x c.1
    ]

pub value_sound : (level : ℕ) → Sound (Value level) (value_at level)
unfolding value_at
value_sound zero bytes x e = value_from_sound 0 (λ rest. stop rest) (λ bytes x front e. absurd cc) bytes x e
value_sound (suc level) bytes x e =
    value_from_sound (suc level) (nested_at (value_at level)) (nested_sound level (value_sound level)) bytes x e

-- ---- all of the bytes

pub text_sound : (bytes : List ℕ) (tree : Json) → text_at bytes ≡ Ok tree → Reads bytes tree
unfolding text_at
text_sound bytes tree e =
    let b = bind_ok (padded_at (value_at 128) bytes) (λ x. cond (eqb (length x.1) 0) (Ok x.0) (stop x.1)) tree e in
    let g = guarded (eqb (length b.0.1) 0) (length b.0.1) (Ok b.0.0) tree b.2 in
    let t = padded_value_sound 128 (value_sound 128) bytes b.0 b.1 in
    let nothing : b.0.1 ≡ [] = nil_from_length b.0.1 (eqb-true _ _ g.0) in
    let whole : bytes ≡ t.word = t.parts ∙ ap (λ (r : List ℕ). t.word ++ r) nothing ∙ append-nil t.word in
    subst (λ (y : Json). Reads bytes y) (ok_is b.0.0 tree g.1) (subst (λ (w : List ℕ). Reads w b.0.0) (sym whole) t.is)
