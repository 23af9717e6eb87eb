-- The records that a reader has left, as it reads one.
use Rattle.std.proofs.Common.{◌≡◌, ℕ, zero, suc, ◌+◌, ◌<◌, ◌≤◌, ◌⊎◌, inl, inr, Bool, true, false, ◌&&◌, Option, Some, None, IsSome, List}
use Rattle.std.proofs.Common.{[], ◌∷◌, ◌++◌, length, Bor, refl, sym, ap, subst, ◌∙◌, arith, add-one, if◌then◌else◌}
use Rattle.std.specs.List.{list_all}
use Rattle.std.specs.Str.{is_utf8}
use Rattle.std.proofs.lemmas.Str.{is_utf8-from_IsUtf8, IsUtf8-from_is_utf8}
use Rattle.std.proofs.lemmas.Bool.{cases_Bool}
use Rattle.csv.specs.Machine.{Read, next_record, ends_at_end, is_end, step, fields_after, field_after}
use Rattle.csv.specs.Records.{AllText}
use Rattle.csv.specs.Reading.{Reached, ReadRecord, ReadsNext, NextIs, TookRecord, ExplainsRead, records_from, records_next, default_config}
use Rattle.csv.specs.Reading.{pending_of, took_first, is_flexible}
use Rattle.csv.specs.declared.parser.Config.{Config}
use Rattle.csv.specs.declared.parser.State.{State}
use Rattle.csv.specs.declared.parser.State.TheVariants as st
use Rattle.csv.proofs.ReadFacts.{rows-more, rows-end}
use Rattle.data_rows.specs.inner.Records.{BytesReader, bytes_left, records_in, left_of, IsReading, Found, IsNoText, cause_of}
use Rattle.csv.specs.declared.error.ErrorKind.{ErrorKind}
use Rattle.csv.specs.declared.error.ErrorKind.TheVariants as kind
use Rattle.data_rows.specs.declared.records.RecordError.TheVariants.{NoText}

either : (b : Bool) (q r : Read) (o : Option Read) → (if b then Some q else o) ≡ Some r → (q ≡ r) ⊎ (o ≡ Some r)
either true q r o e = inl cc
either false q r o e = inr e

not_none : {A B : Type 0} (x : A) → None ≡ Some x → B
not_none x e = absurd cc

-- at the end of the bytes a record leaves none
at_end : (cfg : Config) (s : State) (fields : List (List ℕ)) (field : List ℕ) (r : Read)
    → next_record cfg s fields field [] ≡ Some r → (r.1 ≡ st.StartRecord) × (r.2 ≡ [])
unfolding next_record
at_end cfg s fields field r e = elim (either (ends_at_end s) (fields ++ (field ∷ []), st.StartRecord, []) r None e) [
  | inl q ↦ (ap (λ (x : Read). x.1) (sym q), ap (λ (x : Read). x.2) (sym q))
  | inr q ↦ not_none r q
]

-- a record leaves no more bytes than there were
within : (cfg : Config) (s : State) (fields : List (List ℕ)) (field : List ℕ) (xs : List ℕ) (r : Read)
    → next_record cfg s fields field xs ≡ Some r → length r.2 ≤ length xs
unfolding next_record
within cfg s fields field [] r e = let l = ap (λ (ys : List ℕ). length ys) (at_end cfg s fields field r e).1 in omega arith
within cfg s fields field (c ∷ rest) r e =
    elim (either (is_end (step cfg s c).1) (fields_after (step cfg s c).1 fields field, (step cfg s c).0, rest) r _ e) [
      | inl q ↦ let l : length rest ≡ length r.2 = ap (λ (x : Read). length x.2) q in omega arith
      | inr q ↦ let l = within cfg (step cfg s c).0 (fields_after (step cfg s c).1 fields field) (field_after (step cfg s c).1 c field) rest r q in omega arith
    ]

-- and fewer, where there were any
fewer : (cfg : Config) (s : State) (fields : List (List ℕ)) (field : List ℕ) (c : ℕ) (rest : List ℕ) (r : Read)
    → next_record cfg s fields field (c ∷ rest) ≡ Some r → length r.2 ≤ length rest
unfolding next_record
fewer cfg s fields field c rest r e =
    elim (either (is_end (step cfg s c).1) (fields_after (step cfg s c).1 fields field, (step cfg s c).0, rest) r _ e) [
      | inl q ↦ let l : length rest ≡ length r.2 = ap (λ (x : Read). length x.2) q in omega arith
      | inr q ↦ within cfg (step cfg s c).0 (fields_after (step cfg s c).1 fields field) (field_after (step cfg s c).1 c field) rest r q
    ]

none_left : (cfg : Config) (n : ℕ) → records_from cfg n st.StartRecord [] ≡ []
unfolding records_from next_record
none_left cfg zero = refl
none_left cfg (suc n) = refl

abbrev Enough : Config → ℕ → ℕ → Type 0
Enough cfg n m = (t : State) (ys : List ℕ) → length ys < n → length ys < m → records_from cfg n t ys ≡ records_from cfg m t ys

-- what follows a record at the end of the bytes
after_end : (cfg : Config) (n m : ℕ) (s : State) (p : Read) → next_record cfg s [] [] [] ≡ Some p → records_from cfg n p.1 p.2 ≡ records_from cfg m p.1 p.2
after_end cfg n m s p e =
    let (state, none) = at_end cfg s [] [] p e in
    ap (λ t. records_from cfg n t p.2) state ∙ ap (records_from cfg n st.StartRecord) none ∙ none_left cfg n
    ∙ sym (ap (λ t. records_from cfg m t p.2) state ∙ ap (records_from cfg m st.StartRecord) none ∙ none_left cfg m)

goes_on : (cfg : Config) (n m : ℕ) (s : State) (xs : List ℕ) (p : Read) → Enough cfg n m
    → length xs < suc n → length xs < suc m → next_record cfg s [] [] xs ≡ Some p
    → records_from cfg n p.1 p.2 ≡ records_from cfg m p.1 p.2
goes_on cfg n m s [] p more a b e = after_end cfg n m s p e
goes_on cfg n m s (c ∷ rest) p more a b e = let l = fewer cfg s [] [] c rest p e in more p.1 p.2 (omega arith) (omega arith)

one_more : (cfg : Config) (n m : ℕ) (s : State) (xs : List ℕ) → Enough cfg n m → length xs < suc n
    → length xs < suc m → (o : Option Read) → next_record cfg s [] [] xs ≡ o
    → records_next (records_from cfg n) o ≡ records_next (records_from cfg m) o
one_more cfg n m s xs more a b None e = refl
one_more cfg n m s xs more a b (Some p) e = ap (λ l. p.0 ∷ l) (goes_on cfg n m s xs p more a b e)

-- as many records as there are bytes, and one more, are all records
enough : (cfg : Config) (n m : ℕ) → Enough cfg n m
unfolding records_from
enough cfg zero m s xs a b = absurd (omega arith)
enough cfg (suc n) zero s xs a b = absurd (omega arith)
enough cfg (suc n) (suc m) s xs a b = one_more cfg n m s xs (enough cfg n m) a b (next_record cfg s [] [] xs) refl

rest_of : (cfg : Config) (s : State) (xs : List ℕ) (p : Read) → next_record cfg s [] [] xs ≡ Some p
    → records_from cfg (length xs) p.1 p.2 ≡ records_from cfg (length p.2 + 1) p.1 p.2
rest_of cfg s [] p e = after_end cfg 0 (length p.2 + 1) s p e
rest_of cfg s (c ∷ rest) p e = let l = fewer cfg s [] [] c rest p e in enough cfg (suc (length rest)) (length p.2 + 1) p.1 p.2 (omega arith) (omega arith)

-- the records of bytes are the next one, and those of the bytes after it
first_record : (s : State) (xs : List ℕ) (p : Read) → next_record default_config s [] [] xs ≡ Some p
    → records_in s (Some xs) ≡ p.0 ∷ records_in p.1 (Some p.2)
unfolding records_from
first_record s xs p e =
    ap (λ n. records_from default_config n s xs) (add-one (length xs)) ∙ ap (records_next (records_from default_config (length xs))) e
    ∙ ap (λ l. p.0 ∷ l) (rest_of default_config s xs p e)

no_record : (s : State) (xs : List ℕ) → next_record default_config s [] [] xs ≡ None → records_in s (Some xs) ≡ []
unfolding records_from
no_record s xs e = ap (λ n. records_from default_config n s xs) (add-one (length xs)) ∙ ap (records_next (records_from default_config (length xs))) e

some_of : (o : Option (List ℕ)) → IsSome o → (xs : List ℕ) × (o ≡ Some xs)
some_of None h = absurd cc
some_of (Some xs) h = (xs, refl)

abbrev pub known : Bor (List ℕ) → Option (List ℕ)
known bytes = Some bytes.now

reached_one : (s t : State) (xs zs : List ℕ) (f : List (List ℕ)) → Reached default_config s xs (f ∷ []) t zs
    → (p : Read) × (next_record default_config s [] [] xs ≡ Some p) × (f ≡ p.0) × (p.1 ≡ t) × (p.2 ≡ zs)
unfolding Reached
reached_one s t xs zs f (p, e, is, last) = (p, e, is, last.0, last.1)

nothing_yet : (s : State) (xs : List ℕ) → Reached default_config s xs [] s xs
unfolding Reached
nothing_yet s xs = (refl, refl)

-- what is left after a record
pub found_one : (old new : BytesReader) (fields : List (List ℕ)) → IsReading old → ReadRecord known old new true fields
    → (left_of old ≡ fields ∷ left_of new) × IsSome (bytes_left new)
found_one old new fields reading read =
    let (xs, at) = some_of (bytes_left old) reading.known in
    let (zs, then_at, reached) = rows-more known old new fields default_config old.state xs xs [] reading.config at (nothing_yet old.state xs) read in
    let (p, e, is, state, bytes) = reached_one old.state new.state xs zs fields reached in (
      ap (records_in old.state) at ∙ first_record old.state xs p e ∙ ap (λ f. f ∷ records_in p.1 (Some p.2)) (sym is)
          ∙ ap (λ t. fields ∷ records_in t (Some p.2)) state ∙ ap (λ ys. fields ∷ records_in new.state (Some ys)) bytes
          ∙ ap (λ o. fields ∷ records_in new.state o) (sym then_at),
      subst IsSome (sym then_at) refl,
    )

-- where no record was found, none is left
pub found_none : (old new : BytesReader) (fields : List (List ℕ)) → IsReading old → ReadRecord known old new false fields → left_of old ≡ []
found_none old new fields reading read =
    let (xs, at) = some_of (bytes_left old) reading.known in
    ap (records_in old.state) at ∙ no_record old.state xs (rows-end known old new fields default_config xs reading.config at read)

-- fields that are text pass the test, and others don't
pub text_passes : (fields : List (List ℕ)) → AllText fields → list_all is_utf8 fields ≡ true
unfolding AllText
text_passes [] h = refl
text_passes (f ∷ fs) (one, others) = rw (is_utf8-from_IsUtf8 f one) (text_passes fs others)

both_true : (a b : Bool) → a && b ≡ true → (a ≡ true) × (b ≡ true)
both_true true b e = (refl, e)
both_true false b e = absurd cc

passes_text : (fields : List (List ℕ)) → list_all is_utf8 fields ≡ true → AllText fields
unfolding AllText
passes_text [] e = tt
passes_text (f ∷ fs) e = let (one, others) = both_true (is_utf8 f) (list_all is_utf8 fs) e in (IsUtf8-from_is_utf8 f one, passes_text fs others)

fails : (fields : List (List ℕ)) → (AllText fields → ⊥) → list_all is_utf8 fields ≡ false
fails fields lacks = elim (cases_Bool (list_all is_utf8 fields)) [
  | inl e ↦ absurd (lacks (passes_text fields e))
  | inr e ↦ e
]

next_of : (cfg : Config) (s t : State) (xs : List ℕ) (after : Option (List ℕ)) (fields : List (List ℕ)) → ReadsNext cfg s (Some xs) after true fields t
    → (p : Read) × (next_record cfg s [] [] xs ≡ Some p) × (fields ≡ p.0)
next_of cfg s t xs None fields h = absurd h
next_of cfg s t xs (Some ys) fields h = by (next_record cfg s [] [] xs) refl h
  where
    by : (o : Option Read) → next_record cfg s [] [] xs ≡ o → NextIs o true fields t ys → (p : Read) × (next_record cfg s [] [] xs ≡ Some p) × (fields ≡ p.0)
    by None e h = absurd cc
    by (Some p) e h = (p, e, h.1)

-- a record that is no text is the next of those that were left
pub next_is_no_text : (old new : BytesReader) (fields : List (List ℕ)) → IsReading old
    → TookRecord known old new fields → (AllText fields → ⊥) → IsNoText (left_of old)
next_is_no_text old new fields reading took lacks =
    let (xs, at) = some_of (bytes_left old) reading.known in
    let reads : ReadsNext default_config old.state (Some xs) (pending_of (known new.rdr) new) true fields new.state =
    subst (λ cfg. ReadsNext cfg old.state (Some xs) (pending_of (known new.rdr) new) true fields new.state) reading.config
    (subst (λ o. ReadsNext old.config old.state o (pending_of (known new.rdr) new) true fields new.state) at took) in
    let (p, e, is) = next_of default_config old.state new.state xs (pending_of (known new.rdr) new) fields reads in (
      fields,
      records_in p.1 (Some p.2),
      ap (records_in old.state) at ∙ first_record old.state xs p e ∙ ap (λ f. f ∷ records_in p.1 (Some p.2)) (sym is),
      fails fields lacks,
    )

-- where a read says that the record is no text, it is none
pub no_text_of : (old new : BytesReader) (k : ErrorKind) → IsReading old → ExplainsRead known old new true k → cause_of k ≡ NoText → IsNoText (left_of old)
no_text_of old new (kind.Utf8 pos err) reading (_, fields, took, lacks) e = next_is_no_text old new fields reading took lacks
no_text_of old new kind.OutOfMemory reading why e = absurd cc
no_text_of old new (kind.Io e1) reading why e = absurd cc
no_text_of old new (kind.UnequalLengths pos expected len) reading why e = absurd cc
no_text_of old new (kind.Serialize text) reading why e = absurd cc
no_text_of old new (kind.Deserialize pos err) reading why e = absurd cc

-- what a read found, from what the reader says of it
pub found : (old new : BytesReader) (fields : List (List ℕ)) (b : Bool) → IsReading old → ReadRecord known old new b fields → AllText fields
    → took_first new ≡ true → is_flexible new ≡ is_flexible old → Found old new fields b
found old new fields false reading read text first flexible = found_none old new fields reading read
found old new fields true reading read text first flexible =
    let (left, some_left) = found_one old new fields reading read in (
      left,
      text_passes fields text,
      record {
        ready = inl first;
        config = read.2 ∙ reading.config;
        trim = read.3 ∙ reading.trim;
        flexible = flexible ∙ reading.flexible;
        known = some_left;
      },
    )
