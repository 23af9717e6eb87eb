-- The test for a name among the members says what the rule does, and finds the later names in a tree.
use Rattle.std.proofs.Common.{◌≡◌, ℕ, zero, suc, ◌<◌, ◌≤◌, Bool, true, false, cond, ◌||◌, List, [], ◌∷◌, ◌++◌, length, get_or, take, drop}
use Rattle.std.proofs.Common.{refl, sym, ap, ◌∙◌, arith}
use Rattle.std.specs.Prelude.{◌≢◌, AllPairs}
use Rattle.std.specs.List.{list_any}
use Rattle.std.specs.Str.{bytes_eq}
use Rattle.std.proofs.lemmas.Bool.{or_parts, or_from, false_from_ne_true, false≢true}
use Rattle.std.proofs.lemmas.Bool.Decides.{same_from_decides, Decides-like}
use Rattle.std.proofs.lemmas.List.{drop_all}
use Rattle.std.proofs.lemmas.List.Quantifiers.{all_pairs_push}
use Rattle.std.proofs.lemmas.Slice.Eq.{bytes_eq-Decides}
use Rattle.json_exact.specs.declared.json.Member.{Member}
use Rattle.json_exact.specs.inner.Reader.{names_of}

-- ---- names in two places

either : (b x y z : Bool) → x ≡ (y || z) → (b || x) ≡ ((b || y) || z)
either true x y z e = refl
either false x y z e = e

last : (b : Bool) → (b || false) ≡ (false || b)
last true = refl
last false = refl

pub any_split : (p : List ℕ → Bool) (n : ℕ) (ms : List Member)
    → list_any p (names_of ms) ≡ (list_any p (names_of (take n ms)) || list_any p (drop n (names_of ms)))
any_split p zero ms = refl
any_split p (suc n) [] = refl
any_split p (suc n) (m ∷ ms) = either (p m.name) _ _ _ (any_split p n ms)

any_pushed : (p : List ℕ → Bool) (n : ℕ) (ms : List Member) (m : Member) → n ≤ length ms
    → list_any p (drop n (names_of (ms ++ m ∷ []))) ≡ (list_any p (drop n (names_of ms)) || p m.name)
any_pushed p zero [] m le = last (p m.name)
any_pushed p zero (x ∷ ms) m le = either (p x.name) _ _ _ (any_pushed p 0 ms m (omega arith))
any_pushed p (suc n) [] m le = absurd (omega arith)
any_pushed p (suc n) (x ∷ ms) m le = any_pushed p n ms m (omega arith)

pub few_pushed : (p : List ℕ → Bool) (n : ℕ) (ms : List Member) (m : Member) → length ms < n
    → list_any p (drop n (names_of (ms ++ m ∷ []))) ≡ list_any p (drop n (names_of ms))
few_pushed p zero ms m lt = absurd (omega arith)
few_pushed p (suc n) [] m lt =
    let nil : List (List ℕ) = [] in
    rw (drop_all n nil (omega arith)) refl
few_pushed p (suc n) (x ∷ ms) m lt = few_pushed p n ms m (omega arith)

bytes_eq-flips : (x y : List ℕ) → bytes_eq x y ≡ bytes_eq y x
bytes_eq-flips x y = same_from_decides _ _ (bytes_eq-Decides x y) (Decides-like _ sym sym (bytes_eq-Decides y x))

chosen_or : (b c : Bool) → cond b true c ≡ (c || b)
chosen_or true true = refl
chosen_or true false = refl
chosen_or false true = refl
chosen_or false false = refl

pub later_pushed : (q name : List ℕ) (ms : List Member) (m : Member) (old new : Bool) → 8 ≤ length ms → name ≡ m.name
    → old ≡ list_any (bytes_eq q) (drop 8 (names_of ms)) → new ≡ cond (bytes_eq name q) true old
    → new ≡ list_any (bytes_eq q) (drop 8 (names_of (ms ++ m ∷ [])))
later_pushed q name ms m old new many same before after =
    let flipped : bytes_eq name q ≡ bytes_eq q m.name = bytes_eq-flips name q ∙ ap (bytes_eq q) same in
    after ∙ chosen_or (bytes_eq name q) old ∙ ap (λ b. b || bytes_eq name q) before
    ∙ ap (λ b. list_any (bytes_eq q) (drop 8 (names_of ms)) || b) flipped ∙ sym (any_pushed (bytes_eq q) 8 ms m many)

-- ---- the test and the rule

abbrev pub Differ : Member → Member → Type 0
Differ m n = m.name ≢ n.name

none_at : (q : List ℕ) (ms : List Member) → list_any (bytes_eq q) (names_of ms) ≡ false → (k : ℕ) (d : Member) → k < length ms
    → (get_or ms k d).name ≢ q
none_at q [] e k d lt = absurd (omega arith)
none_at q (m ∷ ms) e zero d lt = λ same. false≢true (sym (or_parts _ _ e).0 ∙ (bytes_eq-Decides q m.name).1 (sym same))
none_at q (m ∷ ms) e (suc k) d lt = none_at q ms (or_parts _ _ e).1 k d (omega arith)

pub apart_pushed : (ms : List Member) (m : Member) → AllPairs Differ ms → list_any (bytes_eq m.name) (names_of ms) ≡ false
    → AllPairs Differ (ms ++ m ∷ [])
apart_pushed ms m apart e = all_pairs_push Differ ms m apart (none_at m.name ms e)

at_end : (ms others : List Member) (m d : Member) → get_or (ms ++ m ∷ others) (length ms) d ≡ m
at_end [] others m d = refl
at_end (x ∷ ms) others m d = at_end ms others m d

within : (ms others : List Member) (m : Member) → length ms < length (ms ++ m ∷ others)
within [] others m = omega arith
within (x ∷ ms) others m = omega (arith, within ms others m)

pub fresh : (ms others : List Member) (m : Member) → AllPairs Differ (ms ++ m ∷ others) → list_any (bytes_eq m.name) (names_of ms) ≡ false
fresh [] others m apart = refl
fresh (x ∷ ms) others m apart =
    let differs : x.name ≢ m.name =
    λ same. apart 0 (suc (length ms)) m (omega arith) (omega (arith, within ms others m)) (same
    ∙ ap (λ (n : Member). n.name) (sym (at_end ms others m m))) in
    or_from _ _ (false_from_ne_true _ (λ e. differs (sym ((bytes_eq-Decides m.name x.name).0 e))))
    (fresh ms others m (λ i j d lt inside. apart (suc i) (suc j) d (omega arith) (omega arith)))
