-- Why each name leads to the first scale that has it, and to one round an object only where that has none of it.
use Rattle.std.proofs.Common.{◌≡◌, ℕ, ◌+◌, ◌<◌, Bool, true, false, cond, not, ◌||◌, List, [], ◌∷◌}
use Rattle.std.proofs.Common.{Option, Some, None, Bor, option_copied, length, drop, get_or, refl, sym, ap, ◌∙◌, subst}
use Rattle.std.specs.Prelude.{String, find, filter, slice_get}
use Rattle.std.specs.Option.{option_map, option_or, is_some}
use Rattle.std.specs.List.{list_any}
use Rattle.std.specs.Str.{bytes_eq}
use Rattle.std.specs.Ordering.{nat_cmp}
use Rattle.std.specs.Cmp.Lexicographic.{slice_cmp}
use Rattle.std.specs.String.{string_cmp, string_bytes}
use Rattle.std.specs.BTreeMap as tree
use Rattle.std.specs.declared.alloc.Global.{Global}
use Rattle.std.proofs.lemmas.Map.Text.{btree_map_updates_text}
use Rattle.std.proofs.lemmas.Bool.{false≢true}
use Rattle.std.proofs.lemmas.List.{drop_more}
use Rattle.std.proofs.lemmas.List.Folds.{find-append}
use Rattle.std.proofs.lemmas.Option.{slice_get-map, slice_get-get_or}
use Rattle.std.proofs.lemmas.Slice.Eq.{bytes_eq-Decides}
use Rattle.scale_kit.specs.declared.scale.Scale.{Scale}
use Rattle.scale_kit.specs.declared.scale.ScaleIn.{ScaleIn}
use Rattle.scale_kit.specs.declared.scale.ScaleSet.{ScaleSet}
use Rattle.mark_encode.specs.Channels.{scale_named, is_named, scales_within}
use Rattle.mark_encode.specs.inner.Scales.{place_under, scale_at, scales_of, FindsScales, sets_round, scales_inside}

abbrev scale_in : ScaleIn → Scale
scale_in s = s.scale

-- a place put under a name
pub put_place : (bytes name : List ℕ) (old new : tree.BTreeMap (String Global) ℕ) (place : ℕ) → bytes ≡ name
    → tree.UpdatesBy string_cmp (λ k. slice_cmp nat_cmp bytes (string_bytes k)) old new (Some place)
    → (q : List ℕ) → place_under new q ≡ cond (bytes_eq name q) (Some place) (place_under old q)
put_place bytes name old new place same h q =
    btree_map_updates_text bytes old new (Some place) h q ∙ ap (λ n. cond (bytes_eq n q) (Some place) (place_under old q)) same

either_led : (b : Bool) (n : ℕ) (o : Option ℕ) (scales : List Scale)
    → scale_at scales (cond b (Some n) o) ≡ cond b (slice_get scales n) (scale_at scales o)
either_led true n o scales = refl
either_led false n o scales = refl

either_shown : (b : Bool) (s : ScaleIn) (o : Option ScaleIn) → cond b (Some s.scale) (option_map scale_in o) ≡ option_map scale_in (cond b (Some s) o)
either_shown true s o = refl
either_shown false s o = refl

-- one more scale leads, before those that did
pub one_leads : (old new : tree.BTreeMap (String Global) ℕ) (named : List ScaleIn) (n m : ℕ) (s : ScaleIn)
    → n < length named → get_or named n s ≡ s → m ≡ n + 1
    → ((q : List ℕ) → place_under new q ≡ cond (bytes_eq (get_or named n s).name q) (Some n) (place_under old q))
    → FindsScales old (scales_of named) (drop m named) → FindsScales new (scales_of named) (drop n named)
one_leads old new named n m s within is next put finds q =
    let test : ScaleIn → Bool = λ x. bytes_eq x.name q in
    let before : Option Scale = scale_at (scales_of named) (place_under old q) in
    let later : before ≡ option_map scale_in (find test (drop (n + 1) named)) =
    subst (λ (i : ℕ). before ≡ option_map scale_in (find test (drop i named))) next (finds q) in
    let there : slice_get (scales_of named) n ≡ Some s.scale =
    slice_get-map scale_in named n ∙ ap (option_map scale_in) (slice_get-get_or named n s within) ∙ ap (λ x. Some (scale_in x)) is in
    ap (scale_at (scales_of named)) (put q ∙ ap (λ (x : ScaleIn). cond (bytes_eq x.name q) (Some n) (place_under old q)) is)
    ∙ either_led (bytes_eq s.name q) n (place_under old q) (scales_of named)
    ∙ ap (λ o. cond (bytes_eq s.name q) o before) there
    ∙ ap (λ o. cond (bytes_eq s.name q) (Some s.scale) o) later
    ∙ either_shown (bytes_eq s.name q) s (find test (drop (n + 1) named))
    ∙ ap (λ x. option_map scale_in (cond (test x) (Some x) (find test (drop (n + 1) named)))) (sym is)
    ∙ sym (ap (λ l. option_map scale_in (find test l)) (drop_more named n s within))

-- A test finds the same among the elements that another keeps, where that keeps all that the test finds.
step_kept : {X : Type 0} (test keep : X → Bool) (x : X) (xs : List X) → find test (filter keep xs) ≡ find test xs → (t k : Bool) → test x ≡ t
    → (t ≡ true → k ≡ true) → find test (cond k (x ∷ filter keep xs) (filter keep xs)) ≡ cond t (Some x) (find test xs)
step_kept test keep x xs same true true is keeps = ap (λ b. cond b (Some x) (find test (filter keep xs))) is
step_kept test keep x xs same true false is keeps = absurd (false≢true (keeps refl))
step_kept test keep x xs same false true is keeps = ap (λ b. cond b (Some x) (find test (filter keep xs))) is ∙ same
step_kept test keep x xs same false false is keeps = same

find_kept : {X : Type 0} (test keep : X → Bool) → ((x : X) → test x ≡ true → keep x ≡ true) → (xs : List X)
    → find test (filter keep xs) ≡ find test xs
find_kept test keep keeps [] = refl
find_kept test keep keeps (x ∷ xs) = step_kept test keep x xs (find_kept test keep keeps xs) (test x) (keep x) refl (keeps x)

-- a test finds one exactly where one passes
step_any : {X : Type 0} (x : X) (found : Option X) (any : Bool) → is_some found ≡ any → (t : Bool) → is_some (cond t (Some x) found) ≡ (t || any)
step_any x found any is true = refl
step_any x found any is false = is

find_any : {X : Type 0} (test : X → Bool) (xs : List X) → is_some (find test xs) ≡ list_any test xs
find_any test [] = refl
find_any test (x ∷ xs) = step_any x (find test xs) (list_any test xs) (find_any test xs) (test x)

-- a scale of a name that an object has none of isn't hidden there
not_hidden : (own : ScaleSet) (name : List ℕ) → is_named own name ≡ false → (s : ScaleIn) → bytes_eq s.name name ≡ true
    → not (is_named own s.name) ≡ true
not_hidden own name none s is = ap (λ n. not (is_named own n)) ((bytes_eq-Decides s.name name).0 is) ∙ ap not none

-- a name leads to the scale of the object, or else to that round it
own_or_outer : (own outer : ScaleSet) (name : List ℕ) (found : Option ScaleIn) → is_some found ≡ is_named own name
    → option_map scale_in (option_or found (find (λ s. bytes_eq s.name name) (filter (λ s. not (is_named own s.name)) outer.scales)))
    ≡ option_or (option_map scale_in found) (scale_named outer name)
own_or_outer own outer name (Some s) is = refl
own_or_outer own outer name None is =
    ap (option_map scale_in)
    (find_kept (λ s. bytes_eq s.name name) (λ s. not (is_named own s.name)) (not_hidden own name (sym is)) outer.scales)

named_within : (own outer : ScaleSet) (name : List ℕ)
    → scale_named (scales_within own outer) name ≡ option_or (scale_named own name) (scale_named outer name)
named_within own outer name =
    let test : ScaleIn → Bool = λ s. bytes_eq s.name name in
    ap (option_map scale_in) (find-append test own.scales (filter (λ s. not (is_named own s.name)) outer.scales))
    ∙ own_or_outer own outer name (find test own.scales) (find_any test own.scales)

-- what an index of names finds in an object, or else what is found round it
pub found_inside : (own : ScaleSet) (outer : Option (Bor (List ScaleSet))) (seen : List ScaleSet) (places : tree.BTreeMap (String Global) ℕ)
    (indexed scales : List Scale) (place : Option ℕ) (name : List ℕ) (found : Option (Bor Scale)) (answer : Option Scale)
    → FindsScales places indexed own.scales → own ∷ sets_round outer ≡ seen → scales ≡ indexed → place ≡ place_under places name
    → option_copied found ≡ scale_at scales place
    → answer ≡ option_or (option_copied found) (scale_named (scales_inside (sets_round outer)) name)
    → answer ≡ scale_named (scales_inside seen) name
found_inside own outer seen places indexed scales place name found answer finds same is there at chosen =
    let named : option_copied found ≡ scale_named own name = at ∙ ap (λ l. scale_at l place) is ∙ ap (scale_at indexed) there ∙ finds name in
    chosen
    ∙ ap (λ here. option_or here (scale_named (scales_inside (sets_round outer)) name)) named
    ∙ sym (named_within own (scales_inside (sets_round outer)) name)
    ∙ ap (λ sets. scale_named (scales_inside sets) name) same
