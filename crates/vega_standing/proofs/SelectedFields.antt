-- What the updates of one signal keep, where none clashes with another.
use Rattle.std.proofs.Common.{◌≡◌, ℕ, List, [], ◌∷◌, ◌++◌, cond, refl, sym, ap, subst, ◌∙◌, ◌⊎◌, inl, inr, arith}
use Rattle.std.specs.Prelude.{Option, Some, None, Bool, true, false, not, ◌&&◌, ◌||◌, ◌==◌, IfSome, unwrap_or, bytes_eq, length, drop, if◌then◌else◌}
use Rattle.std.specs.Option.{option_map, option_map_or, option_and_then}
use Rattle.std.specs.List.{list_any, list_all}
use Rattle.std.proofs.lemmas.Bool.{and_parts}
use Rattle.std.proofs.lemmas.Bool.Decides.{nat_tests}
use Rattle.std.proofs.lemmas.List.Folds.{list_any-append}
use Rattle.std.proofs.lemmas.Slice.Eq.{bytes_eq-Decides}
use Rattle.fixed_num.specs.Ranges.{◌>>=◌}
use Rattle.expr_syntax.specs.declared.calls.TextCall.{TextCall}
use Rattle.expr_reading.specs.Readings.{call_of}
use Rattle.vega_parts.specs.declared.updates.Change.{Change}
use Rattle.vega_parts.specs.declared.updates.Change.TheVariants.{Point, Toggle, Clear, Interval}
use Rattle.vega_parts.specs.declared.updates.Update.{Update}
use Rattle.vega_parts.specs.Updates.{change_named, takes, update_by, update_in, update_of, fields_of, is_point, is_toggle, is_click}
use Rattle.vega_parts.specs.Updates.{is_drag, mix, are_clicks, same_fields, clash}
use Rattle.vega_spec.specs.declared.signals.EventSelector.{EventSelector}
use Rattle.vega_spec.specs.declared.signals.EventSelector.TheVariants as on
use Rattle.vega_spec.specs.declared.signals.EventUpdate.{EventUpdate}
use Rattle.vega_spec.specs.declared.signals.Signal.{Signal}
use Rattle.selection_events.specs.Kept.{KeepsTheSame, IsSelection}
use Rattle.vega_selections.specs.Marks.{MarkNames}
use Rattle.vega_selections.specs.Updates.{number_of, is_same, texts_of, entry_with, texts_with, once_behind, each_once, channels_in}
use Rattle.vega_selections.specs.Selections.{fields_on, selection_of}
use Rattle.vega_standing.proofs.Trees.{Each}
use Rattle.vega_standing.proofs.Among.{In, in_front, in_back, each_in}

-- ---- one update

-- the number of the selector that belongs to a change
abbrev pub number_by : Change → ℕ
number_by Point = 0
number_by Toggle = 1
number_by Clear = 2
number_by Interval = 3

-- the change with a number
abbrev change_by : ℕ → Change
change_by n = if n == 0 then Point else (if n == 1 then Toggle else (if n == 2 then Clear else Interval))

back : (c : Change) → c ≡ change_by (number_by c)
back Point = refl
back Toggle = refl
back Clear = refl
back Interval = refl

some_if : (P : Update → Type 0) (b : Bool) (u : Update) → P u → IfSome (if b then Some u else None) P
some_if P true u p = p
some_if P false u p = tt

some_then : {X : Type 0} (P : Update → Type 0) (f : X → Option Update) → ((x : X) → IfSome (f x) P) → (o : Option X) → IfSome (option_and_then f o) P
some_then P f each None = tt
some_then P f each (Some x) = each x

-- an update has the texts of its call
arguments_are : (name : List ℕ) (arguments : List (List ℕ)) → IfSome (update_in name arguments) (λ (u : Update). u.arguments ≡ arguments)
arguments_are name arguments =
    some_then (λ (u : Update). u.arguments ≡ arguments) (update_by arguments)
    (λ change. some_if (λ (u : Update). u.arguments ≡ arguments) (takes change (length arguments)) _ refl)
    (change_named name)

-- so the texts of an entry are those of its update
texts_said : (e : EventUpdate) (u : Update) → update_of e.update ≡ Some u → texts_of e ≡ Some (fields_of u)
texts_said e u is = by_call (call_of e.update) is
  where
    by_call : (o : Option TextCall) → option_and_then (λ (call : TextCall). update_in call.name call.arguments) o ≡ Some u →
        option_map (λ (call : TextCall). drop 1 call.arguments) o ≡ Some (fields_of u)
    by_call None is = absurd cc
    by_call (Some call) is =
        let same : u.arguments ≡ call.arguments =
        subst (λ o. IfSome o (λ (u : Update). u.arguments ≡ call.arguments)) is (arguments_are call.name call.arguments) in
        ap (λ a. Some (drop 1 a)) (sym same)

-- an entry is an update, with the selector that belongs to it
pub record IsUpdate (e : EventUpdate) : Type 0 where
  pub said : Update
  pub is : update_of e.update ≡ Some said
  pub selector : number_of e.events ≡ number_by said.change

-- ---- updates beside each other

-- two entries clash
abbrev pub clashes : EventUpdate → EventUpdate → Bool
clashes e f = option_map_or (λ u. option_map_or (λ v. clash u v) (update_of f.update) false) (update_of e.update) false

-- entries are updates, and each clashes with none before it
abbrev pub AreUpdates : List EventUpdate → List EventUpdate → Type 0
AreUpdates before [] = Unit {0}
AreUpdates before (e ∷ es) = IsUpdate e × Each (λ f. clashes e f ≡ false) before × AreUpdates (before ++ e ∷ []) es

is_said : (before es : List EventUpdate) → AreUpdates before es → (e : EventUpdate) → In e es → IsUpdate e
is_said before [] a e i = absurd i
is_said before (x ∷ es) a e (inl same) = subst IsUpdate (sym same) a.0
is_said before (x ∷ es) a e (inr i) = is_said (before ++ x ∷ []) es a.2 e i

later : (before es : List EventUpdate) → AreUpdates before es → (e f : EventUpdate) → In e before → In f es → clashes f e ≡ false
later before [] a e f i j = absurd j
later before (x ∷ es) a e f i (inl same) = subst (λ y. clashes y e ≡ false) (sym same) (each_in (λ g. clashes x g ≡ false) e before a.1 i)
later before (x ∷ es) a e f i (inr j) = later (before ++ x ∷ []) es a.2 e f (in_front e before (x ∷ []) i) j

-- of two of them one is later
beside : (before es : List EventUpdate) → AreUpdates before es → (e f : EventUpdate) → In e es → In f es →
    (e ≡ f) ⊎ ((clashes e f ≡ false) ⊎ (clashes f e ≡ false))
beside before [] a e f i j = absurd i
beside before (x ∷ es) a e f (inl p) (inl q) = inl (p ∙ sym q)
beside before (x ∷ es) a e f (inl p) (inr j) =
    inr (inr (subst (λ y. clashes f y ≡ false) (sym p) (later (before ++ x ∷ []) es a.2 x f (in_back x before (x ∷ []) (inl refl)) j)))
beside before (x ∷ es) a e f (inr i) (inl q) =
    inr (inl (subst (λ y. clashes e y ≡ false) (sym q) (later (before ++ x ∷ []) es a.2 x e (in_back x before (x ∷ []) (inl refl)) i)))
beside before (x ∷ es) a e f (inr i) (inr j) = beside (before ++ x ∷ []) es a.2 e f i j

or_flips : (a b : Bool) → (a || b) ≡ (b || a)
or_flips true true = refl
or_flips true false = refl
or_flips false true = refl
or_flips false false = refl

and_flips : (a b : Bool) → (a && b) ≡ (b && a)
and_flips true true = refl
and_flips true false = refl
and_flips false true = refl
and_flips false false = refl

either_flips : (a b c d : Bool) → ((a && b) || (c && d)) ≡ ((d && c) || (b && a))
either_flips a b c d = or_flips (a && b) (c && d) ∙ (λ i. and_flips c d i || and_flips a b i)

-- clashes go both ways
clash_flips : (u v : Update) → clash u v ≡ clash v u
clash_flips u v =
    let mixes : mix u.change v.change ≡ mix v.change u.change = either_flips (is_drag u.change) (is_click v.change) (is_click u.change) (is_drag v.change) in
    let clicks : are_clicks u.change v.change ≡ are_clicks v.change u.change =
    either_flips (is_point u.change) (is_toggle v.change) (is_toggle u.change) (is_point v.change) in
    let fields : same_fields (fields_of u) (fields_of v) ≡ same_fields (fields_of v) (fields_of u) =
    and_flips (list_all (λ x. list_any (bytes_eq x) (fields_of v)) (fields_of u)) (list_all (λ y. list_any (bytes_eq y) (fields_of u)) (fields_of v)) in
    λ i. mixes i || (clicks i && not (fields i))

clashes_are : (e f : EventUpdate) (u v : Update) → update_of e.update ≡ Some u → update_of f.update ≡ Some v → clashes e f ≡ clash u v
clashes_are e f u v is at = λ i. option_map_or (λ u. option_map_or (λ v. clash u v) (at i) false) (is i) false

-- two with other selectors don't clash
apart : (es : List EventUpdate) → AreUpdates [] es → (e f : EventUpdate) (u v : Update) →
    In e es → In f es → update_of e.update ≡ Some u → update_of f.update ≡ Some v →
    (number_by u.change ≡ number_by v.change → ⊥) → clash u v ≡ false
apart es a e f u v i j is at other = by_place (beside [] es a e f i j)
  where
    by_place : (e ≡ f) ⊎ ((clashes e f ≡ false) ⊎ (clashes f e ≡ false)) → clash u v ≡ false
    by_place (inl same) =
        let one : Some u ≡ Some v = sym is ∙ ap (λ (x : EventUpdate). update_of x.update) same ∙ at in
        absurd (other (ap (λ o. option_map_or (λ (w : Update). number_by w.change) o 0) one))
    by_place (inr (inl none)) = sym (clashes_are e f u v is at) ∙ none
    by_place (inr (inr none)) = clash_flips u v ∙ sym (clashes_are f e v u at is) ∙ none

-- ---- the entry with a selector

same_number : (k n : ℕ) → (k == n) ≡ true → k ≡ n
same_number k n e = grind (arith, nat_tests)

found : (events : EventSelector) (es : List EventUpdate) (e : EventUpdate) → entry_with events es ≡ Some e → In e es × (number_of events ≡ number_of e.events)
found events [] e is = absurd cc
found events (x ∷ es) e is = by_test (is_same events x.events) refl is (found events es e)
  where
    by_test : (b : Bool) → is_same events x.events ≡ b → cond b (Some x) (entry_with events es) ≡ Some e →
        (entry_with events es ≡ Some e → In e es × (number_of events ≡ number_of e.events)) → In e (x ∷ es) × (number_of events ≡ number_of e.events)
    by_test true same f rest =
        let at : x ≡ e = cc in
        (inl (sym at), same_number (number_of events) (number_of x.events) same ∙ ap (λ (y : EventUpdate). number_of y.events) at)
    by_test false same f rest = let r = rest f in (inr r.0, r.1)

-- what the entry with a selector says
record Told (es : List EventUpdate) (events : EventSelector) (texts : List (List ℕ)) : Type 0 where
  entry : EventUpdate
  among : In entry es
  said : Update
  is : update_of entry.update ≡ Some said
  change : said.change ≡ change_by (number_of events)
  are : texts ≡ fields_of said

told : (es : List EventUpdate) → AreUpdates [] es → (events : EventSelector) (texts : List (List ℕ)) → texts_with events es ≡ Some texts → Told es events texts
told es a events texts is = by_entry (entry_with events es) refl is
  where
    by_entry : (o : Option EventUpdate) → entry_with events es ≡ o → (o >>= texts_of) ≡ Some texts → Told es events texts
    by_entry None same f = absurd cc
    by_entry (Some e) same f =
        let at = found events es e same in
        let u : IsUpdate e = is_said [] es a e at.0 in
        let both : Some texts ≡ Some (fields_of u.said) = sym f ∙ texts_said e u.said u.is in
        record {
          entry = e;
          among = at.0;
          said = u.said;
          is = u.is;
          change = back u.said.change ∙ ap change_by (sym (at.1 ∙ u.selector));
          are = ap (λ o. unwrap_or o []) both;
        }

abbrev clash_by : Change → Change → Bool → Bool
clash_by c d same = mix c d || (are_clicks c d && not same)

-- what two entries with other selectors say doesn't clash
no_clash : (es : List EventUpdate) → AreUpdates [] es → (p q : EventSelector) (xs ys : List (List ℕ)) → texts_with p es ≡ Some xs → texts_with q es ≡ Some ys →
    (number_by (change_by (number_of p)) ≡ number_by (change_by (number_of q)) → ⊥) →
    clash_by (change_by (number_of p)) (change_by (number_of q)) (same_fields xs ys) ≡ false
no_clash es a p q xs ys with_p with_q other =
    let t : Told es p xs = told es a p xs with_p in
    let s : Told es q ys = told es a q ys with_q in
    let none : clash t.said s.said ≡ false = apart es a t.entry s.entry t.said s.said t.among s.among t.is s.is
    (λ e. other (ap number_by (sym t.change) ∙ e ∙ ap number_by s.change)) in
    (λ i. clash_by (sym t.change i) (sym s.change i) (same_fields (t.are i) (s.are i))) ∙ none

-- ---- names, each once

or_later : (b t x y : Bool) → ((b || (t || false)) || x) ≡ ((b || (t || false)) || y) → (b || (t || x)) ≡ (b || (t || y))
or_later true t x y e = refl
or_later false true x y e = refl
or_later false false x y e = e

or_true : (b x : Bool) → b ≡ true → (b || x) ≡ true
or_true true x e = refl
or_true false x e = absurd cc

once_behind_all : (q : List ℕ) (before names : List (List ℕ)) →
    (list_any (bytes_eq q) before || list_any (bytes_eq q) (once_behind before names)) ≡ (list_any (bytes_eq q) before || list_any (bytes_eq q) names)
once_behind_all q before [] = refl
once_behind_all q before (name ∷ names) =
    by_test (list_any (bytes_eq name) before) refl (once_behind_all q before names) (once_behind_all q (before ++ name ∷ []) names)
  where
    known : (t : Bool) → bytes_eq q name ≡ t → list_any (bytes_eq name) before ≡ true →
        (list_any (bytes_eq q) before || list_any (bytes_eq q) (once_behind before names)) ≡ (list_any (bytes_eq q) before || list_any (bytes_eq q) names) →
        (list_any (bytes_eq q) before || list_any (bytes_eq q) (once_behind before names))
        ≡ (list_any (bytes_eq q) before || (t || list_any (bytes_eq q) names))
    known true same there e =
        let is : q ≡ name = (bytes_eq-Decides q name).0 same in
        let here : list_any (bytes_eq q) before ≡ true = ap (λ n. list_any (bytes_eq n) before) is ∙ there in
        or_true (list_any (bytes_eq q) before) (list_any (bytes_eq q) (once_behind before names)) here
        ∙ sym (or_true (list_any (bytes_eq q) before) (true || list_any (bytes_eq q) names) here)
    known false same there e = e

    by_test : (b : Bool) → list_any (bytes_eq name) before ≡ b →
        (list_any (bytes_eq q) before || list_any (bytes_eq q) (once_behind before names)) ≡ (list_any (bytes_eq q) before || list_any (bytes_eq q) names) →
        (list_any (bytes_eq q) (before ++ name ∷ []) || list_any (bytes_eq q) (once_behind (before ++ name ∷ []) names))
        ≡ (list_any (bytes_eq q) (before ++ name ∷ []) || list_any (bytes_eq q) names) →
        (list_any (bytes_eq q) before || list_any (bytes_eq q) (if b then once_behind before names else name ∷ once_behind (before ++ name ∷ []) names))
        ≡ (list_any (bytes_eq q) before || (bytes_eq q name || list_any (bytes_eq q) names))
    by_test true there e f = known (bytes_eq q name) refl there e
    by_test false new e f =
        or_later (list_any (bytes_eq q) before) (bytes_eq q name)
        (list_any (bytes_eq q) (once_behind (before ++ name ∷ []) names)) (list_any (bytes_eq q) names)
        (subst (λ b. (b || list_any (bytes_eq q) (once_behind (before ++ name ∷ []) names)) ≡ (b || list_any (bytes_eq q) names))
        (list_any-append (bytes_eq q) before (name ∷ [])) f)

-- the same fields, without those that stand there already
once_all : (q : List ℕ) (names : List (List ℕ)) → list_any (bytes_eq q) (each_once names) ≡ list_any (bytes_eq q) names
once_all q names = once_behind_all q [] names

goes : (q : List ℕ) (xs ys : List (List ℕ)) → list_all (λ x. list_any (bytes_eq x) ys) xs ≡ true →
    list_any (bytes_eq q) xs ≡ true → list_any (bytes_eq q) ys ≡ true
goes q [] ys all e = absurd cc
goes q (x ∷ xs) ys all e = by_test (bytes_eq q x) refl e (goes q xs ys parts.1)
  where
    parts : (list_any (bytes_eq x) ys ≡ true) × (list_all (λ x. list_any (bytes_eq x) ys) xs ≡ true)
    parts = and_parts (list_any (bytes_eq x) ys) (list_all (λ x. list_any (bytes_eq x) ys) xs) all

    by_test : (b : Bool) → bytes_eq q x ≡ b → (b || list_any (bytes_eq q) xs) ≡ true →
        (list_any (bytes_eq q) xs ≡ true → list_any (bytes_eq q) ys ≡ true) → list_any (bytes_eq q) ys ≡ true
    by_test true same f rest = ap (λ n. list_any (bytes_eq n) ys) ((bytes_eq-Decides q x).0 same) ∙ parts.0
    by_test false same f rest = rest f

both_ways : (a b : Bool) → (a ≡ true → b ≡ true) → (b ≡ true → a ≡ true) → a ≡ b
both_ways true b f g = sym (f refl)
both_ways false true f g = g refl
both_ways false false f g = refl

alike : (q : List ℕ) (xs ys : List (List ℕ)) → same_fields xs ys ≡ true → list_any (bytes_eq q) xs ≡ list_any (bytes_eq q) ys
alike q xs ys e =
    let parts = and_parts (list_all (λ x. list_any (bytes_eq x) ys) xs) (list_all (λ y. list_any (bytes_eq y) xs) ys) e in
    both_ways (list_any (bytes_eq q) xs) (list_any (bytes_eq q) ys) (goes q xs ys parts.0) (goes q ys xs parts.1)

-- ---- the selection

alike_by : (toggle click : Option (List (List ℕ))) → ((xs ys : List (List ℕ)) → click ≡ Some xs → toggle ≡ Some ys → same_fields xs ys ≡ true) →
    KeepsTheSame (fields_on toggle) (unwrap_or (fields_on click) (unwrap_or (fields_on toggle) []))
alike_by None click same other is q = absurd cc
alike_by (Some ys) None same other is q = ap (λ o. list_any (bytes_eq q) (unwrap_or o [])) (sym is)
alike_by (Some ys) (Some xs) same other is q =
    ap (λ o. list_any (bytes_eq q) (unwrap_or o [])) (sym is) ∙ once_all q ys ∙ sym (alike q xs ys (same xs ys refl refl)) ∙ sym (once_all q xs)

apart_by : (drag click toggle : Option (List (List ℕ))) → ((xs ys : List (List ℕ)) → drag ≡ Some xs → click ≡ Some ys → ⊥) →
    ((xs ys : List (List ℕ)) → drag ≡ Some xs → toggle ≡ Some ys → ⊥) →
    (option_map_or channels_in drag [] ≡ []) ⊎ ((fields_on click ≡ None) × (fields_on toggle ≡ None))
apart_by None click toggle p q = inl refl
apart_by (Some xs) None None p q = inr (refl, refl)
apart_by (Some xs) None (Some ys) p q = absurd (q xs ys refl refl)
apart_by (Some xs) (Some ys) toggle p q = absurd (p xs ys refl refl)

not_false : (b : Bool) → not b ≡ false → b ≡ true
not_false true e = refl
not_false false e = absurd cc

-- such updates make a selection that keeps the rules
pub selection_kept : (marks : MarkNames) (s : Signal) (es : List EventUpdate) → AreUpdates [] es → IsSelection (selection_of marks s es)
selection_kept marks s es a = record {
  alike = alike_by (texts_with on.ShiftClick es) (texts_with on.Click es)
      (λ xs ys click toggle. not_false (same_fields xs ys)
      (no_clash es a on.Click on.ShiftClick xs ys click toggle (λ e. let f : 0 ≡ 1 = e in omega (arith, f))));
  apart = apart_by (texts_with on.Drag es) (texts_with on.Click es) (texts_with on.ShiftClick es)
      (λ xs ys drag click. let e : true ≡ false = no_clash es a on.Drag on.Click xs ys drag click (λ e. let f : 3 ≡ 0 = e in omega (arith, f)) in cc)
      (λ xs ys drag toggle. let e : true ≡ false = no_clash es a on.Drag on.ShiftClick xs ys drag toggle (λ e. let f : 3 ≡ 1 = e in omega (arith, f)) in cc);
}
