-- Why names of parameters differ.
use Rattle.std.proofs.Common.{◌≡◌, ◌≢◌, inl, inr, ⊎_elim, ℕ, suc, ◌+◌, ◌<◌, ◌==◌, Bool, true, false, cond, Option, Some, None, List, [], ◌∷◌, ◌++◌}
use Rattle.std.proofs.Common.{map, length, nat_lt, All, AllPairs, refl, sym, ap, ◌∙◌, arith, append_assoc}
use Rattle.std.specs.List.{position_from, enumerate_from}
use Rattle.std.specs.Option.{option_map, option_map_or, option_or, option_to_list}
use Rattle.std.specs.Str.{bytes_eq}
use Rattle.std.proofs.lemmas.Bool.Decides.{nat_tests}
use Rattle.std.proofs.lemmas.List.{length-append}
use Rattle.std.proofs.lemmas.List.Elements.{All-nil, All-cons, All-head, All-tail}
use Rattle.std.proofs.lemmas.List.Kept.{AllPairs-cons}
use Rattle.std.proofs.lemmas.Slice.Eq.{bytes_eq-Decides}
use Rattle.vl_spec.specs.declared.params.ParamOf.{ParamOf}
use Rattle.vl_names.specs.declared.params.Breaking.{Breaking}
use Rattle.vl_names.specs.Circles.{needs_among, breaks_circle}
use Rattle.vl_names.specs.Known.{param_named, known_among, view_names, first_named}
use Rattle.vl_names.specs.Names.{twice_given}
use Rattle.vl_names.specs.Params.{first_some, first_breaking, breaking, breaks_name, has_earlier, wrong_inside, first_param_fault, breaks_known, breaks_views}
use Rattle.vl_names.specs.Unknown.{unknown_in_views}
use Rattle.vl_names.specs.Views.{views_of}
use Rattle.compiled_rows.specs.Values.{name_of}
use Rattle.compiled_rows.specs.Given.{NamesOfParamsDiffer}
use Rattle.compiled_rows.proofs.PartLemmas.{by_cases}
use Rattle.compiled_rows.proofs.RisingLemmas.{Has, Rises, has_left, has_right}
use Rattle.compiled_rows.proofs.ChoiceLemmas.{Other}

none_left : {X : Type 0} (xs ys : List X) → xs ++ ys ≡ [] → xs ≡ []
none_left [] ys e = refl
none_left (x ∷ xs) ys e = absurd (cc)

none_right : {X : Type 0} (xs ys : List X) → xs ++ ys ≡ [] → ys ≡ []
none_right [] ys e = e
none_right (x ∷ xs) ys e = absurd (cc)

none_found : {A B : Type 0} (f : A → B) (o : Option A) → option_to_list (option_map f o) ≡ [] → o ≡ None
none_found f None e = refl
none_found f (Some a) e = absurd (cc)

neither : {A : Type 0} (o p : Option A) → option_or o p ≡ None → (o ≡ None) × (p ≡ None)
neither None p e = (refl, e)
neither (Some a) p e = absurd (cc)

nothing_mapped : {A B : Type 0} (f : A → B) (o : Option A) → option_map f o ≡ None → o ≡ None
nothing_mapped f None e = refl
nothing_mapped f (Some a) e = absurd (cc)

not_so : {A : Type 0} (b : Bool) (a : A) → cond b (Some a) None ≡ None → b ≡ false
not_so true a e = absurd (cc)
not_so false a e = refl

less : (a b : ℕ) → a < b → nat_lt a b ≡ true
less a b h = grind (arith, nat_tests)

never : (b : Bool) → b ≡ true → b ≡ false → ⊥
never true e h = cc
never false e h = cc

over_none : (n : ℕ) → (suc n == 0) ≡ false
over_none n = grind (arith, nat_tests)

not_empty : (name : List ℕ) → name ≢ [] → (length name == 0) ≡ false
not_empty [] h = absurd (h refl)
not_empty (c ∷ name) h = over_none (length name)

-- an element before others is found no later
found_before : (t : List ℕ → Bool) (n : ℕ) (before rest : List (List ℕ)) (x : List ℕ) → Has before x → t x ≡ true
    → (f : ℕ) × (position_from t n (before ++ rest) ≡ Some f) × (f < n + length before)
found_before t n [] rest x h e = absurd h
found_before t n (y ∷ before) rest x h e =
    by_cases (t y)
    (λ is. (n, ap (λ b. cond b (Some n) (position_from t (n + 1) (before ++ rest))) is, here))
    (λ other. let (f, is, low) = found_before t (n + 1) before rest x (⊎_elim (λ same. absurd (never (t y) (ap t same ∙ e) other)) (λ k. k) h) e in
    let within : f < n + suc (length before) = omega (arith, low) in
    (f, ap (λ b. cond b (Some n) (position_from t (n + 1) (before ++ rest))) other ∙ is, within))
  where
    here : n < n + suc (length before)
    here = omega arith

module _ (whole : List ParamOf) where
  abbrev breaks : ℕ × ParamOf → Option Breaking
  breaks param = option_map (breaking param.0) (breaks_name (param_named whole) param)

  -- the first name of a parameter is that of none before it
  earlier : (before rest : List (List ℕ)) (p : ParamOf) (x : List ℕ) → before ++ rest ≡ map (λ (q : ParamOf). q.name) whole → p.name ≢ []
      → has_earlier (param_named whole) (length before, p) ≡ false → Has before x → x ≡ p.name → ⊥
  earlier before rest p x all full e there is =
      let (f, found, low) = found_before (bytes_eq p.name) 0 before rest x there ((bytes_eq-Decides p.name x).1 (sym is)) in
      let under : f < length before = omega (arith, low) in
      let named : param_named whole p.name ≡ Some f =
      ap (λ b. cond b None (first_named (map (λ (q : ParamOf). q.name) whole) p.name)) (not_empty p.name full)
      ∙ ap (λ names. position_from (bytes_eq p.name) 0 names) (sym all) ∙ found in
      never (nat_lt f (length before)) (less f (length before) under) (sym (ap (λ o. option_map_or (λ first. nat_lt first (length before)) o false) named) ∙ e)

  apart : (before : List (List ℕ)) (params : List ParamOf) → before ++ map (λ (q : ParamOf). q.name) params ≡ map (λ (q : ParamOf). q.name) whole
      → All (λ (p : ParamOf). p.name ≢ []) params → first_some breaks (enumerate_from (length before) params) ≡ None
      → Rises Other (map name_of params) × ((x z : List ℕ) → Has before x → Has (map name_of params) z → x ≢ z)
  apart before [] all full e = (tt, λ x z h k. absurd k)
  apart before (p ∷ params) all full e =
      let both = neither (breaks (length before, p)) (first_some breaks (enumerate_from (length before + 1) params)) e in
      let none : has_earlier (param_named whole) (length before, p) ≡ false =
      not_so (has_earlier (param_named whole) (length before, p)) _
      (nothing_mapped (breaking (length before)) (breaks_name (param_named whole) (length before, p)) both.0) in
      let others = apart (before ++ p.name ∷ []) params (append_assoc before (p.name ∷ []) (map (λ (q : ParamOf). q.name) params) ∙ all)
      (All-tail (λ (q : ParamOf). q.name ≢ []) p params full)
      (ap (λ n. first_some breaks (enumerate_from n params)) (length-append before (p.name ∷ [])) ∙ both.1) in (
        ((λ z there. others.1 p.name z (has_right before (p.name ∷ []) p.name (inl refl)) there), others.0),
        λ x z there k is. ⊎_elim
            (λ same. earlier before (p.name ∷ map (λ (q : ParamOf). q.name) params) p x all (All-head (λ (q : ParamOf). q.name ≢ []) p params full) none there
            (is ∙ sym same))
            (λ later. others.1 x z (has_left before (p.name ∷ []) x there) later is) k,
      )

all_there : {X : Type 0} (P : X → Type 0) (xs : List X) → ((z : X) → Has xs z → P z) → All P xs
all_there P [] h = All-nil P
all_there P (x ∷ xs) h = All-cons P x xs (h x (inl refl)) (all_there P xs (λ z there. h z (inr there)))

no_pair : {X : Type 0} (R : X → X → Type 0) → AllPairs R []
no_pair R = λ i j d below within. absurd (omega (arith, within))

pairs_apart : {X : Type 0} (xs : List X) → Rises Other xs → AllPairs (λ a b. a ≢ b) xs
pairs_apart [] h = no_pair (λ a b. a ≢ b)
pairs_apart (x ∷ xs) h = AllPairs-cons (λ a b. a ≢ b) x xs (all_there (λ z. x ≢ z) xs h.0) (pairs_apart xs h.1)

pub names_of_params_differ : NamesOfParamsDiffer
names_of_params_differ tree s e full =
    let views = views_of s in
    let named = param_named s.params in
    let known = known_among s.params in
    let viewed = first_named (view_names views) in
    let names = first_param_fault views (breaks_name named) s.params in
    let unknown = first_param_fault views (breaks_known known) s.params in
    let unviewed = first_param_fault views (breaks_views viewed) s.params in
    let circles = first_param_fault views (breaks_circle (needs_among named s.params)) s.params in
    let params : names ++ unknown ++ unviewed ++ circles ≡ [] =
    none_right (twice_given tree views) (names ++ unknown ++ unviewed ++ circles)
    (none_left (twice_given tree views ++ (names ++ unknown ++ unviewed ++ circles)) (unknown_in_views known views) e) in
    let twice : names ≡ [] = none_left names unknown (none_left (names ++ unknown) unviewed (none_left (names ++ unknown ++ unviewed) circles params)) in
    pairs_apart (map name_of s.params)
    (apart s.params [] s.params refl full
    (none_found (wrong_inside views) (first_breaking (breaks_name named) (enumerate_from 0 s.params)) twice)).0
