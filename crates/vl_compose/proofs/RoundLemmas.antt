-- What stands round a unit, view by view.
use Rattle.std.proofs.Common.{◌≡◌, ℕ, ◌+◌, ◌<◌, Bool, true, false, Option, Some, None, List, [], ◌∷◌, ◌++◌, cond, drop, get_or, length}
use Rattle.std.proofs.Common.{unwrap_or, refl, sym, ap, ◌∙◌}
use Rattle.std.specs.Option.{option_or}
use Rattle.std.specs.List.{cons_option, filter_map, last_or}
use Rattle.std.proofs.lemmas.List.{append_assoc}
use Rattle.vl_spec.specs.declared.transforms.Transform.{Transform}
use Rattle.vl_compose.specs.declared.here.ViewHere.{ViewHere}
use Rattle.vl_compose.specs.Rounds.{KindAt, ViewAt, Round}
use Rattle.vl_compose.specs.Shown.{round_shown, view_shown}
use Rattle.vl_compose.specs.Views.{is_faceted, facets_of, path_from, step_of, transforms_of}
use Rattle.vl_compose.proofs.BehindLemmas.{next_shown}

-- ---- the innermost source

either : (own outer : Option (List ℕ)) (names : List (List ℕ)) → last_or outer (cons_option own names) ≡ last_or (option_or own outer) names
either None outer names = refl
either (Some name) outer names = refl

-- the source where views behind may name another
abbrev pub source_from : Option (List ℕ) → Round → Option (List ℕ)
source_from source round = last_or source (filter_map (λ (v : ViewAt). v.data_) round)

pub source_more : (round : List ViewHere) (n : ℕ) (here : ViewHere) (old new whole : Option (List ℕ)) → n < length round → here ≡ get_or round n here →
    new ≡ option_or (view_shown here).data_ old → source_from old (drop n (round_shown round)) ≡ whole →
    source_from new (drop (n + 1) (round_shown round)) ≡ whole
source_more round n here old new whole within is added so_far =
    ap (λ o. source_from o (drop (n + 1) (round_shown round))) added
    ∙ sym (either (view_shown here).data_ old (filter_map (λ (v : ViewAt). v.data_) (drop (n + 1) (round_shown round))))
    ∙ ap (source_from old) (sym (next_shown round n here within is))
    ∙ so_far

-- ---- lists that views add to

-- one more view adds its own part
parts_more : {A : Type 0} (part : ViewAt → List A) (all : Round → List A) → ((v : ViewAt) (others : Round) → all (v ∷ others) ≡ part v ++ all others) →
    (round : List ViewHere) (n : ℕ) (here : ViewHere) (old new whole : List A) → n < length round → here ≡ get_or round n here →
    new ≡ old ++ part (view_shown here) → old ++ all (drop n (round_shown round)) ≡ whole → new ++ all (drop (n + 1) (round_shown round)) ≡ whole
parts_more part all opens round n here old new whole within is added so_far =
    ap (λ xs. xs ++ all (drop (n + 1) (round_shown round))) added
    ∙ append_assoc old (part (view_shown here)) (all (drop (n + 1) (round_shown round)))
    ∙ ap (λ xs. old ++ xs) (sym (opens (view_shown here) (drop (n + 1) (round_shown round))))
    ∙ ap (λ vs. old ++ all vs) (sym (next_shown round n here within is))
    ∙ so_far

pub transforms_more : (round : List ViewHere) (n : ℕ) (here : ViewHere) (old new whole : List Transform) → n < length round → here ≡ get_or round n here →
    new ≡ old ++ unwrap_or (view_shown here).transform [] → old ++ transforms_of (drop n (round_shown round)) ≡ whole →
    new ++ transforms_of (drop (n + 1) (round_shown round)) ≡ whole
transforms_more = parts_more (λ (v : ViewAt). unwrap_or v.transform []) transforms_of (λ v others. refl)

one_or_none : (t : Bool) (v : ViewAt) (others : Round) → cond t (v ∷ others) others ≡ cond t (v ∷ []) [] ++ others
one_or_none true v others = refl
one_or_none false v others = refl

pub facets_more : (round : List ViewHere) (n : ℕ) (here : ViewHere) (old new whole : Round) → n < length round → here ≡ get_or round n here →
    new ≡ old ++ cond (is_faceted (view_shown here).kind) (view_shown here ∷ []) [] → old ++ facets_of (drop n (round_shown round)) ≡ whole →
    new ++ facets_of (drop (n + 1) (round_shown round)) ≡ whole
facets_more = parts_more (λ (v : ViewAt). cond (is_faceted v.kind) (v ∷ []) []) facets_of (λ v others. one_or_none (is_faceted v.kind) v (facets_of others))

-- ---- paths

pub path_more : (inside : List ViewHere) (n : ℕ) (here : ViewHere) (outer : KindAt) (old new whole : List ℕ) → n < length inside → here ≡ get_or inside n here →
    new ≡ old ++ step_of outer here.child → old ++ path_from outer (drop n (round_shown inside)) ≡ whole →
    new ++ path_from (view_shown here).kind (drop (n + 1) (round_shown inside)) ≡ whole
path_more inside n here outer old new whole within is added so_far =
    ap (λ xs. xs ++ path_from (view_shown here).kind (drop (n + 1) (round_shown inside))) added
    ∙ append_assoc old (step_of outer here.child) (path_from (view_shown here).kind (drop (n + 1) (round_shown inside)))
    ∙ ap (λ vs. old ++ path_from outer vs) (sym (next_shown inside n here within is))
    ∙ so_far
