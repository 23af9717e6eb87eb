-- A walk over views finds the first units.
use Rattle.std.proofs.Common.{◌≡◌, ℕ, ◌+◌, ◌<◌, ◌≤◌, true, false, Option, List, [], ◌∷◌, ◌++◌, map, cond, drop, get_or, length, take, sym}
use Rattle.std.proofs.Common.{ap, ◌∙◌, arith, add-zero}
use Rattle.std.specs.Prelude.{filter}
use Rattle.std.proofs.lemmas.List.{append_assoc, append-nil, drop_all, drop_more, length-append, map-append}
use Rattle.std.proofs.lemmas.List.Elements.{filter-append}
use Rattle.vl_spec.specs.declared.marks.Mark.{Mark}
use Rattle.vl_spec.specs.declared.views.View.{View}
use Rattle.vl_compose.specs.Rounds.{Round, in_order, rounds_in}
use Rattle.vl_compose.specs.Units.{ends_in_unit, mark_of, channels_at}
use Rattle.vl_rules.specs.Leads.{trail_of}
use Rattle.vl_rules.specs.Marked.{MarkedAt, marked_at, marked_among}
use Rattle.vl_rules.specs.inner.Found.{FoundAt, most_found, and_met, with_unit, after}
use Rattle.vl_rules.specs.inner.Shown.{marked_with}
use Rattle.vl_rules.proofs.FrontLemmas.{take_again, take_before}

-- ---- units one after the other

among_parts : (a b : List Round) → marked_among (a ++ b) ≡ marked_among a ++ marked_among b
among_parts a b = ap (map marked_at) (filter-append ends_in_unit a b) ∙ map-append marked_at (filter ends_in_unit a) (filter ends_in_unit b)

-- some views, and then others
pub after_both : (f : FoundAt) (a b : List Round) → after (after f a) b ≡ after f (a ++ b)
after_both f a b =
    let both : length (a ++ b) ≡ length a + length b = length-append a b in
    let counts : (f.count + length a) + length b ≡ f.count + length (a ++ b) = omega arith in
    let units : take most_found (take most_found (f.units ++ marked_among a) ++ marked_among b) ≡ take most_found (f.units ++ marked_among (a ++ b)) =
    take_before most_found (f.units ++ marked_among a) (marked_among b)
    ∙ ap (take most_found) (append_assoc f.units (marked_among a) (marked_among b) ∙ ap (λ us. f.units ++ us) (sym (among_parts a b))) in
    λ i. record { count = counts i; units = units i }

-- no more, where no more than enough are there
pub after_none : (f : FoundAt) → take most_found f.units ≡ f.units → after f [] ≡ f
after_none f few = λ i. record { count = add-zero f.count i; units = (ap (take most_found) (append-nil f.units) ∙ few) i }

-- a unit
pub after_unit : (f : FoundAt) (mark : Option Mark) (round : Round) → ends_in_unit round ≡ true → mark_of round ≡ mark →
    with_unit f mark round ≡ after f (round ∷ [])
after_unit f mark round ends marked =
    let counts : f.count + 1 ≡ f.count + length (round ∷ []) = omega arith in
    let one : marked_with mark round ∷ [] ≡ marked_among (round ∷ []) =
    ap (λ (m : Option Mark). record { round = round; trail = trail_of round; mark = m; channels = channels_at round } ∷ []) (sym marked)
    ∙ ap (λ t. map marked_at (cond t (round ∷ []) [])) (sym ends) in
    λ i. record { count = counts i; units = take most_found (f.units ++ one i) }

-- a view that is no unit, and then others
pub after_outer : (f : FoundAt) (round : Round) (others : List Round) → ends_in_unit round ≡ false → after (and_met f) others ≡ after f (round ∷ others)
after_outer f round others ends =
    let counts : (f.count + 1) + length others ≡ f.count + length (round ∷ others) = omega arith in
    let units : marked_among others ≡ marked_among (round ∷ others) =
    ap (λ t. map marked_at (cond t (round ∷ filter ends_in_unit others) (filter ends_in_unit others))) (sym ends) in
    λ i. record { count = counts i; units = take most_found (f.units ++ units i) }

-- ---- views in the same view

-- what is left of some views, the first of them with this number
abbrev pub left : List View → Round → ℕ → FoundAt → FoundAt
left views outer child f = after f (in_order (map rounds_in views) outer child f.count)

-- one more
pub one_more : (views : List View) (outer : Round) (n : ℕ) (view : View) (f g whole : FoundAt) → n < length views → view ≡ get_or views n view →
    g ≡ after f (rounds_in view outer n f.count) → left (drop n views) outer n f ≡ whole → left (drop (n + 1) views) outer (n + 1) g ≡ whole
one_more views outer n view f g whole within is found so_far =
    let item : View = get_or views n view in
    let first : List Round = rounds_in item outer n f.count in
    let rest : ℕ → List Round = λ k. in_order (map rounds_in (drop (n + 1) views)) outer (n + 1) k in
    ap (λ (x : FoundAt). after x (rest x.count)) (found ∙ ap (λ v. after f (rounds_in v outer n f.count)) is)
    ∙ after_both f first (rest (f.count + length first))
    ∙ ap (λ vs. after f (in_order (map rounds_in vs) outer n f.count)) (sym (drop_more views n view within))
    ∙ so_far

-- none is left
pub all_done : (views : List View) (outer : Round) (n : ℕ) (f whole : FoundAt) → take most_found f.units ≡ f.units → length views ≤ n →
    left (drop n views) outer n f ≡ whole → f ≡ whole
all_done views outer n f whole few over so_far =
    sym (after_none f few) ∙ ap (λ vs. left vs outer n f) (sym (drop_all n views over)) ∙ so_far

-- a view that stands alone in another
pub alone : (view : View) (outer : Round) (f : FoundAt) → after f (rounds_in view outer 0 f.count) ≡ after f (in_order (rounds_in view ∷ []) outer 0 f.count)
alone view outer f = ap (after f) (sym (append-nil (rounds_in view outer 0 f.count)))

-- what is shown of what was found is cut already
pub cut : (units : List MarkedAt) → take most_found (take most_found units) ≡ take most_found units
cut units = take_again most_found units
