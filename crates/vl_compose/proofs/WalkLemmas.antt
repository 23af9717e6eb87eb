-- A walk over views finds all units.
use Rattle.std.proofs.Common.{◌≡◌, ℕ, ◌+◌, ◌<◌, ◌≤◌, true, false, Option, List, [], ◌∷◌, ◌++◌, map, cond, drop, get_or, length, sym, ap, ◌∙◌, arith, add-zero}
use Rattle.std.specs.Prelude.{filter}
use Rattle.std.specs.List.{enumerate_from}
use Rattle.std.proofs.lemmas.List.{append_assoc, append-nil, drop_all, drop_more, length-append, length-map, map-append}
use Rattle.std.proofs.lemmas.List.Elements.{filter-append}
use Rattle.std.proofs.lemmas.List.FromFn.{length-enumerate_from}
use Rattle.vl_spec.specs.declared.marks.Mark.{Mark}
use Rattle.vl_spec.specs.declared.views.View.{View}
use Rattle.vl_normalize.specs.Marks.{used}
use Rattle.vl_compose.specs.Rounds.{Round, in_order, rounds_in}
use Rattle.vl_compose.specs.Units.{UnitAt, unit_at, units_among, ends_in_unit, mark_of, channels_at}
use Rattle.vl_compose.specs.inner.Found.{FoundAt, counted, with_unit, after}

-- ---- units one after the other

numbered_parts : {X : Type 0} (n : ℕ) (xs ys : List X) → enumerate_from n (xs ++ ys) ≡ enumerate_from n xs ++ enumerate_from (n + length xs) ys
numbered_parts n [] ys = ap (λ k. enumerate_from k ys) (sym (add-zero n))
numbered_parts n (x ∷ xs) ys =
    let on : (n + 1) + length xs ≡ n + length (x ∷ xs) = omega arith in
    (λ i. (n, x) ∷ numbered_parts (n + 1) xs ys i) ∙ ap (λ k. (n, x) ∷ enumerate_from (n + 1) xs ++ enumerate_from k ys) on

one_unit : ℕ × Round → UnitAt
one_unit n = unit_at n.0 n.1

how_many : (n : ℕ) (rounds : List Round) → length (units_among n rounds) ≡ length (filter ends_in_unit rounds)
how_many n rounds =
    length-map (enumerate_from n (filter ends_in_unit rounds)) (λ (m : ℕ × Round). unit_at m.0 m.1) ∙ length-enumerate_from n (filter ends_in_unit rounds)

units_parts : (n : ℕ) (a b : List Round) → units_among n (a ++ b) ≡ units_among n a ++ units_among (n + length (units_among n a)) b
units_parts n a b =
    ap (λ rs. map (λ (m : ℕ × Round). unit_at m.0 m.1) (enumerate_from n rs)) (filter-append ends_in_unit a b)
    ∙ ap (map (λ (m : ℕ × Round). unit_at m.0 m.1)) (numbered_parts n (filter ends_in_unit a) (filter ends_in_unit b))
    ∙ map-append (λ (m : ℕ × Round). unit_at m.0 m.1) (enumerate_from n (filter ends_in_unit a))
    (enumerate_from (n + length (filter ends_in_unit a)) (filter ends_in_unit b))
    ∙ ap (λ k. units_among n a ++ units_among (n + k) b) (sym (how_many n a))

-- ---- what is found

-- some views, and then others
pub after_both : (f : FoundAt) (a b : List Round) → after (after f a) b ≡ after f (a ++ b)
after_both f a b =
    let both : length (a ++ b) ≡ length a + length b = length-append a b in
    let counts : (f.count + length a) + length b ≡ f.count + length (a ++ b) = omega arith in
    let units : (f.units ++ units_among (length f.units) a) ++ units_among (length (f.units ++ units_among (length f.units) a)) b
    ≡ f.units ++ units_among (length f.units) (a ++ b) =
    append_assoc f.units (units_among (length f.units) a) (units_among (length (f.units ++ units_among (length f.units) a)) b)
    ∙ ap (λ k. f.units ++ (units_among (length f.units) a ++ units_among k b)) (length-append f.units (units_among (length f.units) a))
    ∙ ap (λ us. f.units ++ us) (sym (units_parts (length f.units) a b)) in
    λ i. record { count = counts i; units = units i }

pub after_none : (f : FoundAt) → after f [] ≡ f
after_none f = λ i. record { count = add-zero f.count i; units = append-nil f.units i }

-- a unit
pub after_unit : (f : FoundAt) (mark : Option Mark) (round : Round) → ends_in_unit round ≡ true → mark_of round ≡ mark →
    with_unit f mark round ≡ after f (round ∷ [])
after_unit f mark round ends marked =
    let counts : f.count + 1 ≡ f.count + length (round ∷ []) = omega arith in
    let units : f.units ++ record { number = length f.units; round = round; mark = mark; channels = used mark (channels_at round) } ∷ []
    ≡ f.units ++ units_among (length f.units) (round ∷ []) =
    ap (λ (m : Option Mark). f.units ++ record { number = length f.units; round = round; mark = m; channels = used m (channels_at round) } ∷ []) (sym marked)
    ∙ ap (λ t. f.units ++ map (λ (m : ℕ × Round). unit_at m.0 m.1) (enumerate_from (length f.units) (cond t (round ∷ []) []))) (sym ends) in
    λ i. record { count = counts i; units = units i }

-- a view that is no unit, and then others
pub after_outer : (f : FoundAt) (round : Round) (others : List Round) → ends_in_unit round ≡ false → after (counted f) others ≡ after f (round ∷ others)
after_outer f round others ends =
    let counts : (f.count + 1) + length others ≡ f.count + length (round ∷ others) = omega arith in
    let units : f.units ++ units_among (length f.units) others ≡ f.units ++ units_among (length f.units) (round ∷ others) =
    ap (λ t. f.units ++ map (λ (m : ℕ × Round). unit_at m.0 m.1)
    (enumerate_from (length f.units) (cond t (round ∷ filter ends_in_unit others) (filter ends_in_unit others)))) (sym ends) in
    λ i. record { count = counts i; units = units i }

-- ---- views in the same view

-- what is left of some views, the first of them with this number
abbrev pub left : List View → Round → ℕ → FoundAt → FoundAt
left views outer child f = after f (in_order (map rounds_in views) outer child f.count)

-- one more
pub one_more : (views : List View) (outer : Round) (n : ℕ) (view : View) (f g whole : FoundAt) → n < length views → view ≡ get_or views n view →
    g ≡ after f (rounds_in view outer n f.count) → left (drop n views) outer n f ≡ whole → left (drop (n + 1) views) outer (n + 1) g ≡ whole
one_more views outer n view f g whole within is found so_far =
    let item : View = get_or views n view in
    let first : List Round = rounds_in item outer n f.count in
    let rest : ℕ → List Round = λ k. in_order (map rounds_in (drop (n + 1) views)) outer (n + 1) k in
    ap (λ (x : FoundAt). after x (rest x.count)) (found ∙ ap (λ v. after f (rounds_in v outer n f.count)) is)
    ∙ after_both f first (rest (f.count + length first))
    ∙ ap (λ vs. after f (in_order (map rounds_in vs) outer n f.count)) (sym (drop_more views n view within))
    ∙ so_far

-- none is left
pub all_done : (views : List View) (outer : Round) (n : ℕ) (f whole : FoundAt) → length views ≤ n → left (drop n views) outer n f ≡ whole → f ≡ whole
all_done views outer n f whole over so_far =
    sym (after_none f) ∙ ap (λ vs. left vs outer n f) (sym (drop_all n views over)) ∙ so_far

-- a view that stands alone in another
pub alone : (view : View) (outer : Round) (f : FoundAt) → after f (rounds_in view outer 0 f.count) ≡ after f (in_order (rounds_in view ∷ []) outer 0 f.count)
alone view outer f = ap (after f) (sym (append-nil (rounds_in view outer 0 f.count)))
