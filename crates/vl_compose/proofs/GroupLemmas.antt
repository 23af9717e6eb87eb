-- Rows of numbers by homes, and groups out of them.
use Rattle.std.proofs.Common.{◌≡◌, ℕ, zero, suc, ◌+◌, ◌<◌, Bool, true, false, List, [], ◌∷◌, ◌++◌, map, cond, drop, eqb, get_or, length}
use Rattle.std.proofs.Common.{take, refl, sym, ap, ◌∙◌, arith}
use Rattle.std.specs.Prelude.{filter, slice_set}
use Rattle.std.proofs.lemmas.Bool.{eqb-true, eqb-false}
use Rattle.std.proofs.lemmas.List.{append-nil, append_assoc, drop_more, get_or-set_same, get_or-set_other, map-append, take_more}
use Rattle.std.proofs.lemmas.List.Elements.{filter-append}
use Rattle.vl_compose.specs.declared.groups.Homed.{Homed}
use Rattle.vl_compose.specs.declared.views.SharedScale.{SharedScale}
use Rattle.vl_compose.specs.Sharing.{sharing_at, is_first, leads, group_at}
use Rattle.vl_compose.specs.inner.Rows.{row_at}

-- ---- rows

row_got : (rows : List (List ℕ)) (h : ℕ) → row_at rows h ≡ get_or rows h []
row_got [] h = refl
row_got (r ∷ rs) zero = refl
row_got (r ∷ rs) (suc h) = row_got rs h

got : (rows : List (List ℕ)) (home : ℕ) (d : List ℕ) → home < length rows → get_or rows home d ≡ row_at rows home
got [] home d within = absurd (omega arith)
got (r ∷ rs) zero d within = refl
got (r ∷ rs) (suc n) d within = got rs n d (omega arith)

-- one more empty row
pub row_behind : (rows : List (List ℕ)) (h : ℕ) → row_at (rows ++ [] ∷ []) h ≡ row_at rows h
row_behind [] zero = refl
row_behind [] (suc h) = refl
row_behind (r ∷ rs) zero = refl
row_behind (r ∷ rs) (suc h) = row_behind rs h

-- one more number in a row
pub row_with : (rows : List (List ℕ)) (home number h : ℕ) (d : List ℕ) → home < length rows →
    row_at (slice_set rows home (get_or rows home d ++ number ∷ [])) h ≡ (cond (eqb home h) (row_at rows h ++ number ∷ []) (row_at rows h))
row_with rows home number h d within = by (eqb home h) refl
  where
    by : (t : Bool) → eqb home h ≡ t →
        row_at (slice_set rows home (get_or rows home d ++ number ∷ [])) h ≡ cond t (row_at rows h ++ number ∷ []) (row_at rows h)
    by true e =
        ap (row_at (slice_set rows home (get_or rows home d ++ number ∷ []))) (sym (eqb-true home h e))
        ∙ row_got (slice_set rows home (get_or rows home d ++ number ∷ [])) home
        ∙ get_or-set_same rows home (get_or rows home d ++ number ∷ []) [] within
        ∙ ap (λ row. row ++ number ∷ []) (got rows home d within)
        ∙ ap (λ k. row_at rows k ++ number ∷ []) (eqb-true home h e)
    by false e =
        row_got (slice_set rows home (get_or rows home d ++ number ∷ [])) h
        ∙ get_or-set_other rows home h (get_or rows home d ++ number ∷ []) [] (λ same. eqb-false home h e (sym same))
        ∙ sym (row_got rows h)

sharing_parts : (xs ys : List Homed) (h : ℕ) → sharing_at (xs ++ ys) h ≡ sharing_at xs h ++ sharing_at ys h
sharing_parts xs ys h =
    ap (map (λ (x : Homed). x.number)) (filter-append (λ (x : Homed). eqb x.home h) xs ys)
    ∙ map-append (λ (x : Homed). x.number) (filter (λ (x : Homed). eqb x.home h) xs) (filter (λ (x : Homed). eqb x.home h) ys)

one_or_none : (t : Bool) (row : List ℕ) (x : Homed) → row ++ map (λ (x : Homed). x.number) (cond t (x ∷ []) []) ≡ cond t (row ++ x.number ∷ []) row
one_or_none true row x = refl
one_or_none false row x = append-nil row

-- one more unit
sharing_more : (xs : List Homed) (x : Homed) (h : ℕ) →
    sharing_at (xs ++ x ∷ []) h ≡ cond (eqb x.home h) (sharing_at xs h ++ x.number ∷ []) (sharing_at xs h)
sharing_more xs x h = sharing_parts xs (x ∷ []) h ∙ one_or_none (eqb x.home h) (sharing_at xs h) x

-- the rows after one more unit
pub rows_more : (all : List Homed) (n : ℕ) (x : Homed) (rows grown new : List (List ℕ)) → n < length all → x ≡ get_or all n x →
    ((h : ℕ) → row_at grown h ≡ row_at rows h) →
    ((h : ℕ) → row_at new h ≡ cond (eqb x.home h) (row_at grown h ++ x.number ∷ []) (row_at grown h)) →
    ((h : ℕ) → row_at rows h ≡ sharing_at (take n all) h) → (h : ℕ) → row_at new h ≡ sharing_at (take (n + 1) all) h
rows_more all n x rows grown new within is same put so_far h =
    put h
    ∙ (λ i. cond (eqb x.home h) ((same h ∙ so_far h) i ++ x.number ∷ []) ((same h ∙ so_far h) i))
    ∙ sym (sharing_more (take n all) x h)
    ∙ ap (λ (y : Homed). sharing_at (take n all ++ y ∷ []) h) is
    ∙ ap (λ hs. sharing_at hs h) (sym (take_more all n x within))

-- a row that is looked up
pub row_is : (rows slice : List (List ℕ)) (home : ℕ) (row : List ℕ) (all : List Homed) → row ≡ row_at slice home → slice ≡ rows →
    ((h : ℕ) → row_at rows h ≡ sharing_at all h) → row ≡ sharing_at all home
row_is rows slice home row all found same told = found ∙ ap (λ rs. row_at rs home) same ∙ told home

-- ---- groups

-- what is left of the groups
abbrev pub groups_left : ℕ → List Homed → List Homed → List SharedScale
groups_left code all left = map (group_at code all) (filter (leads all) left)

led : (t : Bool) (code : ℕ) (all : List Homed) (x : Homed) (left : List Homed) →
    map (group_at code all) (cond t (x ∷ left) left) ≡ cond t (group_at code all x ∷ []) [] ++ map (group_at code all) left
led true code all x left = refl
led false code all x left = refl

pub one_group : (code : ℕ) (all : List Homed) (n : ℕ) (x : Homed) (row : List ℕ) (old new whole : List SharedScale) → n < length all → x ≡ get_or all n x →
    row ≡ sharing_at all x.home → new ≡ old ++ cond (is_first x.number row) (record { channel = code; units = row } ∷ []) [] →
    old ++ groups_left code all (drop n all) ≡ whole → new ++ groups_left code all (drop (n + 1) all) ≡ whole
one_group code all n x row old new whole within is row_is added so_far =
    ap (λ gs. gs ++ groups_left code all (drop (n + 1) all))
    (added ∙ ap (λ row. old ++ cond (is_first x.number row) (record { channel = code; units = row } ∷ []) []) row_is)
    ∙ append_assoc old (cond (leads all x) (group_at code all x ∷ []) []) (groups_left code all (drop (n + 1) all))
    ∙ ap (λ gs. old ++ gs) (sym (led (leads all x) code all x (filter (leads all) (drop (n + 1) all))))
    ∙ ap (λ (y : Homed). old ++ groups_left code all (y ∷ drop (n + 1) all)) is
    ∙ ap (λ hs. old ++ groups_left code all hs) (sym (drop_more all n x within))
    ∙ so_far
