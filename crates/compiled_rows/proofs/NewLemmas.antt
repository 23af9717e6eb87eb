-- Names that are made differ from those for which their stem was chosen: they look like made ones, or they are longer.
use Rattle.std.proofs.Common.{◌≡◌, refl, sym, ap, ◌∙◌, ℕ, zero, suc, ◌<◌, ◌≤◌, ◌≢◌, Bool, true, false, ◌&&◌, ◌/◌, ◌%◌, ◌==◌, List, [], ◌∷◌, ◌++◌, length, All}
use Rattle.std.proofs.Common.{if◌then◌else◌, arith, codes, decimal, get_or, true≢false, length-append, lit<, le_refl, fold}
use Rattle.std.specs.List.{list_any, list_all}
use Rattle.std.specs.Fmt.{digit_glyph, digits, digits_onto}
use Rattle.std.proofs.lemmas.Bool.Decides.{nat_tests}
use Rattle.std.proofs.lemmas.List.{length-replicate}
use Rattle.std.proofs.lemmas.List.Folds.{list_any_at}
use Rattle.vega_assemble.specs.Names.{words, is_tail, looks_like, looks_made, longer, longest, underscores}
use Rattle.compiled_rows.specs.Names.{MadeName, NoneName, UnitName, BegunName, CellsName, RanksName, CodesName, OuterName, OrdersName, KeysName, CellColumn}
use Rattle.compiled_rows.specs.Names.{RankColumn, KeyColumn, MarkName, made_name, MadeNamesAreNew}
use Rattle.compiled_rows.proofs.NameLemmas.{one, two, stem_first}

-- ---- what stands behind words

tail_glyph : (d : ℕ) → d < 10 → is_tail (digit_glyph false d) ≡ true
tail_glyph d h = grind (arith, nat_tests)

tails_onto : (k n : ℕ) (acc : List ℕ) → list_all is_tail acc ≡ true → list_all is_tail (digits_onto k 10 false n acc) ≡ true
tails_onto zero n acc h = h
tails_onto (suc k) n acc h =
    let more : list_all is_tail (digit_glyph false (n % 10) ∷ acc) ≡ true
    = ap (λ b. b && list_all is_tail acc) (tail_glyph (n % 10) (omega arith)) ∙ h in
    either (n / 10 == 0) (digit_glyph false (n % 10) ∷ acc) (digits_onto k 10 false (n / 10) (digit_glyph false (n % 10) ∷ acc)) more
    (tails_onto k (n / 10) (digit_glyph false (n % 10) ∷ acc) more)
  where
    either : (b : Bool) (xs ys : List ℕ) → list_all is_tail xs ≡ true → list_all is_tail ys ≡ true → list_all is_tail (if b then xs else ys) ≡ true
    either true xs ys p q = p
    either false xs ys p q = q

tails : (n : ℕ) → list_all is_tail (decimal n) ≡ true
unfolding digits
tails n = tails_onto 64 n [] refl

all_behind : (xs ys : List ℕ) → list_all is_tail xs ≡ true → list_all is_tail ys ≡ true → list_all is_tail (xs ++ ys) ≡ true
all_behind [] ys a b = b
all_behind (x ∷ xs) ys a b = by (is_tail x) refl (λ h. all_behind xs ys h b)
  where
    by : (t : Bool) → is_tail x ≡ t → (list_all is_tail xs ≡ true → list_all is_tail (xs ++ ys) ≡ true) → (is_tail x && list_all is_tail (xs ++ ys)) ≡ true
    by true e rest = ap (λ t. t && list_all is_tail (xs ++ ys)) e ∙ rest (ap (λ t. t && list_all is_tail xs) (sym e) ∙ a)
    by false e rest = absurd (true≢false (sym a ∙ ap (λ t. t && list_all is_tail xs) e))

tail_one : (n : ℕ) → list_all is_tail (one n) ≡ true
tail_one n = tails n

tail_two : (n m : ℕ) → list_all is_tail (two n m) ≡ true
tail_two n m = all_behind (decimal n ++ codes "_") (decimal m) (all_behind (decimal n) (codes "_") (tail_one n) refl) (tail_one m)

-- ---- names look like made ones

looks : (a : MadeName) → looks_made (made_name [] a) ≡ true
looks NoneName = refl
looks (UnitName n) = list_any_at (looks_like (made_name [] (UnitName n))) words 1 [] (lit< tt) (tail_one n)
looks (BegunName n) = list_any_at (looks_like (made_name [] (BegunName n))) words 2 [] (lit< tt) (tail_one n)
looks (CellsName n m) = list_any_at (looks_like (made_name [] (CellsName n m))) words 3 [] (lit< tt) (tail_two n m)
looks (RanksName n) = list_any_at (looks_like (made_name [] (RanksName n))) words 4 [] (lit< tt) (tail_one n)
looks (CodesName n m) = list_any_at (looks_like (made_name [] (CodesName n m))) words 5 [] (lit< tt) (tail_two n m)
looks (OuterName n m) = list_any_at (looks_like (made_name [] (OuterName n m))) words 6 [] (lit< tt) (tail_two n m)
looks (OrdersName n m) = list_any_at (looks_like (made_name [] (OrdersName n m))) words 7 [] (lit< tt) (tail_two n m)
looks (KeysName n m) = list_any_at (looks_like (made_name [] (KeysName n m))) words 8 [] (lit< tt) (tail_two n m)
looks CellColumn = refl
looks RankColumn = refl
looks (KeyColumn n) = list_any_at (looks_like (made_name [] (KeyColumn n))) words 11 [] (lit< tt) (tail_one n)
looks (MarkName n) = list_any_at (looks_like (made_name [] (MarkName n))) words 12 [] (lit< tt) (tail_one n)

-- none of those that don't
none_passes : {X : Type 0} (test : X → Bool) (xs : List X) → list_any test xs ≡ false → (k : ℕ) (d : X) → k < length xs
    → test (get_or xs k d) ≡ false
none_passes test xs e k d below = by (test (get_or xs k d)) refl
  where
    by : (t : Bool) → test (get_or xs k d) ≡ t → t ≡ false
    by true is = absurd (true≢false (sym (list_any_at test xs k d below is) ∙ e))
    by false is = refl

-- ---- the longest

kept : (names : List (List ℕ)) (most : ℕ) → most ≤ fold longer most names
kept [] most = le_refl most
kept (name ∷ names) most = let k = kept names (longer most name) in grind arith

at_most : (names : List (List ℕ)) (most k : ℕ) (d : List ℕ) → k < length names → length (get_or names k d) ≤ fold longer most names
at_most [] most k d below = absurd (omega (arith, below))
at_most (name ∷ names) most zero d below = let k = kept names (longer most name) in grind arith
at_most (name ∷ names) most (suc k) d below = at_most names (longer most name) k d (omega (arith, below))

-- ---- the law

long : (mentioned : List (List ℕ)) (a : MadeName) (k : ℕ) (d : List ℕ) → k < length mentioned
    → made_name (underscores (suc (longest mentioned))) a ≡ get_or mentioned k d → ⊥
long mentioned a k d below same =
    let stem = underscores (suc (longest mentioned)) in
    omega (
      arith,
      at_most mentioned 0 k d below,
      ap length (sym (stem_first stem a) ∙ same),
      length-append stem (made_name [] a),
      length-replicate {A = ℕ} (suc (longest mentioned)) 95,
    )

short : (mentioned : List (List ℕ)) (a : MadeName) → list_any looks_made mentioned ≡ false → (k : ℕ) (d : List ℕ) → k < length mentioned
    → made_name [] a ≡ get_or mentioned k d → ⊥
short mentioned a e k d below same =
    true≢false (sym (looks a) ∙ ap looks_made same ∙ none_passes looks_made mentioned e k d below)

abbrev stem_by : Bool → List (List ℕ) → List ℕ
stem_by b mentioned = if b then underscores (suc (longest mentioned)) else []

new_by : (mentioned : List (List ℕ)) (a : MadeName) → (b : Bool) → list_any looks_made mentioned ≡ b
    → All (λ name. made_name (stem_by b mentioned) a ≢ name) mentioned
new_by mentioned a true e = λ k d below same. long mentioned a k d below same
new_by mentioned a false e = λ k d below same. short mentioned a e k d below same

pub made_names_are_new : MadeNamesAreNew
made_names_are_new mentioned a = new_by mentioned a (list_any looks_made mentioned) refl
