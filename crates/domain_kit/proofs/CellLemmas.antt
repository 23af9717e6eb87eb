-- Why a set tells which cells were seen, and holds the distinct ones in order.
use Rattle.std.proofs.Common.{◌≡◌, ℕ, ◌+◌, ◌<◌, ◌≤◌, ◌||◌, ◌++◌, Bool, true, false, if◌then◌else◌, List, [], ◌∷◌, length, take, drop}
use Rattle.std.proofs.Common.{get_or, refl, sym, ap, ◌∙◌}
use Rattle.std.specs.List.{list_any}
use Rattle.std.specs.Ordering.{is_eq, ordering_reverse}
use Rattle.std.specs.declared.cmp.Ordering.{Ordering}
use Rattle.std.specs.declared.cmp.Ordering.TheVariants.{Less, Equal, Greater}
use Rattle.std.specs.BTreeSet.{BTreeSet, contains, insert_key, Updates}
use Rattle.std.proofs.lemmas.List.{append_assoc, append-nil, drop_all, drop_more, take_more}
use Rattle.cell_value.specs.declared.cell.Cell.{Cell}
use Rattle.cell_value.specs.Cell.{cell_cmp, same_cells}
use Rattle.cell_value.specs.inner.CellOrder.{cell_cmp_total}
use Rattle.plain_groups.specs.Groups.{firsts_behind}
use Rattle.tick_kit.specs.Domains.{placed_in, ascending}

flipped : (o p : Ordering) → o ≡ ordering_reverse p → is_eq o ≡ is_eq p
flipped o Less e = ap is_eq e
flipped o Equal e = ap is_eq e
flipped o Greater e = ap is_eq e

pub same_cells-flips : (a b : Cell) → same_cells a b ≡ same_cells b a
same_cells-flips a b = flipped (cell_cmp a b) (cell_cmp b a) (cell_cmp_total.antisymm a b)

either : (b old : Bool) → (if b then true else old) ≡ (old || b)
either true true = refl
either true false = refl
either false true = refl
either false false = refl

-- a cell that was put into a set is seen there, beside those that were seen before
pub seen_one : (old now : BTreeSet Cell) (key cell c : Cell) → key ≡ cell → Updates cell_cmp old now key true
    → contains cell_cmp now c ≡ (contains cell_cmp old c || same_cells c cell)
seen_one old now key cell c is updates =
    updates.0 c ∙ either (same_cells key c) (contains cell_cmp old c) ∙ ap (λ b. contains cell_cmp old c || b) (same_cells-flips key c)
    ∙ ap (λ k. contains cell_cmp old c || same_cells c k) is

-- in an empty set nothing is seen
pub none_seen : (seen : BTreeSet Cell) (c : Cell) → seen.keys ≡ [] → contains cell_cmp seen c ≡ false
none_seen seen c e = ap (list_any (λ k. is_eq (cell_cmp c k))) e

absorbed : (b old : Bool) → (b ≡ true → old ≡ true) → old ≡ (old || b)
absorbed b true h = refl
absorbed true false h = h refl
absorbed false false h = refl

-- a cell that was seen adds nothing
pub seen_already : (seen : BTreeSet Cell) (cell c : Cell) → ((a b : Cell) → same_cells a b ≡ true → a ≡ b)
    → contains cell_cmp seen cell ≡ true
    → contains cell_cmp seen c ≡ (contains cell_cmp seen c || same_cells c cell)
seen_already seen cell c only h =
    absorbed (same_cells c cell) (contains cell_cmp seen c) (λ e. ap (contains cell_cmp seen) (only c cell e) ∙ h)

list_any-push : (test : Cell → Bool) (xs : List Cell) (x : Cell) → list_any test (xs ++ x ∷ []) ≡ (list_any test xs || test x)
list_any-push test [] x = right_false (test x)
  where
    right_false : (b : Bool) → (b || false) ≡ (false || b)
    right_false true = refl
    right_false false = refl
list_any-push test (y ∷ ys) x = ap (λ b. test y || b) (list_any-push test ys x) ∙ grouped (test y) (list_any test ys) (test x)
  where
    grouped : (a b c : Bool) → (a || (b || c)) ≡ ((a || b) || c)
    grouped true b c = refl
    grouped false b c = refl

-- one cell more was seen
pub seen_more : (cells : List Cell) (i : ℕ) (cell c : Cell) (old now : Bool) → i < length cells → cell ≡ get_or cells i cell
    → now ≡ (old || same_cells c cell) → old ≡ list_any (same_cells c) (take i cells) → now ≡ list_any (same_cells c) (take (i + 1) cells)
seen_more cells i cell c old now l at is before =
    is ∙ ap (λ b. b || same_cells c cell) before ∙ sym (list_any-push (same_cells c) (take i cells) cell)
    ∙ ap (λ x. list_any (same_cells c) (take i cells ++ x ∷ [])) at ∙ ap (list_any (same_cells c)) (sym (take_more cells i cell l))

kept : (seen : Bool) (cell : Cell) (found later : List Cell)
    → (if seen then found else found ++ cell ∷ []) ++ later ≡ found ++ (if seen then later else cell ∷ later)
kept true cell found later = refl
kept false cell found later = append_assoc found (cell ∷ []) later

-- it is the same to ask each cell before whether it is this one
any_flips : (cell : Cell) (cells : List Cell) → list_any (same_cells cell) cells ≡ list_any (λ c. same_cells c cell) cells
any_flips cell cells = ap (λ (test : Cell → Bool). list_any test cells) (λ j c. same_cells-flips cell c j)

-- one cell more was taken or left
pub found_more : (cells : List Cell) (i : ℕ) (cell : Cell) (seen : Bool) (found now whole : List Cell) → i < length cells
    → cell ≡ get_or cells i cell
    → seen ≡ list_any (same_cells cell) (take i cells) → now ≡ (if seen then found else found ++ cell ∷ [])
    → found ++ firsts_behind same_cells (take i cells) (drop i cells) ≡ whole
    → now ++ firsts_behind same_cells (take (i + 1) cells) (drop (i + 1) cells) ≡ whole
found_more cells i cell seen found now whole l at seen_is now_is so_far =
    let rest : drop i cells ≡ cell ∷ drop (i + 1) cells = drop_more cells i cell l ∙ ap (λ x. x ∷ drop (i + 1) cells) (sym at) in
    let front : take (i + 1) cells ≡ take i cells ++ cell ∷ [] = take_more cells i cell l ∙ ap (λ x. take i cells ++ x ∷ []) (sym at) in
    let later = firsts_behind same_cells (take i cells ++ cell ∷ []) (drop (i + 1) cells) in
    ap (λ f. now ++ firsts_behind same_cells f (drop (i + 1) cells)) front
    ∙ ap (λ f. f ++ later) now_is
    ∙ kept seen cell found later
    ∙ ap (λ b. found ++ (if b then later else cell ∷ later)) (seen_is ∙ any_flips cell (take i cells))
    ∙ ap (λ d. found ++ firsts_behind same_cells (take i cells) d) (sym rest)
    ∙ so_far

-- cells put one after the other, from the last to the first, into their places
abbrev pub placed_all : List Cell → List Cell → List Cell
placed_all [] found = found
placed_all (c ∷ cs) found = placed_in cell_cmp c (placed_all cs found)

pub placed_all-push : (cs : List Cell) (c : Cell) (found : List Cell)
    → placed_all (cs ++ c ∷ []) found ≡ placed_all cs (placed_in cell_cmp c found)
placed_all-push [] c found = refl
placed_all-push (d ∷ ds) c found = ap (placed_in cell_cmp d) (placed_all-push ds c found)

pub placed_all-ascending : (cs : List Cell) → placed_all cs [] ≡ ascending cell_cmp cs
placed_all-ascending [] = refl
placed_all-ascending (c ∷ cs) = ap (placed_in cell_cmp c) (placed_all-ascending cs)

pub by_ordering : {P : Type 0} (o : Ordering) → (o ≡ Less → P) → (o ≡ Equal → P) → (o ≡ Greater → P) → P
by_ordering Less less same more = less refl
by_ordering Equal less same more = same refl
by_ordering Greater less same more = more refl

-- a set puts a key where the definition does
pub insert_key-placed : (ks : List Cell) (k : Cell) → insert_key cell_cmp ks k ≡ placed_in cell_cmp k ks
insert_key-placed [] k = refl
insert_key-placed (x ∷ xs) k =
    by_ordering (cell_cmp k x) (λ h. rw h refl) (λ h. rw h refl) (λ h. rw h (ap (λ r. x ∷ r) (insert_key-placed xs k)))

-- at the end all cells were taken or left
pub found_all : (cells : List Cell) (i : ℕ) (found whole : List Cell) → length cells ≤ i
    → found ++ firsts_behind same_cells (take i cells) (drop i cells) ≡ whole → found ≡ whole
found_all cells i found whole past so_far =
    sym (append-nil found) ∙ ap (λ d. found ++ firsts_behind same_cells (take i cells) d) (sym (drop_all i cells past)) ∙ so_far
