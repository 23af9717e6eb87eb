-- The last cell of a name.
use Rattle.std.proofs.Common.{◌≡◌, ℕ, ◌+◌, ◌-◌, ◌<◌, ◌≤◌, Bool, true, false, cond, List, [], ◌∷◌, ◌++◌, length, take, get_or, reverse}
use Rattle.std.proofs.Common.{Option, Some, refl, sym, ap, ◌∙◌, arith}
use Rattle.std.specs.Prelude.{find}
use Rattle.std.specs.Option.{option_map}
use Rattle.std.specs.Str.{bytes_eq}
use Rattle.std.proofs.lemmas.List.{reverse-append, take_more}
use Rattle.cell_value.specs.declared.cell.Cell.{Cell}
use Rattle.mark_encode.specs.Groups.{last_named}

-- the elements before j from the last on: that one, and those before it
one_back : {X : Type 0} (xs : List X) (j : ℕ) (x : X) → 0 < j → j ≤ length xs → x ≡ get_or xs (j - 1) x
    → reverse (take j xs) ≡ x ∷ reverse (take (j - 1) xs)
one_back xs j x positive within is =
    let next : j ≡ j - 1 + 1 = omega (arith, positive) in
    let before : j - 1 < length xs = omega (arith, positive, within) in
    ap (λ k. reverse (take k xs)) next
    ∙ ap reverse (take_more xs (j - 1) x before)
    ∙ ap (λ y. reverse (take (j - 1) xs ++ y ∷ [])) (sym is)
    ∙ reverse-append (take (j - 1) xs) (x ∷ [])

either : {X Y : Type 0} (f : X → Y) (b : Bool) (x : X) (o : Option X) → option_map f (cond b (Some x) o) ≡ cond b (Some (f x)) (option_map f o)
either f true x o = refl
either f false x o = refl

last_found : {X Y : Type 0} (f : X → Y) (test : X → Bool) (xs : List X) (j : ℕ) (x : X) → 0 < j → j ≤ length xs → x ≡ get_or xs (j - 1) x
    → option_map f (find test (reverse (take j xs))) ≡ cond (test x) (Some (f x)) (option_map f (find test (reverse (take (j - 1) xs))))
last_found f test xs j x positive within is =
    ap (λ l. option_map f (find test l)) (one_back xs j x positive within is)
    ∙ either f (test x) x (find test (reverse (take (j - 1) xs)))

one_looked_at : (cells : List (List ℕ × Cell)) (name : List ℕ) (j : ℕ) (x : List ℕ × Cell) → 0 < j → j ≤ length cells → x ≡ get_or cells (j - 1) x
    → last_named (take j cells) name ≡ cond (bytes_eq x.0 name) (Some x.1) (last_named (take (j - 1) cells) name)
one_looked_at cells name j x positive within is =
    last_found (λ (entry : List ℕ × Cell). entry.1) (λ (entry : List ℕ × Cell). bytes_eq entry.0 name) cells j x positive within is

-- the cell before j is the one looked for, if it has the name and those from j on don't
pub cell_here : (cells : List (List ℕ × Cell)) (name : List ℕ) (j : ℕ) (x : List ℕ × Cell) (found : Option Cell) → 0 < j → j ≤ length cells
    → x ≡ get_or cells (j - 1) x → bytes_eq x.0 name ≡ true → last_named (take j cells) name ≡ found → Some x.1 ≡ found
cell_here cells name j x found positive within is passes rest =
    sym (one_looked_at cells name j x positive within is
    ∙ ap (λ b. cond b (Some x.1) (last_named (take (j - 1) cells) name)) passes) ∙ rest

-- if it doesn't have the name, the one looked for stands before it
pub cell_before : (cells : List (List ℕ × Cell)) (name : List ℕ) (j : ℕ) (x : List ℕ × Cell) (found : Option Cell) → 0 < j → j ≤ length cells
    → x ≡ get_or cells (j - 1) x → bytes_eq x.0 name ≡ false → last_named (take j cells) name ≡ found
    → last_named (take (j - 1) cells) name ≡ found
cell_before cells name j x found positive within is fails rest =
    sym (one_looked_at cells name j x positive within is
    ∙ ap (λ b. cond b (Some x.1) (last_named (take (j - 1) cells) name)) fails) ∙ rest
