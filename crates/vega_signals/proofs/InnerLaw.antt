-- What is read in an object inside another.
use Rattle.std.proofs.Common.{◌≡◌, ℕ, Bool, true, false, cond, List, [], ◌∷◌, ◌++◌, ◌||◌, Option, Some, refl}
use Rattle.std.specs.Option.{option_map_or}
use Rattle.std.specs.Str.{bytes_eq}
use Rattle.cell_value.specs.declared.cell.Cell.{Cell}
use Rattle.cell_value.specs.declared.cell.Cell.TheVariants.{Null}
use Rattle.vega_signals.specs.Extents.{Settled}
use Rattle.vega_signals.specs.Settling.{first_named, is_own}
use Rattle.vega_signals.specs.Laws.{InnerFirst}

-- the value that was found, or else another
abbrev pub or_else : Option (List ℕ × Option Cell) → Option Cell → Option Cell
or_else found other = option_map_or (λ (entry : List ℕ × Option Cell). entry.1) found other

one_found : (b : Bool) (x : List ℕ × Option Cell) (both inner : Option (List ℕ × Option Cell)) (rest other : Option Cell)
    → or_else both other ≡ or_else inner rest
    → or_else (cond b (Some x) both) other ≡ or_else (cond b (Some x) inner) rest
one_found true x both inner rest other e = refl
one_found false x both inner rest other e = e

one_hidden : (b both inner : Bool) (rest other : Cell) → cond both Null other ≡ cond inner Null rest → cond (b || both) Null other ≡ cond (b || inner) Null rest
one_hidden true both inner rest other e = refl
one_hidden false both inner rest other e = e

module _ (own : Settled) (name : List ℕ) (other : Option Cell) where
  found : (inner : Settled) → or_else (first_named (inner ++ own) name) other ≡ or_else (first_named inner name) (or_else (first_named own name) other)
  found [] = refl
  found (x ∷ inner) = one_found (bytes_eq x.0 name) x (first_named (inner ++ own) name)
      (first_named inner name) (or_else (first_named own name) other) other (found inner)

module _ (own : Settled) (name : List ℕ) (other : Cell) where
  hidden : (inner : Settled) → cond (is_own (inner ++ own) name) Null other ≡ cond (is_own inner name) Null (cond (is_own own name) Null other)
  hidden [] = refl
  hidden (x ∷ inner) =
      one_hidden (bytes_eq x.0 name) (is_own (inner ++ own) name) (is_own inner name) (cond (is_own own name) Null other) other (hidden inner)

pub inner_first : InnerFirst
inner_first inner own outer = λ i. record outer {
  value = λ name. found own name (outer.value name) inner i;
  member = λ name field. hidden own name (outer.member name field) inner i;
}
