-- Signals that are found by their names.
use Rattle.std.proofs.Common.{◌≡◌, ℕ, ◌+◌, ◌<◌, Bool, true, false, cond, List, [], ◌∷◌, ◌||◌, length, drop, get_or, Option, Some, None, unwrap_or, is_some}
use Rattle.std.proofs.Common.{refl, sym, ap, ◌∙◌, subst}
use Rattle.std.specs.Option.{option_map, option_map_or}
use Rattle.std.specs.Str.{bytes_eq}
use Rattle.std.specs.BTreeMap as tree
use Rattle.std.specs.Ordering.{nat_cmp}
use Rattle.std.specs.Cmp.Lexicographic.{slice_cmp}
use Rattle.std.specs.String.{string_cmp, string_bytes}
use Rattle.std.proofs.lemmas.Map.Text.{btree_map_updates_text}
use Rattle.std.proofs.lemmas.List.{drop_more}
use Rattle.cell_value.specs.declared.cell.Cell.{Cell}
use Rattle.cell_value.specs.declared.cell.Cell.TheVariants.{Null}
use Rattle.expr_eval.specs.Values.{Values}
use Rattle.vega_signals.specs.Extents.{Settled}
use Rattle.vega_signals.specs.Settling.{first_named, is_own, values_inside}
use Rattle.vega_signals.specs.inner.Known.{ValuesByName, known_values, IsIndex}

abbrev Named : Type 0
Named = List ℕ × Option Cell

abbrev value : Named → Option Cell
value entry = entry.1

-- what an insertion puts
pub value_put : (bytes name : List ℕ) (old new : ValuesByName) (cell made : Option Cell) → bytes ≡ name → made ≡ cell
    → tree.UpdatesBy string_cmp (λ k. slice_cmp nat_cmp bytes (string_bytes k)) old new (Some made)
    → (other : List ℕ) → tree.get_by_text new other ≡ cond (bytes_eq name other) (Some cell) (tree.get_by_text old other)
value_put bytes name old new cell made same copied h other =
    btree_map_updates_text bytes old new (Some made) h other
    ∙ (λ i. cond (bytes_eq (same i) other) (Some (copied i)) (tree.get_by_text old other))

first_value : (b : Bool) (p : Named) (rest : Option Named) → cond b (Some (value p)) (option_map value rest) ≡ option_map value (cond b (Some p) rest)
first_value true p rest = refl
first_value false p rest = refl

-- one more signal is put, before those that were
pub one_before : (own : Settled) (old new : ValuesByName) (n m : ℕ) (d p : Named) → n < length own → get_or own n d ≡ p → m ≡ n + 1
    → ((name : List ℕ) → tree.get_by_text new name ≡ cond (bytes_eq p.0 name) (Some p.1) (tree.get_by_text old name))
    → IsIndex (drop m own) old → IsIndex (drop n own) new
one_before own old new n m d p l is next put finds name =
    let later : tree.get_by_text old name ≡ option_map value (first_named (drop (n + 1) own) name) =
    subst (λ (i : ℕ). tree.get_by_text old name ≡ option_map value (first_named (drop i own) name)) next (finds name) in
    put name ∙ ap (λ o. cond (bytes_eq p.0 name) (Some (value p)) o) later
    ∙ first_value (bytes_eq p.0 name) p (first_named (drop (n + 1) own) name)
    ∙ ap (λ (x : Named). option_map value (first_named (x ∷ drop (n + 1) own) name)) (sym is)
    ∙ sym (ap (λ l. option_map value (first_named l name)) (drop_more own n d l))

value_or : (o : Option Named) (other : Option Cell) → unwrap_or (option_map value o) other ≡ option_map_or value o other
value_or None other = refl
value_or (Some p) other = refl

some_value : (o : Option Named) → is_some (option_map value o) ≡ is_some o
some_value None = refl
some_value (Some p) = refl

one_found : (b : Bool) (p : Named) (rest : Option Named) (other : Bool) → is_some rest ≡ other → is_some (cond b (Some p) rest) ≡ (b || other)
one_found true p rest other e = refl
one_found false p rest other e = e

own_found : (own : Settled) (name : List ℕ) → is_some (first_named own name) ≡ is_own own name
own_found [] name = refl
own_found (p ∷ own) name = one_found (bytes_eq p.0 name) p (first_named own name) (is_own own name) (own_found own name)

-- what is read of signals that are found by their names is what is read of them inside an object
pub known_is_inside : (own : Settled) (index : ValuesByName) (outer : Values) → IsIndex own index → known_values index outer ≡ values_inside own outer
known_is_inside own index outer finds = λ i. record outer {
  value = λ name. (ap (λ o. unwrap_or o (outer.value name)) (finds name) ∙ value_or (first_named own name) (outer.value name)) i;
  member = λ name field. (ap (λ o. cond (is_some o) Null (outer.member name field)) (finds name)
      ∙ ap (λ b. cond b Null (outer.member name field)) (some_value (first_named own name) ∙ own_found own name)) i;
}
