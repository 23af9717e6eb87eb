-- What a name leads to among members that may be absent.
use Rattle.std.proofs.Common.{◌≡◌, ℕ, List, [], ◌∷◌, ◌++◌, cond, find, refl, ap, sym, ◌∙◌}
use Rattle.std.specs.Prelude.{Bool, true, false, not, ◌&&◌, ◌||◌, Option, Some, None, option_map, bytes_eq}
use Rattle.std.specs.List.{list_any}
use Rattle.std.proofs.lemmas.Slice.Eq.{bytes_eq-Decides}
use Rattle.json_exact.specs.declared.json.Json.{Json}
use Rattle.json_exact.specs.declared.json.Member.{Member}
use Rattle.json_exact.specs.Path.{member_value}
use Rattle.vega_writing.specs.declared.slots.Slot.{Slot}
use Rattle.vega_writing.specs.Slots.{member_if, present}

-- the value under a name
abbrev pub at_name : List Slot → List ℕ → Option Json
at_name [] name = None
at_name (slot ∷ slots) name = cond (bytes_eq slot.name name) slot.value (at_name slots name)

-- whether a name is given
abbrev pub is_given : List ℕ → List Slot → Bool
is_given name slots = list_any (λ (slot : Slot). bytes_eq slot.name name) slots

-- whether no name is given twice
abbrev pub are_distinct : List Slot → Bool
are_distinct [] = true
are_distinct (slot ∷ slots) = not (is_given slot.name slots) && are_distinct slots

past : (b given : Bool) (value there : Option Json) → (b || given) ≡ false → (given ≡ false → there ≡ None) → cond b value there ≡ None
past true given value there none rest = absurd cc
past false given value there none rest = rest none

not_given : (slots : List Slot) (name : List ℕ) → is_given name slots ≡ false → at_name slots name ≡ None
not_given [] name none = refl
not_given (slot ∷ slots) name none =
    past (bytes_eq slot.name name) (is_given name slots) slot.value (at_name slots name) none (not_given slots name)

both : (a b : Bool) → (not a && b) ≡ true → (a ≡ false) × (b ≡ true)
both true b e = absurd cc
both false b e = (refl, e)

without : (b : Bool) (o there : Option Json) → o ≡ there → (b ≡ true → there ≡ None) → o ≡ cond b None there
without true o there same none = same ∙ none refl
without false o there same none = same

with_one : (b : Bool) (name : List ℕ) (value : Json) (there : Option Json) (rest : Option Member) →
    option_map (λ (m : Member). m.value) rest ≡ there →
    option_map (λ (m : Member). m.value) (cond b (Some (record { name = name; value = value })) rest) ≡ cond b (Some value) there
with_one true name value there rest same = refl
with_one false name value there rest same = same

-- in an object whose names are distinct, a name leads to the value that stands under it
pub found : (slots : List Slot) (name : List ℕ) → are_distinct slots ≡ true → member_value (present slots) name ≡ at_name slots name
unfolding present
found [] name distinct = refl
found (slot ∷ slots) name distinct =
    let parts : (is_given slot.name slots ≡ false) × (are_distinct slots ≡ true) =
    both (is_given slot.name slots) (are_distinct slots) distinct in
    let rest : member_value (present slots) name ≡ at_name slots name = found slots name parts.1 in
    elim (slot.value) as
    (λ o. option_map (λ (m : Member). m.value) (find (λ (m : Member). bytes_eq m.name name) (member_if slot.name o ++ present slots))
    ≡ cond (bytes_eq slot.name name) o (at_name slots name)) [
      | None ↦ without (bytes_eq slot.name name) _ _ rest
          (λ same. not_given slots name (ap (λ n. is_given n slots) (sym ((bytes_eq-Decides slot.name name).0 same)) ∙ parts.0))
      | Some v ↦ with_one (bytes_eq slot.name name) slot.name v _ _ rest
    ]
