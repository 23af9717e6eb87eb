-- What sinks tell, step by step.
use Rattle.std.proofs.Common.{arith, refl, ◌≡◌, ℕ, ◌≤◌, List, [], ◌++◌, length, take, Option, Some, None, sym, ap, ◌∙◌, subst, append_assoc}
use Rattle.std.proofs.Common.{append-nil}
use Rattle.std.proofs.lemmas.Grind.{common_steps}
use Rattle.std.proofs.lemmas.List.{take_at}
use Rattle.chart_io.proofs.Written.{prefix_within}
use Rattle.chart_io.specs.Outside.{Rose, Kept, Appended, AppendedPrefix}
use Rattle.play_script.specs.Played.{Sinks, AreWritten}

front_of : (held a b : List ℕ) → (length held ≤ length (held ++ a)) × (held ++ a ≡ take (length (held ++ a)) (held ++ (a ++ b)))
front_of held a b = (
  grind (arith, common_steps),
  sym (ap (λ xs. take (length (held ++ a)) xs) (sym (append_assoc held a b))
      ∙ take_at (held ++ a) b (length (held ++ a)) refl),
)

-- what was appended begins what goes on after it
pub appended_front : (old now : Option (List ℕ)) (a b : List ℕ) → Appended old now a → AppendedPrefix old now (a ++ b)
appended_front None now a b h = tt
appended_front (Some held) now a b h = rw h (front_of held a b)

pub appended_begins : (old now : Option (List ℕ)) (a : List ℕ) → Appended old now a → AppendedPrefix old now a
appended_begins old now a h =
    let at : List ℕ → Type 0 = λ xs. AppendedPrefix old now xs in subst at (append-nil a) (appended_front old now a [] h)

pub appended_nothing : (held : Option (List ℕ)) → Appended held held []
appended_nothing None = tt
appended_nothing (Some held) = ap Some (sym (append-nil held))

pub begins_longer : (old now : Option (List ℕ)) (a b : List ℕ) → AppendedPrefix old now a → AppendedPrefix old now (a ++ b)
begins_longer None now a b h = tt
begins_longer (Some held) None a b h = absurd h
begins_longer (Some held) (Some all) a b h = longer held a b all h.0 h.1
  where
    longer : (held a b all : List ℕ) → length held ≤ length all → all ≡ take (length all) (held ++ a)
        → (length held ≤ length all) × (all ≡ take (length all) (held ++ (a ++ b)))
    longer held a b all more begun = grind (arith, common_steps)

pub kept_begins : (old now : Option (List ℕ)) → Kept old now → AppendedPrefix old now []
kept_begins None now h = tt
kept_begins (Some held) now h = rw h (appended_begins (Some held) (Some held) [] (appended_nothing (Some held)))

-- what was appended, and then more
pub appended_both : (old mid now : Option (List ℕ)) (a b : List ℕ) → Appended old mid a → Appended mid now b → Appended old now (a ++ b)
appended_both None mid now a b before after = tt
appended_both (Some held) mid now a b before after = (rw before at after) ∙ ap Some (append_assoc held a b)

pub begun_both : (old mid now : Option (List ℕ)) (a b : List ℕ) → Appended old mid a → AppendedPrefix mid now b
    → AppendedPrefix old now (a ++ b)
begun_both old mid now a b before after =
    prefix_within old mid now a b [] (a ++ b) (sym (append-nil (a ++ b))) before after

-- a count that has risen in a part has risen
rose_first : (a b c : ℕ) → b ≤ c → Rose a b → Rose a c
rose_first a b c more rose = omega arith

rose_then : (a b c : ℕ) → a ≤ b → Rose b c → Rose a c
rose_then a b c more rose = grind arith

-- what holds of the texts of a writing, and of the two after each other
pub map_written : (How : Option (List ℕ) → Option (List ℕ) → List ℕ → Type 0) (Holds Others : List ℕ → List ℕ → Type 0) (before now : Sinks)
    → ((a b : List ℕ) → Holds a b → Others a b) → AreWritten How Holds before now → AreWritten How Others before now
map_written How Holds Others before now more w =
    record { out = w.out; notes = w.notes; is = more w.out w.notes w.is; appended = w.appended; noted = w.noted }

pub join_written : (How : Option (List ℕ) → Option (List ℕ) → List ℕ → Type 0)
    → ((old mid now : Option (List ℕ)) (a b : List ℕ) → Appended old mid a → How mid now b → How old now (a ++ b))
    → (Holds Others Both : List ℕ → List ℕ → Type 0) (before mid now : Sinks) → before.faults ≤ mid.faults → mid.faults ≤ now.faults
    → ((a b c d : List ℕ) → Holds a c → Others b d → Both (a ++ b) (c ++ d))
    → AreWritten Appended Holds before mid → AreWritten How Others mid now → AreWritten How Both before now
join_written How seam Holds Others Both before mid now first next both v w = record {
  out = v.out ++ w.out;
  notes = v.notes ++ w.notes;
  is = both v.out w.out v.notes w.notes v.is w.is;
  appended = seam before.held mid.held now.held v.out w.out v.appended w.appended;
  noted = λ sound. seam before.noted mid.noted now.noted v.notes w.notes
      (v.noted (λ rose. sound (rose_first before.faults mid.faults now.faults next rose)))
      (w.noted (λ rose. sound (rose_then before.faults mid.faults now.faults first rose)));
}
