-- What the program reads as JSON is right, and nothing else is.
use Rattle.std.proofs.Common.{◌≡◌, ◌<◌, ◌-◌, ℕ, Option, Some, None, List, length, Result, Ok, Err, refl, sym, subst, ap, ◌∙◌, arith}
use Rattle.std.specs.Prelude.{IfSome}
use Rattle.std.specs.Result.{result_map_both}
use Rattle.fixed_num.proofs.Steps.{ok_is}
use Rattle.chart_io.specs.Outside.{Files}
use Rattle.json_exact.specs.declared.error.JsonError.{JsonError}
use Rattle.json_exact.specs.declared.error.JsonError.TheVariants as json
use Rattle.json_exact.specs.declared.json.Json.{Json}
use Rattle.json_exact.specs.Reading.{Reads, FaultsAt}
use Rattle.json_exact.specs.inner.Reader.{text_at}
use Rattle.json_exact.proofs.Complete.{text_again-whole}
use Rattle.json_exact.proofs.Sound.{text_sound}
use Rattle.json_exact.proofs.Whole.{is_fault, faults_at}
use Rattle.chart_opening.specs.declared.refusal.Refusal.{Refusal}
use Rattle.chart_opening.specs.declared.refusal.Refusal.TheVariants as refusal
use Rattle.chart_opening.specs.declared.refusal.OpenStop.{OpenStop}
use Rattle.chart_opening.specs.Answers.{Opens}
use Rattle.chart_opening.specs.Files.{tree_in}
use Rattle.chart_opening.specs.Texts.{Reading, IsRightFor, ReadsJson}
use Rattle.chart_opening.specs.inner.Reading.{read_as, the_reading}

right_by : (bytes : List ℕ) (r : Result Json ℕ) → text_at bytes ≡ r → IsRightFor bytes (read_as (length bytes) r)
right_by bytes (Ok tree) e = text_sound bytes tree e
right_by bytes (Err left) e = record {
  none = λ tree reads. is_fault bytes left e tree reads;
  at = faults_at bytes left (length bytes - left) e refl;
}

-- the reading that the program has is right
pub right : ReadsJson the_reading
right bytes = right_by bytes (text_at bytes) refl

one_tree : (bytes : List ℕ) (s t : Json) → Reads bytes s → Reads bytes t → s ≡ t
one_tree bytes s t r u = ok_is s t (sym (text_again-whole bytes s r) ∙ text_again-whole bytes t u)

neither_less : (p q : ℕ) → (p < q → ⊥) → (q < p → ⊥) → p ≡ q
neither_less p q no_less no_more = omega arith

-- bytes have one place of a fault
one_place : (bytes : List ℕ) (p q : ℕ) → FaultsAt bytes p → FaultsAt bytes q → p ≡ q
one_place bytes p q a b =
    neither_less p q (λ less. a.no_longer q less b.within b.begins) (λ more. b.no_longer p more a.within a.begins)

same_for : (bytes : List ℕ) (r s : Result Json ℕ) → IsRightFor bytes r → IsRightFor bytes s → r ≡ s
same_for bytes (Ok t) (Ok u) a b = ap Ok (one_tree bytes t u a b)
same_for bytes (Ok t) (Err q) a b = absurd (b.none t a)
same_for bytes (Err p) (Ok u) a b = absurd (a.none u b)
same_for bytes (Err p) (Err q) a b = ap Err (one_place bytes p q a.at b.at)

-- no other is right
pub agree : (reading other : Reading) → ReadsJson reading → ReadsJson other → reading ≡ other
agree reading other a b = λ i bytes. same_for bytes (reading bytes) (other bytes) (a bytes) (b bytes) i

pub read_is : (bytes : List ℕ) (tree : Json) → Reads bytes tree → the_reading bytes ≡ Ok tree
read_is bytes tree reads = same_for bytes (the_reading bytes) (Ok tree) (right bytes) reads

pub fault_is : (bytes : List ℕ) (place : ℕ) → ((tree : Json) → Reads bytes tree → ⊥) → FaultsAt bytes place
    → the_reading bytes ≡ Err place
fault_is bytes place none at =
    same_for bytes (the_reading bytes) (Err place) (right bytes) (record { none = none; at = at })

pub tree_is : (name bytes : List ℕ) (tree : Json) → Reads bytes tree → tree_in the_reading name bytes ≡ Ok tree
tree_is name bytes tree reads =
    ap (λ (r : Result Json ℕ). result_map_both (λ t. t) (λ place. refusal.Json name place) r) (read_is bytes tree reads)

pub no_tree : (name said bytes : List ℕ) (place : ℕ) (error : JsonError) → error ≡ json.Fault place → said ≡ name
    → ((p : ℕ) → ◌≡◌ {A = Result Json JsonError} (Err error) (Err (json.Fault p)) → (tree : Json) → Reads bytes tree → ⊥)
    → ((p : ℕ) → ◌≡◌ {A = Result Json JsonError} (Err error) (Err (json.Fault p)) → FaultsAt bytes p)
    → tree_in the_reading name bytes ≡ Err (refusal.Json said place)
no_tree name said bytes place error is same none at =
    ap (λ (r : Result Json ℕ). result_map_both (λ t. t) (λ p. refusal.Json name p) r)
    (fault_is bytes place (none place (ap Err is)) (at place (ap Err is)))
    ∙ ap (λ n. Err (refusal.Json n place)) (sym same)

-- what is given by the reading that the program has is given by each that is right
pub by_each : {X : Type 0} (told : Option Files) (result : Result X OpenStop) (given : Reading → Files → Result X Refusal)
    → IfSome told (λ files. Opens result (given the_reading files))
    → IfSome told (λ files. (reading : Reading) → ReadsJson reading → Opens result (given reading files))
by_each None result given opens = tt
by_each {X} (Some files) result given opens = λ reading reads.
    let at : Reading → Type 0 = λ r. Opens result (given r files) in
    subst at (agree the_reading reading right reads) opens
