-- The function on lists gives a tree exactly where the bytes spell one.
use Rattle.std.proofs.Common.{◌≡◌, ℕ, List, Ok, Err, refl, sym, ap, subst, ◌∙◌, zero, suc, ◌+◌, ◌-◌, ◌<◌, ◌≤◌, [], ◌∷◌, ◌++◌, length, take}
use Rattle.std.proofs.Common.{append_assoc, arith}
use Rattle.text_kit.specs.Answer.{IsFault}
use Rattle.json_exact.specs.declared.error.ReadStop.{ReadStop}
use Rattle.json_exact.specs.declared.error.ReadStop.TheVariants as stops
use Rattle.json_exact.specs.declared.json.Json.{Json}
use Rattle.json_exact.specs.Reading.{Reads, Begins, FaultsAt}
use Rattle.fixed_num.specs.Front.{first}
use Rattle.json_exact.specs.inner.Reader.{cause, text_at}
use Rattle.std.proofs.lemmas.List.{length-append, take_at}
use Rattle.json_exact.proofs.Behind.{same_fault}
use Rattle.json_exact.proofs.OpenValues.{text_opens}
use Rattle.json_exact.proofs.Complete.{text_again-whole}
use Rattle.fixed_num.proofs.Steps.{ok_is}

pub is_complete : (bytes : List ℕ) (found tree : Json) → text_at bytes ≡ Ok found → Reads bytes tree → found ≡ tree
is_complete bytes found tree given reads = ok_is found tree (sym given ∙ text_again-whole bytes tree reads)

pub is_fault : (bytes : List ℕ) (k : ℕ) → text_at bytes ≡ Err k → (tree : Json) → Reads bytes tree → ⊥
is_fault bytes k given tree reads =
    let again = text_again-whole bytes tree reads in
    absurd cc

-- how many bytes were left at the fault that was answered
pub fault_of : (bytes : List ℕ) (error : ReadStop) (left : ℕ) → error ≡ stops.Fault left → IsFault (cause error) (text_at bytes)
    → text_at bytes ≡ Err left
fault_of bytes error left e given = subst (λ (s : ReadStop). IsFault (cause s) (text_at bytes)) e given

-- ---- the place of a fault

take_past : (front rest : List ℕ) (d n : ℕ) → n ≡ length front + d → take n (front ++ rest) ≡ front ++ take d rest
take_past [] rest d n e =
    let same : n ≡ d = omega arith in
    ap (λ (m : ℕ). take m rest) same
take_past (x ∷ front) rest d zero e = absurd (omega arith)
take_past (x ∷ front) rest d (suc n) e = ap (λ (t : List ℕ). x ∷ t) (take_past front rest d n (omega arith))

first_taken : (rest more : List ℕ) (d : ℕ) → 0 < d → 0 < length rest
    → (first (take d rest ++ more) ≡ first rest) × (0 < length (take d rest ++ more))
first_taken [] more d some there = absurd (omega arith)
first_taken (b ∷ rest) more zero some there = absurd (omega arith)
first_taken (b ∷ rest) more (suc d) some there = (refl, omega arith)

begins_there : (bytes : List ℕ) (k place : ℕ) → text_at bytes ≡ Err k → place + k ≡ length bytes → Begins (take place bytes)
begins_there bytes k place e sum =
    let o = text_opens bytes k e in
    let len : length bytes ≡ length o.front + length o.rest = ap length o.parts ∙ length-append o.front o.rest in
    let left = o.left in
    let size : place ≡ length o.front = omega arith in
    let front : take place bytes ≡ o.front = ap (λ (t : List ℕ). take place t) o.parts ∙ take_at o.front o.rest place (sym size) in
    (o.more, o.is.0, subst (λ (t : List ℕ). Reads (t ++ o.more) o.is.0) (sym front) o.is.1)

both : (bytes : List ℕ) (tree : Json) (j : ℕ) → text_at bytes ≡ Ok tree → text_at bytes ≡ Err j → ⊥
both bytes tree j e f = absurd cc

ends_there : (bytes : List ℕ) (k place n : ℕ) → text_at bytes ≡ Err k → place + k ≡ length bytes → place < n → n ≤ length bytes
    → Begins (take n bytes) → ⊥
ends_there bytes k place n e sum lt le b =
    let s = same_fault bytes k e in
    let len : length bytes ≡ length s.front + length s.rest = ap length s.parts ∙ length-append s.front s.rest in
    let left = s.left in
    let d : ℕ = n - place in
    let size : n ≡ length s.front + d = omega arith in
    let f = first_taken s.rest b.0 d (omega arith) (omega arith) in
    let whole : take n bytes ++ b.0 ≡ s.front ++ (take d s.rest ++ b.0) =
    ap (λ (t : List ℕ). take n t ++ b.0) s.parts ∙ ap (λ (t : List ℕ). t ++ b.0) (take_past s.front s.rest d n size)
    ∙ append_assoc s.front (take d s.rest) b.0 in
    let read : text_at (s.front ++ (take d s.rest ++ b.0)) ≡ Ok b.1 =
    ap text_at (sym whole) ∙ text_again-whole (take n bytes ++ b.0) b.1 b.2 in
    both (s.front ++ (take d s.rest ++ b.0)) b.1 (length (take d s.rest ++ b.0)) read (s.again (take d s.rest ++ b.0) f.0 f.1)

-- where the bytes that were left at a fault are k, the place of the fault is before them
pub faults_at : (bytes : List ℕ) (k place : ℕ) → text_at bytes ≡ Err k → place ≡ length bytes - k → FaultsAt bytes place
faults_at bytes k place e at_place =
    let o = text_opens bytes k e in
    let len : length bytes ≡ length o.front + length o.rest = ap length o.parts ∙ length-append o.front o.rest in
    let left = o.left in
    let sum : place + k ≡ length bytes = omega arith in
    record {
      within = omega arith;
      begins = begins_there bytes k place e sum;
      no_longer = λ n lt le b. ends_there bytes k place n e sum lt le b;
    }
