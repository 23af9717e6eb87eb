-- Calls that read files of a folder, one after another.
use Rattle.std.proofs.Common.{◌≡◌, ◌≤◌, ℕ, Option, Some, None, List, [], ◌∷◌, ◌++◌, Result, Ok, Err, refl, sym, subst, ap, ◌∙◌, arith}
use Rattle.std.proofs.Common.{append-nil, append_assoc}
use Rattle.std.proofs.Common.{◌<◌, zero, suc, ◌+◌, length, map, drop, get_or}
use Rattle.std.proofs.Math.Seq.{drop-cons}
use Rattle.std.specs.Prelude.{IfSome, IsErrOf}
use Rattle.std.specs.Result.{IsErrAnd}
use Rattle.fixed_num.specs.Steps.{◌>>=◌}
use Rattle.text_kit.specs.Answer.{IsFault}
use Rattle.chart_io.specs.Outside.{Files, Kept, Rose}
use Rattle.chart_opening.specs.declared.refusal.Refusal.{Refusal}
use Rattle.chart_opening.specs.declared.refusal.OpenStop.{OpenStop}
use Rattle.chart_opening.specs.declared.refusal.OpenStop.TheVariants as outer
use Rattle.chart_opening.specs.declared.refusal.StepStop.{StepStop}
use Rattle.chart_opening.specs.declared.refusal.StepStop.TheVariants as stop
use Rattle.chart_opening.specs.Answers.{cause, Opens}
use Rattle.chart_opening.specs.Sources.{all_of}
use Rattle.chart_opening.specs.inner.Folders.{IsReadFault, IsRead}
use Rattle.chart_opening.specs.inner.Stops.{open_stop, refusal_of}

-- what is told stays as it is where nothing is called
pub kept_still : (told : Option Files) → Kept told told
kept_still None = tt
kept_still (Some files) = refl

kept_on : (told tells now : Option Files) → Kept told tells → Kept tells now → Kept told now
kept_on None tells now first second = tt
kept_on (Some files) tells now first second =
    let at : Option Files → Type 0 = λ o. Kept o now in subst at first second

told_on : (P : Files → Type 0) (told tells : Option Files) → Kept told tells → IfSome tells P → IfSome told P
told_on P None tells kept is = tt
told_on P (Some files) tells kept is =
    let at : Option Files → Type 0 = λ o. IfSome o P in subst at kept is

pub told_map : (P Q : Files → Type 0) (told : Option Files) → ((files : Files) → P files → Q files) → IfSome told P → IfSome told Q
told_map P Q None how is = tt
told_map P Q (Some files) how is = how files is

pub told_both : (P Q R : Files → Type 0) (told : Option Files) → ((files : Files) → P files → Q files → R files)
    → IfSome told P → IfSome told Q → IfSome told R
told_both P Q R None how p q = tt
told_both P Q R (Some files) how p q = how files p q

rose_before : (a b c : ℕ) → a ≤ b → Rose b c → Rose a c
rose_before a b c le rose = omega (arith, rose)

-- a fault after a count is one after an earlier count
later_fault : {X : Type 0} (a b c : ℕ) (result : Result X OpenStop) → a ≤ b → IsReadFault b c result → IsReadFault a c result
later_fault a b c (Ok x) le fault = tt
later_fault a b c (Err (outer.Refused why)) le fault = tt
later_fault a b c (Err outer.Read) le fault = rose_before a b c le fault
later_fault a b c (Err outer.Memory) le fault = tt

-- that of another call with the same error
same_fault : (X Y : Type 0) (a b : ℕ) (e : OpenStop) → IsReadFault {X = X} a b (Err e) → IsReadFault {X = Y} a b (Err e)
same_fault X Y a b (outer.Refused why) fault = tt
same_fault X Y a b outer.Read fault = fault
same_fault X Y a b outer.Memory fault = tt

-- a read failed only where the count rose
pub read_fault : {X : Type 0} (a b : ℕ) (result : Result X OpenStop) → IsReadFault a b result → IsErrOf result outer.Read → Rose a b
read_fault a b (Ok x) fault is = absurd cc
read_fault {X} a b (Err e) fault is =
    let same : e ≡ outer.Read = cc in
    let at : OpenStop → Type 0 = λ r. IsReadFault {X = ℕ} a b (Err r) in subst at same (same_fault X ℕ a b e fault)

-- where a first step stopped, the whole stops
stops_there : {X Y : Type 0} (e : OpenStop) (r : Result X Refusal) (k : X → Result Y Refusal) → IsFault (cause e) r
    → IsFault (cause e) (r >>= k)
stops_there {X} {Y} (outer.Refused why) r k is =
    let at : Result X Refusal → Type 0 = λ s. (s >>= k) ≡ Err why in subst at (sym is) refl
stops_there outer.Read r k is = tt
stops_there outer.Memory r k is = tt

goes_on : {X Y : Type 0} (x : X) (r : Result X Refusal) (k : X → Result Y Refusal) (result : Result Y OpenStop) → r ≡ Ok x → Opens result (k x)
    → Opens result (r >>= k)
goes_on {X} x r k result is then_is =
    let at : Result X Refusal → Type 0 = λ s. Opens result (s >>= k) in subst at (sym is) then_is

module _ (a b c : ℕ) (told tells now : Option Files) where
  -- a call, and then another with what it gave
  pub then_read : {X Y : Type 0} (x : X) (result : Result Y OpenStop) (given : Files → Result X Refusal) (next : Files → X → Result Y Refusal)
      → IsRead a b told tells (Ok x) given → IsRead b c tells now result (λ files. next files x)
      → IsRead a c told now result (λ files. given files >>= next files)
  then_read x result given next first second = record {
    counted = let n = first.counted in let m = second.counted in omega arith;
    stays = kept_on told tells now first.stays second.stays;
    read = later_fault a b c result first.counted second.read;
    is =
        told_both _ _ _ told (λ files p q. goes_on x (given files) (next files) result p q) first.is
        (told_on (λ files. Opens result (next files x)) told tells first.stays second.is);
  }

-- the call stopped, and so the whole
pub stopped : {X Y : Type 0} (a b : ℕ) (told tells : Option Files) (e : OpenStop) (given : Files → Result X Refusal)
    (next : Files → X → Result Y Refusal) → IsRead {X = X} a b told tells (Err e) given
    → IsRead {X = Y} a b told tells (Err e) (λ files. given files >>= next files)
stopped {X} {Y} a b told tells e given next first = record {
  counted = first.counted;
  stays = first.stays;
  read = same_fault X Y a b e first.read;
  is = told_map _ _ told (λ files p. stops_there e (given files) (next files) p) first.is;
}

module _ {X : Type 0} (a : ℕ) (told : Option Files) (given : Result X Refusal) where
  -- a step that reads no file
  pub quiet : (x : X) → given ≡ Ok x → IsRead a a told told (Ok x) (λ files. given)
  quiet x is = record {
    counted = omega arith;
    stays = kept_still told;
    read = tt;
    is = told_here is;
  } where
    told_here : {P : Type 0} → P → IfSome told (λ files. P)
    told_here {P} p = elim told as (λ o. IfSome o (λ files. P)) [ None ↦ tt | Some files ↦ p ]

  quiet_stop : (why : StepStop) → IsFault (refusal_of why) given → IsRead {X = X} a a told told (Err (open_stop why)) (λ files. given)
  quiet_stop (stop.Refused why) is = record {
    counted = omega arith;
    stays = kept_still told;
    read = tt;
    is = elim told as (λ o. IfSome o (λ files. given ≡ Err why)) [ None ↦ tt | Some files ↦ is ];
  }
  quiet_stop stop.Memory is = record {
    counted = omega arith;
    stays = kept_still told;
    read = tt;
    is = elim told as (λ o. IfSome o (λ files. Unit {0})) [ None ↦ tt | Some files ↦ tt ];
  }

  pub quiet_fault : (e : OpenStop) (why : StepStop) → e ≡ open_stop why → IsFault (refusal_of why) given
      → IsRead {X = X} a a told told (Err e) (λ files. given)
  quiet_fault e why same is =
      let at : OpenStop → Type 0 = λ r. IsRead {X = X} a a told told (Err r) (λ files. given) in
      subst at (sym same) (quiet_stop why is)

-- memory was refused
pub no_memory : (X : Type 0) (a b : ℕ) (told tells : Option Files) (given : Files → Result X Refusal) → a ≤ b → Kept told tells
    → IsRead {X = X} a b told tells (Err outer.Memory) given
no_memory X a b told tells given counted stays = record {
  counted = counted;
  stays = stays;
  read = tt;
  is = elim told as (λ o. IfSome o (λ files. Unit {0})) [ None ↦ tt | Some files ↦ tt ];
}

-- ---- several calls in a loop

-- the values that were given, and then the others
abbrev pub after : {X : Type 0} → List X → Result (List X) Refusal → Result (List X) Refusal
after values (Ok others) = Ok (values ++ others)
after values (Err why) = Err why

-- these values were given, and with those that are left they are the whole
pub record Along {X : Type 0} (a b : ℕ) (told tells : Option Files) (values : List X) (left whole : Files → Result (List X) Refusal) : Type 0 where
  pub counted : a ≤ b
  pub stays : Kept told tells
  pub is : IfSome told (λ files. after values (left files) ≡ whole files)

after_none : {X : Type 0} (r : Result (List X) Refusal) → after [] r ≡ r
after_none (Ok xs) = refl
after_none (Err why) = refl

after_more : {X : Type 0} (values : List X) (x : X) (r : Result (List X) Refusal)
    → after (values ++ x ∷ []) r ≡ after values (r >>= λ xs. Ok (x ∷ xs))
after_more values x (Ok xs) = ap Ok (append_assoc values (x ∷ []) xs)
after_more values x (Err why) = refl

pub begun : {X : Type 0} (a : ℕ) (told : Option Files) (whole : Files → Result (List X) Refusal) → Along a a told told [] whole whole
begun a None whole = record { counted = omega arith; stays = tt; is = tt }
begun a (Some files) whole = record { counted = omega arith; stays = refl; is = after_none (whole files) }

module _ {X : Type 0} (a b c : ℕ) (told tells now : Option Files) (values : List X)
    (one : Files → Result X Refusal) (rest : Files → List (Result X Refusal)) (whole : Files → Result (List X) Refusal) where
  one_more : (x : X) (r : Result X Refusal) (left : Result (List X) Refusal) (all : Result (List X) Refusal)
      → after values (r >>= λ y. left >>= λ ys. Ok (y ∷ ys)) ≡ all → r ≡ Ok x → after (values ++ x ∷ []) left ≡ all
  one_more x r left all is read =
      let at : Result X Refusal → Type 0 = λ s. after values (s >>= λ y. left >>= λ ys. Ok (y ∷ ys)) ≡ all in
      after_more values x left ∙ subst at read is

  pub more : (x : X) → Along a b told tells values (λ files. all_of (one files ∷ rest files)) whole → IsRead b c tells now (Ok x) one
      → Along a c told now (values ++ x ∷ []) (λ files. all_of (rest files)) whole
  more x so_far read = record {
    counted = let n = so_far.counted in let m = read.counted in omega arith;
    stays = kept_on told tells now so_far.stays read.stays;
    is =
        told_both _ _ _ told (λ files p q. one_more x (one files) (all_of (rest files)) (whole files) p q) so_far.is
        (told_on (λ files. one files ≡ Ok x) told tells so_far.stays read.is);
  }

  one_stops : (e : OpenStop) (r : Result X Refusal) (left all : Result (List X) Refusal)
      → after values (r >>= λ y. left >>= λ ys. Ok (y ∷ ys)) ≡ all → IsFault (cause e) r → IsFault (cause e) all
  one_stops (outer.Refused why) r left all is stops =
      let at : Result X Refusal → Type 0 = λ s. after values (s >>= λ y. left >>= λ ys. Ok (y ∷ ys)) ≡ all in
      sym (subst at stops is)
  one_stops outer.Read r left all is stops = tt
  one_stops outer.Memory r left all is stops = tt

  pub stops : (e : OpenStop) → Along a b told tells values (λ files. all_of (one files ∷ rest files)) whole
      → IsRead {X = X} b c tells now (Err e) one → IsRead {X = List X} a c told now (Err e) whole
  stops e so_far read = record {
    counted = let n = so_far.counted in let m = read.counted in omega arith;
    stays = kept_on told tells now so_far.stays read.stays;
    read = later_fault {X = List X} a b c (Err e) so_far.counted (same_fault X (List X) b c e read.read);
    is =
        told_both _ _ _ told (λ files p q. one_stops e (one files) (all_of (rest files)) (whole files) p q) so_far.is
        (told_on (λ files. IsFault (cause e) (one files)) told tells so_far.stays read.is);
  }

pub ended : {X : Type 0} (a b : ℕ) (told tells : Option Files) (values : List X) (whole : Files → Result (List X) Refusal)
    → Along a b told tells values (λ files. Ok []) whole → IsRead a b told tells (Ok values) whole
ended a b told tells values whole so_far = record {
  counted = so_far.counted;
  stays = so_far.stays;
  read = tt;
  is = told_map _ _ told (λ files p. sym p ∙ ap Ok (append-nil values)) so_far.is;
}

pub no_memory_as : (X : Type 0) (a b : ℕ) (told tells : Option Files) (given : Files → Result X Refusal) (e : OpenStop) → e ≡ outer.Memory
    → a ≤ b → Kept told tells → IsRead {X = X} a b told tells (Err e) given
no_memory_as X a b told tells given e is counted stays =
    let at : OpenStop → Type 0 = λ why. IsRead {X = X} a b told tells (Err why) given in
    subst at (sym is) (no_memory X a b told tells given counted stays)

-- the same of an answer that is an error
pub no_memory_from : (X : Type 0) (a b : ℕ) (told tells : Option Files) (given : Files → Result X Refusal) (result : Result X OpenStop)
    → IsErrAnd result (λ e. e ≡ outer.Memory) → a ≤ b → Kept told tells → IsRead a b told tells result given
no_memory_from X a b told tells given (Ok x) is counted stays = absurd is
no_memory_from X a b told tells given (Err e) is counted stays = no_memory_as X a b told tells given e is counted stays

pub quiet_from : {X : Type 0} (a : ℕ) (told : Option Files) (given : Result X Refusal) (why : StepStop) (result : Result X OpenStop)
    → IsErrAnd result (λ e. e ≡ open_stop why) → IsFault (refusal_of why) given → IsRead a a told told result (λ files. given)
quiet_from a told given why (Ok x) is fault = absurd is
quiet_from a told given why (Err e) is fault = quiet_fault a told given e why is fault

-- a step that reads no file stopped, and so the whole
pub stopped_from : {X Y : Type 0} (a : ℕ) (told : Option Files) (given : Result X Refusal) (next : Files → X → Result Y Refusal) (why : StepStop)
    (result : Result Y OpenStop) → IsErrAnd result (λ e. e ≡ open_stop why) → IsFault (refusal_of why) given
    → IsRead a a told told result (λ files. given >>= next files)
stopped_from a told given next why (Ok x) is fault = absurd is
stopped_from {X} a told given next why (Err e) is fault = stopped a a told told e (λ files. given) next (quiet_fault a told given e why is fault)

-- ---- calls for the elements of a list

nothing_left : {R : Type 0} (i : ℕ) (xs : List R) → length xs ≤ i → drop i xs ≡ []
nothing_left zero [] past = refl
nothing_left (suc i) [] past = refl
nothing_left zero (x ∷ xs) past = absurd (omega arith)
nothing_left (suc i) (x ∷ xs) past = nothing_left i xs (omega arith)

module _ {R D X : Type 0} (of : R → D) (f : Files → D → Result X Refusal) (xs : List R) where
  abbrev pub left_of : ℕ → Files → Result (List X) Refusal
  left_of i files = all_of (map (f files) (map of (drop i xs)))

  one_left : (i : ℕ) (x : R) → i < length xs → x ≡ get_or xs i x → (files : Files)
      → left_of i files ≡ all_of (f files (of x) ∷ map (f files) (map of (drop (i + 1) xs)))
  one_left i x within is files =
      let next : suc i ≡ i + 1 = omega arith in
      let parts : drop i xs ≡ x ∷ drop (i + 1) xs =
      drop-cons xs i x within ∙ ap (λ y. y ∷ drop (suc i) xs) (sym is) ∙ ap (λ n. x ∷ drop n xs) next in
      ap (λ rest. all_of (map (f files) (map of rest))) parts

  module _ (a b : ℕ) (told tells : Option Files) (values : List X) (whole : Files → Result (List X) Refusal) (i : ℕ) where
    along_one : (x : R) → i < length xs → x ≡ get_or xs i x → Along a b told tells values (left_of i) whole
        → Along a b told tells values (λ files. all_of (f files (of x) ∷ map (f files) (map of (drop (i + 1) xs)))) whole
    along_one x within is along =
        let at : (Files → Result (List X) Refusal) → Type 0 = λ left. Along a b told tells values left whole in
        subst at (λ j files. one_left i x within is files j) along

    pub passed : (c : ℕ) (now : Option Files) (x : R) (v : X) (new : List X) → i < length xs → x ≡ get_or xs i x → new ≡ values ++ v ∷ []
        → Along a b told tells values (left_of i) whole → IsRead b c tells now (Ok v) (λ files. f files (of x))
        → Along a c told now new (left_of (i + 1)) whole
    passed c now x v new within is pushed along read =
        let at : List X → Type 0 = λ vs. Along a c told now vs (left_of (i + 1)) whole in
        subst at (sym pushed)
        (more a b c told tells now values (λ files. f files (of x)) (λ files. map (f files) (map of (drop (i + 1) xs))) whole v
        (along_one x within is along) read)

    pub stopped_at : (c : ℕ) (now : Option Files) (x : R) (e : OpenStop) → i < length xs → x ≡ get_or xs i x
        → Along a b told tells values (left_of i) whole → IsRead {X = X} b c tells now (Err e) (λ files. f files (of x))
        → IsRead {X = List X} a c told now (Err e) whole
    stopped_at c now x e within is along read =
        stops a b c told tells now values (λ files. f files (of x)) (λ files. map (f files) (map of (drop (i + 1) xs))) whole e
        (along_one x within is along) read

    pub all_passed : length xs ≤ i → Along a b told tells values (left_of i) whole → IsRead a b told tells (Ok values) whole
    all_passed past along =
        let at : (Files → Result (List X) Refusal) → Type 0 = λ left. Along a b told tells values left whole in
        let none : drop i xs ≡ [] = nothing_left i xs past in
        ended a b told tells values whole (subst at (λ j files. all_of (map (f files) (map of (none j)))) along)

pub begun_with : {X : Type 0} (a : ℕ) (told : Option Files) (whole : Files → Result (List X) Refusal) (values : List X) → values ≡ []
    → Along a a told told values whole whole
begun_with {X} a told whole values none =
    let at : List X → Type 0 = λ vs. Along a a told told vs whole whole in subst at (sym none) (begun a told whole)
