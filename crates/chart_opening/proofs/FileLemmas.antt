-- What is given of files that were read in pieces.
use Rattle.std.proofs.Common.{◌≡◌, ◌≤◌, ◌<◌, ◌^◌, ℕ, Option, Some, None, List, length, Result, Ok, Err, refl, sym, subst, ap, ◌∙◌, arith}
use Rattle.std.proofs.Common.{nat_le, if◌then◌else◌}
use Rattle.std.proofs.lemmas.Bool.Decides.{nat_tests}
use Rattle.std.specs.Prelude.{IfSome}
use Rattle.std.specs.declared.vec.Vec.{Vec}
use Rattle.chart_io.specs.Outside.{Files, file_of, Kept, Rose}
use Rattle.chart_opening.specs.declared.refusal.Refusal.{Refusal}
use Rattle.chart_opening.specs.declared.refusal.Refusal.TheVariants as refusal
use Rattle.chart_opening.specs.declared.refusal.OpenStop.{OpenStop}
use Rattle.chart_opening.specs.declared.refusal.OpenStop.TheVariants as outer
use Rattle.chart_opening.specs.declared.files.FileStop.{FileStop}
use Rattle.chart_opening.specs.declared.files.FileStop.TheVariants as stop
use Rattle.chart_opening.specs.Files.{bytes_in, bytes_of}
use Rattle.chart_opening.specs.inner.Files.{IsTooLong, IsReadOf, IsStopOf}
use Rattle.chart_opening.specs.inner.Folders.{IsRead}
use Rattle.chart_opening.proofs.FolderLemmas.{told_map, no_memory}

short_enough : (name bytes : List ℕ) → length bytes ≤ 2 ^ 24
    → ◌≡◌ {A = Result (List ℕ) Refusal} (if nat_le (length bytes) (2 ^ 24) then Ok bytes else Err (refusal.Size name)) (Ok bytes)
short_enough name bytes few = grind (arith, nat_tests)

too_long : (name bytes : List ℕ) → 2 ^ 24 < length bytes
    → ◌≡◌ {A = Result (List ℕ) Refusal} (if nat_le (length bytes) (2 ^ 24) then Ok bytes else Err (refusal.Size name)) (Err (refusal.Size name))
too_long name bytes long = grind (arith, nat_tests)

whole_file : (name : List ℕ) (file : Option (List ℕ)) (bytes : List ℕ) → (file ≡ Some bytes) × (length bytes ≤ 2 ^ 24) → bytes_in name file ≡ Ok bytes
whole_file name file bytes (is, few) = ap (bytes_in name) is ∙ short_enough name bytes few

no_file : (name : List ℕ) (file : Option (List ℕ)) → file ≡ None → bytes_in name file ≡ Err (refusal.Missing name)
no_file name file is = ap (bytes_in name) is

long_file : (name : List ℕ) (file : Option (List ℕ)) → IsTooLong file → bytes_in name file ≡ Err (refusal.Size name)
long_file name None long = absurd long
long_file name (Some bytes) long = too_long name bytes long

module _ (A : Type 0) (a b : ℕ) (told tells : Option Files) (name : List ℕ) (counted : a ≤ b) (stays : Kept told tells) where
  pub read_whole : (bytes : Vec ℕ A) → IfSome told (λ files. IsReadOf (file_of files name) (Ok bytes))
      → IsRead a b told tells (Ok bytes.items) (λ files. bytes_of files name)
  read_whole bytes is = record {
    counted = counted;
    stays = stays;
    read = tt;
    is = told_map _ _ told (λ files p. whole_file name (file_of files name) bytes.items p) is;
  }

  pub whole_as : (list : List ℕ) (bytes : Vec ℕ A) → list ≡ bytes.items → IfSome told (λ files. IsReadOf (file_of files name) (Ok bytes))
      → IsRead a b told tells (Ok list) (λ files. bytes_of files name)
  whole_as list bytes same is =
      let at : List ℕ → Type 0 = λ xs. IsRead a b told tells (Ok xs) (λ files. bytes_of files name) in
      subst at (sym same) (read_whole bytes is)

  missing : (why : Refusal) → why ≡ refusal.Missing name → IfSome told (λ files. file_of files name ≡ None)
      → IsRead {X = List ℕ} a b told tells (Err (outer.Refused why)) (λ files. bytes_of files name)
  missing why same is = record {
    counted = counted;
    stays = stays;
    read = tt;
    is = told_map _ _ told (λ files p. no_file name (file_of files name) p ∙ ap Err (sym same)) is;
  }

  long : (why : Refusal) → why ≡ refusal.Size name → IfSome told (λ files. IsTooLong (file_of files name))
      → IsRead {X = List ℕ} a b told tells (Err (outer.Refused why)) (λ files. bytes_of files name)
  long why same is = record {
    counted = counted;
    stays = stays;
    read = tt;
    is = told_map _ _ told (λ files p. long_file name (file_of files name) p ∙ ap Err (sym same)) is;
  }

  fault : Rose a b → IsRead {X = List ℕ} a b told tells (Err outer.Read) (λ files. bytes_of files name)
  fault rose = record {
    counted = counted;
    stays = stays;
    read = rose;
    is = elim told as (λ o. IfSome o (λ files. Unit {0})) [ None ↦ tt | Some files ↦ tt ];
  }

  pub read_stopped : (why : FileStop) (e : OpenStop) → IsStopOf name why e → (why ≡ stop.Read → Rose a b)
      → IfSome told (λ files. IsReadOf {A = A} (file_of files name) (Err why))
      → IsRead {X = List ℕ} a b told tells (Err e) (λ files. bytes_of files name)
  read_stopped stop.Missing (outer.Refused why) is rose of = missing why is of
  read_stopped stop.Size (outer.Refused why) is rose of = long why is of
  read_stopped stop.Read (outer.Refused why) is rose of = absurd is
  read_stopped stop.Memory (outer.Refused why) is rose of = absurd is
  read_stopped stop.Missing outer.Read is rose of = absurd is
  read_stopped stop.Size outer.Read is rose of = absurd is
  read_stopped stop.Read outer.Read is rose of = fault (rose refl)
  read_stopped stop.Memory outer.Read is rose of = absurd is
  read_stopped why outer.Memory is rose of = no_memory (List ℕ) a b told tells (λ files. bytes_of files name) counted stays
