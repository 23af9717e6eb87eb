-- What has been read of a file, piece by piece.
use Rattle.std.proofs.Common.{◌≡◌, ℕ, ◌≤◌, Option, Some, None, List, [], length, take}
use Rattle.std.specs.Prelude.{IfSome}
use Rattle.chart_io.specs.Outside.{Files, file_of}

-- the bytes are a front of the file; none where there is no file
abbrev pub IsFront : Option (List ℕ) → List ℕ → Type 0
IsFront None bytes = bytes ≡ []
IsFront (Some file) bytes = (length bytes ≤ length file) × (bytes ≡ take (length bytes) file)

-- of a folder that tells its files, this is what has been read of the named one
abbrev pub HasRead : Option Files → Option Files → List ℕ → List ℕ → Type 0
HasRead told now name bytes = IfSome told (λ files. (now ≡ Some files) × IsFront (file_of files name) bytes)
