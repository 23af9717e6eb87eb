-- The records that a reader has left.
use Rattle.std.specs.Prelude.{◌≡◌, ℕ, ◌+◌, true, false, Bool, Option, Some, None, IsSome, List, [], ◌∷◌, length}
use Rattle.std.specs.List.{list_all}
use Rattle.std.specs.Str.{is_utf8}
use Rattle.std.specs.Borrow.{Bor}
use Rattle.csv.specs.Reading.{Ready, records_from, default_config, source_of, reader_config, reader_trim, reader_state, is_flexible}
use Rattle.csv.specs.declared.parser.State.{State}
use Rattle.csv.specs.declared.reader.Reader.{Reader}
use Rattle.csv.specs.declared.reader.Trim.TheVariants as trim
use Rattle.csv.specs.declared.error.ErrorKind.{ErrorKind}
use Rattle.csv.specs.declared.error.ErrorKind.TheVariants as kind
use Rattle.data_rows.specs.declared.records.RecordError.{RecordError}
use Rattle.data_rows.specs.declared.records.RecordError.TheVariants.{NoText, Memory}

-- a reader of bytes
abbrev pub BytesReader : Type 0
BytesReader = Reader (Bor (List ℕ))

-- the bytes that a reader has left
abbrev pub bytes_left : BytesReader → Option (List ℕ)
bytes_left reader = source_of (λ (bytes : Bor (List ℕ)). Some bytes.now) reader

-- the records of bytes from a state on
abbrev pub records_in : State → Option (List ℕ) → List (List (List ℕ))
records_in state None = []
records_in state (Some bytes) = records_from default_config (length bytes + 1) state bytes

-- the records that a reader has left
abbrev pub left_of : BytesReader → List (List (List ℕ))
left_of reader = records_in (reader_state reader) (bytes_left reader)

-- a reader that has not failed and reads a record at a time
pub record IsReading (reader : BytesReader) : Type 0 where
  pub ready : Ready reader
  pub config : reader_config reader ≡ default_config
  pub trim : reader_trim reader ≡ trim.None
  pub flexible : is_flexible reader ≡ true
  pub known : IsSome (bytes_left reader)

-- what a read found: the next record, or that there is none
abbrev pub Found : BytesReader → BytesReader → List (List ℕ) → Bool → Type 0
Found old new fields true = (left_of old ≡ fields ∷ left_of new) × (list_all is_utf8 fields ≡ true) × IsReading new
Found old new fields false = left_of old ≡ []

-- the next record has bytes that are no UTF-8
abbrev pub IsNoText : List (List (List ℕ)) → Type 0
IsNoText records = (fields : List (List ℕ)) × (others : List (List (List ℕ))) × (records ≡ fields ∷ others) × (list_all is_utf8 fields ≡ false)

-- why a record was not read
abbrev pub cause_of : ErrorKind → RecordError
cause_of (kind.Utf8 pos err) = NoText
cause_of kind.OutOfMemory = Memory
cause_of (kind.Io e) = Memory
cause_of (kind.UnequalLengths pos expected len) = Memory
cause_of (kind.Serialize text) = Memory
cause_of (kind.Deserialize pos err) = Memory
