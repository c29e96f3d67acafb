-- Readers and writers of records, where the bytes behind them are known.
use Rattle.std.specs.Prelude.{◌≡◌, ℕ, ◌+◌, ◌-◌, ◌^◌, ◌<◌, ◌≤◌, min, Bool, List, [], ◌∷◌, length, Option, Some, IfSome, IsSomeAnd}
use Rattle.std.specs.Io.Buffered.{reader_remaining, writer_buffer, writer_contents, writer_inner}
use Rattle.unit_io.specs.Answers.{overlaid}
use Rattle.unit_io.specs.declared.answers.ReadAnswer.{ReadAnswer}
use Rattle.unit_io.specs.declared.answers.ReadAnswer.TheVariants as read
use Rattle.real_units.specs.RecordTexts.{IsFirstRecord}
use Rattle.real_units.specs.declared.record_reader.RecordReader.{RecordReader}
use Rattle.real_units.specs.declared.record_reader.NextByte.{NextByte}
use Rattle.real_units.specs.declared.record_reader.NextByte.TheVariants as next
use Rattle.real_units.specs.declared.record_writer.RecordWriter.{RecordWriter}

-- the bytes that are left to read, where they are known
abbrev pub bytes_left : {R : Type 0} → (R → Option (List ℕ)) → RecordReader R → Option (List ℕ)
bytes_left remaining r = reader_remaining remaining r.input

-- a read failed, so that the place is lost
abbrev pub reader_failed : {R : Type 0} → RecordReader R → Bool
reader_failed r = r.failed

-- how many bytes the records that were read had, with their LFs
abbrev pub reader_place : {R : Type 0} → RecordReader R → ℕ
reader_place r = r.place

-- the last record that was read ended without an LF
abbrev pub reader_unended : {R : Type 0} → RecordReader R → Bool
reader_unended r = r.unended

-- a place stands still at the last number
abbrev pub place_after : NextByte → ℕ → ℕ
place_after (next.Byte byte) place = min (place + 1) (2 ^ 64 - 1)
place_after next.End place = place
place_after next.Failed place = place

-- a place moves on by the bytes that are taken
abbrev pub MovesPlace : Option (List ℕ) → Option (List ℕ) → ℕ → ℕ → Type 0
MovesPlace left after from to = IfSome left (λ text. IsSomeAnd after (λ rest. from + length text < 2 ^ 64 → to + length rest ≡ from + length text))

-- of the bytes that were left, one was taken, or they were at their end
abbrev pub TakesByte : List ℕ → NextByte → Option (List ℕ) → Type 0
TakesByte text (next.Byte byte) left = IsSomeAnd left (λ rest. text ≡ byte ∷ rest)
TakesByte text next.End left = (text ≡ []) × (left ≡ Some [])
TakesByte text next.Failed left = left ≡ Some text

-- a read of the first record of a text, into these bytes, which may end without an LF
abbrev pub ReadsRecord : List ℕ → ReadAnswer → List ℕ → List ℕ → Option (List ℕ) → Bool → Type 0
ReadsRecord text (read.Rec count) old new left unended = IsSomeAnd left (λ rest. (bytes : List ℕ) × IsFirstRecord text bytes rest unended × (length bytes ≤ 2 ^ 30) × (count ≡ min (length bytes) (length old)) × (new ≡ overlaid (Some bytes) old))
ReadsRecord text read.End old new left unended = (text ≡ []) × (new ≡ old) × (left ≡ Some [])
ReadsRecord text read.Failed old new left unended = Unit {0}

-- the bytes that were written, those that the writer behind has yet to get among them
abbrev pub bytes_written : {W : Type 0} → (W → Option (List ℕ)) → RecordWriter W → Option (List ℕ)
bytes_written contents w = writer_contents contents w.output

-- the bytes that the writer behind has
abbrev pub bytes_passed : {W : Type 0} → (W → Option (List ℕ)) → RecordWriter W → Option (List ℕ)
bytes_passed contents w = contents (writer_inner w.output)

-- a write failed, so that the place is lost
abbrev pub writer_failed : {W : Type 0} → RecordWriter W → Bool
writer_failed w = w.failed
