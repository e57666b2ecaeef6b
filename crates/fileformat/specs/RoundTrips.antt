-- The two round trips, what is read being valid, and how many bytes decide a read: the statements. proofs/RoundTrips.antt, proofs/Prefix.antt and, for the calls,
-- proofs/RoundTripCalls.antt prove them under the names given here.
use Rattle.std.specs.Prelude.{ℕ, ◌≤◌, ◌≡◌, true, false, List, ◌++◌, map, length, take}
use Rattle.std.proofs.Math.Option.{none}
use Rattle.model.specs.Limits.{max_charge}
use Rattle.model.specs.Tasks.{Release}
use Rattle.model.specs.Refusal.{answered}
use Rattle.model.specs.Checks.{refusal_of}
use Rattle.model.specs.Calls.{list_inputs}
use Rattle.taskset.specs.declared.Task.{Task}
use Rattle.taskset.specs.declared.TaskSet.{TaskSet}
use Rattle.taskset.specs.TaskSet.{view_of}
use Rattle.fileformat.specs.Numbers.{Bytes}
use Rattle.fileformat.specs.Records.{short, long, task_record, release_record, charge_record, record_bytes}
use Rattle.fileformat.specs.File.{File, encode, decode, ValidFile}
use Rattle.fileformat.specs.FileCalls.{set_with, write_inputs, file_of}

-- a charge is a byte
abbrev pub IsByte : ℕ → Type 0
IsByte c = c ≤ max_charge

-- `decode_encode`: a valid sheet with its releases, written and read back, is the same
abbrev pub WrittenIsRead : Type 0
WrittenIsRead = (x : File) → IsByte x.charge → ValidFile x → decode (encode x) ≡ answered x

-- `encode_decode`: an accepted file is rewritten byte for byte
abbrev pub ReadIsWritten : Type 0
ReadIsWritten = (f : List ℕ) (x : File) → Bytes f → decode f ≡ answered x → encode x ≡ f

-- `decode_valid`: what is read is within the limits
abbrev pub ReadIsValid : Type 0
ReadIsValid = (f : List ℕ) (x : File) → decode f ≡ answered x → ValidFile x

-- `decode_charge`: and its charge is a byte
abbrev pub ReadIsByte : Type 0
ReadIsByte = (f : List ℕ) (x : File) → Bytes f → decode f ≡ answered x → IsByte x.charge

-- `record_sizes`: a charge has 2 bytes, a high task 17, a low one 18, a release of kind 2 has 10 and one of kind 4 has 14
abbrev pub RecordSizes : Type 0
RecordSizes =
    (c : ℕ) (t : Task) (r : Release) → (length (record_bytes (charge_record c)) ≡ 2) × (t.low ≡ false → length (record_bytes (task_record t)) ≡ 17)
    × (t.low ≡ true → length (record_bytes (task_record t)) ≡ 18)
    × (length (record_bytes (release_record short r)) ≡ 10)
    × (length (record_bytes (release_record long r)) ≡ 14)

-- `decode_short`: an accepted file has at most 14,915 bytes: a charge of 2, 32 tasks of 18, 1,024 releases of 14, and the end
abbrev pub ReadIsShort : Type 0
ReadIsShort = (f : List ℕ) (x : File) → Bytes f → decode f ≡ answered x → length f ≤ 14915

-- the bytes that decide a read: a charge of 2, 32 tasks of 18, 1,024 releases of 14, and one more record of 18
abbrev pub deciding_bytes : ℕ
deciding_bytes = 14932

-- `decode_first`: so many of the first bytes decide what a file answers
abbrev pub FirstBytesDecide : Type 0
FirstBytesDecide = (n : ℕ) (f : List ℕ) → deciding_bytes ≤ n → decode (take n f) ≡ decode f

-- `written_valid`, `Written-Read`: a write that is not refused writes a valid file, which is read again
abbrev pub WriteIsValid : Type 0
WriteIsValid =
    (s : TaskSet) (n : ℕ) (task tick cost : List ℕ) (room : ℕ) → none ≡ refusal_of (write_inputs (view_of s) n task tick cost room)
    → ValidFile (file_of s n task tick cost)

abbrev pub WriteIsRead : Type 0
WriteIsRead =
    (s : TaskSet) (n : ℕ) (task tick cost : List ℕ) (room : ℕ) → IsByte s.charge → none ≡ refusal_of (write_inputs (view_of s) n task tick cost room)
    → decode (encode (file_of s n task tick cost)) ≡ answered (file_of s n task tick cost)

-- a column that holds a number of each release of a file, and then what it held past them
abbrev pub filled : (Release → ℕ) → File → List ℕ → List ℕ
filled g x held = map g x.releases ++ held

-- `read_passes`: what a read gives passes the checks of a call with a list
abbrev pub ReadPasses : Type 0
ReadPasses =
    (f : List ℕ) (x : File) (a b c : List ℕ) → decode f ≡ answered x
    → none ≡ refusal_of (list_inputs (view_of (set_with x.charge x.tasks)) (length x.releases) (filled (λ r. r.task) x a) (filled (λ r. r.tick) x b) (filled (λ r. r.cost) x c))

-- `read_written`: what a read gives, written again, is the accepted file
abbrev pub ReadWrites : Type 0
ReadWrites =
    (f : List ℕ) (x : File) (a b c : List ℕ) → Bytes f → decode f ≡ answered x
    → encode (file_of (set_with x.charge x.tasks) (length x.releases) (filled (λ r. r.task) x a) (filled (λ r. r.tick) x b) (filled (λ r. r.cost) x c)) ≡ f
