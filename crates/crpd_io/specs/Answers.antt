-- The answers of files, and which of them are right for a file.
use Rattle.std.specs.Prelude.{◌≡◌, ◌+◌, ◌<◌, ◌≤◌, ◌⊎◌, ℕ, List, [], ◌∷◌, ◌++◌, length, take, drop}
use Rattle.std.specs.Prelude.{Option, None, Some, Result, Ok, Err, if◌then◌else◌}
use Rattle.std.specs.Result.{result_ok}
use Rattle.std.specs.Option.{option_map_or}
use Rattle.std.specs.Str.{bytes_eq}

-- the bytes of a file, none if there is no such file
abbrev pub bytes_of : Option (List ℕ) → List ℕ
bytes_of file = option_map_or (λ bytes. bytes) file []

-- These bytes were read into a buffer of a length: they are those of the file from the place on.
-- If the buffer is not empty, there are none only at the end of the file.
pub record Reads (file : List ℕ) (place room : ℕ) (bytes : List ℕ) : Type 0 where
  pub front : bytes ≡ take (length bytes) (drop place file)
  pub within : length bytes ≤ length (drop place file)
  pub ends : 0 < room → length bytes ≡ 0 → length (drop place file) ≡ 0

-- A read without a fault: bytes from a place on, for a buffer of a length.
pub record FileRead : Type 0 where
  pub place : ℕ
  pub room : ℕ
  pub bytes : List ℕ

-- What files answered when they were asked for the file of a name: its size, if there is such a
-- file, or None if that call failed; and the reads after it, newest first.
pub record FileAnswer : Type 0 where
  pub name : List ℕ
  pub size : Option (Option ℕ)
  pub reads : List FileRead

-- the answers so far, newest first, after a call of `size`
abbrev pub log_size : {E : Type 0} → List ℕ → Result (Option ℕ) E → List FileAnswer
    → List FileAnswer
log_size name result log = record { name = name; size = result_ok result; reads = [] } ∷ log

-- after a call of `read`, which belongs to the newest answer if that is of the same file
abbrev pub log_reads : List ℕ → List FileRead → List FileAnswer → List FileAnswer
log_reads name reads [] = record { name = name; size = None; reads = reads } ∷ []
log_reads name reads (answer ∷ log) =
    if bytes_eq name answer.name
    then record answer { reads = reads ++ answer.reads } ∷ log
    else record { name = name; size = None; reads = reads } ∷ answer ∷ log

-- the read that a call of `read` is, if it did not fail
abbrev pub reads_of : {E : Type 0} → (place room : ℕ) → List ℕ → Result ℕ E → List FileRead
reads_of place room into (Ok n) =
    record { place = place; room = room; bytes = take n into } ∷ []
reads_of place room into (Err fault) = []

-- ---- right answers

-- one of the reads met the end of the file at this place
abbrev pub MetEnd : List FileRead → ℕ → Type 0
MetEnd [] place = ⊥
MetEnd (r ∷ reads) place =
    ((r.place ≡ place) × (0 < r.room) × (length r.bytes ≡ 0)) ⊎ MetEnd reads place

-- The size is the file's; or it is larger, and a read met the end, which then is where the file
-- ends.
abbrev pub IsSizeOf : Option (List ℕ) → Option (Option ℕ) → List FileRead → Type 0
IsSizeOf file None reads = Unit {0}
IsSizeOf file (Some None) reads = file ≡ None
IsSizeOf file (Some (Some size)) reads =
    (bytes : List ℕ) × (file ≡ Some bytes)
    × ((length bytes ≡ size) ⊎ ((length bytes ≤ size) × MetEnd reads (length bytes)))

-- each read gave bytes of the file
abbrev pub AreReads : Option (List ℕ) → List FileRead → Type 0
AreReads file [] = Unit {0}
AreReads file (r ∷ reads) =
    Reads (bytes_of file) r.place r.room r.bytes × AreReads file reads

-- the answer is right for this file
pub record Fits (file : Option (List ℕ)) (answer : FileAnswer) : Type 0 where
  pub size : IsSizeOf file answer.size answer.reads
  pub reads : AreReads file answer.reads

-- ---- files that are asked for once

-- the bytes of the reads, which are given newest first, one after the other
abbrev pub bytes_read : List FileRead → List ℕ
bytes_read [] = []
bytes_read (r ∷ reads) = bytes_read reads ++ r.bytes

-- the read begins where these bytes end, with room for the rest of a size, of which there is some
pub record GoesOn (size : ℕ) (before : List ℕ) (r : FileRead) : Type 0 where
  pub place : r.place ≡ length before
  pub rest : length before + r.room ≡ size
  pub room : 0 < r.room
  pub fits : length r.bytes ≤ r.room

-- reads from the front of a file on, in order, each of some bytes
abbrev pub AreInOrder : ℕ → List FileRead → Type 0
AreInOrder size [] = Unit {0}
AreInOrder size (r ∷ reads) =
    GoesOn size (bytes_read reads) r × (0 < length r.bytes) × AreInOrder size reads

-- the same, but the newest may have met the end
abbrev pub AreInOrderToEnd : ℕ → List FileRead → Type 0
AreInOrderToEnd size [] = Unit {0}
AreInOrderToEnd size (r ∷ reads) = GoesOn size (bytes_read reads) r × AreInOrder size reads

-- reads only of a file that is there, in order
abbrev pub AreReadOnce : Option (Option ℕ) → List FileRead → Type 0
AreReadOnce None reads = reads ≡ []
AreReadOnce (Some None) reads = reads ≡ []
AreReadOnce (Some (Some size)) reads = AreInOrderToEnd size reads

-- each file was asked for its size, and then at most read once from its front on, up to this size
-- or to the first read that met its end
abbrev pub AreOrderly : List FileAnswer → Type 0
AreOrderly [] = Unit {0}
AreOrderly (answer ∷ answers) = AreReadOnce answer.size answer.reads × AreOrderly answers
