-- The reads that fill a buffer from the front of a file.
use Rattle.std.specs.Prelude.{◌≡◌, ◌⊎◌, ℕ, List, [], ◌∷◌, length, take, Option, Some, Result, Ok}
use Rattle.std.specs.Prelude.{Err}
use Rattle.crpd_io.specs.Answers.{AreInOrderToEnd, AreReads, FileAnswer, FileRead, bytes_read}
use Rattle.crpd_io.specs.Outside.{Contents}

-- reads that belong to the newest answer
pub record HasReads (stated : Option Contents) (name : List ℕ) (size : Option (Option ℕ))
    (older log : List FileAnswer) (P : List FileRead → Type 0) : Type 0 where
  pub reads : List FileRead
  pub are : log ≡ record { name = name; size = size; reads = reads } ∷ older
  pub right : (c : Contents) → stated ≡ Some c → AreReads (c name) reads
  pub hold : P reads

-- reads were added to the newest answer, if this was of the same file and had none
abbrev pub AddsReads : Option Contents → List ℕ → (old new : List FileAnswer)
    → (List FileRead → Type 0) → Type 0
AddsReads stated name old new P =
    (size : Option (Option ℕ)) (older : List FileAnswer)
    → old ≡ record { name = name; size = size; reads = [] } ∷ older
    → HasReads stated name size older new P

-- the newest of these reads gave no bytes
abbrev pub EndsEmpty : List FileRead → Type 0
EndsEmpty [] = ⊥
EndsEmpty (r ∷ reads) = length r.bytes ≡ 0

-- the reads are in order, and those of a result fill the front of the buffer: all of it, or as much
-- as there was
abbrev pub AreFilling : {E : Type 0} → ℕ → List ℕ → Result ℕ E → List FileRead → Type 0
AreFilling room into (Ok n) reads =
    AreInOrderToEnd room reads × (bytes_read reads ≡ take n into)
    × ((n ≡ room) ⊎ EndsEmpty reads)
AreFilling room into (Err fault) reads = AreInOrderToEnd room reads
