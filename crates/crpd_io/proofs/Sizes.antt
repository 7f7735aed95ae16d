-- The answer about a file that was asked for once.
use Rattle.std.proofs.Common.{◌≡◌, ◌∙◌, ◌≤◌, ◌⊎◌, inl, inr, ℕ, List, [], ◌∷◌, length, Option, None, Some, IfSome}
use Rattle.std.proofs.Common.{ap, refl, subst, sym, option_map}
use Rattle.std.proofs.Common.{Ok, take}
use Rattle.crpd_io.specs.Answers.{AreInOrderToEnd, AreReadOnce, AreReads, FileAnswer, FileRead}
use Rattle.crpd_io.specs.Answers.{IsSizeOf, bytes_read}
use Rattle.crpd_io.specs.Whole.{file_within}
use Rattle.crpd_io.specs.Inner.Fill.{AreFilling, EndsEmpty}
use Rattle.crpd_io.proofs.InOrder.{filled, whole_file}
use Rattle.crpd_io.proofs.Wholes.{given}
use Rattle.crpd_io.specs.Asked.{Asked}
use Rattle.crpd_io.specs.Outside.{AddsAnswers, Contents}
use Rattle.crpd_io.proofs.Logs.{adds_one}

-- the size of a file is right, whatever was read
size_right : (file : Option (List ℕ)) (size : Option ℕ) (reads : List FileRead)
    → size ≡ option_map length file → IsSizeOf file (Some size) reads
size_right None None reads is = refl
size_right None (Some n) reads is = absurd cc
size_right (Some bytes) None reads is = absurd cc
size_right (Some bytes) (Some n) reads is =
    let same : length bytes ≡ n = cc in (bytes, refl, inl same)

-- where nothing was read, the size that was told is that of the file
pub told_size : (file : Option (List ℕ)) (size : ℕ) → IsSizeOf file (Some (Some size)) []
    → Some size ≡ option_map length file
told_size file size told = by told.2 where
  by : (length told.0 ≡ size) ⊎ ((length told.0 ≤ size) × ⊥)
      → Some size ≡ option_map length file
  by (inl same) = rw told.1 (ap (λ (n : ℕ). Some n) (sym same))
  by (inr less) = absurd less.1

-- a file that was asked for its size, and then read
module _ {stated : Option Contents} {old new : List FileAnswer} (name : List ℕ) (size : Option ℕ)
    (reads : List FileRead)
    (are : new ≡ record { name = name; size = Some size; reads = reads } ∷ old) where
  pub adds_file : IfSome stated (λ c. size ≡ option_map length (c name))
      → ((c : Contents) → stated ≡ Some c → AreReads (c name) reads)
      → AreReadOnce (Some size) reads → AddsAnswers stated old new
  adds_file told right once =
      let P : Option Contents → Type 0 = λ s. IfSome s (λ c. size ≡ option_map length (c name)) in
      adds_one stated old new _ are
      (λ c here. record {
        size = size_right (c name) size reads (subst P here told);
        reads = right c here;
      })
      once

-- the same, if the reads fill a buffer of the size
pub adds_reads : {stated : Option Contents} {old new : List FileAnswer} (name : List ℕ)
    (told : Option ℕ) (size room : ℕ) (reads : List FileRead) → told ≡ Some size → room ≡ size
    → new ≡ record { name = name; size = Some told; reads = reads } ∷ old
    → IfSome stated (λ c. told ≡ option_map length (c name))
    → ((c : Contents) → stated ≡ Some c → AreReads (c name) reads) → AreInOrderToEnd room reads
    → AddsAnswers stated old new
adds_reads name told size room reads is all are right_size right order =
    adds_file name told reads are right_size right
    (subst (λ (t : Option ℕ). AreReadOnce (Some t) reads) (sym is)
    (subst (λ (n : ℕ). AreInOrderToEnd n reads) all order))

-- the bytes that filled the front of a buffer of a file's size are those of the file
pub read_bytes : (file : Option (List ℕ)) (told : Option ℕ) (size room n most : ℕ)
    (into items : List ℕ) (reads : List FileRead) → told ≡ Some size → room ≡ size → size ≤ most
    → IsSizeOf file (Some told) reads → AreReads file reads → n ≤ length into
    → AreFilling {E = ⊥} room into (Ok n) reads → items ≡ take n into
    → file_within most file ≡ Ok items
read_bytes file told size room n most into items reads is all allowed right_size right within
    fill items_are =
    let sized = subst (λ (t : Option ℕ). IsSizeOf file (Some t) reads) is right_size in
    let order = subst (λ (n : ℕ). AreInOrderToEnd n reads) all fill.0 in
    given file size most (bytes_read reads) items allowed
    (whole_file file size reads sized right order
    (filled n size into reads within fill.1
    (subst (λ (m : ℕ). (n ≡ m) ⊎ EndsEmpty reads) all fill.2)))
    (fill.1 ∙ sym items_are)

-- a file that was not read
pub adds_size : {stated : Option Contents} {old new : List FileAnswer} (name : List ℕ)
    (size : Option ℕ) → new ≡ record { name = name; size = Some size; reads = [] } ∷ old
    → IfSome stated (λ c. size ≡ option_map length (c name)) → AddsAnswers stated old new
adds_size name None are told = adds_file name None [] are told (λ c here. tt) refl
adds_size name (Some n) are told = adds_file name (Some n) [] are told (λ c here. tt) tt

-- one file was asked for
pub asked_one : (old new : List FileAnswer) (answer : FileAnswer) → new ≡ answer ∷ old
    → Asked old new (answer.name ∷ [])
asked_one old new answer are = record { added = answer ∷ []; are = are; named = refl }
