-- Reads in order from the front of a file.
use Rattle.std.proofs.Common.{◌≡◌, ◌∙◌, ◌≤◌, ◌<◌, ◌+◌, ◌⊎◌, inl, inr, ℕ, List, [], ◌∷◌, ◌++◌, length}
use Rattle.std.proofs.Common.{take, drop, Option, Some, IfSome, ap, refl, subst, sym, arith, ◌-◌}
use Rattle.std.proofs.Math.ListN.{length-take}
use Rattle.std.proofs.lemmas.List.{length-take-le}
use Rattle.std.proofs.Common.{length-append, length-drop, Result, Ok, Err, IsErrAnd}
use Rattle.std.proofs.Math.Seq.{take-add, drop-append_seam}
use Rattle.std.proofs.lemmas.List.{take-append-le, take_all}
use Rattle.std.proofs.lemmas.Slice.Eq.{bytes_eq-Decides}
use Rattle.std.specs.Str.{bytes_eq}
use Rattle.std.specs.Prelude.{true}
use Rattle.crpd_io.specs.Answers.{AreInOrder, AreInOrderToEnd, AreReads, FileAnswer, FileRead}
use Rattle.crpd_io.specs.Answers.{GoesOn, IsSizeOf, Reads, bytes_of, bytes_read, log_reads}
use Rattle.crpd_io.specs.Outside.{Contents}
use Rattle.crpd_io.specs.Inner.Fill.{AreFilling, EndsEmpty, HasReads}

-- a read of the file of the newest answer belongs to it
log_goes_on : (name : List ℕ) (size : Option (Option ℕ)) (new reads : List FileRead)
    (older : List FileAnswer)
    → log_reads name new (record { name = name; size = size; reads = reads } ∷ older)
    ≡ record { name = name; size = size; reads = new ++ reads } ∷ older
log_goes_on name size new reads older =
    let same : bytes_eq name name ≡ true = (bytes_eq-Decides name name).1 refl in rw same refl

reads_both : (file : Option (List ℕ)) (xs ys : List FileRead) → AreReads file xs
    → AreReads file ys → AreReads file (xs ++ ys)
reads_both file [] ys one two = two
reads_both file (x ∷ xs) ys one two = (one.0, reads_both file xs ys one.1 two)

-- one more call of `read`
pub more_reads : {stated : Option Contents} {name : List ℕ} {size : Option (Option ℕ)}
    {older log : List FileAnswer} {P Q : List FileRead → Type 0} (now : List FileAnswer)
    (new : List FileRead) → HasReads stated name size older log P → now ≡ log_reads name new log
    → ((c : Contents) → stated ≡ Some c → AreReads (c name) new)
    → ((reads : List FileRead) → P reads → Q (new ++ reads))
    → HasReads stated name size older now Q
more_reads {stated} {name} {size} {older} {log} now new before is right next = record {
  reads = new ++ before.reads;
  are =
      is ∙ ap (log_reads name new) before.are ∙ log_goes_on name size new before.reads older;
  right = λ c here.
      reads_both (c name) new before.reads (right c here) (before.right c here);
  hold = next before.reads before.hold;
}

-- the same reads, of which more is known
pub known_reads : {stated : Option Contents} {name : List ℕ} {size : Option (Option ℕ)}
    {older log : List FileAnswer} {P Q : List FileRead → Type 0}
    → HasReads stated name size older log P → ((reads : List FileRead) → P reads → Q reads)
    → HasReads stated name size older log Q
known_reads before next = record {
  reads = before.reads;
  are = before.are;
  right = before.right;
  hold = next before.reads before.hold;
}

-- reads of at least one byte each may also be the last ones
pub in_order_to_end : (size : ℕ) (reads : List FileRead) → AreInOrder size reads
    → AreInOrderToEnd size reads
in_order_to_end size [] order = tt
in_order_to_end size (r ∷ reads) order = (order.0, order.2)

-- after a read that failed
pub failed_reads : {E : Type 0} (Q : E → Type 0) (room : ℕ) (into : List ℕ) (result : Result ℕ E)
    (reads : List FileRead) → IsErrAnd result Q → AreInOrder room reads
    → AreFilling room into result reads
failed_reads Q room into (Ok n) reads failed order = absurd failed
failed_reads Q room into (Err fault) reads failed order = in_order_to_end room reads order

-- the bytes of a read are those of the contents that are stated
pub right_read : {stated now : Option Contents} (name : List ℕ) (place room : ℕ)
    (bytes : List ℕ)
    → IfSome now (λ c. Reads (bytes_of (c name)) place room bytes) → now ≡ stated
    → (c : Contents) → stated ≡ Some c
    → AreReads (c name) (record { place = place; room = room; bytes = bytes } ∷ [])
right_read name place room bytes told same c here =
    let P : Option Contents → Type 0 = λ s.
    IfSome s (λ c. Reads (bytes_of (c name)) place room bytes) in
    (subst P (same ∙ here) told, tt)

-- the next read goes on where the front of the buffer ends
pub next_read : (size at n : ℕ) (into new : List ℕ) (reads : List FileRead)
    → length into ≡ size → at < length into → bytes_read reads ≡ take at into
    → n ≤ length new → length new ≡ length (take (length into - at) (drop at into))
    → GoesOn size (bytes_read reads)
    (record { place = at; room = length (take (length into - at) (drop at into)); bytes = take n new })
next_read size at n into new reads long more is within room =
    let here : length (bytes_read reads) ≡ at =
    ap (λ (xs : List ℕ). length xs) is ∙ length-take-le at into (omega (arith, more)) in
    let rest : length (take (length into - at) (drop at into)) ≡ length into - at =
    omega (arith, length-take (length into - at) (drop at into), length-drop at into) in
    record {
      place = sym here;
      rest = omega (arith, here, rest, long, more);
      room = omega (arith, rest, more);
      fits = omega (arith, length-take n new, within, room);
    }

-- these bytes are the front of a file
abbrev IsFrontOf : List ℕ → List ℕ → Type 0
IsFrontOf file front = (front ≡ take (length front) file) × (length front ≤ length file)

one_front : (file before : List ℕ) (place room : ℕ) (bytes : List ℕ) → IsFrontOf file before
    → place ≡ length before → Reads file place room bytes → IsFrontOf file (before ++ bytes)
one_front file before place room bytes front at reads =
    let here : Reads file (length before) room bytes =
    subst (λ (n : ℕ). Reads file n room bytes) at reads in
    let long = length-append before bytes in (
      ap (λ (xs : List ℕ). xs ++ bytes) front.0
          ∙ ap (λ (xs : List ℕ). take (length before) file ++ xs) here.front
          ∙ sym (take-add (length before) (length bytes) file)
          ∙ ap (λ (n : ℕ). take n file) (sym long),
      omega (arith, long, here.within, length-drop (length before) file, front.1),
    )

front_of : (file : Option (List ℕ)) (size : ℕ) (reads : List FileRead) → AreInOrder size reads
    → AreReads file reads → IsFrontOf (bytes_of file) (bytes_read reads)
front_of file size [] order are = (refl, omega arith)
front_of file size (r ∷ reads) order are =
    one_front (bytes_of file) (bytes_read reads) r.place r.room r.bytes
    (front_of file size reads order.2 are.1) order.0.place are.0

front_to_end : (file : Option (List ℕ)) (size : ℕ) (reads : List FileRead)
    → AreInOrderToEnd size reads → AreReads file reads
    → IsFrontOf (bytes_of file) (bytes_read reads)
front_to_end file size [] order are = (refl, omega arith)
front_to_end file size (r ∷ reads) order are =
    one_front (bytes_of file) (bytes_read reads) r.place r.room r.bytes
    (front_of file size reads order.1 are.1) order.0.place are.0

-- a read of no bytes is at or behind the end of the file
ends_at : (file : List ℕ) (size : ℕ) (reads : List FileRead) → AreInOrderToEnd size reads
    → AreReads (Some file) reads → EndsEmpty reads → length file ≤ length (bytes_read reads)
ends_at file size [] order are empty = absurd empty
ends_at file size (r ∷ reads) order are empty =
    omega (
      arith,
      are.0.ends order.0.room empty,
      length-drop r.place file,
      order.0.place,
      length-append (bytes_read reads) r.bytes,
    )

-- a file's size is at most what was told
at_most : (bytes : List ℕ) (size : ℕ) {Q : Type 0}
    → (length bytes ≡ size) ⊎ ((length bytes ≤ size) × Q) → length bytes ≤ size
at_most bytes size (inl same) = omega (arith, same)
at_most bytes size (inr less) = less.0

-- after all of its size, or after a read of no bytes, a file was read as a whole
reaches : (file : List ℕ) (size : ℕ) (reads : List FileRead) → length file ≤ size
    → AreReads (Some file) reads → AreInOrderToEnd size reads
    → (length (bytes_read reads) ≡ size) ⊎ EndsEmpty reads
    → length file ≤ length (bytes_read reads)
reaches file size reads most are order (inl full) = omega (arith, most, full)
reaches file size reads most are order (inr empty) = ends_at file size reads order are empty

pub whole_file : (file : Option (List ℕ)) (size : ℕ) (reads : List FileRead)
    → IsSizeOf file (Some (Some size)) reads → AreReads file reads → AreInOrderToEnd size reads
    → (length (bytes_read reads) ≡ size) ⊎ EndsEmpty reads
    → (file ≡ Some (bytes_read reads)) × (length (bytes_read reads) ≤ size)
whole_file file size reads told are order done =
    let here : AreReads (Some told.0) reads =
    subst (λ (f : Option (List ℕ)). AreReads f reads) told.1 are in
    let most = at_most told.0 size told.2 in
    let front = front_to_end (Some told.0) size reads order here in
    let all = reaches told.0 size reads most here order done in (
      told.1
          ∙ ap (λ (bs : List ℕ). Some bs)
          (sym (front.0 ∙ take_all (length (bytes_read reads)) told.0 all)),
      omega (arith, front.1, most),
    )

-- the bytes of the reads that filled a buffer of a file's size are as many, or the last read gave
-- none
pub filled : (n size : ℕ) (into : List ℕ) (reads : List FileRead) → n ≤ length into
    → bytes_read reads ≡ take n into → (n ≡ size) ⊎ EndsEmpty reads
    → (length (bytes_read reads) ≡ size) ⊎ EndsEmpty reads
filled n size into reads within is (inl full) =
    inl (ap (λ (xs : List ℕ). length xs) is ∙ length-take-le n into within ∙ full)
filled n size into reads within is (inr empty) = inr empty
