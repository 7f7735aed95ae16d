-- If no file changed between the times that it was asked for, some contents agree with all answers.
use Rattle.std.proofs.Common.{◌≡◌, ◌∙◌, ◌≤◌, ◌<◌, ◌+◌, ◌-◌, ◌⊎◌, inl, inr, ℕ, zero, suc, List, []}
use Rattle.std.proofs.Common.{◌∷◌, ◌++◌, length, take, drop, Option, None, Some, ap, refl, subst, sym}
use Rattle.std.proofs.Common.{arith, length-append, append_assoc}
use Rattle.std.proofs.Math.ListN.{replicate}
use Rattle.std.proofs.Math.Seq.{drop-append_seam}
use Rattle.std.proofs.lemmas.List.{append-nil, append_cancel_right, length-replicate}
use Rattle.std.proofs.lemmas.List.{take-append-le, take_all}
use Rattle.std.proofs.lemmas.Slice.Eq.{bytes_eq-Decides}
use Rattle.std.proofs.lemmas.Bool.Decides.{not_from_Decides}
use Rattle.std.specs.Str.{bytes_eq}
use Rattle.std.specs.Prelude.{Bool, true, false}
use Rattle.crpd_io.specs.Answers.{AreInOrder, AreInOrderToEnd, AreOrderly, AreReadOnce, AreReads}
use Rattle.crpd_io.specs.Answers.{FileAnswer, FileRead, Fits, GoesOn, IsSizeOf, Reads, bytes_read}
use Rattle.crpd_io.specs.Outside.{AddsAnswers, Agrees, AgreesSince, Contents}
use Rattle.crpd_io.specs.SomeContents.{AreUnchanged, FitsAll, IsAsked, IsAskedTwice}
use Rattle.crpd_io.specs.SomeContents.{SomeContentsAgree}

-- what a read gave stands in a file that begins with the bytes of all reads
reads_here : (before bytes rest : List ℕ) (room : ℕ)
    → (0 < room → length bytes ≡ 0 → length rest ≡ 0)
    → Reads (before ++ (bytes ++ rest)) (length before) room bytes
reads_here before bytes rest room ends =
    let at : drop (length before) (before ++ (bytes ++ rest)) ≡ bytes ++ rest =
    drop-append_seam before (bytes ++ rest) in
    let long = length-append bytes rest in
    record {
      front =
          sym (ap (λ (xs : List ℕ). take (length bytes) xs) at
          ∙ take-append-le (length bytes) bytes rest (omega arith)
          ∙ take_all (length bytes) bytes (omega arith));
      within = rw at (omega (arith, long));
      ends = λ some none. rw at (omega (arith, long, none, ends some none));
    }

-- the same for all reads of some bytes
front_reads : (size : ℕ) (reads : List FileRead) (rest : List ℕ) → AreInOrder size reads
    → AreReads (Some (bytes_read reads ++ rest)) reads
front_reads size [] rest order = tt
front_reads size (r ∷ reads) rest order =
    let joined : bytes_read reads ++ r.bytes ++ rest ≡ bytes_read reads ++ (r.bytes ++ rest) =
    append_assoc (bytes_read reads) r.bytes rest in (
      rw (joined, order.0.place)
          (reads_here (bytes_read reads) r.bytes rest r.room
          (λ some none. absurd (omega (arith, none, order.1)))),
      subst (λ (xs : List ℕ). AreReads (Some xs) reads) (sym joined)
          (front_reads size reads (r.bytes ++ rest) order.2),
    )

-- a file that fits a size and reads
abbrev IsFitting : Option (Option ℕ) → List FileRead → Type 0
IsFitting size reads = (file : Option (List ℕ)) × IsSizeOf file size reads × AreReads file reads

-- reads of some bytes each: their bytes, filled up to the size
fits_front : (size : ℕ) (reads : List FileRead) → AreInOrder size reads
    → length (bytes_read reads) ≤ size → IsFitting (Some (Some size)) reads
fits_front size reads order within =
    let rest : List ℕ = replicate (size - length (bytes_read reads)) 0 in
    let long : length (bytes_read reads ++ rest) ≡ size =
    omega (
      arith,
      length-append (bytes_read reads) rest,
      length-replicate {A = ℕ} (size - length (bytes_read reads)) 0,
      within,
    ) in (
      Some (bytes_read reads ++ rest),
      (bytes_read reads ++ rest, refl, inl long),
      front_reads size reads rest order,
    )

-- the newest read met the end: the bytes of those before it
fits_ended : (size : ℕ) (r : FileRead) (reads : List FileRead)
    → GoesOn size (bytes_read reads) r → AreInOrder size reads → length r.bytes ≡ 0
    → IsFitting (Some (Some size)) (r ∷ reads)
fits_ended size r reads on order none =
    let file = bytes_read reads ++ r.bytes in
    let long = length-append (bytes_read reads) r.bytes in
    let end : r.place ≡ length file = omega (arith, long, none, on.place) in
    let here : Reads (bytes_read reads ++ (r.bytes ++ [])) (length (bytes_read reads)) r.room
    r.bytes =
    reads_here (bytes_read reads) r.bytes [] r.room (λ some empty. refl) in (
      Some file,
      (file, refl, inr (omega (arith, long, none, on.rest), inl (end, on.room, none))),
      (
        rw on.place
            (subst (λ (xs : List ℕ). Reads xs (length (bytes_read reads)) r.room r.bytes)
            (ap (λ (xs : List ℕ). bytes_read reads ++ xs) (append-nil r.bytes)) here),
        front_reads size reads r.bytes order,
      ),
    )

-- by whether the newest read gave bytes
fits_by : (size : ℕ) (r : FileRead) (reads : List FileRead) → GoesOn size (bytes_read reads) r
    → AreInOrder size reads → (n : ℕ) → length r.bytes ≡ n
    → IsFitting (Some (Some size)) (r ∷ reads)
fits_by size r reads on order zero none = fits_ended size r reads on order none
fits_by size r reads on order (suc n) some =
    fits_front size (r ∷ reads) (on, omega (arith, some), order)
    (omega (arith, length-append (bytes_read reads) r.bytes, on.rest, on.fits))

-- a file that was asked for once fits
fits_once : (size : Option (Option ℕ)) (reads : List FileRead) → AreReadOnce size reads
    → IsFitting size reads
fits_once None reads none = (None, tt, rw none tt)
fits_once (Some None) reads none = (None, refl, rw none tt)
fits_once (Some (Some size)) [] order = fits_front size [] tt (omega arith)
fits_once (Some (Some size)) (r ∷ reads) order =
    fits_by size r reads order.0 order.1 (length r.bytes) refl

-- whether two names are the same
same_name : (a b : List ℕ) → (a ≡ b) ⊎ ¬ (a ≡ b)
same_name a b = by (bytes_eq a b) refl where
  by : (t : Bool) → bytes_eq a b ≡ t → (a ≡ b) ⊎ ¬ (a ≡ b)
  by true e = inl ((bytes_eq-Decides a b).0 e)
  by false e = inr (not_from_Decides (bytes_eq a b) (bytes_eq-Decides a b) e)

-- whether a file was asked for
is_asked : (name : List ℕ) (answers : List FileAnswer)
    → IsAsked name answers ⊎ ¬ IsAsked name answers
is_asked name [] = inr (λ asked. asked)
is_asked name (a ∷ answers) = by (same_name a.name name) (is_asked name answers) where
  by : (a.name ≡ name) ⊎ ¬ (a.name ≡ name) → IsAsked name answers ⊎ ¬ IsAsked name answers
      → IsAsked name (a ∷ answers) ⊎ ¬ IsAsked name (a ∷ answers)
  by (inl same) rest = inl (inl same)
  by (inr other) (inl asked) = inl (inr asked)
  by (inr other) (inr none) = inr (elim [ inl same ↦ other same | inr asked ↦ none asked ])

-- no answer is about a file that was not asked for
unasked : (file : Option (List ℕ)) (name : List ℕ) (answers : List FileAnswer)
    → ¬ IsAsked name answers → FitsAll file name answers
unasked file name [] none = tt
unasked file name (a ∷ answers) none =
    (λ same. absurd (none (inl same)), unasked file name answers (λ asked. none (inr asked)))

-- a file that fits one more answer
fits_more : (name : List ℕ) (a : FileAnswer) (answers : List FileAnswer)
    → AreReadOnce a.size a.reads
    → (IsAskedTwice name (a ∷ answers)
    → (file : Option (List ℕ)) × FitsAll file name (a ∷ answers))
    → ((file : Option (List ℕ)) × FitsAll file name answers)
    → (a.name ≡ name) ⊎ ¬ (a.name ≡ name) → IsAsked name answers ⊎ ¬ IsAsked name answers
    → (file : Option (List ℕ)) × FitsAll file name (a ∷ answers)
fits_more name a answers once unchanged rest (inl same) (inl asked) =
    unchanged (inl (same, asked))
fits_more name a answers once unchanged rest (inl same) (inr none) =
    let own = fits_once a.size a.reads once in
    (own.0, (λ e. record { size = own.1; reads = own.2 }, unasked own.0 name answers none))
fits_more name a answers once unchanged rest (inr other) asked =
    (rest.0, (λ same. absurd (other same), rest.1))

-- a file of each name that fits all answers about it
fits_all : (name : List ℕ) (answers : List FileAnswer) → AreOrderly answers
    → (IsAskedTwice name answers → (file : Option (List ℕ)) × FitsAll file name answers)
    → (file : Option (List ℕ)) × FitsAll file name answers
fits_all name [] orderly unchanged = (None, tt)
fits_all name (a ∷ answers) orderly unchanged =
    fits_more name a answers orderly.0 unchanged
    (fits_all name answers orderly.1
    (λ twice. let all = unchanged (inr twice) in (all.0, all.1.1)))
    (same_name a.name name) (is_asked name answers)

-- contents whose files fit all answers agree with them
agrees_all : (c : Contents) (answers : List FileAnswer)
    → ((name : List ℕ) → FitsAll (c name) name answers) → Agrees c answers
agrees_all c [] all = tt
agrees_all c (a ∷ answers) all =
    ((all a.name).0 refl, agrees_all c answers (λ name. (all name).1))

-- after a sequence of steps
pub some_contents : {stated : Option Contents} {old new : List FileAnswer}
    → AddsAnswers stated old new → SomeContentsAgree old new
some_contents {stated} {old} {new} adds added are unchanged =
    let same : adds.added ≡ added =
    append_cancel_right adds.added added old (sym adds.are ∙ are) in
    let orderly = subst (λ (xs : List FileAnswer). AreOrderly xs) same adds.orderly in
    let files : (name : List ℕ) → (file : Option (List ℕ)) × FitsAll file name added =
    λ name. fits_all name added orderly (unchanged name) in
    let c : Contents = λ name. (files name).0 in (
      c,
      record { added = added; are = are; agrees = agrees_all c added (λ name. (files name).1) },
    )
