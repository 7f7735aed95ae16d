-- The last but one line of a generated input's text.
use Rattle.std.proofs.Common.{◌≡◌, ℕ, ◌++◌, Bool, true, false, List, [], ◌∷◌, length, drop, refl}
use Rattle.std.proofs.Common.{ap, sym, ◌∙◌, arith, length-append}
use Rattle.std.specs.Prelude.{IsTrue, codes}
use Rattle.std.proofs.Math.Seq.{drop-append_seam}
use Rattle.std.proofs.lemmas.List.{append_assoc}
use Rattle.crpd_report.specs.Generate.{jobs_line}
use Rattle.crpd_report.specs.Simulate.{run_line}

-- the last two bytes of a text
last_two : (xs ys : List ℕ) (a b c d : ℕ) → xs ++ a ∷ b ∷ [] ≡ ys ++ c ∷ d ∷ [] → a ≡ c
last_two xs ys a b c d e =
    let long : length xs ≡ length ys = omega (
      arith,
      ap length e,
      length-append xs (a ∷ b ∷ []),
      length-append ys (c ∷ d ∷ []),
    ) in
    let same : ◌≡◌ {A = List ℕ} (a ∷ b ∷ []) (c ∷ d ∷ []) =
    sym (drop-append_seam xs (a ∷ b ∷ [])) ∙ ap (drop (length xs)) e
    ∙ ap (λ k. drop k (ys ++ c ∷ d ∷ [])) long ∙ drop-append_seam ys (c ∷ d ∷ []) in
    cc

kept_line : run_line true true ≡ codes "run legal kep" ++ 116 ∷ 10 ∷ []
kept_line = refl

broken_line : run_line true false ≡ codes "run legal broke" ++ 110 ∷ 10 ∷ []
broken_line = refl

-- a text does not end with both
one_end : (front other : List ℕ) → front ++ run_line true true ≡ other ++ run_line true false → ⊥
one_end front other e =
    let kept : front ++ run_line true true ≡ (front ++ codes "run legal kep") ++ 116 ∷ 10 ∷ [] =
    ap (λ l. front ++ l) kept_line
    ∙ sym (append_assoc front (codes "run legal kep") (116 ∷ 10 ∷ [])) in
    let broken : other ++ run_line true false
    ≡ (other ++ codes "run legal broke") ++ 110 ∷ 10 ∷ [] =
    ap (λ l. other ++ l) broken_line
    ∙ sym (append_assoc other (codes "run legal broke") (110 ∷ 10 ∷ [])) in
    let same : ◌≡◌ {A = ℕ} 116 110 = last_two (front ++ codes "run legal kep")
    (other ++ codes "run legal broke") 116 10 110 10 (sym kept ∙ e ∙ broken) in
    omega arith

-- the last but one line
pub late_said : (text A : List ℕ) (j a late : ℕ) (legal kept : Bool)
    → text ≡ (A ++ jobs_line j a late) ++ run_line legal kept → legal ≡ true
    → (IsTrue kept → late ≡ 0)
    → (front : List ℕ) → text ≡ front ++ run_line true true
    → (before : List ℕ) × (jobs : ℕ) × (answered : ℕ)
    × (text ≡ before ++ jobs_line jobs answered 0 ++ run_line true true)
late_said text A j a late legal true is lawful none front ends = (
  A,
  j,
  a,
  is ∙ ap (λ b. (A ++ jobs_line j a late) ++ run_line b true) lawful
      ∙ ap (λ l. (A ++ jobs_line j a l) ++ run_line true true) (none refl),
)
late_said text A j a late legal false is lawful none front ends =
    absurd (one_end front (A ++ jobs_line j a late)
    (sym ends ∙ is ∙ ap (λ b. (A ++ jobs_line j a late) ++ run_line b false) lawful))
