-- A set has one certificate or one error, by any demand, and with parts of any kind of which two
-- for one task state the same about the code.
use Rattle.std.proofs.Common.{◌≡◌, ◌≢◌, ℕ, suc, ◌+◌, ◌<◌, ◌≤◌, ◌^◌, List, [], ◌∷◌, length, Result}
use Rattle.std.proofs.Common.{Ok, Err, refl, sym, ap, ◌∙◌, arith, slice_index_or, sum_by}
use Rattle.std.proofs.lemmas.List.Sums.{sum_by-cons}
use Rattle.crpd_base.specs.Limits.{most_entries}
use Rattle.crpd_base.specs.Tasks.{HasTimes}
use Rattle.crpd_base.specs.declared.data.Certificate.{Certificate}
use Rattle.crpd_base.specs.declared.data.Method.{Method}
use Rattle.crpd_base.specs.declared.data.NodeState.{NodeState}
use Rattle.crpd_base.specs.declared.data.TaskPart.{TaskPart}
use Rattle.crpd_base.specs.declared.data.TaskSet.{TaskSet}
use Rattle.evict_sets.specs.ListedPart.{certified_task, no_task_part}
use Rattle.response.proofs.Choices.{not_first}
use Rattle.response.proofs.WindowLaws.{smaller_is_window}
use Rattle.response.specs.Windows.{IsFirstWithoutWindow, IsSmallerWindow, chosen_method}
use Rattle.response.specs.Windows.{chosen_window}
use Rattle.cert_check.proofs.OneAnswer.{neither_less}
use Rattle.cert_check.specs.JudgeInput.{certified_part, window_at}
use Rattle.cert_model.specs.Reading.{entries, state_entries, task_entries}
use Rattle.cert_build.specs.Best.{Demands, IsCertificateBy}
use Rattle.cert_build.specs.Certify.{part_in}
use Rattle.cert_build.specs.declared.error.BuildError.{BuildError}
use Rattle.cert_build.specs.declared.error.BuildError.TheVariants.{Memory, TooLarge, TooManyEntries}
use Rattle.cert_build.specs.declared.error.BuildError.TheVariants.{Unschedulable}
use Rattle.cert_build.proofs.Choices.{AllAgree, AreAbove}
use Rattle.cert_build.proofs.OneCertificate.{AreOneAnalysis, SameAnalysis, one_certificate}

-- parts with the same states have as many entries
entries_same : (xs ys : List TaskPart) → length xs ≡ length ys
    → ((k : ℕ) → k < length xs
    → (slice_index_or xs k no_task_part).states ≡ (slice_index_or ys k no_task_part).states)
    → entries xs ≡ entries ys
entries_same [] [] e h = refl
entries_same [] (y ∷ ys) e h = absurd (omega (arith, e))
entries_same (x ∷ xs) [] e h = absurd (omega (arith, e))
entries_same (x ∷ xs) (y ∷ ys) e h =
    let here : task_entries x ≡ task_entries y =
    ap (λ (l : List NodeState). sum_by state_entries l) (h 0 (omega arith)) in
    sum_by-cons task_entries x xs ∙ ap (λ n. n + entries xs) here
    ∙ ap (λ n. task_entries y + n)
    (entries_same xs ys (omega (arith, e)) (λ k l. h (suc k) (omega (arith, l))))
    ∙ sym (sum_by-cons task_entries y ys)

-- no bound of a certificate is too large, since its windows are within the deadlines
pub bound_in : (set : TaskSet) (demands : Demands) (longest : ℕ → ℕ)
    (IsPart : ℕ → TaskPart → Type 0) (c : Certificate) → HasTimes set → AreAbove set demands
    → IsCertificateBy set demands longest IsPart c → (i : ℕ) → i < length set.tasks
    → (certified_part c i).bound ≤ 2 ^ 40
bound_in set demands longest IsPart c times above C i lt =
    let by = (certified_task c i).method in
    let W = smaller_is_window set (demands (certified_part c) longest (window_at c) i) i by
    (window_at c i) (C.each i lt).window in
    let enough = W.enough in
    let dead = W.in_deadline in
    let least = above (certified_part c) longest (window_at c) i by (window_at c i) in
    let d = times.deadline i lt in
    let p = times.longest i lt in omega (arith, enough, dead, least, d, p)

module _ (set : TaskSet) (demands : Demands) (longest : ℕ → ℕ) (IsPart : ℕ → TaskPart → Type 0)
    (AreParts : List TaskPart → Type 0) (IsFirst : ℕ → ℕ → Type 0) where
  -- the error of a certificate, by its parts and the first task with too large a bound
  abbrev pub IsRefusal : BuildError → Type 0
  IsRefusal Memory = Unit {0}
  IsRefusal (TooLarge t address) = IsFirst t.0 address
  IsRefusal (TooManyEntries n) =
      (parts : List TaskPart) × AreParts parts × (n ≡ entries parts) × (most_entries < n)
  IsRefusal (Unschedulable t) =
      (parts : List TaskPart) × AreParts parts × (entries parts ≤ most_entries)
      × IsFirstWithoutWindow set (demands (part_in parts) longest) t.0

  -- the certificate, or an error other than out of memory
  abbrev pub IsOutcome : Result Certificate BuildError → Type 0
  IsOutcome (Ok c) = IsCertificateBy set demands longest IsPart c × (entries c.tasks ≤ most_entries)
  IsOutcome (Err e) = (e ≢ Memory) × IsRefusal e

  module _ (agree : AllAgree set demands) (same : AreOneAnalysis set IsPart)
      (tasks : (xs : List TaskPart) → AreParts xs → length xs ≡ length set.tasks)
      (each : (xs : List TaskPart) → AreParts xs → (k : ℕ) → k < length set.tasks
      → IsPart k (slice_index_or xs k no_task_part))
      (parts_of : (c : Certificate) → IsCertificateBy set demands longest IsPart c
      → AreParts c.tasks)
      (none_large : (xs : List TaskPart) (i a : ℕ) → AreParts xs → IsFirst i a → ⊥)
      (one_first : (i j a b : ℕ) → IsFirst i a → IsFirst j b → (i ≡ j) × (a ≡ b)) where
    module _ (xs ys : List TaskPart) (X : AreParts xs) (Y : AreParts ys) where
      same_at : (k : ℕ) → k < length set.tasks
          → SameAnalysis (slice_index_or xs k no_task_part) (slice_index_or ys k no_task_part)
      same_at k lt =
          same k (slice_index_or xs k no_task_part) (slice_index_or ys k no_task_part) lt
          (each xs X k lt) (each ys Y k lt)

      same_entries : entries xs ≡ entries ys
      same_entries =
          entries_same xs ys (tasks xs X ∙ sym (tasks ys Y))
          (λ k l. (same_at k (let e = tasks xs X in omega (arith, e, l))).1)

      not_many : (n : ℕ) → n ≡ entries xs → most_entries < n → entries ys ≤ most_entries → ⊥
      not_many n is many few = let e = same_entries in absurd (omega (arith, e, is, many, few))

      -- a task with a window, as all higher ones have, is not the first without one
      has_window : (i : ℕ) → IsFirstWithoutWindow set (demands (part_in xs) longest) i
          → (window : ℕ → ℕ) (method : ℕ → Method)
          → ((k : ℕ) → k < suc i → IsSmallerWindow set (demands (part_in ys) longest window k) k
          (method k) (window k)) → ⊥
      has_window =
          not_first set (demands (part_in xs) longest) (demands (part_in ys) longest)
          (agree (part_in xs) (part_in ys) longest longest (λ k l. (same_at k l).0) (λ k l. refl))

      first_is : (i j : ℕ) → IsFirstWithoutWindow set (demands (part_in xs) longest) i
          → IsFirstWithoutWindow set (demands (part_in ys) longest) j → i < j → ⊥
      first_is i j F H lt =
          has_window i F (chosen_window H.higher) (chosen_method H.higher)
          (λ k l. H.each k (omega (arith, l, lt)))

    -- if there is the certificate, there is no error but out of memory
    not_refused : (c : Certificate) (e : BuildError) → IsOutcome (Ok c) → IsOutcome (Err e) → ⊥
    not_refused c Memory C R = absurd (R.0 refl)
    not_refused c (TooLarge t a) C R = none_large c.tasks t.0 a (parts_of c C.0) R.1
    not_refused c (TooManyEntries n) C R =
        not_many R.1.0 c.tasks R.1.1 (parts_of c C.0) n R.1.2 R.1.3 C.1
    not_refused c (Unschedulable t) C R =
        let first = R.1.3 in
        has_window R.1.0 c.tasks R.1.1 (parts_of c C.0) t.0 first (window_at c)
        (λ k. (certified_task c k).method)
        (λ k l. (C.0.each k (let f = first.task in omega (arith, f, l))).window)

    -- and there is at most one error other than out of memory
    one_refusal : (e d : BuildError) → IsOutcome (Err e) → IsOutcome (Err d) → e ≡ d
    one_refusal Memory d E D = absurd (E.0 refl)
    one_refusal e Memory E D = absurd (D.0 refl)
    one_refusal (TooLarge t a) (TooLarge u b) E D =
        let is = one_first t.0 u.0 a b E.1 D.1 in λ i. TooLarge (record { 0 = is.0 i }) (is.1 i)
    one_refusal (TooLarge t a) (TooManyEntries n) E D =
        absurd (none_large D.1.0 t.0 a D.1.1 E.1)
    one_refusal (TooLarge t a) (Unschedulable u) E D = absurd (none_large D.1.0 t.0 a D.1.1 E.1)
    one_refusal (TooManyEntries n) (TooLarge u b) E D =
        absurd (none_large E.1.0 u.0 b E.1.1 D.1)
    one_refusal (TooManyEntries n) (TooManyEntries m) E D =
        ap TooManyEntries
        (E.1.2 ∙ same_entries E.1.0 D.1.0 E.1.1 D.1.1 ∙ sym D.1.2)
    one_refusal (TooManyEntries n) (Unschedulable u) E D =
        absurd (not_many E.1.0 D.1.0 E.1.1 D.1.1 n E.1.2 E.1.3 D.1.2)
    one_refusal (Unschedulable t) (TooLarge u b) E D = absurd (none_large E.1.0 u.0 b E.1.1 D.1)
    one_refusal (Unschedulable t) (TooManyEntries m) E D =
        absurd (not_many D.1.0 E.1.0 D.1.1 E.1.1 m D.1.2 D.1.3 E.1.2)
    one_refusal (Unschedulable t) (Unschedulable u) E D =
        let task : t.0 ≡ u.0 = neither_less t.0 u.0
        (first_is E.1.0 D.1.0 E.1.1 D.1.1 t.0 u.0 E.1.3 D.1.3)
        (first_is D.1.0 E.1.0 D.1.1 E.1.1 u.0 t.0 D.1.3 E.1.3) in
        λ i. Unschedulable (record { 0 = task i })

    pub one_outcome : (r s : Result Certificate BuildError) → IsOutcome r → IsOutcome s → r ≡ s
    one_outcome (Ok c) (Ok d) C D =
        ap Ok (one_certificate set demands longest IsPart agree same c d C.0 D.0)
    one_outcome (Ok c) (Err e) C E = absurd (not_refused c e C E)
    one_outcome (Err e) (Ok c) E C = absurd (not_refused c e C E)
    one_outcome (Err e) (Err d) E D = ap Err (one_refusal e d E D)
