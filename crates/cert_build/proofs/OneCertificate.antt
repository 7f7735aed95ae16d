-- A set has at most one certificate by a demand, if two of its parts for one task state the same
-- about the code.
use Rattle.std.proofs.Common.{◌≡◌, ℕ, ◌<◌, length, refl, ◌∙◌, sym, arith}
use Rattle.std.proofs.lemmas.List.{ext_get_or}
use Rattle.crpd_base.specs.declared.data.TaskSet.{TaskSet}
use Rattle.crpd_base.specs.declared.data.TaskPart.{TaskPart}
use Rattle.crpd_base.specs.declared.data.Certificate.{Certificate}
use Rattle.evict_sets.specs.ListedPart.{no_task_part, certified_task}
use Rattle.response.proofs.WindowLaws.{one_choice}
use Rattle.cert_check.specs.JudgeInput.{window_at, certified_part}
use Rattle.cert_build.specs.Best.{Demands, IsCertificateBy}
use Rattle.cert_build.proofs.Choices.{AllAgree}

-- two parts state the same about the code
abbrev pub SameAnalysis : TaskPart → TaskPart → Type 0
SameAnalysis x y =
    (x.part ≡ y.part) × (x.states ≡ y.states) × (x.potentials ≡ y.potentials) × (x.loops ≡ y.loops)

-- any two such parts of a task do
abbrev pub AreOneAnalysis : TaskSet → (ℕ → TaskPart → Type 0) → Type 0
AreOneAnalysis set IsPart =
    (i : ℕ) (x y : TaskPart) → i < length set.tasks → IsPart i x → IsPart i y → SameAnalysis x y

module _ (set : TaskSet) (demands : Demands) (longest : ℕ → ℕ) (IsPart : ℕ → TaskPart → Type 0)
    (agree : AllAgree set demands) (same : AreOneAnalysis set IsPart) (c d : Certificate)
    (C : IsCertificateBy set demands longest IsPart c)
    (D : IsCertificateBy set demands longest IsPart d) where
  same_part : (i : ℕ) → i < length set.tasks
      → SameAnalysis (certified_task c i) (certified_task d i)
  same_part i l =
      same i (certified_task c i) (certified_task d i) l (C.each i l).part (D.each i l).part

  same_choice : (i : ℕ) → i < length set.tasks
      → ((certified_task c i).method ≡ (certified_task d i).method)
      × (window_at c i ≡ window_at d i)
  same_choice =
      one_choice set (demands (certified_part c) longest (window_at c))
      (demands (certified_part d) longest (window_at d)) (window_at c) (window_at d)
      (λ i. (certified_task c i).method) (λ i. (certified_task d i).method) (length set.tasks)
      (agree (certified_part c) (certified_part d) longest longest (λ k l. (same_part k l).0)
      (λ k l. refl) (window_at c) (window_at d))
      (λ i l. (C.each i l).window) (λ i l. (D.each i l).window)

  same_at : (i : ℕ) → i < length set.tasks → certified_task c i ≡ certified_task d i
  same_at i l =
      let A = same_part i l in
      let choice = same_choice i l in
      let name = (C.each i l).name ∙ sym (D.each i l).name in
      let responses : (certified_task c i).response ≡ (certified_task d i).response =
      (let e = (C.each i l).response in
      let f = (D.each i l).response in let w = choice.1 in omega (arith, e, f, w)) in
      λ j. record {
        name = name j;
        part = A.0 j;
        states = A.1 j;
        potentials = A.2 j;
        loops = A.3 j;
        method = choice.0 j;
        window = choice.1 j;
        response = responses j;
      }

  pub one_certificate : c ≡ d
  one_certificate =
      let platforms = C.platform ∙ sym D.platform in
      let tasks = ext_get_or no_task_part c.tasks d.tasks (C.tasks ∙ sym D.tasks)
      (λ i l. same_at i (let e = C.tasks in omega (arith, l, e))) in
      λ j. record {
        platform = platforms j;
        tasks = tasks j;
      }
