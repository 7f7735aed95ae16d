-- The certificate of the analyses is the analysis' certificate, in its ranges.
use Rattle.std.proofs.Common.{◌≡◌, ℕ, zero, suc, ◌+◌, ◌<◌, ◌≤◌, true, List, [], ◌∷◌, length, map}
use Rattle.std.proofs.Common.{get_or, refl, sym, ap, ◌∙◌, subst, arith, sum_by}
use Rattle.std.proofs.lemmas.List.{get_or_default}
use Rattle.std.proofs.lemmas.List.Sums.{sum_by-cons}
use Rattle.std.proofs.Math.ListN.{get_or-map as mapped}
use Rattle.crpd_base.specs.Ranges.{IsPlatform, IsTaskSet}
use Rattle.crpd_base.specs.Tasks.{HasTimes, jitter_of, deadline_of}
use Rattle.crpd_base.specs.declared.data.Platform.{Platform}
use Rattle.crpd_base.specs.declared.data.TaskSpec.{TaskSpec}
use Rattle.crpd_base.specs.declared.data.TaskSet.{TaskSet}
use Rattle.crpd_base.specs.declared.data.TaskPart.{TaskPart}
use Rattle.crpd_base.specs.declared.data.Certificate.{Certificate}
use Rattle.crpd_base.specs.declared.data.Method.{Method}
use Rattle.crpd_base.specs.declared.data.Part.{Part}
use Rattle.loop_regions.specs.TaskGraph.{TaskGraph}
use Rattle.evict_sets.specs.ListedPart.{no_task_part, certified_task}
use Rattle.response.specs.Windows.{IsFirstWithoutWindow}
use Rattle.response.specs.declared.choice.WindowError.{WindowError}
use Rattle.response.specs.declared.choice.WindowError.TheVariants as window
use Rattle.cert_check.specs.JudgeInput.{certified_part, window_at, longest_at, name_at}
use Rattle.crpd_base.proofs.Times.{has_times}
use Rattle.crpd_base.specs.Names.{is_name}
use Rattle.cert_model.specs.Reading.{task_entries, entries}
use Rattle.crpd_base.specs.CertificateRanges.{IsTaskPart, IsCertificate}
use Rattle.cert_build.specs.Best.{Demands, IsAnalysisBy, IsBestPart, IsCertificateBy}
use Rattle.cert_build.specs.Analysis.{part_of_analysis, IsAnalysis, KeepsRanges}
use Rattle.cert_build.specs.Assembly.{no_analysis, analysis_at, entries_of, AreAnalysed}
use Rattle.cert_build.specs.Certify.{HasParts, HaveNoWindowsBy, IsCompletedBy, IsRefusedBy}
use Rattle.cert_build.specs.Inner.Certify.{window_build_error}
use Rattle.cert_build.specs.declared.one_task.Analysis.{Analysis}
use Rattle.cert_build.specs.declared.error.BuildError.{BuildError}
use Rattle.response.proofs.WindowLaws.{smaller_is_window}
use Rattle.cert_build.proofs.Counting.{best_parts, entries_map}

-- a property of the names of all tasks holds for each name
name_in : (P : List ℕ → Type 0) (tasks : List TaskSpec) (k : ℕ) → k < length tasks
    → ((j : ℕ) (d : TaskSpec) → j < length tasks → P (get_or tasks j d).name)
    → P (get_or (map (λ (t : TaskSpec). t.name) tasks) k [])
name_in P [] k lt h = absurd (omega (arith, lt))
name_in P (t ∷ tasks) zero lt h = h 0 t (omega arith)
name_in P (t ∷ tasks) (suc k) lt h =
    name_in P tasks k (omega (arith, lt)) (λ j d l. h (suc j) d (omega (arith, l)))

-- an analysis does not depend on name, method, window and response
pub beside : (p : Platform) (t : TaskGraph) (c : TaskPart) (name : List ℕ) (method : Method)
    (w response : ℕ) → IsBestPart p t c
    → IsBestPart p t (record {
      name = name;
      part = c.part;
      states = c.states;
      potentials = c.potentials;
      loops = c.loops;
      method = method;
      window = w;
      response = response;
    })
beside p t c name method w response B =
    record {
      states = record {
        leaders = B.states.leaders;
        each = B.states.each;
        ascending = B.states.ascending;
      };
      evicting = B.evicting;
      useful = B.useful;
      is_hit = B.is_hit;
      hits = B.hits;
      potentials = record {
        nodes = B.potentials.nodes;
        regions = B.potentials.regions;
        least = B.potentials.least;
        bound = B.potentials.bound;
      };
    }

sums_same : (xs : List TaskPart) (ys : List Analysis) → length xs ≡ length ys
    → ((k : ℕ) → k < length ys
    → task_entries (get_or xs k no_task_part) ≡ entries_of (get_or ys k no_analysis))
    → entries xs ≡ sum_by entries_of ys
sums_same [] [] e h = refl
sums_same [] (y ∷ ys) e h = absurd (omega (arith, e))
sums_same (x ∷ xs) [] e h = absurd (omega (arith, e))
sums_same (x ∷ xs) (y ∷ ys) e h =
    sum_by-cons task_entries x xs ∙ ap (λ n. n + entries xs) (h 0 (omega arith))
    ∙ ap (λ n. entries_of y + n)
    (sums_same xs ys (omega (arith, e)) (λ k l. h (suc k) (omega (arith, l))))
    ∙ sym (sum_by-cons entries_of y ys)

-- a certificate with some analyses, whatever its windows
module _ (set : TaskSet) (all : List Analysis) (c : Certificate)
    (H : HasParts set (analysis_at all) c) where
  pub part_best : (graphs : ℕ → TaskGraph) (k : ℕ) → k < length set.tasks
      → IsAnalysis set.platform (graphs k) (analysis_at all k)
      → IsBestPart set.platform (graphs k) (certified_task c k)
  part_best graphs k lt A =
      subst (λ (t : TaskPart). IsBestPart set.platform (graphs k) t) (sym (H.part k lt))
      (beside set.platform (graphs k) (part_of_analysis (analysis_at all k)) (name_at set k)
      (certified_task c k).method (window_at c k) (window_at c k + jitter_of set k) A.best)

  pub entries_are : length all ≡ length set.tasks → entries c.tasks ≡ sum_by entries_of all
  entries_are tasks =
      sums_same c.tasks all (H.tasks ∙ sym tasks)
      (λ k l. ap (λ (t : TaskPart). task_entries t) (H.part k (omega (arith, tasks, l))))

  -- the names of the set's tasks
  named : IsTaskSet set → (k : ℕ) → k < length set.tasks → is_name (name_at set k) ≡ true
  named S k lt =
      name_in (λ (l : List ℕ). is_name l ≡ true) set.tasks k lt (λ j d l. (S.each j d l).name)

  pub in_ranges : HasTimes set → IsTaskSet set
      → ((k : ℕ) → k < length set.tasks → KeepsRanges (analysis_at all k))
      → ((k : ℕ) → k < length set.tasks → window_at c k + jitter_of set k ≤ deadline_of set k)
      → entries c.tasks ≤ 4000000 → IsCertificate c
  in_ranges times S ranges deadlines few =
      record {
        platform = subst (λ (p : Platform). IsPlatform p) (sym H.platform) S.platform;
        tasks = record {
          some = let s = S.some in let e = H.tasks in omega (arith, s, e);
          few = let s = S.few in let e = H.tasks in omega (arith, s, e);
          each = λ k d l.
              let lt : k < length set.tasks = let e = H.tasks in omega (arith, e, l) in
              let dead = deadlines k lt in
              let period = times.deadline k lt in
              let longest = times.longest k lt in
              subst (λ (t : TaskPart). IsTaskPart t)
              (sym (get_or_default c.tasks k d no_task_part l ∙ H.part k lt))
              (ranges k lt (name_at set k) (certified_task c k).method (window_at c k)
              (window_at c k + jitter_of set k) (named S k lt)
              (omega (arith, dead, period, longest)) (omega (arith, dead, period, longest)));
        };
        entries = few;
      }

-- the windows of a certificate with some analyses
module _ (set : TaskSet) (demands : Demands) (graphs : ℕ → TaskGraph) (analyses : ℕ → Analysis)
    (c : Certificate) (C : IsCompletedBy set demands graphs analyses c) where
  -- the smaller windows are within the deadlines
  pub in_deadlines : (k : ℕ) → k < length set.tasks
      → window_at c k + jitter_of set k ≤ deadline_of set k
  in_deadlines k lt =
      (smaller_is_window set
      (demands (certified_part c) (longest_at set.platform graphs) (window_at c) k) k
      (certified_task c k).method (window_at c k) (C.smaller k lt)).in_deadline

  -- the certificate has parts of each kind that these are
  pub certified : (IsPart : ℕ → TaskPart → Type 0)
      → ((k : ℕ) → k < length set.tasks → IsPart k (certified_task c k))
      → IsCertificateBy set demands (longest_at set.platform graphs) IsPart c
  certified IsPart part =
      record {
        platform = C.parts.platform;
        tasks = C.parts.tasks;
        each = λ i lt. record {
          name = ap (λ (t : TaskPart). t.name) (C.parts.part i lt);
          part = part i lt;
          window = C.smaller i lt;
          response = ap (λ (t : TaskPart). t.response) (C.parts.part i lt);
        };
      }

module _ (set : TaskSet) (demands : Demands) (graphs : ℕ → TaskGraph) (all : List Analysis)
    (A : AreAnalysed set graphs all) where
  module _ (c : Certificate) (C : IsCompletedBy set demands graphs (analysis_at all) c) where
    pub is_best : IsAnalysisBy set demands graphs c
    is_best =
        certified set demands graphs (analysis_at all) c C
        (λ i. IsBestPart set.platform (graphs i))
        (λ i lt. part_best set all c C.parts graphs i lt (A.each i lt))

    pub few_entries : entries c.tasks ≤ 4000000
    few_entries =
        let e = entries_are set all c C.parts A.tasks in let few = A.entries in omega (arith, e, few)

    pub best_in_ranges : IsTaskSet set → IsCertificate c
    best_in_ranges S =
        in_ranges set all c C.parts (has_times set S) S A.ranges
        (in_deadlines set demands graphs (analysis_at all) c C) few_entries

  -- if windows are missing, the certificate has that error
  no_windows : (e : WindowError) → HaveNoWindowsBy set demands graphs (analysis_at all) e
      → IsRefusedBy set demands graphs (window_build_error e)
  no_windows window.Memory none = tt
  no_windows (window.Unschedulable t) none = (
    map part_of_analysis all,
    best_parts set graphs all A.tasks A.each,
    (let e = entries_map all in let few = A.entries in omega (arith, e, few)),
    subst (λ (f : ℕ → Part).
        IsFirstWithoutWindow set (demands f (longest_at set.platform graphs)) t.0)
        (λ x k. ((sym (mapped part_of_analysis all k no_analysis)) x).part) none,
  )

  pub not_scheduled : (e : WindowError) (x : BuildError)
      → HaveNoWindowsBy set demands graphs (analysis_at all) e → x ≡ window_build_error e
      → IsRefusedBy set demands graphs x
  not_scheduled e x none is = subst (IsRefusedBy set demands graphs) (sym is) (no_windows e none)
