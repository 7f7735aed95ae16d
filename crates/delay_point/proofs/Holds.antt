-- Refined windows have delays that cover the reloads, so they are safe.
use Rattle.std.proofs.Common.{◌≡◌, ◌↔◌, ℕ, ◌<◌, ◌≤◌, true, IsTrue, List, length, refl, sym, subst}
use Rattle.std.proofs.Common.{arith}
use Rattle.crpd_base.specs.declared.data.Part.{Part}
use Rattle.crpd_base.specs.declared.data.Certificate.{Certificate}
use Rattle.crpd_base.specs.declared.data.Method.TheVariants.{Ucb as ByUcb, Ecb as ByEcb}
use Rattle.crpd_base.specs.declared.data.TaskSet.{TaskSet}
use Rattle.crpd_base.specs.Sets.{has}
use Rattle.flat_graph.specs.Graph.{IsGraph}
use Rattle.loop_regions.specs.TaskGraph.{TaskGraph}
use Rattle.evict_sets.specs.Full.{FullUseful}
use Rattle.evict_sets.specs.ListedPart.{listed_of, certified_task}
use Rattle.useful_sets.specs.Useful.{Useful}
use Rattle.delay_count.specs.Gamma.{evicted_from, shared_count}
use Rattle.delay_count.proofs.Greatest.{greatest_ge}
use Rattle.cert_check.specs.JudgeInput.{accesses_of, window_at as certified_window}
use Rattle.cert_build.specs.Certify.{part_in, AreBestParts}
use Rattle.cert_build.proofs.Judged.{best_holds, lists_best}
use Rattle.cert_build.proofs.BestLaws.{best_useful_law}
use Rattle.preempt_machine.specs.Machine.{System}
use Rattle.preempt_machine.specs.Safe.{system_of, IsKept}
use Rattle.preempt_machine.specs.Step.{Start, state}
use Rattle.walk_parts.specs.Parts.{WalkPart}
use Rattle.sound_laws.specs.Walks.{HasTaskRanges, IsCodeOf, RunsLegally, MeetsGraphs}
use Rattle.sound_laws.specs.Windows.{CoversReloads}
use Rattle.sound_laws.specs.Ledgers.{CoversLedgers}
use Rattle.sound_laws.proofs.Execution.Certified.{met_at, walks_of, sound_of}
use Rattle.sound_laws.proofs.Headline.InRange.{in_range}
use Rattle.sound_laws.proofs.Headline.YesIsSafe.{windows_are_safe}
use Rattle.sound_laws.proofs.Walks.CheckedRuns.{CheckedRun, AreSound, kept_run, checked_run, run_of}
use Rattle.sound_laws.proofs.Windows.Busy.{task_at}
use Rattle.sound_laws.proofs.Reloads.Checked.{evictor_at, preemptor_at}
use Rattle.sound_laws.proofs.Reloads.CertifiedRuns.{CertifiedRun, certified_run, by_parts}
use Rattle.sound_laws.proofs.Delays.WindowReloads.{IsCovering, method_covers}
use Rattle.sound_laws.proofs.Delays.WindowReloads.{choice_covers}
use Rattle.sound_laws.proofs.Delays.NodeCount.{node_within}
use Rattle.sound_laws.proofs.Delays.WindowDelays.{HoldInRuns, covers_reloads, covers_by_parts}
use Rattle.sound_laws.proofs.Delays.Ledgers.{covers_ledgers}
use Rattle.crpd_base.specs.declared.data.PointMethod.{PointMethod}
use Rattle.crpd_base.specs.declared.data.PointMethod.TheVariants.{Ucb, Ecb, Point}
use Rattle.crpd_base.specs.declared.data.PointMethod.TheVariants.{PersistentUcb, PersistentPoint}
use Rattle.crpd_base.specs.declared.data.RefinedTask.{RefinedTask}
use Rattle.delay_point.specs.Gamma.{SetsAtNodes, AreUsefulSets, point_shared, gamma_point}
use Rattle.delay_point.specs.Chosen.{RefinedParts, AreRefinedParts}
use Rattle.delay_point.specs.Refined.{refined_gamma, method_at, window_at, responses}
use Rattle.delay_point.specs.PartWindows.{FitByParts, delay_by_parts, PartsAreSafe}
use Rattle.delay_point.specs.PartWindows.{PartPointCovers}
use Rattle.delay_point.specs.Laws.{HasRefined, HaveWalks, PointCovers, RefinedIsSafe}
use Rattle.delay_point.proofs.Walks.{nested_by, refined_have_walks}

-- a certificate with the parts of the analysis satisfies the clauses of the graphs
pub parts_meet : (set : TaskSet) (graphs : ℕ → TaskGraph) (c : Certificate)
    → ((k : ℕ) → k < length set.tasks → IsGraph (graphs k).graph)
    → AreBestParts set graphs c.tasks → MeetsGraphs set graphs c
parts_meet set graphs c G B k clause l =
    best_holds set.platform (graphs k) (certified_task c k) (G k l) (B.each k l) clause

-- sound parts of all tasks: in every legal and kept run the delay by each method covers the reloads
module _ (set : TaskSet) (graphs : ℕ → TaskGraph) (walks : ℕ → WalkPart)
    (sound : AreSound set graphs walks) where
  abbrev pub parts_by : ℕ → Part
  parts_by k = (walks k).part

  abbrev pub shared_by : ℕ → ℕ → ℕ
  shared_by = point_shared graphs (λ k. (walks k).useful) parts_by

  bounds : (j k y : ℕ) → k < length set.tasks → y < (graphs k).graph.size
      → shared_count ((walks k).useful y) (evicted_from parts_by j) 512 ≤ shared_by j k
  bounds j k y l below =
      greatest_ge (λ x. shared_count ((walks k).useful x) (evicted_from parts_by j) 512) 0
      (graphs k).graph.size y (omega arith) below

  module _ (s : Start) (n : ℕ) (window : ℕ → ℕ) (R : HasTaskRanges set)
      (D : IsCodeOf s.system set graphs) (run : RunsLegally set s)
      (kept : IsKept (state s n)) where
    abbrev K : CheckedRun
    K = checked_run (kept_run s set graphs window n R D (run_of run) kept) walks sound

    pub point_covers : (i : ℕ) → IsCovering K i (preemptor_at K)
        (gamma_point set shared_by window (window (task_at s i)) (task_at s i))
    point_covers i = choice_covers K run.legal shared_by (node_within K shared_by bounds) i

    pub covers_by : (m : PointMethod) (i : ℕ) → (charged : ℕ → ℕ) × IsCovering K i charged
        (refined_gamma set parts_by shared_by window (window (task_at s i)) m (task_at s i))
    covers_by Ucb i = (evictor_at K, method_covers K run.legal ByUcb i)
    covers_by Ecb i = (preemptor_at K, method_covers K run.legal ByEcb i)
    covers_by Point i = (preemptor_at K, point_covers i)
    covers_by PersistentUcb i = (evictor_at K, method_covers K run.legal ByUcb i)
    covers_by PersistentPoint i = (preemptor_at K, point_covers i)

-- windows that hold their demand, each with parts and a method of its own, have such delays
module _ (set : TaskSet) (graphs : ℕ → TaskGraph) (walks : ℕ → ℕ → WalkPart)
    (sound : (i : ℕ) → AreSound set graphs (walks i)) (window : ℕ → ℕ)
    (method : ℕ → PointMethod) (fit : FitByParts set graphs walks window method) where
  pub parts_hold : HoldInRuns set graphs window walks sound
      (delay_by_parts set graphs walks window method)
  parts_hold =
      record {
        room = record { room = fit.room; in_deadline = fit.in_deadline };
        covering = λ s n R D run kept i l.
            covers_by set graphs (walks (task_at s i)) (sound (task_at s i)) s n window R D run kept
            (method (task_at s i)) i;
      }

pub part_point_covers : PartPointCovers
part_point_covers set graphs walks window method parts sound fit fair =
    covers_by_parts set graphs window parts fair ByEcb walks sound
    (delay_by_parts set graphs walks window method)
    (λ i. gamma_point set (point_shared graphs (λ k. (parts k).useful) (λ k. (parts k).part)) window
    (window i) i)
    (parts_hold set graphs walks sound window method fit)
    (λ s n R C run k i. point_covers set graphs parts fair s n window R C run k i)

pub parts_are_safe : PartsAreSafe
parts_are_safe set code graphs walks window method responses T M G sound fit are =
    windows_are_safe (system_of set code) set graphs window walks sound
    (delay_by_parts set graphs walks window method) responses (in_range set T)
    (record { platform = refl; map = M; graphs_of = G })
    (parts_hold set graphs walks sound window method fit) are

-- the parts of the analysis, with the sets that are useful at each node
module _ (sys : System) (set : TaskSet) (graphs : ℕ → TaskGraph) (C : IsCodeOf sys set graphs)
    (c : Certificate) (useful : SetsAtNodes) (B : AreBestParts set graphs c.tasks)
    (U : AreUsefulSets set graphs useful) (meet : MeetsGraphs set graphs c) where
  graph_at : (k : ℕ) → k < length set.tasks → IsGraph (graphs k).graph
  graph_at k l = (C.graphs_of k l).follows.graph

  useful_is : (k y z : ℕ) → (l : k < length set.tasks) → (below : y < (graphs k).graph.size)
      → FullUseful (graphs k).graph (accesses_of set.platform (graphs k))
      (listed_of (certified_task c k)) y z
      ↔ Useful (graphs k).graph (accesses_of set.platform (graphs k)) y z
  useful_is k y z l below =
      best_useful_law (graphs k).graph (accesses_of set.platform (graphs k))
      (listed_of (certified_task c k)) y z (graph_at k l)
      (lists_best (graphs k).graph (accesses_of set.platform (graphs k)) (certified_task c k)
      (B.each k l).states) below

  full_is : (k y z : ℕ) → k < length set.tasks → y < (graphs k).graph.size
      → FullUseful (graphs k).graph (accesses_of set.platform (graphs k))
      (listed_of (certified_task c k)) y z → useful k y z ≡ true
  full_is k y z l below f = (U k y z l below).1 ((useful_is k y z l below).0 f)

  full_all : (k y z : ℕ) → k < length set.tasks → y < (graphs k).graph.size
      → useful k y z ≡ true → IsTrue (has (certified_task c k).part.useful z)
  full_all k y z l below b =
      ((met_at sys set graphs C c meet k l).all.sets.sets y below).all z
      ((useful_is k y z l below).1 ((U k y z l below).0 b))

  abbrev pub best_walks : ℕ → WalkPart
  best_walks = walks_of sys set graphs C c meet useful

  pub best_sound : AreSound set graphs best_walks
  best_sound = sound_of sys set graphs C c meet useful full_is full_all

-- the same reloads by the certificate's parts, whatever their useful sets
module _ (s : Start) (set : TaskSet) (graphs : ℕ → TaskGraph) (c : Certificate)
    (useful : SetsAtNodes) (B : AreBestParts set graphs c.tasks)
    (U : AreUsefulSets set graphs useful) (n : ℕ) (R : HasTaskRanges set)
    (C : IsCodeOf s.system set graphs) (M : MeetsGraphs set graphs c) (run : RunsLegally set s)
    (kept : IsKept (state s n)) where
  abbrev L : CertifiedRun
  L =
      certified_run s set graphs c n R C M (run_of run) kept

  abbrev one : CheckedRun
  one =
      checked_run (kept_run s set graphs (certified_window c) n R C (run_of run) kept)
      (best_walks s.system set graphs C c useful B U M)
      (best_sound s.system set graphs C c useful B U M)

  pub same_covering : (i : ℕ) (delay : ℕ → ℕ) → IsCovering one i (preemptor_at one) delay
      → IsCovering (by_parts L) i (preemptor_at (by_parts L)) delay
  same_covering i delay c =
      record {
        higher = c.higher;
        within = λ t from until j test W l facts.
            c.within t from until j test
            (record {
              job = W.job;
              after = W.after;
              shorter = W.shorter;
              by_horizon = W.by_horizon;
              covers = W.covers;
              higher = W.higher;
              open_before = W.open_before;
            })
            l
            (λ n b. let f = facts n b in
            record { late = f.late; early = f.early; reload = f.reload });
      }

module _ (set : TaskSet) (graphs : ℕ → TaskGraph) (c : Certificate) (useful : SetsAtNodes)
    (tasks : List RefinedTask) (H : HasRefined set graphs c useful tasks)
    (G : (k : ℕ) → k < length set.tasks → IsGraph (graphs k).graph) where
  abbrev M : MeetsGraphs set graphs c
  M = parts_meet set graphs c G H.best

  same_windows : certified_window c ≡ window_at tasks
  same_windows = λ j k. H.windows k j

  -- the parts of the set
  abbrev all : RefinedParts
  all = record { analysed = c.tasks; useful = useful; chosen = H.chosen }

  are : AreRefinedParts set graphs all
  are = record { best = H.best; useful = H.useful_sets; chosen = H.are_chosen }

  -- the delay by program point with these windows
  abbrev limit : (ℕ → ℕ) → ℕ → ℕ → ℕ
  limit w i = gamma_point set (point_shared graphs useful (part_in c.tasks)) w (w i) i

  -- the sound parts of the windows
  walks_in : (sys : System) → IsCodeOf sys set graphs → HasTaskRanges set
      → HaveWalks set graphs all tasks
  walks_in sys C R =
      refined_have_walks set graphs all tasks R.sets G (nested_by sys set graphs C) are H.by

  holds_by : (W : HaveWalks set graphs all tasks)
      → HoldInRuns set graphs (certified_window c) W.walks W.sound
      (delay_by_parts set graphs W.walks (certified_window c) (method_at tasks))
  holds_by W =
      subst (λ (w : ℕ → ℕ). HoldInRuns set graphs w W.walks W.sound
      (delay_by_parts set graphs W.walks w (method_at tasks)))
      (sym same_windows)
      (parts_hold set graphs W.walks W.sound (window_at tasks) (method_at tasks) W.fit)

  covers_all : CoversReloads set graphs c ByEcb (limit (certified_window c))
  covers_all s i t until j test W top each =
      let V = walks_in s.system W.code W.in_range in
      covers_reloads set graphs c ByEcb V.walks V.sound
      (delay_by_parts set graphs V.walks (certified_window c) (method_at tasks))
      (limit (certified_window c)) M (holds_by V)
      (λ s n R C M run kept i.
      same_covering s set graphs c useful H.best H.useful_sets n R C M run kept i
      (limit (certified_window c) (task_at s i))
      (point_covers set graphs (best_walks s.system set graphs C c useful H.best H.useful_sets M)
      (best_sound s.system set graphs C c useful H.best H.useful_sets M) s n (certified_window c)
      R C run kept i))
      s i t until j test W top each

  -- the delay by program point covers the reloads, whatever the methods
  pub covers : CoversLedgers set graphs c ByEcb (limit (window_at tasks))
  covers =
      subst (λ (w : ℕ → ℕ). CoversLedgers set graphs c ByEcb (limit w)) same_windows
      (covers_ledgers set graphs c ByEcb (limit (certified_window c)) covers_all)

pub point_covers_law : PointCovers
point_covers_law set graphs c useful tasks H G = covers set graphs c useful tasks H G

pub refined_is_safe : RefinedIsSafe
refined_is_safe set code graphs tasks T M G A =
    let C : IsCodeOf (system_of set code) set graphs = record {
      platform = refl;
      map = M;
      graphs_of = G;
    } in
    let R = in_range set T in
    let W = refined_have_walks set graphs A.parts tasks R.sets (λ k l. (G k l).follows.graph)
    (nested_by (system_of set code) set graphs C) A.are A.by in
    parts_are_safe set code graphs W.walks (window_at tasks) (method_at tasks) (responses tasks) T M
    G W.sound W.fit (λ k l. A.by.response k l)
