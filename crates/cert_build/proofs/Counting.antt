-- The analyses of the tasks so far, and their state entries.
use Rattle.std.proofs.Common.{◌≡◌, ℕ, ◌+◌, ◌<◌, ◌≤◌, ◌^◌, List, [], ◌∷◌, ◌++◌, true, length, map}
use Rattle.std.proofs.Common.{get_or, refl, sym, ap, ◌∙◌, subst, ⊎_elim, arith, All, sum_by}
use Rattle.std.proofs.lemmas.Bool.{cases_eq}
use Rattle.std.proofs.lemmas.List.{get_or_push, get_or_append_left, length_push}
use Rattle.std.proofs.lemmas.List.Sums.{sum_by-cons, sum_by_push}
use Rattle.std.proofs.Math.ListN.{get_or-map, length-map}
use Rattle.crpd_base.specs.declared.data.Platform.{Platform}
use Rattle.crpd_base.specs.declared.data.TaskSet.{TaskSet}
use Rattle.crpd_base.specs.declared.data.TaskPart.{TaskPart}
use Rattle.crpd_base.specs.declared.data.Method.TheVariants.{Ucb}
use Rattle.loop_regions.specs.Nest.{Item, Node, Loop, IsItem}
use Rattle.loop_regions.specs.Potentials.{Costs, Potentials, item_potential, Meets}
use Rattle.loop_regions.specs.TaskGraph.{TaskGraph, node_code_of, answering}
use Rattle.loop_regions.specs.CodeNest.{CodeNest}
use Rattle.flat_graph.specs.Graph.{IsGraph}
use Rattle.flat_graph.specs.CodeGraph.{CodeGraph}
use Rattle.must_cache.proofs.SureFacts.{sure_hits_agree}
use Rattle.exec_bound.specs.Least.{AreLeastPotentials}
use Rattle.cert_check.specs.ListedPotentials.{potentials_of}
use Rattle.cert_check.specs.PotentialClauses.{edge_costs}
use Rattle.cert_check.specs.JudgeInput.{accesses_of}
use Rattle.loop_regions.specs.TaskGraphs.{task_graph, task_graph_at, nest_at}
use Rattle.cert_check.proofs.Tasks.{graph_is, nest_is}
use Rattle.crpd_base.specs.Names.{is_name}
use Rattle.cert_model.specs.Reading.{task_entries, state_entries, entries}
use Rattle.crpd_base.specs.CertificateRanges.{HasFewPairs, IsTaskPart}
use Rattle.cert_model.proofs.Ranged.{few_nodes, few_of}
use Rattle.cert_build.specs.Best.{IsBestPart}
use Rattle.cert_build.specs.Analysis.{part_with, part_of_analysis, IsAnalysis, KeepsRanges}
use Rattle.cert_build.specs.Analysis.{HasLargeBound}
use Rattle.cert_build.specs.Assembly.{no_analysis, analysis_at, entries_of, AreAnalysed}
use Rattle.cert_build.specs.Inner.Assembly.{CountsEntries}
use Rattle.cert_build.specs.Certify.{AreBestParts, HaveNoAnalyses, IsTaskError}
use Rattle.cert_build.specs.declared.one_task.Analysis.{Analysis}
use Rattle.cert_build.specs.declared.error.BuildError.{BuildError}
use Rattle.cert_build.specs.declared.error.BuildError.TheVariants.{Memory, TooLarge, TooManyEntries}
use Rattle.cert_build.specs.declared.error.BuildError.TheVariants.{Unschedulable}
use Rattle.exec_bound.proofs.GreatestBound.{greatest_is}
use Rattle.cert_build.proofs.OneBest.{meets_by}

-- a property of the stored graph and regions holds for the task's
pub at_task : (P : TaskGraph → Type 0) (graphs : List CodeGraph) (nests : List CodeNest) (k : ℕ)
    (g : CodeGraph) (n : CodeNest) → k < length graphs → k < length nests → g ≡ get_or graphs k g
    → n ≡ get_or nests k n → P (task_graph g n) → P (task_graph_at graphs nests k)
at_task P graphs nests k g n gl nl g_is n_is h =
    subst (λ (x : CodeGraph). P (task_graph x (nest_at nests k))) (graph_is graphs k g gl g_is)
    (subst (λ (x : CodeNest). P (task_graph g x)) (nest_is nests k n nl n_is) h)

-- ---- a part of the analysis with a bound of at most 2^40 has no large bound

no_more : (t : TaskGraph) (c : Costs) (p q : Potentials) (i : Item) → t.graph.first < t.graph.size
    → AreLeastPotentials t.graph t.nest c p → Meets t.graph t.nest c q
    → IsItem t.nest t.graph.first i → item_potential p i ≤ item_potential q i
no_more t c p q (Node y) lt L M is = L.nodes q y M (subst (λ x. x < t.graph.size) (sym is.0) lt)
no_more t c p q (Loop r) lt L M is = L.loops q r M is.0

pub not_large : (p : Platform) (t : TaskGraph) (c : TaskPart) → IsGraph t.graph → IsBestPart p t c
    → c.part.bound ≤ 2 ^ 40 → HasLargeBound p t → ⊥
not_large p t c G B most H =
    let P = B.potentials in
    let same = sure_hits_agree t.graph (accesses_of p t) B.is_hit H.is_hit B.hits H.hits in
    let meets = meets_by p t B.is_hit H.is_hit (potentials_of c) same P.least.meets in
    let i = H.exceeds.1 in
    let le = no_more t (edge_costs p (node_code_of t) (answering t) H.is_hit) H.exceeds.0
    (potentials_of c) i G.first H.exceeds.2 meets H.exceeds.3 in
    let e = P.bound i H.exceeds.3 in
    let more = subst (λ k. k < item_potential H.exceeds.0 i) greatest_is H.exceeds.4 in
    absurd (omega (arith, le, e, most, more))

-- ---- what an analysis counts

some_name : is_name (97 ∷ []) ≡ true
some_name = refl

ranged : (a : Analysis) → KeepsRanges a → IsTaskPart (part_with a (97 ∷ []) Ucb 0 0)
ranged a R = R (97 ∷ []) Ucb 0 0 some_name (omega arith) (omega arith)

pub few_states : (a : Analysis) → KeepsRanges a → length a.states ≤ 16384
few_states a R = few_nodes (part_with a (97 ∷ []) Ucb 0 0) (ranged a R)

pub few_pairs : (a : Analysis) → KeepsRanges a → All HasFewPairs a.states
few_pairs a R = few_of (part_with a (97 ∷ []) Ucb 0 0) (ranged a R)

pub entries_map : (all : List Analysis) → entries (map part_of_analysis all) ≡ sum_by entries_of all
entries_map [] = refl
entries_map (a ∷ all) =
    sum_by-cons task_entries (part_of_analysis a) (map part_of_analysis all)
    ∙ ap (λ n. entries_of a + n) (entries_map all) ∙ sym (sum_by-cons entries_of a all)

module _ (set : TaskSet) (graphs : ℕ → TaskGraph) where
  -- analyses of all tasks are best parts, with as many entries
  pub best_parts : (all : List Analysis) → length all ≡ length set.tasks
      → ((k : ℕ) → k < length set.tasks → IsAnalysis set.platform (graphs k) (analysis_at all k))
      → AreBestParts set graphs (map part_of_analysis all)
  best_parts all tasks each =
      record {
        tasks = length-map all part_of_analysis ∙ tasks;
        each = λ k lt.
            subst (λ (t : TaskPart). IsBestPart set.platform (graphs k) t)
            (sym (get_or-map part_of_analysis all k no_analysis)) (each k lt).best;
        within = λ k lt.
            subst (λ (t : TaskPart). t.part.bound ≤ 2 ^ 40)
            (sym (get_or-map part_of_analysis all k no_analysis)) (each k lt).within;
      }

  pushed : (all : List Analysis) (a : Analysis) (n k : ℕ) (P : ℕ → Analysis → Type 0)
      → length all ≡ n → ((j : ℕ) → j < n → P j (analysis_at all j)) → P n a → k < n + 1
      → P k (analysis_at (all ++ a ∷ []) k)
  pushed all a n k P count before here lt =
      ⊎_elim
      (λ (e : k ≡ n). subst (λ j. P j (analysis_at (all ++ a ∷ []) j)) (sym e)
      (subst (λ x. P n x) (sym (get_or_push all a no_analysis n count)) here))
      (λ ne.
      let l : k < n = omega (arith, lt, ne) in
      subst (λ x. P k x)
      (sym (get_or_append_left all (a ∷ []) no_analysis k (omega (arith, l, count)))) (before k l))
      (cases_eq k n)

  pub counted_more : (k found more : ℕ) (kept new : List Analysis) (a : Analysis)
      → IsAnalysis set.platform (graphs k) a → KeepsRanges a → more ≡ sum_by state_entries a.states
      → more ≤ 16777216
      → (found + more ≤ 4000000 → new ≡ kept ++ a ∷ []) → CountsEntries set graphs k found kept
      → CountsEntries set graphs (k + 1) (found + more) new
  counted_more k found more kept new a A R is small kept_is C =
      record {
        all = C.all ++ a ∷ [];
        analysed = record {
          tasks = length_push C.all a ∙ ap (λ n. n + 1) C.analysed.tasks;
          each = λ j l.
              pushed C.all a k j (λ i x. IsAnalysis set.platform (graphs i) x) C.analysed.tasks
              C.analysed.each A l;
          ranges = λ j l.
              pushed C.all a k j (λ i x. KeepsRanges x) C.analysed.tasks C.analysed.ranges R l;
        };
        entries =
            ap (λ n. n + more) C.entries ∙ ap (λ n. sum_by entries_of C.all + n) is
            ∙ sym (sum_by_push entries_of C.all a);
        same = λ l.
            kept_is l ∙ ap (λ (xs : List Analysis). xs ++ a ∷ []) (C.same (omega (arith, l)));
        small = let s = C.small in omega (arith, s, small);
      }

  -- if they are few enough, those stored are all
  pub all_kept : (n found : ℕ) (kept : List Analysis) → n ≡ length set.tasks → found ≤ 4000000
      → CountsEntries set graphs n found kept → AreAnalysed set graphs kept
  all_kept n found kept all le C =
      subst (λ (l : List Analysis). AreAnalysed set graphs l) (sym (C.same le))
      (record {
        tasks = C.analysed.tasks ∙ all;
        each = λ k lt. C.analysed.each k (omega (arith, lt, all));
        ranges = λ k lt. C.analysed.ranges k (omega (arith, lt, all));
        entries = let e = C.entries in omega (arith, e, le);
      })

  pub too_many : (n found : ℕ) (kept : List Analysis) → n ≡ length set.tasks → 4000000 < found
      → CountsEntries set graphs n found kept → HaveNoAnalyses set graphs (TooManyEntries found)
  too_many n found kept all gt C = (
    map part_of_analysis C.all,
    best_parts C.all (C.analysed.tasks ∙ all) (λ k lt. C.analysed.each k (omega (arith, lt, all))),
    C.entries ∙ sym (entries_map C.all),
    gt,
  )

  -- the first task without an analysis
  pub task_refused : (k found : ℕ) (kept : List Analysis) (e : BuildError)
      → ((j : ℕ) → j < length set.tasks → IsGraph (graphs j).graph) → k < length set.tasks
      → CountsEntries set graphs k found kept
      → IsTaskError set.platform (graphs k) k e → HaveNoAnalyses set graphs e
  task_refused k found kept Memory G lt C R = tt
  task_refused k found kept (TooLarge t address) G lt C R = (
    record {
      task = subst (λ x. x < length set.tasks) (sym R.0) lt;
      large = subst (λ x. HasLargeBound set.platform (graphs x)) (sym R.0) R.1;
      before = λ j l H.
          let i : j < k = let e = R.0 in omega (arith, e, l) in
          not_large set.platform (graphs j) (part_of_analysis (analysis_at C.all j))
          (G j (omega (arith, i, lt))) (C.analysed.each j i).best (C.analysed.each j i).within H;
    },
    R.2 ∙ ap (λ x. (graphs x).places.address (graphs x).graph.first) (sym R.0),
  )
  task_refused k found kept (TooManyEntries n) G lt C R = absurd R
  task_refused k found kept (Unschedulable t) G lt C R = absurd R
