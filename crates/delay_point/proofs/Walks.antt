-- The plain and the chosen parts are sound, so refined windows hold their demand by sound parts.
use Rattle.std.proofs.Common.{◌≡◌, ◌⊎◌, ◌↔◌, ℕ, ◌<◌, ◌≤◌, Bool, false, IsTrue, length}
use Rattle.std.proofs.Common.{refl, sym, subst, inl, inr, arith}
use Rattle.std.proofs.lemmas.Bool.{cases_lt}
use Rattle.crpd_base.specs.declared.data.Part.{Part}
use Rattle.crpd_base.specs.declared.data.Platform.{Platform}
use Rattle.crpd_base.specs.declared.data.PointMethod.{PointMethod}
use Rattle.crpd_base.specs.declared.data.PointMethod.TheVariants.{Ucb, Ecb, Point}
use Rattle.crpd_base.specs.declared.data.PointMethod.TheVariants.{PersistentUcb, PersistentPoint}
use Rattle.crpd_base.specs.declared.data.TaskPart.{TaskPart}
use Rattle.crpd_base.specs.declared.data.TaskSet.{TaskSet}
use Rattle.flat_graph.specs.Graph.{IsGraph}
use Rattle.loop_regions.specs.Nest.{IsNested}
use Rattle.loop_regions.specs.TaskGraph.{TaskGraph}
use Rattle.loop_regions.proofs.Stated.{regions_law}
use Rattle.evict_sets.specs.Full.{FullUseful}
use Rattle.evict_sets.specs.ListedPart.{listed_of, no_task_part}
use Rattle.evict_sets.proofs.FullLaws.{hit_test_law}
use Rattle.useful_sets.specs.Useful.{Useful}
use Rattle.std.specs.Prelude.{slice_index_or}
use Rattle.icache.specs.Accesses.{Accesses}
use Rattle.must_cache.specs.Prepaid.{Prepaid}
use Rattle.run_account.specs.Nodes.{job_task}
use Rattle.walk_parts.specs.Credit.{ArePrepaid}
use Rattle.walk_parts.specs.Parts.{WalkPart, IsSoundPart}
use Rattle.persistent_blocks.specs.Laws.{HasSoundWalks}
use Rattle.cert_check.specs.JudgeInput.{accesses_of}
use Rattle.cert_check.specs.PotentialClauses.{CountsHits}
use Rattle.cert_check.specs.Verdict.{GraphHolds}
use Rattle.cert_check.specs.declared.outcome.Clause.{Clause}
use Rattle.cert_check.specs.declared.outcome.Clause.TheVariants.{Leaders, Inequalities}
use Rattle.cert_check.proofs.Clauses.{meets_with}
use Rattle.cert_build.specs.Best.{IsBestPart}
use Rattle.cert_build.proofs.Judged.{best_holds, lists_best}
use Rattle.cert_build.proofs.BestLaws.{best_useful_law}
use Rattle.preempt_machine.specs.Machine.{System, plan_of}
use Rattle.sound_laws.specs.Parts.{certified_walks}
use Rattle.sound_laws.specs.Walks.{IsCodeOf}
use Rattle.sound_laws.proofs.Execution.Certified.{IsMet, certified_sound}
use Rattle.sound_laws.proofs.Headline.Undisturbed.{part_is_bounded}
use Rattle.sound_laws.proofs.Reloads.PartLaws.{holds_prepaid}
use Rattle.sound_laws.proofs.Walks.KeptWalks.{task_below}
use Rattle.delay_point.specs.Chosen.{IsChosen, RefinedParts, AreRefinedParts, parts_by}
use Rattle.delay_point.specs.Refined.{method_at}
use Rattle.delay_point.specs.Laws.{RefinedHaveWalks, ChosenIsBounded, PrepaidStates}
use Rattle.persistent_blocks.proofs.SoundPart.{persistent_part_is_sound}
use Rattle.persistent_blocks.proofs.SoundPart.{prepaid_states as states_of}

-- the regions of the code's graphs are nested
pub nested_by : (sys : System) (set : TaskSet) (graphs : ℕ → TaskGraph) → IsCodeOf sys set graphs
    → (k : ℕ) → k < length set.tasks → IsNested (graphs k).graph (graphs k).nest
nested_by sys set graphs C k l =
    let g = C.graphs_of k l in
    regions_law (graphs k).graph (graphs k).places (plan_of sys k).loops (graphs k).nest g.regions
    g.accepted

-- one task
module _ (p : Platform) (t : TaskGraph) (G : IsGraph t.graph) (N : IsNested t.graph t.nest)
    (c : TaskPart) (B : IsBestPart p t c) where
  clauses : (k : Clause) → GraphHolds p t c k
  clauses k = best_holds p t c G B k

  counted : (hit : ℕ → Bool) × CountsHits t.graph (accesses_of p t) (listed_of c) hit
  counted = hit_test_law t.graph (accesses_of p t) (listed_of c) G (clauses Leaders).1

  met : (hit : ℕ → Bool) → CountsHits t.graph (accesses_of p t) (listed_of c) hit
      → IsMet p t c hit
  met hit counts =
      record {
        meets = record {
          nodes = λ u below. (clauses (Inequalities u) hit counts below).edges;
          loops = λ r below.
              (clauses (Inequalities (t.nest.head r)) hit counts
              (N.holds_nodes r (t.nest.head r) below (N.holds_head r below))).loop r below refl;
        };
        hits = counts;
        all = meets_with p t c clauses hit counts;
      }

  -- the plain part, with a test of the sets that are useful at its nodes
  pub plain_sound : (useful : ℕ → ℕ → Bool)
      → ((y s : ℕ) → y < t.graph.size
      → IsTrue (useful y s) ↔ Useful t.graph (accesses_of p t) y s)
      → HasSoundWalks p t c.part useful
  plain_sound useful U =
      let M = met counted.0 counted.1 in
      record {
        walks = certified_walks t c counted.0 useful;
        sound = certified_sound p t c counted.0 useful M G N
            (λ y s l f. (U y s l).1 ((is_useful y s l).0 f))
            (λ y s l b. (M.all.sets.sets y l).all s ((is_useful y s l).1 ((U y s l).0 b)));
        part_is = refl;
        useful_is = refl;
      }
    where
      is_useful : (y s : ℕ) → y < t.graph.size
          → FullUseful t.graph (accesses_of p t) (listed_of c) y s
          ↔ Useful t.graph (accesses_of p t) y s
      is_useful y s l =
          best_useful_law t.graph (accesses_of p t) (listed_of c) y s G
          (lists_best t.graph (accesses_of p t) c B.states) l

  pub chosen_sound : 1 ≤ p.sets → (useful : ℕ → ℕ → Bool)
      → ((y s : ℕ) → y < t.graph.size
      → IsTrue (useful y s) ↔ Useful t.graph (accesses_of p t) y s)
      → (part : Part) (sets : ℕ → ℕ → Bool) → IsChosen p t c.part useful part sets
      → HasSoundWalks p t part sets
  chosen_sound some useful U part sets (inl S) =
      persistent_part_is_sound p t part sets some G N S.persistent
  chosen_sound some useful U part sets (inr K) =
      subst (λ (x : Part). HasSoundWalks p t x sets) (sym K.part_is)
      (plain_sound sets (λ y s l.
      subst (λ (b : Bool). IsTrue b ↔ Useful t.graph (accesses_of p t) y s)
      (sym (K.sets_are y s l)) (U y s l)))

-- the same walks, with an equal part and equal sets
named : (p : Platform) (t : TaskGraph) (w : WalkPart) (part : Part) (useful : ℕ → ℕ → Bool)
    → w.part ≡ part → w.useful ≡ useful → IsSoundPart p t w
    → IsSoundPart p t
    (record { part = part; counts = w.counts; rest = w.rest; useful = useful })
named p t w part useful same alike S =
    subst (λ (x : Part).
    IsSoundPart p t (record { part = x; counts = w.counts; rest = w.rest; useful = useful })) same
    (subst (λ (u : ℕ → ℕ → Bool).
    IsSoundPart p t (record { part = w.part; counts = w.counts; rest = w.rest; useful = u })) alike
    S)

-- all tasks
module _ (set : TaskSet) (graphs : ℕ → TaskGraph) (some : 1 ≤ set.platform.sets)
    (G : (k : ℕ) → k < length set.tasks → IsGraph (graphs k).graph)
    (N : (k : ℕ) → k < length set.tasks → IsNested (graphs k).graph (graphs k).nest)
    (all : RefinedParts) (A : AreRefinedParts set graphs all) where
  plain_has : (k : ℕ) → k < length set.tasks
      → HasSoundWalks set.platform (graphs k) ((parts_by all Ucb).part k) (all.useful k)
  plain_has k l =
      plain_sound set.platform (graphs k) (G k l) (N k l)
      (slice_index_or all.analysed k no_task_part) (A.best.each k l) (all.useful k)
      (λ y s h. A.useful k y s l h)

  chosen_has : (k : ℕ) → k < length set.tasks
      → HasSoundWalks set.platform (graphs k) (all.chosen.part k) (all.chosen.useful k)
  chosen_has k l =
      chosen_sound set.platform (graphs k) (G k l) (N k l)
      (slice_index_or all.analysed k no_task_part) (A.best.each k l) some (all.useful k)
      (λ y s h. A.useful k y s l h) (all.chosen.part k) (all.chosen.useful k) (A.chosen k l)

  pub has_by : (m : PointMethod) (k : ℕ) → k < length set.tasks
      → HasSoundWalks set.platform (graphs k) ((parts_by all m).part k)
      ((parts_by all m).useful k)
  has_by Ucb k l = plain_has k l
  has_by Ecb k l = plain_has k l
  has_by Point k l = plain_has k l
  has_by PersistentUcb k l = chosen_has k l
  has_by PersistentPoint k l = chosen_has k l

  -- the walks of the tasks, and any for numbers that are no task
  abbrev found : (m : PointMethod) (k : ℕ) → (k < length set.tasks) ⊎ (length set.tasks ≤ k)
      → WalkPart
  found m k (inl l) = (has_by m k l).walks
  found m k (inr g) =
      record {
        part = (parts_by all m).part k;
        counts = λ w. false;
        rest = λ w. 0;
        useful = (parts_by all m).useful k;
      }

  abbrev with_found : (m : PointMethod) (k : ℕ)
      → (k < length set.tasks) ⊎ (length set.tasks ≤ k) → WalkPart
  with_found m k d =
      record {
        part = (parts_by all m).part k;
        counts = (found m k d).counts;
        rest = (found m k d).rest;
        useful = (parts_by all m).useful k;
      }

  abbrev pub walks_by : PointMethod → ℕ → WalkPart
  walks_by m k = with_found m k (cases_lt k (length set.tasks))

  sound_with : (m : PointMethod) (k : ℕ) → k < length set.tasks
      → (d : (k < length set.tasks) ⊎ (length set.tasks ≤ k))
      → IsSoundPart set.platform (graphs k) (with_found m k d)
  sound_with m k below (inl l) =
      let H = has_by m k l in
      named set.platform (graphs k) H.walks ((parts_by all m).part k) ((parts_by all m).useful k)
      H.part_is H.useful_is H.sound
  sound_with m k below (inr g) = absurd (omega arith)

  pub sound_by : (m : PointMethod) (k : ℕ) → k < length set.tasks
      → IsSoundPart set.platform (graphs k) (walks_by m k)
  sound_by m k l = sound_with m k l (cases_lt k (length set.tasks))

pub refined_have_walks : RefinedHaveWalks
refined_have_walks set graphs all tasks some G N A by =
    record {
      walks = λ i. walks_by set graphs some G N all A (method_at tasks i);
      sound = λ i. sound_by set graphs some G N all A (method_at tasks i);
      parts_are = λ i k. refl;
      useful_are = λ i k. refl;
      fit = record {
        room = λ i l. (by.window i l).window.enough;
        in_deadline = λ i l. (by.window i l).window.in_deadline;
      };
    }

pub chosen_is_bounded : ChosenIsBounded
chosen_is_bounded s set graphs all n x first R C run kept A h hz still =
    let G = λ (k : ℕ) (l : k < length set.tasks). (C.graphs_of k l).follows.graph in
    let N = nested_by s.system set graphs C in
    part_is_bounded s set graphs (walks_by set graphs R.sets G N all A PersistentUcb) n x first R C
    run kept (sound_by set graphs R.sets G N all A PersistentUcb) h hz still

pub prepaid_states : PrepaidStates
prepaid_states s set graphs part useful n x R C F o P =
    let k = job_task s x in
    let l = task_below s set graphs R C F.tasks x F.job in
    let p = s.system.platform in
    let t = graphs (job_task s x) in
    let some : 1 ≤ s.system.platform.sets =
    subst (λ (q : Platform). 1 ≤ q.sets) (sym C.platform) R.sets in
    let states = states_of s.system.platform (graphs (job_task s x)) part useful some
    (C.graphs_of k l).follows.graph (nested_by s.system set graphs C k l) P in
    holds_prepaid s set graphs P.bound.pay (Prepaid (graphs (job_task s x)).graph P.events) n x R C F
    o
    (subst (λ (a : Accesses). ArePrepaid (graphs (job_task s x)).graph a P.bound.pay
    (Prepaid (graphs (job_task s x)).graph P.events)) P.are.accesses states)
