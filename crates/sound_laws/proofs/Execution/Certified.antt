-- For steps 4 and 5: a task's part of an accepted certificate is a sound part.
use Rattle.std.proofs.Common.{◌≡◌, ℕ, ◌<◌, ◌≤◌, Bool, true, false, List, [], ◌∷◌, ◌++◌}
use Rattle.std.proofs.Common.{length, Some, None, IsTrue, refl, sym, ◌∙◌, subst, arith, inl, inr}
use Rattle.std.proofs.Common.{◌⊎◌}
use Rattle.std.proofs.lemmas.Bool.{cases_lt}
use Rattle.crpd_base.specs.declared.data.Platform.{Platform}
use Rattle.crpd_base.specs.declared.data.TaskSet.{TaskSet}
use Rattle.crpd_base.specs.Sets.{has}
use Rattle.icache.specs.Accesses.{Accesses, first_access, last_access}
use Rattle.flat_graph.specs.Graph.{IsWalk, IsGraph, onto}
use Rattle.loop_regions.specs.Nest.{IsNested, IsKeptWalk}
use Rattle.loop_regions.specs.Potentials.{Meets, rest}
use Rattle.loop_regions.proofs.Potential.{potential_law, item_law, step_rest_law}
use Rattle.loop_regions.proofs.Stated.{regions_law}
use Rattle.crpd_base.specs.declared.data.Certificate.{Certificate}
use Rattle.crpd_base.specs.declared.data.TaskPart.{TaskPart}
use Rattle.evict_sets.specs.Full.{FullUseful}
use Rattle.evict_sets.proofs.FullLaws.{hit_test_law}
use Rattle.evict_sets.proofs.WalkLaws.{last_access_law, walk_carry_law, first_here, on_walk}
use Rattle.evict_sets.specs.ListedPart.{listed_of}
use Rattle.cert_check.specs.ListedPotentials.{potentials_of}
use Rattle.cert_check.specs.PotentialClauses.{CountsHits, edge_costs}
use Rattle.loop_regions.specs.TaskGraph.{TaskGraph, node_code_of, answering}
use Rattle.cert_check.specs.declared.outcome.Clause.{Clause}
use Rattle.cert_check.specs.declared.outcome.Clause.TheVariants.{Leaders, Inequalities}
use Rattle.cert_check.specs.JudgeInput.{accesses_of}
use Rattle.cert_check.specs.Verdict.{GraphHolds, IsYes}
use Rattle.cert_check.proofs.Clauses.{GraphMeets, graph_part, meets_with}
use Rattle.evict_sets.specs.ListedPart.{certified_task}
use Rattle.preempt_machine.specs.Machine.{System, plan_of}
use Rattle.preempt_machine.specs.Step.{Start}
use Rattle.preempt_machine.specs.Safe.{NamesTasks}
use Rattle.run_account.specs.Nodes.{job_task, plan_at}
use Rattle.run_account.proofs.ReloadFacts.{onto_last, none_then}
use Rattle.walk_parts.specs.Parts.{WalkPart, IsSoundPart}
use Rattle.walk_parts.proofs.Credits.{ends_walk}
use Rattle.sound_laws.specs.Walks.{HasTaskRanges, IsCodeOf, MeetsGraphs}
use Rattle.sound_laws.specs.Parts.{certified_walks}
use Rattle.sound_laws.proofs.Walks.KeptWalks.{ok}

-- after a yes the tasks' parts satisfy the clauses of the graphs
pub yes_meets : (set : TaskSet) (graphs : ℕ → TaskGraph) (c : Certificate) → IsYes set graphs c
    → MeetsGraphs set graphs c
yes_meets set graphs c says k clause l = graph_part set graphs c k clause (says k clause l)

-- what the clauses give for a task, with these hits
pub record IsMet (p : Platform) (t : TaskGraph) (c : TaskPart) (counted : ℕ → Bool) : Type 0 where
  pub meets : Meets t.graph t.nest (edge_costs p (node_code_of t) (answering t) counted)
      (potentials_of c)
  pub hits : CountsHits t.graph (accesses_of p t) (listed_of c) counted
  pub all : GraphMeets p t c

module _ (s : Start) (set : TaskSet) (graphs : ℕ → TaskGraph) (R : HasTaskRanges set)
    (C : IsCodeOf s.system set graphs) (T : NamesTasks set s.lines) where
  pub nested : (x : ℕ) → x < length s.lines
      → IsNested (graphs (job_task s x)).graph (graphs (job_task s x)).nest
  nested x h =
      let g = ok s set graphs R C T x h in
      regions_law (graphs (job_task s x)).graph (graphs (job_task s x)).places (plan_at s x).loops
      (graphs (job_task s x)).nest g.regions g.accepted

  -- with any test of the hits that are counted
  pub is_met : (c : Certificate) (x : ℕ) → x < length s.lines → MeetsGraphs set graphs c
      → job_task s x < length set.tasks → (counted : ℕ → Bool)
      → CountsHits (graphs (job_task s x)).graph
      (accesses_of s.system.platform (graphs (job_task s x)))
      (listed_of (certified_task c (job_task s x))) counted
      → IsMet s.system.platform (graphs (job_task s x)) (certified_task c (job_task s x)) counted
  is_met c x h met l counted counts =
      let t = graphs (job_task s x) in
      let N = nested x h in
      let here : (k : Clause) → GraphHolds set.platform t (certified_task c (job_task s x)) k =
      λ k. met (job_task s x) k l in
      let there : (k : Clause)
      → GraphHolds s.system.platform t (certified_task c (job_task s x)) k =
      subst (λ (p : Platform). (k : Clause) → GraphHolds p t (certified_task c (job_task s x)) k)
      (sym C.platform) here in
      record {
        meets = record {
          nodes = λ u below. (there (Inequalities u) counted counts below).edges;
          loops = λ r below.
              (there (Inequalities (t.nest.head r)) counted counts
              (N.holds_nodes r (t.nest.head r) below (N.holds_head r below))).loop r below refl;
        };
        hits = counts;
        all = meets_with s.system.platform t (certified_task c (job_task s x)) there counted counts;
      }

  -- there is such a test
  pub hit_test : (c : Certificate) (k : ℕ) → MeetsGraphs set graphs c → k < length set.tasks
      → (counted : ℕ → Bool) × CountsHits (graphs k).graph
      (accesses_of s.system.platform (graphs k)) (listed_of (certified_task c k)) counted
  hit_test c k met l =
      hit_test_law (graphs k).graph (accesses_of s.system.platform (graphs k))
      (listed_of (certified_task c k)) (C.graphs_of k l).follows.graph (met k Leaders l).1

-- the part of a certificate, with any sets between the useful ones of the nodes and that of the task
module _ (p : Platform) (t : TaskGraph) (c : TaskPart) (counted : ℕ → Bool)
    (useful : ℕ → ℕ → Bool) (M : IsMet p t c counted) (G : IsGraph t.graph)
    (N : IsNested t.graph t.nest)
    (covers : (y z : ℕ) → y < t.graph.size
    → FullUseful t.graph (accesses_of p t) (listed_of c) y z → useful y z ≡ true)
    (all : (y z : ℕ) → y < t.graph.size → useful y z ≡ true
    → IsTrue (has c.part.useful z)) where
  abbrev a : Accesses
  a = accesses_of p t

  start : IsKeptWalk t.nest (t.graph.first ∷ [])
      → rest t.nest (potentials_of c) (t.graph.first ∷ []) ≤ c.part.bound
  start kept =
      let i = item_law t.nest t.graph.first in
      let law = potential_law t.graph t.nest
      (edge_costs p (node_code_of t) (answering t) counted) (potentials_of c) i.0
      (t.graph.first ∷ []) N (λ u v e b. refl) M.meets i.1 refl kept in
      let bound = M.all.bound i.0 i.1 in
      omega (arith, law, bound)

  own : (y : ℕ) (before : List ℕ) → IsWalk t.graph (y ∷ before) → counted y ≡ true
      → last_access a (a.set y) before ≡ Some (a.block y)
  own y before walk b =
      last_access_law t.graph a (listed_of c) y (a.set y) (a.block y) before G
      M.all.listing.states walk ((M.hits y (on_walk t.graph G y before walk)).0 b)

  here : (z : ℕ) (before : List ℕ) → IsWalk t.graph (z ∷ before) → counted z ≡ true
      → useful z (a.set z) ≡ true
  here z before walk b =
      let l = on_walk t.graph G z before walk in
      covers z (a.set z) l ((M.all.sets.useful z l).own ((M.hits z l).0 b))

  since : (y z : ℕ) (before later : List ℕ) → IsWalk t.graph (z ∷ onto later (y ∷ before))
      → counted z ≡ true → first_access a (a.set z) (y ∷ later) ≡ None
      → useful y (a.set z) ≡ true
  since y z before later walk b away =
      let longer : IsWalk t.graph (onto (later ++ z ∷ []) (y ∷ before)) =
      subst (IsWalk t.graph) (sym (onto_last later z (y ∷ before))) walk in
      let first : first_access a (a.set z) (y ∷ (later ++ z ∷ [])) ≡ Some z =
      none_then a (a.set z) (y ∷ later) z away ∙ first_here a (a.set z) z [] refl in
      let l = on_walk t.graph G z (onto later (y ∷ before)) walk in
      covers y (a.set z) (walk_start later y before walk)
      (walk_carry_law t.graph a (listed_of c) y (a.set z) z before (later ++ z ∷ []) G
      M.all.sets.useful longer first ((M.hits z l).0 b))
    where
      walk_start : (later : List ℕ) (y : ℕ) (before : List ℕ)
          → IsWalk t.graph (z ∷ onto later (y ∷ before)) → y < t.graph.size
      walk_start [] y before walk = walk.0.0
      walk_start (v ∷ later) y before walk =
          (ends_walk t.graph later z v (y ∷ before) walk).0.0

  pub certified_sound : IsSoundPart p t (certified_walks t c counted useful)
  certified_sound =
      record {
        start = start;
        edge = λ u v before e. let le = (M.meets.nodes u e.0).edge v e in omega (arith, le);
        end = λ u before l answers. let le = (M.meets.nodes u l).end answers in omega (arith, le);
        step = λ u v before e kept.
            let le = step_rest_law t.graph t.nest
            (edge_costs p (node_code_of t) (answering t) counted) (potentials_of c) u v before N
            (λ u v e b. refl) M.meets e kept in
            omega (arith, le);
        own = own;
        useful_here = here;
        useful_since = since;
        evicts = λ y l. (M.all.sets.sets y l).own;
        all = all;
      }

-- the parts of all tasks of a certificate whose clauses hold
module _ (sys : System) (set : TaskSet) (graphs : ℕ → TaskGraph) (C : IsCodeOf sys set graphs)
    (c : Certificate) (M : MeetsGraphs set graphs c) where
  pub nested_at : (k : ℕ) → k < length set.tasks → IsNested (graphs k).graph (graphs k).nest
  nested_at k l =
      let g = C.graphs_of k l in
      regions_law (graphs k).graph (graphs k).places (plan_of sys k).loops (graphs k).nest
      g.regions g.accepted

  -- the hits that the clauses count
  pub counted_by : (k : ℕ) → (k < length set.tasks) ⊎ (length set.tasks ≤ k) → ℕ → Bool
  counted_by k (inl l) =
      (hit_test_law (graphs k).graph (accesses_of set.platform (graphs k))
      (listed_of (certified_task c k)) (C.graphs_of k l).follows.graph (M k Leaders l).1).0
  counted_by k (inr g) = λ y. false

  pub counted_at : ℕ → ℕ → Bool
  counted_at k = counted_by k (cases_lt k (length set.tasks))

  counts_by : (k : ℕ) → k < length set.tasks
      → (d : (k < length set.tasks) ⊎ (length set.tasks ≤ k))
      → CountsHits (graphs k).graph (accesses_of set.platform (graphs k))
      (listed_of (certified_task c k)) (counted_by k d)
  unfolding counted_by
  counts_by k below (inl l) =
      (hit_test_law (graphs k).graph (accesses_of set.platform (graphs k))
      (listed_of (certified_task c k)) (C.graphs_of k l).follows.graph (M k Leaders l).1).1
  counts_by k below (inr g) = absurd (omega arith)

  met_with : (k : ℕ) → k < length set.tasks → (counted : ℕ → Bool)
      → CountsHits (graphs k).graph (accesses_of set.platform (graphs k))
      (listed_of (certified_task c k)) counted
      → IsMet set.platform (graphs k) (certified_task c k) counted
  met_with k l counted counts =
      let t = graphs k in
      let N = nested_at k l in
      let here : (q : Clause) → GraphHolds set.platform (graphs k) (certified_task c k) q =
      λ q. M k q l in
      record {
        meets = record {
          nodes = λ u below. (here (Inequalities u) counted counts below).edges;
          loops = λ r below.
              (here (Inequalities (t.nest.head r)) counted counts
              (N.holds_nodes r (t.nest.head r) below (N.holds_head r below))).loop r below refl;
        };
        hits = counts;
        all = meets_with set.platform (graphs k) (certified_task c k) here counted counts;
      }

  pub met_at : (k : ℕ) → k < length set.tasks
      → IsMet set.platform (graphs k) (certified_task c k) (counted_at k)
  unfolding counted_at
  met_at k l =
      met_with k l (counted_by k (cases_lt k (length set.tasks)))
      (counts_by k l (cases_lt k (length set.tasks)))

  -- with any sets between the useful ones of the nodes and those of the tasks
  abbrev pub walks_of : (ℕ → ℕ → ℕ → Bool) → ℕ → WalkPart
  walks_of useful k = certified_walks (graphs k) (certified_task c k) (counted_at k) (useful k)

  pub sound_of : (useful : ℕ → ℕ → ℕ → Bool)
      → ((k y z : ℕ) → k < length set.tasks → y < (graphs k).graph.size
      → FullUseful (graphs k).graph (accesses_of set.platform (graphs k))
      (listed_of (certified_task c k)) y z → useful k y z ≡ true)
      → ((k y z : ℕ) → k < length set.tasks → y < (graphs k).graph.size
      → useful k y z ≡ true → IsTrue (has (certified_task c k).part.useful z))
      → (k : ℕ) → k < length set.tasks
      → IsSoundPart set.platform (graphs k) (walks_of useful k)
  sound_of useful covers all k l =
      certified_sound set.platform (graphs k) (certified_task c k) (counted_at k) (useful k)
      (met_at k l) (C.graphs_of k l).follows.graph (nested_at k l)
      (λ y z below f. covers k y z l below f) (λ y z below b. all k y z l below b)

  -- with those of the tasks
  abbrev pub task_useful : ℕ → ℕ → ℕ → Bool
  task_useful k y z = has (certified_task c k).part.useful z

  abbrev pub task_walks : ℕ → WalkPart
  task_walks = walks_of task_useful

  pub task_sound : (k : ℕ) → k < length set.tasks
      → IsSoundPart set.platform (graphs k) (task_walks k)
  task_sound =
      sound_of task_useful
      (λ k y z l below f. ((met_at k l).all.sets.sets y below).all z f)
      (λ k y z l below b. b)
