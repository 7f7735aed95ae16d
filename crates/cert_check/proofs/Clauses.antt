-- What the clauses of a graph state together.
use Rattle.std.proofs.Common.{◌≡◌, ℕ, zero, suc, ◌+◌, ◌<◌, ◌≤◌, Bool, length, All, refl, sym, subst}
use Rattle.std.proofs.Common.{arith, not, ◌==◌}
use Rattle.std.specs.Cmp.{both_ways}
use Rattle.crpd_base.specs.declared.data.Platform.{Platform}
use Rattle.crpd_base.specs.declared.data.TaskSet.{TaskSet}
use Rattle.rv_decode.specs.Cost.{cost}
use Rattle.rv_decode.specs.Flow.{flow}
use Rattle.flat_graph.specs.Graph.{Graph}
use Rattle.flat_graph.specs.EdgeCost.{is_return}
use Rattle.evict_sets.specs.Full.{Listed}
use Rattle.icache.specs.Accesses.{Accesses}
use Rattle.loop_regions.specs.Potentials.{Potentials, item_potential, MeetsAt}
use Rattle.crpd_base.specs.declared.data.Certificate.{Certificate}
use Rattle.evict_sets.specs.ListedPart.{listed_of, certified_task}
use Rattle.cert_check.specs.ListedPotentials.{potentials_of}
use Rattle.cert_check.specs.PotentialClauses.{CountsHits, edge_costs, PotentialsMeet, BoundMeets}
use Rattle.loop_regions.specs.TaskGraph.{TaskGraph, node_code_of, answering}
use Rattle.evict_sets.specs.CacheClauses.{MeetsListing, MeetsSets}
use Rattle.crpd_base.specs.Sets.{has}
use Rattle.crpd_base.specs.declared.data.NodeState.{NodeState}
use Rattle.crpd_base.specs.declared.data.TaskPart.{TaskPart}
use Rattle.crpd_base.specs.Tasks.{jitter_of, deadline_of}
use Rattle.delay_count.specs.Demand.{demand}
use Rattle.cert_check.specs.JudgeInput.{accesses_of, certified_part, longest_at, window_at}
use Rattle.cert_check.specs.JudgeInput.{name_at}
use Rattle.cert_check.specs.declared.outcome.Clause.{Clause}
use Rattle.cert_check.specs.declared.outcome.Clause.TheVariants.{Platforms, HasTask, Names, Last}
use Rattle.cert_check.specs.declared.outcome.Clause.TheVariants.{Leaders, NodePotentials}
use Rattle.cert_check.specs.declared.outcome.Clause.TheVariants.{LoopPotentials, States, UsefulSets}
use Rattle.cert_check.specs.declared.outcome.Clause.TheVariants.{TaskSets, Inequalities, Bound}
use Rattle.cert_check.specs.declared.outcome.Clause.TheVariants.{Window, Response, Deadline}
use Rattle.cert_check.specs.Verdict.{GraphHolds, ClauseHolds, IsYes, YesMeetsListing, YesMeetsSets}

-- two tests of hits agree at the nodes
pub tests_agree : (g : Graph) (a : Accesses) (l : Listed) (one two : ℕ → Bool) (u : ℕ)
    → CountsHits g a l one → CountsHits g a l two → u < g.size → one u ≡ two u
tests_agree g a l one two u p q h =
    both_ways (one u) (two u) (λ t. (q u h).1 ((p u h).0 t)) (λ t. (p u h).1 ((q u h).0 t))

-- the inequalities at a node depend on the test at that node only
module _ (p : Platform) (t : TaskGraph) (pot : Potentials) (one two : ℕ → Bool) (u : ℕ)
    (same : one u ≡ two u) where
  pub same_edges : MeetsAt t.graph t.nest (edge_costs p (node_code_of t) (answering t) one) pot u
      → MeetsAt t.graph t.nest (edge_costs p (node_code_of t) (answering t) two) pot u
  same_edges m =
      record {
        edge = λ v w.
            subst (λ b. cost p (t.ins u) (not b)
            (not (t.places.address v == t.places.address u + 4)) ≤ pot.node u) same (m.edge v w);
        end = λ a.
            subst (λ b. cost p (t.ins u) (not b) (is_return (flow (t.places.address u) (t.ins u)))
            ≤ pot.node u) same (m.end a);
        inside = λ v i w n o it.
            subst (λ b. cost p (t.ins u) (not b)
            (not (t.places.address v == t.places.address u + 4)) + 0 + item_potential pot i
            ≤ pot.node u) same (m.inside v i w n o it);
        exit = m.exit;
      }

  pub same_meets : PotentialsMeet t.graph t.nest
      (edge_costs p (node_code_of t) (answering t) one) pot u
      → PotentialsMeet t.graph t.nest (edge_costs p (node_code_of t) (answering t) two) pot u
  same_meets m = record { edges = same_edges m.edges; left = m.left; loop = m.loop }

-- the clauses of the nodes and the bound, with a test of the hits that are counted
pub record GraphMeets (p : Platform) (t : TaskGraph) (c : TaskPart) : Type 0 where
  pub listing : MeetsListing t.graph (accesses_of p t) (listed_of c)
  pub sets : MeetsSets t.graph (accesses_of p t) (listed_of c)
      (has c.part.evicting) (has c.part.useful)
  pub is_hit : ℕ → Bool
  pub hits : CountsHits t.graph (accesses_of p t) (listed_of c) is_hit
  pub potentials : (u : ℕ) → u < t.graph.size
      → PotentialsMeet t.graph t.nest (edge_costs p (node_code_of t) (answering t) is_hit)
      (potentials_of c) u
  pub bound : BoundMeets t.graph t.nest (potentials_of c) c.part.bound

module _ (p : Platform) (t : TaskGraph) (c : TaskPart) where
  listing_meets : ((k : Clause) → GraphHolds p t c k)
      → MeetsListing t.graph (accesses_of p t) (listed_of c)
  listing_meets h = record { leaders = (h Leaders).1; states = λ u l. h (States u) l }

  sets_meet : ((k : Clause) → GraphHolds p t c k)
      → MeetsSets t.graph (accesses_of p t) (listed_of c)
      (has c.part.evicting) (has c.part.useful)
  sets_meet h = record { useful = λ u l. h (UsefulSets u) l; sets = λ u l. h (TaskSets u) l }

  pub meets_with : ((k : Clause) → GraphHolds p t c k) → (is_hit : ℕ → Bool)
      → CountsHits t.graph (accesses_of p t) (listed_of c) is_hit → GraphMeets p t c
  meets_with h is_hit counts =
      record {
        listing = listing_meets h;
        sets = sets_meet h;
        is_hit = is_hit;
        hits = counts;
        potentials = λ u l. h (Inequalities u) is_hit counts l;
        bound = h Bound;
      }

-- what is listed, together with these: the clauses of a graph
pub clauses_of : (p : Platform) (t : TaskGraph) (c : TaskPart)
    → All (λ (s : NodeState). s.node < t.graph.size) c.states
    → length c.potentials ≡ t.graph.size → length c.loops ≡ t.nest.size → GraphMeets p t c
    → (k : Clause) → GraphHolds p t c k
clauses_of p t c numbers nodes loops m Leaders = (numbers, m.listing.leaders)
clauses_of p t c numbers nodes loops m NodePotentials = nodes
clauses_of p t c numbers nodes loops m LoopPotentials = loops
clauses_of p t c numbers nodes loops m (States u) = λ l. m.listing.states u l
clauses_of p t c numbers nodes loops m (UsefulSets u) = λ l. m.sets.useful u l
clauses_of p t c numbers nodes loops m (TaskSets u) = λ l. m.sets.sets u l
clauses_of p t c numbers nodes loops m (Inequalities u) = λ is_hit counts l.
    same_meets p t (potentials_of c) m.is_hit is_hit u
    (tests_agree t.graph (accesses_of p t) (listed_of c) m.is_hit is_hit u m.hits counts l)
    (m.potentials u l)
clauses_of p t c numbers nodes loops m Bound = m.bound
clauses_of p t c numbers nodes loops m _ = tt

-- with these of a task's part, and those apart from its graph, all clauses hold
module _ (set : TaskSet) (graphs : ℕ → TaskGraph) (c : Certificate) (i : ℕ)
    (lt : i < length set.tasks) (platform : c.platform ≡ set.platform)
    (tasks : length c.tasks ≡ length set.tasks)
    (name : (certified_task c i).name ≡ name_at set i)
    (part : (k : Clause) → GraphHolds set.platform (graphs i) (certified_task c i) k)
    (some : 1 ≤ window_at c i)
    (enough : demand set (certified_part c) (longest_at set.platform graphs) (window_at c) i
    (certified_task c i).method (window_at c i) ≤ window_at c i)
    (response : (certified_task c i).response ≡ window_at c i + jitter_of set i)
    (in_deadline : window_at c i + jitter_of set i ≤ deadline_of set i) where
  pub all_hold : (k : Clause) → ClauseHolds set graphs c i k
  all_hold Platforms = platform
  all_hold HasTask = omega (arith, tasks, lt)
  all_hold Names = name
  all_hold Last = λ e. tasks
  all_hold Window = (some, enough)
  all_hold Response = response
  all_hold Deadline = omega (arith, response, in_deadline)
  all_hold k = part k

-- the clauses of a task include those of its graph
pub graph_part : (set : TaskSet) (graphs : ℕ → TaskGraph) (c : Certificate) (i : ℕ) (k : Clause)
    → ClauseHolds set graphs c i k → GraphHolds set.platform (graphs i) (certified_task c i) k
graph_part set graphs c i Platforms h = tt
graph_part set graphs c i HasTask h = tt
graph_part set graphs c i Names h = tt
graph_part set graphs c i Last h = tt
graph_part set graphs c i Window h = tt
graph_part set graphs c i Response h = tt
graph_part set graphs c i Deadline h = tt
graph_part set graphs c i k h = h

-- after a yes, those on which full states and useful sets depend hold together
module _ (set : TaskSet) (graphs : ℕ → TaskGraph) (c : Certificate) (i : ℕ)
    (says : IsYes set graphs c) (lt : i < length set.tasks) where
  graph_holds : (k : Clause) → GraphHolds set.platform (graphs i) (certified_task c i) k
  graph_holds k = graph_part set graphs c i k (says i k lt)

pub yes_meets_listing : YesMeetsListing
yes_meets_listing set graphs c i says lt =
    listing_meets set.platform (graphs i) (certified_task c i) (graph_holds set graphs c i says lt)

pub yes_meets_sets : YesMeetsSets
yes_meets_sets set graphs c i says lt =
    sets_meet set.platform (graphs i) (certified_task c i) (graph_holds set graphs c i says lt)

-- a yes implies that the certificate has a part for each task
pub as_many : (set : TaskSet) (graphs : ℕ → TaskGraph) (c : Certificate) → 1 ≤ length set.tasks
    → IsYes set graphs c → length c.tasks ≡ length set.tasks
as_many set graphs c some says = by (length set.tasks) refl
  where
    by : (n : ℕ) → length set.tasks ≡ n → length c.tasks ≡ length set.tasks
    by zero e = absurd (omega (arith, some, e))
    by (suc n) e = says n Last (omega (arith, e)) (sym e)
