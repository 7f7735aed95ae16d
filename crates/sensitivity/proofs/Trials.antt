-- A task set with a different cost.
use Rattle.std.proofs.Common.{◌≡◌, Bool, ℕ, suc, ◌-◌, ◌<◌, ◌≤◌, List, Option, Some, None, length}
use Rattle.std.proofs.Common.{refl, sym, ◌∙◌, ap, subst, inl, inr, arith, SomeIff}
use Rattle.std.proofs.lemmas.Bool.{cases_eq}
use Rattle.crpd_base.specs.declared.data.Platform.{Platform}
use Rattle.crpd_base.specs.declared.data.Part.{Part}
use Rattle.crpd_base.specs.declared.data.TaskSpec.{TaskSpec}
use Rattle.crpd_base.specs.declared.data.Task.{Task}
use Rattle.crpd_base.specs.declared.data.TaskSet.{TaskSet}
use Rattle.flat_graph.specs.Graph.{IsGraph}
use Rattle.flat_graph.specs.CodeGraph.{CodeGraph, graph_of, graph_at}
use Rattle.loop_regions.specs.CodeNest.{CodeNest}
use Rattle.loop_regions.specs.TaskGraph.{TaskGraph}
use Rattle.loop_regions.specs.TaskGraphs.{task_graph_at, nest_at, AreTaskGraphs}
use Rattle.sensitivity.specs.declared.cost.Cost.{Cost}
use Rattle.sensitivity.specs.declared.cost.Cost.TheVariants.{Switch, Miss}
use Rattle.sensitivity.specs.Costs.{platform_with_costs, with_costs, with_switch}
use Rattle.crpd_base.specs.declared.data.Stop.{Stop}
use Rattle.crpd_base.specs.declared.data.Stop.TheVariants.{Limit, Bound}
use Rattle.sensitivity.specs.Accepted.{IsLeastBound, IsAccepted, IsFirstTooLarge, IsStop}
use Rattle.sensitivity.specs.Slack.{IsSlack}
use Rattle.sensitivity.specs.Laws.{IsLoopBounded, StaysAccepted, NeverStops}
use Rattle.crpd_base.specs.Limits.{most_cost}
use Rattle.crpd_base.specs.Ranges.{IsTaskSet}
use Rattle.crpd_base.specs.Tasks.{HasTimes}
use Rattle.sensitivity.specs.Inner.Found.{HaveCacheBlocks, HaveHits, ListsParts, AreKnown}
use Rattle.sensitivity.specs.Inner.Found.{with_cost}
use Rattle.loop_regions.proofs.Beside.{nested}
use Rattle.sensitivity.proofs.Bounds.{meets_less}

-- the cost before a number, if there is one
abbrev pub IsBelow : ℕ → Option ℕ → Type 0
IsBelow high None = high ≡ 0
IsBelow high (Some g) = high ≡ suc g

-- the bound does not depend on the cost of a switch
pub same_bound : (p : Platform) (t : TaskGraph) (k s m c : ℕ)
    → IsLeastBound (platform_with_costs p k m) t c → IsLeastBound (platform_with_costs p s m) t c
same_bound p t k s m c B =
    record {
      is_hit = B.is_hit;
      hits = B.hits;
      potentials = B.potentials;
      least = record {
        meets =
            meets_less p t s k m m B.is_hit B.is_hit B.potentials (omega arith)
            (λ u lt. refl) B.least.meets;
        nodes = λ q u M lt.
            B.least.nodes q u
            (meets_less p t k s m m B.is_hit B.is_hit q (omega arith) (λ u lt. refl) M) lt;
        loops = λ q r M lt.
            B.least.loops q r
            (meets_less p t k s m m B.is_hit B.is_hit q (omega arith) (λ u lt. refl) M) lt;
      };
      first = B.first;
    }

pub parts_with_switch : (set : TaskSet) (graphs : ℕ → TaskGraph) (parts : List Part) (c : ℕ)
    → ListsParts set graphs parts → ListsParts (with_cost Switch set c) graphs parts
parts_with_switch set graphs parts c L =
    record {
      count = L.count;
      are = record {
        each = λ k lt. let P = L.are.each k lt in record {
          bound =
              same_bound set.platform (graphs k) set.platform.switch c set.platform.miss _ P.bound;
          sets = record { evicting = P.sets.evicting; useful = P.sets.useful };
        };
        within = L.are.within;
      };
    }

pub sets_with_miss : (set : TaskSet) (graphs : ℕ → TaskGraph) (parts : List Part) (c : ℕ)
    → HaveCacheBlocks set graphs parts → HaveCacheBlocks (with_cost Miss set c) graphs parts
sets_with_miss set graphs parts c H =
    record {
      count = H.count;
      each = λ k lt. let P = H.each k lt in record { evicting = P.evicting; useful = P.useful };
    }

pub hits_with_miss : (set : TaskSet) (graphs : ℕ → TaskGraph) (hits : List (List Bool)) (c : ℕ)
    → HaveHits set graphs hits → HaveHits (with_cost Miss set c) graphs hits
hits_with_miss set graphs hits c H =
    record {
      count = H.count;
      each = λ k lt. let P = H.each k lt in record { count = P.count; sure = P.sure };
    }

-- a copy of the set with the platform of a different cost is the set with that cost
abbrev pub made : Platform → List TaskSpec → TaskSet
made p tasks = record { platform = p; tasks = tasks }

pub is_with : (cost : Cost) (set : TaskSet) (c : ℕ) (p : Platform) (tasks : List TaskSpec)
    → p ≡ (with_cost cost set c).platform → tasks ≡ set.tasks → made p tasks ≡ with_cost cost set c
is_with Switch set c p tasks e f =
    ap (λ (x : Platform). made x tasks) e
    ∙ ap (λ (xs : List TaskSpec). made (platform_with_costs set.platform c set.platform.miss) xs) f
is_with Miss set c p tasks e f =
    ap (λ (x : Platform). made x tasks) e
    ∙ ap (λ (xs : List TaskSpec). made (platform_with_costs set.platform set.platform.switch c) xs)
    f

-- a set with other costs in range is in range
pub with_ranges : (set : TaskSet) (s m : ℕ) → IsTaskSet set → s ≤ most_cost → m ≤ most_cost
    → IsTaskSet (with_costs set s m)
with_ranges set s m S le most = record {
  platform = record {
    line = S.platform.line;
    line_size = S.platform.line_size;
    sets = S.platform.sets;
    hit = S.platform.hit;
    miss = most;
    memory = S.platform.memory;
    taken = S.platform.taken;
    switch = le;
    mul = S.platform.mul;
    div = S.platform.div;
  };
  some = S.some;
  few = S.few;
  each = S.each;
  names = S.names;
}

-- that copy is in range
pub set_in_range : (cost : Cost) (set : TaskSet) (c : ℕ) (p : Platform) (tasks : List TaskSpec)
    → p ≡ (with_cost cost set c).platform → tasks ≡ set.tasks → c ≤ most_cost → IsTaskSet set
    → IsTaskSet (made p tasks)
set_in_range cost set c p tasks e f le S =
    subst IsTaskSet (sym (is_with cost set c p tasks e f)) (by cost)
  where
    by : (x : Cost) → IsTaskSet (with_cost x set c)
    by Switch = with_ranges set c set.platform.miss S le S.platform.miss
    by Miss = with_ranges set set.platform.switch c S S.platform.switch le

-- that copy has the same graphs
pub same_graphs : (set : TaskSet) (graphs : List CodeGraph) (nests : List CodeNest) (p : Platform)
    (tasks : List TaskSpec) → tasks ≡ set.tasks → AreTaskGraphs set graphs nests
    → AreTaskGraphs (made p tasks) graphs nests
same_graphs set graphs nests p tasks f A =
    subst (λ (ts : List TaskSpec). AreTaskGraphs (made p ts) graphs nests) (sym f)
    (record { all_graphs = A.all_graphs; all_nests = A.all_nests; each = A.each })

module _ (cost : Cost) (set : TaskSet) (graphs : ℕ → TaskGraph) (parts : List Part)
    (hits : List (List Bool)) (c : ℕ) (p : Platform) (tasks : List TaskSpec)
    (e : p ≡ (with_cost cost set c).platform) (f : tasks ≡ set.tasks)
    (K : AreKnown cost set graphs parts hits) where
  pub known_switch : cost ≡ Switch → ListsParts (made p tasks) graphs parts
  known_switch is =
      subst (λ (s : TaskSet). ListsParts s graphs parts) (sym (is_with cost set c p tasks e f))
      (by cost is K)
    where
      by : (x : Cost) → x ≡ Switch → AreKnown x set graphs parts hits
          → ListsParts (with_cost x set c) graphs parts
      by Switch is K = parts_with_switch set graphs parts c K
      by Miss is K = absurd (other is)
        where
          other : Miss ≡ Switch → ⊥
          other e = cc

  known_miss : cost ≡ Miss
      → HaveCacheBlocks (with_cost cost set c) graphs parts
      × HaveHits (with_cost cost set c) graphs hits
  known_miss is = by cost is K
    where
      by : (x : Cost) → x ≡ Miss → AreKnown x set graphs parts hits
          → HaveCacheBlocks (with_cost x set c) graphs parts
          × HaveHits (with_cost x set c) graphs hits
      by Switch is K = absurd (other is)
        where
          other : Switch ≡ Miss → ⊥
          other e = cc
      by Miss is K = (sets_with_miss set graphs parts c K.0, hits_with_miss set graphs hits c K.1)

  pub known_sets : cost ≡ Miss → HaveCacheBlocks (made p tasks) graphs parts
  known_sets is =
      subst (λ (s : TaskSet). HaveCacheBlocks s graphs parts) (sym (is_with cost set c p tasks e f))
      (known_miss is).0

  pub known_hits : cost ≡ Miss → HaveHits (made p tasks) graphs hits
  known_hits is =
      subst (λ (s : TaskSet). HaveHits s graphs hits) (sym (is_with cost set c p tasks e f))
      (known_miss is).1

-- what is known about the set with a different cost of one kind
module _ (cost : Cost) (set : TaskSet) (graphs : ℕ → TaskGraph) (times : HasTimes set)
    (bounded : (k : ℕ) → k < length set.tasks → IsLoopBounded (graphs k)) where
  pub stays_at : StaysAccepted → (c d : ℕ) → c ≤ d → IsAccepted (with_cost cost set d) graphs
      → IsAccepted (with_cost cost set c) graphs
  stays_at stays c d le A = stays_by cost c d le A
    where
      stays_by : (by : Cost) (c d : ℕ) → c ≤ d → IsAccepted (with_cost by set d) graphs
          → IsAccepted (with_cost by set c) graphs
      stays_by Switch c d le A =
          stays set graphs c set.platform.miss d set.platform.miss
          (record { times = times; bounded = bounded; switch = le; miss = omega arith }) A
      stays_by Miss c d le A =
          stays set graphs set.platform.switch c set.platform.switch d
          (record { times = times; bounded = bounded; switch = omega arith; miss = le }) A

  pub never_at : NeverStops → (c d : ℕ) (stop : Stop) → c ≤ d
      → IsStop (with_cost cost set c) graphs stop → IsAccepted (with_cost cost set d) graphs → ⊥
  never_at never c d stop le S A = never_by cost c d le S A
    where
      never_by : (by : Cost) (c d : ℕ) → c ≤ d → IsStop (with_cost by set c) graphs stop
          → IsAccepted (with_cost by set d) graphs → ⊥
      never_by Switch c d le S A =
          never set graphs c set.platform.miss d set.platform.miss stop
          (record { times = times; bounded = bounded; switch = le; miss = omega arith }) A S
      never_by Miss c d le S A =
          never set graphs set.platform.switch c set.platform.switch d stop
          (record { times = times; bounded = bounded; switch = omega arith; miss = le }) A S

  -- the slack, if the costs below `high` are accepted and `high` stops
  pub slack_below : NeverStops → (high : ℕ) (stop : Stop) → high ≤ 65535
      → ((c : ℕ) → c < high → IsAccepted (with_cost cost set c) graphs)
      → IsStop (with_cost cost set high) graphs stop
      → (greatest : Option ℕ) → IsBelow high greatest
      → IsSlack (with_cost cost set) graphs (record { greatest = greatest; stop = stop })
  slack_below never high stop most accepted S None b =
      record {
        greatest = λ c le room A. never_at never high c stop (omega (arith, b)) S A;
        stop = subst (λ (n : ℕ). IsStop (with_cost cost set n) graphs stop) b S;
      }
  slack_below never high stop most accepted S (Some g) b =
      record {
        greatest = (
          omega (arith, b, most),
          λ c le. accepted c (omega (arith, b, le)),
          λ c le room A. never_at never high c stop (omega (arith, b, le)) S A,
        );
        stop =
            inr (
              omega (arith, b, most),
              subst (λ (n : ℕ). IsStop (with_cost cost set n) graphs stop) b S,
            );
      }

  pub slack_at_limit : StaysAccepted → IsAccepted (with_cost cost set 65535) graphs
      → IsSlack (with_cost cost set) graphs (record { greatest = Some 65535; stop = Limit })
  slack_at_limit stays A =
      record {
        greatest = (
          omega arith,
          λ c le. stays_at stays c 65535 le A,
          λ c le room A. absurd (omega (arith, le, room)),
        );
        stop = inl (refl, refl);
      }

-- the graphs of a task set have bounds
pub all_bounded : (set : TaskSet) (graphs : List CodeGraph) (nests : List CodeNest)
    → AreTaskGraphs set graphs nests
    → ((k : ℕ) → k < length graphs → IsGraph (graph_of (graph_at graphs k)))
    → (k : ℕ) → k < length set.tasks → IsLoopBounded (task_graph_at graphs nests k)
all_bounded set graphs nests A G k lt =
    let N = A.each k lt in
    record {
      graph = G k (let e = A.all_graphs in omega (arith, e, lt));
      nested = nested (graph_at graphs k) (nest_at nests k) N;
      no_cycle = N.accepted.no_cycle;
    }

-- a bound that is too large is so whatever a switch costs
pub large_with_switch : (set : TaskSet) (graphs : ℕ → TaskGraph) (i c : ℕ)
    → IsFirstTooLarge set graphs i → IsFirstTooLarge (with_cost Switch set c) graphs i
large_with_switch set graphs i c F =
    record {
      task = F.task;
      cycles = F.cycles;
      bound =
          same_bound set.platform (graphs i) set.platform.switch c set.platform.miss
          F.cycles F.bound;
      large = F.large;
      higher = λ k lt.
          let h = F.higher k lt in (
            h.0,
            same_bound set.platform (graphs k) set.platform.switch c set.platform.miss h.0 h.1,
            h.2,
          );
    }

pub slack_none : NeverStops → (set : TaskSet) (graphs : ℕ → TaskGraph) (t : Task) → HasTimes set
    → ((k : ℕ) → k < length set.tasks → IsLoopBounded (graphs k)) → IsFirstTooLarge set graphs t.0
    → IsSlack (with_switch set) graphs (record { greatest = None; stop = Bound t })
slack_none never set graphs t times bounded F =
    let S = slack_below Switch set graphs times bounded never 0 (Bound t) (omega arith)
    (λ c lt. absurd (omega (arith, lt))) (large_with_switch set graphs t.0 0 F) None refl in
    record { greatest = S.greatest; stop = S.stop }

pub below_by : (o : Option ℕ) (n : ℕ) → SomeIff o (1 ≤ n) (n - 1) → IsBelow n o
below_by None n h = elim (cases_eq n 0) [ inl e ↦ e | inr ne ↦ absurd (h (omega (arith, ne))) ]
below_by (Some g) n h = let a = h.0 in let b = h.1 in omega (arith, a, b)
