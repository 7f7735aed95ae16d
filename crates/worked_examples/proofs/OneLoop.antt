-- The premises of the laws hold of a task with a loop.
use Rattle.std.proofs.Common.{◌≡◌, ◌≢◌, ℕ, zero, suc, ◌+◌, ◌*◌, ◌<◌, ◌≤◌, List, [], ◌∷◌, Some, None}
use Rattle.std.proofs.Common.{Contains, IsTrue, IsFalse, refl, sym, ◌∙◌, ap, subst, inl, inr, arith}
use Rattle.std.proofs.Common.{length, ◌==◌, nat_lt, get_or}
use Rattle.std.proofs.lemmas.Bool.{cases_Bool, eqb-true, false≢true, true≢false, ne_eqb, ltb-true}
use Rattle.std.proofs.lemmas.Bool.{lt-ltb}
use Rattle.std.proofs.lemmas.Option.{same_Some}
use Rattle.crpd_base.specs.declared.data.LoopAt.{LoopAt}
use Rattle.rv_decode.specs.Flow.{flow, flows}
use Rattle.rv_decode.specs.Table.{ins_of_word, table}
use Rattle.rv_decode.specs.Cost.{work_cost}
use Rattle.icache.specs.Accesses.{Accesses}
use Rattle.crpd_base.specs.Tasks.{period_of}
use Rattle.flat_graph.specs.FlatGraph.{FlatNode, IsNode, the_first, a_successor, successors}
use Rattle.flat_graph.specs.FlatGraph.{error_of, HasNoErrors}
use Rattle.flat_graph.specs.Graph.{Edge, IsWalk, IsGraph, Continues}
use Rattle.flat_graph.specs.Numbered.{FollowsCode}
use Rattle.flat_graph.specs.EdgeCost.{edge_cost, end_cost}
use Rattle.loop_regions.specs.Nest.{IsBackEdge, Leaves, Item, Node, Loop, IsItem}
use Rattle.loop_regions.specs.Stated.{IsRegionOf, IsRegions, IsSecondEntry, HasNoLoopRefusals}
use Rattle.loop_regions.specs.Stated.{IsForward, IsForwardPath, region_holds}
use Rattle.loop_regions.specs.Potentials.{item_potential}
use Rattle.evict_sets.specs.Full.{Listed, FullState, listed, accessed, passed, FullUseful}
use Rattle.evict_sets.specs.Full.{listed_useful, used, used_later}
use Rattle.evict_sets.specs.CacheClauses.{ListsLeaders, StatesMeet, UsefulMeets, SetsMeet}
use Rattle.evict_sets.specs.ListedPart.{block_of_set, listed_of}
use Rattle.cert_check.specs.ListedPotentials.{potentials_of}
use Rattle.crpd_base.specs.Sets.{has as has_set}
use Rattle.cert_check.specs.PotentialClauses.{CountsHits, edge_costs, PotentialsMeet, BoundMeets}
use Rattle.cert_check.specs.JudgeInput.{IsGraphOf, accesses_of}
use Rattle.cert_check.specs.declared.outcome.Clause.{Clause}
use Rattle.cert_check.specs.Verdict.{GraphHolds, ClauseHolds, IsYes}
use Rattle.cert_check.proofs.Clauses.{GraphMeets, clauses_of, all_hold}
use Rattle.loop_regions.specs.TaskGraph.{node_code_of, answering}
use Rattle.crpd_base.specs.Tasks.{deadline_of}
use Rattle.preempt_machine.specs.Machine.{plan_of}
use Rattle.sound_laws.specs.Walks.{HasTaskRanges, IsCodeOf}
use Rattle.worked_examples.specs.TwoWords.{platform, zero_alone}
use Rattle.crpd_base.proofs.Few.{one, three, four}
use Rattle.worked_examples.proofs.StraightCode.{code_map}
use Rattle.worked_examples.proofs.ZeroAlone.{has_says, no_member}
use Rattle.worked_examples.specs.OneLoop.{words, loop, system, set, address_of, ins_of, graph}
use Rattle.worked_examples.specs.OneLoop.{task_certificate, certificate, OneLoop}
use Rattle.sound_laws.specs.Accepted.{IsAccepted}
use Rattle.sound_laws.specs.Headline.{YesIsSafe}

in_one_is : (A : Type 0) (a b : A) → Contains (a ∷ []) b → a ≡ b
in_one_is A a b (zero, l, e) = e
in_one_is A a b (suc k, l, e) = absurd (omega arith)

in_none : (A : Type 0) (xs : List A) (b : A) → length xs ≡ 0 → Contains xs b → ⊥
in_none A xs b none (k, l, e) = absurd (omega (arith, none, l))

in_two : (A : Type 0) (P : A → Type 0) (a b : A) → P a → P b → (x : A)
    → Contains (a ∷ b ∷ []) x → P x
in_two A P a b p q x (zero, l, e) = subst P e p
in_two A P a b p q x (suc zero, l, e) = subst P e q
in_two A P a b p q x (suc (suc k), l, e) = absurd (omega arith)

edges_all : (P : ℕ → ℕ → Type 0) → P 0 1 → P 1 2 → P 2 3 → P 2 1 → (u v : ℕ)
    → Edge graph.graph u v → P u v
edges_all P a b c d zero v e = subst (P 0) (in_one_is ℕ 1 v e.1) a
edges_all P a b c d (suc zero) v e = subst (P 1) (in_one_is ℕ 2 v e.1) b
edges_all P a b c d (suc (suc zero)) v e = in_two ℕ (P 2) 3 1 c d v e.1
edges_all P a b c d (suc (suc (suc k))) v e = absurd (in_none ℕ [] v refl e.1)

edge_01 : Edge graph.graph 0 1
edge_01 = (omega arith, (0, omega arith, refl))

edge_12 : Edge graph.graph 1 2
edge_12 = (omega arith, (0, omega arith, refl))

edge_23 : Edge graph.graph 2 3
edge_23 = (omega arith, (0, omega arith, refl))

edge_21 : Edge graph.graph 2 1
edge_21 = (omega arith, (1, omega arith, refl))

edge_below : (u v : ℕ) → Edge graph.graph u v → v < 4
edge_below u v e =
    edges_all (λ a b. b < 4) (omega arith) (omega arith) (omega arith) (omega arith) u v e

is_graph : IsGraph graph.graph
is_graph =
    record {
      first = omega arith;
      edges = edge_below;
      reached = λ y l.
          four (λ z. (before : List ℕ) × IsWalk graph.graph (z ∷ before)) ([], refl)
          (0 ∷ [], (edge_01, refl)) (1 ∷ 0 ∷ [], (edge_12, (edge_01, refl))) (
            2 ∷ 1 ∷ 0 ∷ [],
            (edge_23, (edge_12, (edge_01, refl))),
          ) y l;
    }

-- the nodes of the code
abbrev node : ℕ → FlatNode
node a = record { context = []; address = a }

next_0 : successors (flows words) 0x1000 (node 0x1000) ≡ node 0x1004 ∷ []
unfolding flow ins_of_word table
next_0 = refl

next_1 : successors (flows words) 0x1000 (node 0x1004) ≡ node 0x1008 ∷ []
unfolding flow ins_of_word table
next_1 = refl

next_2 : successors (flows words) 0x1000 (node 0x1008) ≡ node 0x100C ∷ node 0x1004 ∷ []
unfolding flow ins_of_word table
next_2 = refl

next_3 : successors (flows words) 0x1000 (node 0x100C) ≡ []
unfolding flow ins_of_word table
next_3 = refl

goes : (n m k : FlatNode) (ms : List FlatNode) → successors (flows words) 0x1000 n ≡ ms
    → Contains ms m → Contains (successors (flows words) 0x1000 n) m
goes n m k ms e c = subst (λ x. Contains x m) (sym e) c

code_0 : IsNode (flows words) 0x1000 (node 0x1000)
code_0 = the_first

code_1 : IsNode (flows words) 0x1000 (node 0x1004)
code_1 =
    a_successor (node 0x1000) (node 0x1004) code_0
    (goes (node 0x1000) (node 0x1004) (node 0) (node 0x1004 ∷ []) next_0 (0, omega arith, refl))

code_2 : IsNode (flows words) 0x1000 (node 0x1008)
code_2 =
    a_successor (node 0x1004) (node 0x1008) code_1
    (goes (node 0x1004) (node 0x1008) (node 0) (node 0x1008 ∷ []) next_1 (0, omega arith, refl))

code_3 : IsNode (flows words) 0x1000 (node 0x100C)
code_3 =
    a_successor (node 0x1008) (node 0x100C) code_2
    (goes (node 0x1008) (node 0x100C) (node 0) (node 0x100C ∷ node 0x1004 ∷ []) next_2
    (0, omega arith, refl))

-- what holds at the four nodes holds at each node of the code
each_node : (P : FlatNode → Type 0) → P (node 0x1000) → P (node 0x1004) → P (node 0x1008)
    → P (node 0x100C) → (m : FlatNode) → IsNode (flows words) 0x1000 m → P m
each_node P a b c d _ the_first = a
each_node P a b c d m (a_successor n m' is w) =
    each_node (λ z. Contains (successors (flows words) 0x1000 z) m → P m)
    (λ k. subst P (in_one_is FlatNode (node 0x1004) m (subst (λ x. Contains x m) next_0 k)) b)
    (λ k. subst P (in_one_is FlatNode (node 0x1008) m (subst (λ x. Contains x m) next_1 k)) c)
    (λ k. in_two FlatNode P (node 0x100C) (node 0x1004) d b m (subst (λ x. Contains x m) next_2 k))
    (λ k. absurd (in_none FlatNode [] m refl (subst (λ x. Contains x m) next_3 k)))
    n is w

no_errors : HasNoErrors (flows words) 0x1000
unfolding flow ins_of_word table
no_errors m is = each_node (λ z. error_of (flows words) 0x1000 z ≡ None) refl refl refl refl m is

one_number : (u v : ℕ) → u < 4 → v < 4 → address_of u ≡ address_of v → u ≡ v
one_number u v a b =
    four (λ x. address_of x ≡ address_of v → x ≡ v)
    (four (λ y. 0x1000 ≡ address_of y → 0 ≡ y) (λ e. refl) (λ e. absurd (omega (arith, e)))
    (λ e. absurd (omega (arith, e))) (λ e. absurd (omega (arith, e))) v b)
    (four (λ y. 0x1004 ≡ address_of y → 1 ≡ y) (λ e. absurd (omega (arith, e))) (λ e. refl)
    (λ e. absurd (omega (arith, e))) (λ e. absurd (omega (arith, e))) v b)
    (four (λ y. 0x1008 ≡ address_of y → 2 ≡ y) (λ e. absurd (omega (arith, e)))
    (λ e. absurd (omega (arith, e))) (λ e. refl) (λ e. absurd (omega (arith, e))) v b)
    (four (λ y. 0x100C ≡ address_of y → 3 ≡ y) (λ e. absurd (omega (arith, e)))
    (λ e. absurd (omega (arith, e))) (λ e. absurd (omega (arith, e))) (λ e. refl) v b)
    u a

abbrev Goes : ℕ → FlatNode → Type 0
Goes u m = (v : ℕ) × Edge graph.graph u v × (node (address_of v) ≡ m)

numbers : (m : FlatNode) (u : ℕ) → u < 4
    → Contains (successors (flows words) 0x1000 (node (address_of u))) m → Goes u m
numbers m u l =
    four (λ x. Contains (successors (flows words) 0x1000 (node (address_of x))) m → Goes x m)
    (λ c. (1, edge_01, in_one_is FlatNode (node 0x1004) m (subst (λ x. Contains x m) next_0 c)))
    (λ c. (2, edge_12, in_one_is FlatNode (node 0x1008) m (subst (λ x. Contains x m) next_1 c)))
    (λ c. in_two FlatNode (λ z. Goes 2 z) (node 0x100C) (node 0x1004) (3, edge_23, refl)
    (1, edge_21, refl) m (subst (λ x. Contains x m) next_2 c))
    (λ c. absurd (in_none FlatNode [] m refl (subst (λ x. Contains x m) next_3 c)))
    u l

follows : FollowsCode (flows words) 0x1000 graph.graph graph.places
follows =
    record {
      graph = is_graph;
      first = refl;
      nodes = λ u l.
          four (λ x. IsNode (flows words) 0x1000 (node (address_of x))) code_0 code_1
          code_2 code_3 u l;
      one_number = λ u v a b e. one_number u v a b (ap (λ (m : FlatNode). m.address) e);
      numbers = λ u m l c. numbers m u l c;
    }

instructions : (u w : ℕ) → u < 4 → words (address_of u) ≡ Some w → ins_of_word w ≡ Some (ins_of u)
unfolding ins_of_word table
instructions u w l =
    four (λ x. words (address_of x) ≡ Some w → ins_of_word w ≡ Some (ins_of x))
    (λ e. subst (λ z. ins_of_word z ≡ Some (ins_of 0)) (same_Some 0x00300293 w e) refl)
    (λ e. subst (λ z. ins_of_word z ≡ Some (ins_of 1)) (same_Some 0xFFF28293 w e) refl)
    (λ e. subst (λ z. ins_of_word z ≡ Some (ins_of 2)) (same_Some 0xFE029EE3 w e) refl)
    (λ e. subst (λ z. ins_of_word z ≡ Some (ins_of 3)) (same_Some 0x00000073 w e) refl)
    u l

region : IsRegionOf graph.graph graph.places graph.nest 0 loop
region = record {
  head = refl;
  bound = refl;
  holds = λ y l.
      four (λ z. graph.nest.holds 0 z ≡ region_holds graph.places loop [] z) refl refl
      refl refl y l;
}

all_heads : (l : LoopAt) (y : ℕ) → loop ≡ l → y < 4 → address_of y ≡ l.head
    → (r : ℕ) × (r < 1) × (1 ≡ y)
all_heads l y same k e =
    let at : address_of y ≡ 0x1004 = e ∙ ap (λ (x : LoopAt). x.head) (sym same) in
    (0, omega arith, sym (one_number y 1 k (omega arith) at))

regions : IsRegions graph.graph graph.places (loop ∷ []) graph.nest
regions =
    record {
      node = λ r l. omega arith;
      numbered = λ r s a b. absurd (omega arith);
      stated = stated;
      all = λ l y c k e. all_heads l y (in_one_is LoopAt loop l c) k e;
      nodes_only = λ r y l. rw (ne_eqb y 1 (λ e. omega arith), ne_eqb y 2 (λ e. omega arith)) refl;
    }
  where
    stated : (r : ℕ) → r < 1
        → (l : LoopAt) × Contains (loop ∷ []) l × IsRegionOf graph.graph graph.places graph.nest r l
    stated zero l = (loop, (0, omega arith, refl), region)
    stated (suc k) l = absurd (omega arith)

back_edge : IsBackEdge graph.nest 2 1
back_edge = (0, omega arith, refl, refl)

forward_up : (u v : ℕ) → IsForward graph.graph graph.nest u v → u < v
forward_up u v f =
    edges_all (λ a b. (IsBackEdge graph.nest a b → ⊥) → a < b) (λ n. omega arith) (λ n. omega arith)
    (λ n. omega arith) (λ n. absurd (n back_edge)) u v f.0 f.1

way_up : (y : ℕ) (between : List ℕ) (z : ℕ) → IsForwardPath graph.graph graph.nest y between z
    → y < z
way_up y [] z w = forward_up y z w
way_up y (x ∷ before) z w =
    let a = way_up y before x w.0 in let b = forward_up x z w.1 in omega (arith, a, b)

second_entry : (v : ℕ) → IsSecondEntry graph.graph graph.nest v → ⊥
second_entry v (r, l, h, ne, inl first) =
    false≢true (subst (λ z. IsTrue (graph.nest.holds 0 z)) first h)
second_entry v (r, l, h, ne, inr (u, e, out)) =
    edges_all (λ a b. IsTrue (graph.nest.holds 0 b) → b ≢ 1 → IsFalse (graph.nest.holds 0 a) → ⊥)
    (λ p q o. q refl) (λ p q o. true≢false o) (λ p q o. true≢false o) (λ p q o. q refl) u
    v e h ne out

accepted : HasNoLoopRefusals graph.graph graph.nest
accepted =
    record {
      one_entry = second_entry;
      nested = λ y e. let more = e.6 in absurd (false≢true (sym more.2 ∙ more.1));
      no_cycle = λ y c. let l = way_up y c.0 y c.1 in absurd (omega arith);
    }

is_code : IsCodeOf system set (λ k. graph)
is_code =
    record {
      platform = refl;
      map =
          code_map ((0x1000, 0x00300293) ∷ (0x1004, 0xFFF28293) ∷ (0x1008, 0xFE029EE3)
          ∷ (0x100C, 0x00000073) ∷ []) refl;
      graphs_of =
          one (λ k. IsGraphOf words (plan_of system k) graph)
          (record {
            follows = follows;
            no_errors = no_errors;
            instructions = instructions;
            regions = regions;
            accepted = accepted;
          });
    }

in_range : HasTaskRanges set
in_range =
    record {
      hit = omega arith;
      sets = omega arith;
      few_sets = omega arith;
      periods = one (λ k. 1 ≤ period_of set k) (omega arith);
      deadlines = one (λ k. deadline_of set k ≤ period_of set k) (omega arith);
    }

abbrev acc : Accesses
acc = accesses_of platform graph

abbrev lists : Listed
lists = listed_of task_certificate

set_0 : (y : ℕ) → y < 4 → acc.set y ≡ 0
set_0 y l = four (λ z. acc.set z ≡ 0) refl refl refl refl y l

block_256 : (y : ℕ) → y < 4 → acc.block y ≡ 256
block_256 y l = four (λ z. acc.block z ≡ 256) refl refl refl refl y l

leaders : ListsLeaders graph.graph lists
leaders y l =
    four (λ z. IsFalse (lists.is_listed z) → (u : ℕ) × Continues graph.graph u z)
    (λ e. absurd (true≢false e)) (λ e. absurd (true≢false e))
    (λ e. (
      1,
      record {
        edge = edge_12;
        not_first = λ q. absurd (omega arith);
        one_edge = λ w q.
            edges_all (λ a b. b ≡ 2 → a ≡ 1) (λ n. absurd (omega arith)) (λ n. refl)
            (λ n. absurd (omega arith)) (λ n. absurd (omega arith)) w 2 q refl;
        one_successor = λ w q.
            edges_all (λ a b. a ≡ 1 → b ≡ 2) (λ n. absurd (omega arith)) (λ n. refl)
            (λ n. absurd (omega arith)) (λ n. absurd (omega arith)) 1 w q refl;
      },
    ))
    (λ e. absurd (true≢false e)) y l

-- the full states: none at the first node, and block 256 in set 0 at each other
abbrev Says : ℕ → ℕ → ℕ → Type 0
Says y s m = (s ≡ 0) × (m ≡ 256) × (1 ≤ y)

sure_says : (s m : ℕ) → block_of_set ((0, 256) ∷ []) s ≡ Some m → (s ≡ 0) × (m ≡ 256)
sure_says s m e =
    elim (cases_Bool (0 == s)) [
      | inl b ↦ (sym (eqb-true 0 s b), sym (same_Some 256 m (rw b at e)))
      | inr b ↦ absurd (let x = rw b at e in cc)
    ]

listed_says : (s m y : ℕ) → y < 4 → IsTrue (lists.is_listed y) → lists.state y s ≡ Some m
    → Says y s m
listed_says s m y l =
    four (λ z. IsTrue (lists.is_listed z) → lists.state z s ≡ Some m → Says z s m)
    (λ t e. absurd (let x = e in cc))
    (λ t e. let w = sure_says s m e in (w.0, w.1, omega arith))
    (λ t e. absurd (false≢true t))
    (λ t e. let w = sure_says s m e in (w.0, w.1, omega arith)) y l

full_says : (y s m : ℕ) → y < 4 → FullState graph.graph acc lists y s m → Says y s m
full_says y s m l (listed _ _ _ t st) = listed_says s m y l t st
full_says y s m l (accessed u _ _ _ f e a b) =
    let up : 1 ≤ y = edges_all (λ p q. 1 ≤ q) (omega arith) (omega arith) (omega arith)
    (omega arith) u y e in
    (sym a ∙ set_0 u e.0, sym b ∙ block_256 u e.0, up)
full_says y s m l (passed u _ _ _ f e ne st) =
    let w = full_says u s m e.0 st in
    absurd (ne (set_0 u e.0 ∙ sym w.0))

full_make : (y : ℕ) → y < 4 → 1 ≤ y → FullState graph.graph acc lists y (acc.set y) (acc.block y)
full_make y l =
    four (λ z. 1 ≤ z → FullState graph.graph acc lists z (acc.set z) (acc.block z))
    (λ n. absurd (omega arith)) (λ n. listed 1 0 256 refl refl)
    (λ n. accessed 1 2 0 256 refl edge_12 refl refl) (λ n. listed 3 0 256 refl refl) y l

useful_says : (y s : ℕ) → y < 4 → FullUseful graph.graph acc lists y s → s ≡ 0
useful_says y s l (listed_useful _ _ t st) =
    four (λ z. IsTrue (lists.useful z s) → s ≡ 0) (λ h. absurd (no_member s h)) (λ h. has_says s h)
    (λ h. absurd (false≢true h)) (λ h. has_says s h) y l st
useful_says y s l (used _ _ f hit q) = sym q ∙ set_0 y l
useful_says y s l (used_later _ v _ f e ne st) = useful_says v s (edge_below y v e) st

useful_make : (y : ℕ) → y < 4 → 1 ≤ y → FullUseful graph.graph acc lists y (acc.set y)
useful_make y l =
    four (λ z. 1 ≤ z → FullUseful graph.graph acc lists z (acc.set z))
    (λ n. absurd (omega arith)) (λ n. listed_useful 1 0 refl refl)
    (λ n. used 2 0 refl (full_make 2 (omega arith) (omega arith)) refl)
    (λ n. listed_useful 3 0 refl refl) y l

states : (u : ℕ) → u < 4 → StatesMeet graph.graph acc lists u
states u l =
    record {
      first = λ e s m st. let w = full_says u s m l st in absurd (omega (arith, w.2, e));
      edges = λ v s m e st.
          let w = full_says v s m (edge_below u v e) st in
          inl (set_0 u l ∙ sym w.0, block_256 u l ∙ sym w.1);
    }

useful : (u : ℕ) → u < 4 → UsefulMeets graph.graph acc lists u
useful u l =
    record {
      own = λ hit. let w = full_says u (acc.set u) (acc.block u) l hit in useful_make u l w.2;
      edges = λ v s e ne st. absurd (ne (set_0 u l ∙ sym (useful_says v s (edge_below u v e) st)));
    }

sets : (u : ℕ) → u < 4 → SetsMeet graph.graph acc lists (has_set zero_alone) (has_set zero_alone) u
sets u l =
    record {
      own = subst (λ z. IsTrue (has_set zero_alone z)) (sym (set_0 u l)) refl;
      all = λ s st. subst (λ z. IsTrue (has_set zero_alone z)) (sym (useful_says u s l st)) refl;
    }

hits : CountsHits graph.graph acc lists (λ y. nat_lt 0 y)
hits y l = (
  (λ b. full_make y l (ltb-true 0 y b)),
  (λ st. let w = full_says y (acc.set y) (acc.block y) l st in lt-ltb 0 y w.2),
)

abbrev cost_of : ℕ → ℕ → ℕ
cost_of = edge_cost platform (node_code_of graph) (λ y. nat_lt 0 y)

abbrev pots : ℕ → ℕ
pots = (potentials_of task_certificate).node

edge_pays : (u v : ℕ) → Edge graph.graph u v → cost_of u v ≤ pots u
unfolding work_cost
edge_pays u v e =
    edges_all (λ a b. cost_of a b ≤ pots a) (omega arith) (omega arith) (omega arith)
    (omega arith) u v e

end_pays : (u : ℕ) → u < 4 → IsTrue (answering graph u)
    → end_cost platform (node_code_of graph) (λ y. nat_lt 0 y) u ≤ pots u
unfolding work_cost flow
end_pays u l =
    four (λ z. IsTrue (answering graph z)
    → end_cost platform (node_code_of graph) (λ y. nat_lt 0 y) z ≤ pots z)
    (λ b. absurd (false≢true b)) (λ b. absurd (false≢true b)) (λ b. absurd (false≢true b))
    (λ b. omega arith) u l

inside_pays : (i : Item) (u v : ℕ) → Edge graph.graph u v → (IsBackEdge graph.nest u v → ⊥)
    → ((r : ℕ) → Leaves graph.nest u v r → ⊥) → IsItem graph.nest v i
    → cost_of u v + item_potential (potentials_of task_certificate) i ≤ pots u
unfolding work_cost
inside_pays (Node y) u v e =
    edges_all (λ a b. (IsBackEdge graph.nest a b → ⊥) → ((r : ℕ) → Leaves graph.nest a b r → ⊥)
    → IsItem graph.nest b (Node y) → cost_of a b + pots y ≤ pots a)
    (λ n o it. absurd (it.1 0 (omega arith) refl))
    (λ n o it. subst (λ z. cost_of 1 2 + pots z ≤ pots 1) (sym it.0) (omega arith))
    (λ n o it. absurd (o 0 (omega arith, refl, refl)))
    (λ n o it. absurd (n back_edge)) u v e
inside_pays (Loop r) u v e =
    edges_all (λ a b. (IsBackEdge graph.nest a b → ⊥) → ((r : ℕ) → Leaves graph.nest a b r → ⊥)
    → IsItem graph.nest b (Loop r) → cost_of a b + (potentials_of task_certificate).loop r ≤ pots a)
    (λ n o it. one (λ z. cost_of 0 1 + (potentials_of task_certificate).loop z ≤ pots 0)
    (omega arith) r it.0)
    (λ n o it. absurd (let q = it.1 in omega (arith, q)))
    (λ n o it. absurd (o 0 (omega arith, refl, refl)))
    (λ n o it. absurd (n back_edge)) u v e

exit_pays : (i : Item) (r u v : ℕ) → Edge graph.graph u v → (IsBackEdge graph.nest u v → ⊥)
    → Leaves graph.nest u v r → IsItem graph.nest v i
    → 3 * pots 1 + item_potential (potentials_of task_certificate) i
    ≤ (potentials_of task_certificate).loop r
exit_pays (Node y) r u v e =
    edges_all (λ a b. (IsBackEdge graph.nest a b → ⊥) → Leaves graph.nest a b r
    → IsItem graph.nest b (Node y) → 3 * pots 1 + pots y ≤ (potentials_of task_certificate).loop r)
    (λ n lv it. absurd (false≢true lv.1)) (λ n lv it. absurd (true≢false lv.2))
    (λ n lv it. one (λ q. 3 * pots 1 + pots y ≤ (potentials_of task_certificate).loop q)
    (subst (λ z. 3 * pots 1 + pots z ≤ 13) (sym it.0) (omega arith)) r lv.0)
    (λ n lv it. absurd (n back_edge)) u v e
exit_pays (Loop k) r u v e =
    edges_all (λ a b. (IsBackEdge graph.nest a b → ⊥) → Leaves graph.nest a b r
    → IsItem graph.nest b (Loop k)
    → 3 * pots 1 + (potentials_of task_certificate).loop k
    ≤ (potentials_of task_certificate).loop r)
    (λ n lv it. absurd (false≢true lv.1)) (λ n lv it. absurd (true≢false lv.2))
    (λ n lv it. absurd (let q = it.1 in omega (arith, q)))
    (λ n lv it. absurd (n back_edge)) u v e

meets : (u : ℕ) → u < 4 → PotentialsMeet graph.graph graph.nest
    (edge_costs platform (node_code_of graph) (answering graph) (λ y. nat_lt 0 y))
    (potentials_of task_certificate) u
meets u l =
    record {
      edges = record {
        edge = λ v e. edge_pays u v e;
        end = end_pays u l;
        inside = λ v i e n o it. let paid = inside_pays i u v e n o it in omega (arith, paid);
        exit = λ v r i e n lv it. let paid = exit_pays i r u v e n lv.0 it in omega (arith, paid);
      };
      left = λ v r e lv.
          one (λ z. 3 * pots (graph.nest.head z) ≤ (potentials_of task_certificate).loop z)
          (omega arith) r lv.0;
      loop = λ r k e.
          one (λ z. 3 * pots u ≤ (potentials_of task_certificate).loop z)
          (subst (λ z. 3 * pots z ≤ 13) e (omega arith)) r k;
    }

bound_meets : BoundMeets graph.graph graph.nest (potentials_of task_certificate) 24
bound_meets (Node y) item = subst (λ z. pots z ≤ 24) (sym item.0) (omega arith)
bound_meets (Loop r) item = let q = item.1 in absurd (omega (arith, q))

graph_meets : GraphMeets platform graph task_certificate
graph_meets = record {
  listing = record { leaders = leaders; states = states };
  sets = record { useful = useful; sets = sets };
  is_hit = λ y. nat_lt 0 y;
  hits = hits;
  potentials = meets;
  bound = bound_meets;
}

part_holds : (k : Clause) → GraphHolds platform graph task_certificate k
part_holds =
    clauses_of platform graph task_certificate
    (λ k d l. three (λ i. (get_or task_certificate.states i d).node < 4) (omega arith) (omega arith)
    (omega arith) k l) refl refl graph_meets

is_yes : IsYes set (λ k. graph) certificate
is_yes i k l =
    one (λ j. (clause : Clause) → ClauseHolds set (λ k. graph) certificate j clause)
    (all_hold set (λ k. graph) certificate 0 (omega arith) refl refl refl
    part_holds
    (omega arith) (omega arith) refl (omega arith))
    i l k

pub one_loop : YesIsSafe → OneLoop
one_loop law =
    let accepted : IsAccepted system set (λ k. graph) certificate = record {
      in_range = in_range;
      code = is_code;
      says = is_yes;
    } in
    record { accepted = accepted; safe = law system set (λ k. graph) certificate accepted }
