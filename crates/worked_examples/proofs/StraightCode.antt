-- What the checker requires of a straight-line graph whose first node alone is listed.
use Rattle.std.proofs.Common.{◌≡◌, ◌≢◌, ◌⊎◌, ℕ, zero, suc, ◌+◌, ◌<◌, ◌≤◌, Bool, true, List, [], ◌∷◌}
use Rattle.std.proofs.Common.{Option, Some, None, Contains, IsTrue, IsFalse, refl, sym, ◌∙◌, ap}
use Rattle.std.proofs.Common.{subst, inl, inr, arith, length, ◌==◌, ◌&&◌, nat_le}
use Rattle.std.proofs.lemmas.Bool.{cases_Bool, leb-true, and_parts, cases_eq, eqb-true, eq-eqb}
use Rattle.std.proofs.lemmas.Bool.{ne_eqb, false≢true, true≢false}
use Rattle.std.proofs.lemmas.Option.{same_Some}
use Rattle.crpd_base.specs.Sets.{has as has_set}
use Rattle.rv_decode.specs.declared.Ins.{Ins}
use Rattle.rv_decode.specs.Flow.{Words, IsCodeMap, flows}
use Rattle.rv_decode.specs.Address.{end_address}
use Rattle.rv_decode.specs.Table.{ins_of_word}
use Rattle.icache.specs.Cache.{is_block}
use Rattle.icache.specs.Accesses.{Accesses, last_access}
use Rattle.flat_graph.specs.FlatGraph.{FlatNode, IsNode, the_first, a_successor, successors}
use Rattle.flat_graph.specs.FlatGraph.{error_of}
use Rattle.flat_graph.specs.Graph.{Graph, Edge, IsWalk, IsGraph, Continues}
use Rattle.loop_regions.specs.Nest.{Item, Node, Loop, IsItem, Leaves, IsBackEdge}
use Rattle.loop_regions.specs.Stated.{HasNoLoopRefusals, IsForwardPath}
use Rattle.loop_regions.specs.Potentials.{Costs, Potentials, item_potential}
use Rattle.evict_sets.specs.Full.{Listed, FullState, listed, accessed, passed, FullUseful}
use Rattle.evict_sets.specs.Full.{listed_useful, used, used_later, IsHit}
use Rattle.evict_sets.specs.CacheClauses.{ListsLeaders, StatesMeet, UsefulMeets, SetsMeet}
use Rattle.evict_sets.proofs.FullLaws.{unlisted_state_law, unlisted_useful_law}
use Rattle.evict_sets.specs.ListedPart.{listed_of}
use Rattle.cert_check.specs.PotentialClauses.{CountsHits, PotentialsMeet, BoundMeets}
use Rattle.cert_check.specs.JudgeInput.{IsGraphOf}
use Rattle.worked_examples.specs.StraightCode.{word_in, plan, to_one, straight_graph, no_regions}
use Rattle.worked_examples.specs.StraightCode.{graph_of, first_alone}
use Rattle.worked_examples.proofs.ZeroAlone.{no_member}

-- the table of words is a code map if each of its words ends at or before the end
abbrev pub are_below : List (ℕ × ℕ) → Bool
are_below [] = true
are_below (e ∷ table) = nat_le (e.0 + 4) end_address && are_below table

pub code_map : (table : List (ℕ × ℕ)) → IsTrue (are_below table) → IsCodeMap (word_in table)
code_map [] below a w e = absurd (let x = e in cc)
code_map (x ∷ table) below a w e =
    let parts = and_parts (nat_le (x.0 + 4) end_address) (are_below table) below in
    elim (cases_Bool (a == x.0)) [
      | inl b ↦ let q =
          eqb-true a x.0 b in let l = leb-true (x.0 + 4) end_address parts.0 in omega (arith, q, l)
      | inr b ↦ code_map table parts.1 a w (rw b at e)
    ]

-- the walk to each node: the nodes before it, the last one first
pub record IsLine (g : Graph) (before : ℕ → List ℕ) : Type 0 where
  pub some : g.first < g.size
  pub start : before g.first ≡ []
  pub walks : (y : ℕ) → y < g.size → IsWalk g (y ∷ before y)
  pub step : (u v : ℕ) → Edge g u v → (v < g.size) × (before v ≡ u ∷ before u)
  pub one_next : (u v w : ℕ) → Edge g u v → Edge g u w → v ≡ w

heads : (x y : ℕ) (xs ys : List ℕ) → x ∷ xs ≡ y ∷ ys → x ≡ y
heads x y xs ys e = cc

not_empty : (x : ℕ) (xs : List ℕ) → x ∷ xs ≡ [] → ⊥
not_empty x xs e = let l = ap (length {A = ℕ}) e in omega (arith, l)

pub is_graph : (g : Graph) (before : ℕ → List ℕ) → IsLine g before → IsGraph g
is_graph g before line =
    record {
      first = line.some;
      edges = λ u v e. (line.step u v e).0;
      reached = λ y l. (before y, line.walks y l);
    }

-- the end of an edge is not the first node
after_first : (g : Graph) (before : ℕ → List ℕ) (u v : ℕ) → IsLine g before → Edge g u v
    → v ≢ g.first
after_first g before u v line e q =
    not_empty u (before u) (sym (line.step u v e).1 ∙ ap before q ∙ line.start)

way_up : (g : Graph) (before : ℕ → List ℕ) (y : ℕ) (between : List ℕ) (z : ℕ) → IsLine g before
    → IsForwardPath g no_regions y between z → length (before y) < length (before z)
way_up g before y [] z line w =
    let e = ap (length {A = ℕ}) (line.step y z w.0).1 in omega (arith, e)
way_up g before y (x ∷ between) z line w =
    let a = way_up g before y between x line w.0 in
    let e = ap (length {A = ℕ}) (line.step x z w.1.0).1 in
    omega (arith, a, e)

pub accepted : (g : Graph) (before : ℕ → List ℕ) → IsLine g before → HasNoLoopRefusals g no_regions
accepted g before line =
    record {
      one_entry = λ v e. let l = e.1 in absurd (omega (arith, l));
      nested = λ y e. let l = e.2 in absurd (omega (arith, l));
      no_cycle = λ y c. let l = way_up g before y c.0 y line c.1 in absurd (omega (arith, l));
    }

-- the code at the nodes of such a graph
abbrev pub node : ℕ → FlatNode
node a = record { context = []; address = a }

abbrev pub nodes_to : (ℕ → ℕ) → Option ℕ → List FlatNode
nodes_to address None = []
nodes_to address (Some v) = node (address v) ∷ []

pub record HasCode (words : Words) (entry size : ℕ) (next : ℕ → Option ℕ) (address : ℕ → ℕ)
    (ins : ℕ → Ins) : Type 0 where
  pub entry_at : address 0 ≡ entry
  pub goes : (u : ℕ) → u < size
      → successors (flows words) entry (node (address u)) ≡ nodes_to address (next u)
  pub no_error : (u : ℕ) → u < size → error_of (flows words) entry (node (address u)) ≡ None
  pub one_number : (u v : ℕ) → u < size → v < size → address u ≡ address v → u ≡ v
  pub instructions : (u w : ℕ) → u < size → words (address u) ≡ Some w
      → ins_of_word w ≡ Some (ins u)

to_edge : (address : ℕ → ℕ) (to : Option ℕ) (v : ℕ) → Contains (to_one to) v
    → Contains (nodes_to address to) (node (address v))
to_edge address None v (k, l, e) = absurd (omega (arith, l))
to_edge address (Some x) v (zero, l, e) = (0, omega arith, ap (λ z. node (address z)) e)
to_edge address (Some x) v (suc k, l, e) = absurd (omega (arith, l))

from_node : (address : ℕ → ℕ) (to : Option ℕ) (m : FlatNode) → Contains (nodes_to address to) m
    → (v : ℕ) × Contains (to_one to) v × (node (address v) ≡ m)
from_node address None m (k, l, e) = absurd (omega (arith, l))
from_node address (Some x) m (zero, l, e) = (x, (0, omega arith, refl), e)
from_node address (Some x) m (suc k, l, e) = absurd (omega (arith, l))

pub same_next : (size : ℕ) (next : ℕ → Option ℕ) (u v w : ℕ) → Edge (straight_graph size next) u v
    → Edge (straight_graph size next) u w → v ≡ w
same_next size next u v w a b = one (next u) a.1 b.1
  where
    one : (to : Option ℕ) → Contains (to_one to) v → Contains (to_one to) w → v ≡ w
    one None (k, l, e) c = absurd (omega (arith, l))
    one (Some x) (zero, l, e) (zero, m, f) = sym e ∙ f
    one (Some x) (zero, l, e) (suc j, m, f) = absurd (omega (arith, m))
    one (Some x) (suc k, l, e) c = absurd (omega (arith, l))

reach : (words : Words) (entry size : ℕ) (next : ℕ → Option ℕ) (address : ℕ → ℕ) (ins : ℕ → Ins)
    → HasCode words entry size next address ins → (before : List ℕ) (y : ℕ)
    → IsWalk (straight_graph size next) (y ∷ before) → IsNode (flows words) entry (node (address y))
reach words entry size next address ins code [] y w =
    subst (λ z. IsNode (flows words) entry (node z)) (sym (ap address w ∙ code.entry_at)) the_first
reach words entry size next address ins code (u ∷ before) y w =
    a_successor (node (address u)) (node (address y))
    (reach words entry size next address ins code before u w.1)
    (subst (λ z. Contains z (node (address y))) (sym (code.goes u w.0.0))
    (to_edge address (next u) y w.0.1))

numbers : (words : Words) (entry size : ℕ) (next : ℕ → Option ℕ) (address : ℕ → ℕ) (ins : ℕ → Ins)
    → HasCode words entry size next address ins → (u : ℕ) (m : FlatNode) → u < size
    → Contains (successors (flows words) entry (node (address u))) m
    → (v : ℕ) × Edge (straight_graph size next) u v × (node (address v) ≡ m)
numbers words entry size next address ins code u m l c =
    let found = from_node address (next u) m (subst (λ z. Contains z m) (code.goes u l) c) in
    (found.0, (l, found.1), found.2)

each_node : (words : Words) (entry size : ℕ) (next : ℕ → Option ℕ) (address : ℕ → ℕ) (ins : ℕ → Ins)
    (before : ℕ → List ℕ) → HasCode words entry size next address ins
    → IsLine (straight_graph size next) before → (m : FlatNode) → IsNode (flows words) entry m
    → (u : ℕ) × (u < size) × (node (address u) ≡ m)
each_node words entry size next address ins before code line _ the_first =
    (0, line.some, ap node code.entry_at)
each_node words entry size next address ins before code line m (a_successor n m' is c) =
    let from = each_node words entry size next address ins before code line n is in
    let found = numbers words entry size next address ins code from.0 m from.1
    (subst (λ z. Contains (successors (flows words) entry z) m) (sym from.2) c) in
    (found.0, (line.step from.0 found.0 found.1).0, found.2)

pub is_graph_of : (words : Words) (entry size : ℕ) (next : ℕ → Option ℕ) (address : ℕ → ℕ)
    (ins : ℕ → Ins) (before : ℕ → List ℕ) → HasCode words entry size next address ins
    → IsLine (straight_graph size next) before
    → IsGraphOf words (plan entry) (graph_of (straight_graph size next) address ins)
is_graph_of words entry size next address ins before code line =
    record {
      follows = record {
        graph = is_graph (straight_graph size next) before line;
        first = ap node code.entry_at;
        nodes = λ u l. reach words entry size next address ins code (before u) u (line.walks u l);
        one_number = λ u v a b e. code.one_number u v a b (ap (λ (m : FlatNode). m.address) e);
        numbers = λ u m l c. numbers words entry size next address ins code u m l c;
      };
      no_errors = λ m is.
          let at = each_node words entry size next address ins before code line m is in
          subst (λ z. error_of (flows words) entry z ≡ None) at.2 (code.no_error at.0 at.1);
      instructions = code.instructions;
      regions = record {
        node = λ r l. absurd (omega (arith, l));
        numbered = λ r s a b. absurd (omega (arith, b));
        stated = λ r l. absurd (omega (arith, l));
        all = λ x y c l e. let none = c.1 in absurd (omega (arith, none));
        nodes_only = λ r y l. refl;
      };
      accepted = accepted (straight_graph size next) before line;
    }

-- the first node alone is listed, with an empty state and no useful set
pub record ListsFirst (g : Graph) (l : Listed) : Type 0 where
  pub others : (y : ℕ) → y ≢ g.first → IsFalse (l.is_listed y)
  pub alone : (y : ℕ) → IsTrue (l.is_listed y) → y ≡ g.first
  pub unlisted : (y : ℕ) → IsFalse (l.is_listed y) → y ≢ g.first
  pub no_state : (s m : ℕ) → l.state g.first s ≡ Some m → ⊥
  pub no_useful : (s : ℕ) → IsTrue (l.useful g.first s) → ⊥

pub lists_first : (size : ℕ) (next : ℕ → Option ℕ) (bound : ℕ) (evicting useful potentials : List ℕ)
    (window : ℕ) → ListsFirst (straight_graph size next)
    (listed_of (first_alone bound evicting useful potentials window))
lists_first size next bound evicting useful potentials window =
    record {
      others = λ y ne. let q = ne_eqb 0 y (λ e. ne (sym e)) in rw q refl;
      alone = alone;
      unlisted = λ y f e.
          absurd (true≢false
          (subst (λ z.
          IsFalse ((listed_of (first_alone bound evicting useful potentials window)).is_listed z)) e
          f));
      no_state = λ s m e. absurd (let x = e in cc);
      no_useful = λ s h. no_member s h;
    }
  where
    alone : (y : ℕ) → IsTrue
        ((listed_of (first_alone bound evicting useful potentials window)).is_listed y) → y ≡ 0
    alone y t =
        elim (cases_Bool (0 == y)) [
          | inl b ↦ sym (eqb-true 0 y b)
          | inr b ↦ absurd (false≢true (rw b at t))
        ]

pub leaders : (g : Graph) (before : ℕ → List ℕ) (l : Listed) → IsLine g before → ListsFirst g l
    → ListsLeaders g l
leaders g before l line f y lt out = continues (before y) refl
  where
    continues : (b : List ℕ) → before y ≡ b → (u : ℕ) × Continues g u y
    continues [] e = absurd (f.unlisted y out (subst (λ b. IsWalk g (y ∷ b)) e (line.walks y lt)))
    continues (u ∷ b) e =
        let w : IsWalk g (y ∷ u ∷ b) = subst (λ b. IsWalk g (y ∷ b)) e (line.walks y lt) in (
          u,
          record {
            edge = w.0;
            not_first = f.unlisted y out;
            one_edge = λ x q.
                heads x u (before x) (before u) (sym (line.step x y q).1 ∙ (line.step u y w.0).1);
            one_successor = λ x q. line.one_next u x y q w.0;
          },
        )

empty_first : (g : Graph) (a : Accesses) (l : Listed) (y s m : ℕ) → ListsFirst g l → y ≡ g.first
    → FullState g a l y s m → ⊥
empty_first g a l y s m f e (listed _ _ _ t st) =
    f.no_state s m (subst (λ z. l.state z s ≡ Some m) e st)
empty_first g a l y s m f e (accessed u _ _ _ out w p q) = f.unlisted y out e
empty_first g a l y s m f e (passed u _ _ _ out w ne st) = f.unlisted y out e

unlisted_after : (g : Graph) (before : ℕ → List ℕ) (l : Listed) (u v : ℕ) → IsLine g before
    → ListsFirst g l → Edge g u v → IsFalse (l.is_listed v)
unlisted_after g before l u v line f e = f.others v (after_first g before u v line e)

state_after : (g : Graph) (before : ℕ → List ℕ) (a : Accesses) (l : Listed) (u v s m : ℕ)
    → IsLine g before → ListsFirst g l → Edge g u v → FullState g a l v s m
    → ((a.set u ≡ s) × (a.block u ≡ m)) ⊎ ((a.set u ≢ s) × FullState g a l u s m)
state_after g before a l u v s m line f e st =
    unlisted_state_law g a l u v s m (leaders g before l line f) (line.step u v e).0 e
    (unlisted_after g before l u v line f e) st

-- clause 3
pub states : (g : Graph) (before : ℕ → List ℕ) (a : Accesses) (l : Listed) → IsLine g before
    → ListsFirst g l → (u : ℕ) → u < g.size → StatesMeet g a l u
states g before a l line f u lt =
    record {
      first = λ e s m st. empty_first g a l u s m f e st;
      edges = λ v s m e st. state_after g before a l u v s m line f e st;
    }

-- the full state of a node is that of the last accesses before it
pub state_says : (g : Graph) (before : ℕ → List ℕ) (a : Accesses) (l : Listed) → IsLine g before
    → ListsFirst g l → (b : List ℕ) (y s m : ℕ) → IsWalk g (y ∷ b) → FullState g a l y s m
    → last_access a s b ≡ Some m
state_says g before a l line f [] y s m w st = absurd (empty_first g a l y s m f w st)
state_says g before a l line f (u ∷ b) y s m w st =
    elim (state_after g before a l u y s m line f w.0 st) [
      | inl here ↦ rw (eq-eqb (a.set u) s here.0) (ap Some here.1)
      | inr there ↦
          rw (ne_eqb (a.set u) s there.0) (state_says g before a l line f b u s m w.1 there.1)
    ]

pub state_made : (g : Graph) (before : ℕ → List ℕ) (a : Accesses) (l : Listed) → IsLine g before
    → ListsFirst g l → (b : List ℕ) (y s m : ℕ) → IsWalk g (y ∷ b) → last_access a s b ≡ Some m
    → FullState g a l y s m
state_made g before a l line f [] y s m w e = absurd (let x = e in cc)
state_made g before a l line f (u ∷ b) y s m w e =
    elim (cases_eq (a.set u) s) [
      | inl here ↦
          accessed u y s m (unlisted_after g before l u y line f w.0) w.0 here
          (same_Some (a.block u) m (rw (eq-eqb (a.set u) s here) at e))
      | inr there ↦
          passed u y s m (unlisted_after g before l u y line f w.0) w.0 there
          (state_made g before a l line f b u s m w.1 (rw (ne_eqb (a.set u) s there) at e))
    ]

-- which nodes are hits
abbrev pub hit_at : (ℕ → List ℕ) → Accesses → ℕ → Bool
hit_at before a y = is_block (last_access a (a.set y) (before y)) (a.block y)

pub block_says : (o : Option ℕ) (m : ℕ) → IsTrue (is_block o m) → o ≡ Some m
block_says None m t = absurd (false≢true t)
block_says (Some b) m t = ap Some (eqb-true b m t)

pub hits : (g : Graph) (before : ℕ → List ℕ) (a : Accesses) (l : Listed) → IsLine g before
    → ListsFirst g l → CountsHits g a l (hit_at before a)
hits g before a l line f y lt = (
  (λ t. state_made g before a l line f (before y) y (a.set y) (a.block y) (line.walks y lt)
      (block_says (last_access a (a.set y) (before y)) (a.block y) t)),
  (λ st. let e = state_says g before a l line f (before y) y (a.set y) (a.block y)
      (line.walks y lt) st in
      subst (λ o. IsTrue (is_block o (a.block y))) (sym e) (eq-eqb (a.block y) (a.block y) refl)),
)

-- a set that is useful at a node has a block in its state, and is that of a hit
useful_state : (g : Graph) (before : ℕ → List ℕ) (a : Accesses) (l : Listed) (y s : ℕ)
    → IsLine g before → ListsFirst g l → FullUseful g a l y s → (m : ℕ) × FullState g a l y s m
useful_state g before a l y s line f (listed_useful _ _ t h) =
    absurd (f.no_useful s (subst (λ z. IsTrue (l.useful z s)) (f.alone y t) h))
useful_state g before a l y s line f (used _ _ out hit q) =
    (a.block y, subst (λ z. FullState g a l y z (a.block y)) q hit)
useful_state g before a l y s line f (used_later _ v _ out e ne later) =
    let found = useful_state g before a l v s line f later in
    elim (state_after g before a l y v s found.0 line f e found.1) [
      | inl here ↦ absurd (ne here.0)
      | inr there ↦ (found.0, there.1)
    ]

useful_hit : (g : Graph) (before : ℕ → List ℕ) (a : Accesses) (l : Listed) (y s : ℕ)
    → IsLine g before → ListsFirst g l → y < g.size → FullUseful g a l y s
    → (z : ℕ) × (z < g.size) × IsHit g a l z × (a.set z ≡ s)
useful_hit g before a l y s line f lt (listed_useful _ _ t h) =
    absurd (f.no_useful s (subst (λ z. IsTrue (l.useful z s)) (f.alone y t) h))
useful_hit g before a l y s line f lt (used _ _ out hit q) = (y, lt, hit, q)
useful_hit g before a l y s line f lt (used_later _ v _ out e ne later) =
    useful_hit g before a l v s line f (line.step y v e).0 later

-- clause 4
pub useful : (g : Graph) (before : ℕ → List ℕ) (a : Accesses) (l : Listed) → IsLine g before
    → ListsFirst g l → (u : ℕ) → u < g.size → UsefulMeets g a l u
useful g before a l line f u lt =
    elim (cases_eq u g.first) [
      | inl e ↦ record {
        own = λ hit. absurd (empty_first g a l u (a.set u) (a.block u) f e hit);
        edges = λ v s w ne later.
            let found = useful_state g before a l v s line f later in
            elim (state_after g before a l u v s found.0 line f w found.1) [
              | inl here ↦ absurd (ne here.0)
              | inr there ↦ absurd (empty_first g a l u s found.0 f e there.1)
            ];
      }
      | inr ne ↦ unlisted_useful_law g a l u (f.others u ne)
    ]

-- clause 5, if the evicting sets have each node's set, and the useful sets each hit's
pub sets : (g : Graph) (before : ℕ → List ℕ) (a : Accesses) (l : Listed)
    (evicting useful_sets : List ℕ) → IsLine g before → ListsFirst g l
    → ((y : ℕ) → y < g.size → IsTrue (has_set evicting (a.set y))
    × (IsTrue (hit_at before a y) → IsTrue (has_set useful_sets (a.set y)))) → (u : ℕ) → u < g.size
    → SetsMeet g a l (has_set evicting) (has_set useful_sets) u
sets g before a l evicting useful_sets line f each u lt =
    record {
      own = (each u lt).0;
      all = λ s st.
          let found = useful_hit g before a l u s line f lt st in
          subst (λ z. IsTrue (has_set useful_sets z)) found.3
          ((each found.0 found.1).1 ((hits g before a l line f found.0 found.1).1 found.2));
    }

-- clause 6, if no edge has a price, and each node pays for its edge and for what comes after it
pub potentials : (g : Graph) (c : Costs) (p : Potentials) → ((u v : ℕ) → c.price u v ≡ 0)
    → ((u v : ℕ) → Edge g u v → c.edge u v + p.node v ≤ p.node u)
    → ((u : ℕ) → u < g.size → IsTrue (c.answers u) → c.end u ≤ p.node u) → (u : ℕ) → u < g.size
    → PotentialsMeet g no_regions c p u
potentials g c p free pays ends u lt =
    record {
      edges = record {
        edge = λ v e. let l = pays u v e in omega (arith, l);
        end = λ b. ends u lt b;
        inside = inside;
        exit = λ v r i e n lv item. let l = lv.0.0 in absurd (omega (arith, l));
      };
      left = λ v r e lv. let l = lv.0 in absurd (omega (arith, l));
      loop = λ r l e. absurd (omega (arith, l));
    }
  where
    inside : (v : ℕ) (i : Item) → Edge g u v → (IsBackEdge no_regions u v → ⊥)
        → ((r : ℕ) → Leaves no_regions u v r → ⊥) → IsItem no_regions v i
        → c.edge u v + c.price u v + item_potential p i ≤ p.node u
    inside v (Node y) e n lv item =
        let none = free u v in
        let paid : c.edge u v + p.node y ≤ p.node u =
        subst (λ z. c.edge u v + p.node z ≤ p.node u) (sym item.0) (pays u v e) in
        omega (arith, none, paid)
    inside v (Loop r) e n lv item = let l = item.0 in absurd (omega (arith, l))

-- clause 7
pub bound_meets : (g : Graph) (p : Potentials) (bound : ℕ) → p.node g.first ≤ bound
    → BoundMeets g no_regions p bound
bound_meets g p bound l (Node y) item = subst (λ z. p.node z ≤ bound) (sym item.0) l
bound_meets g p bound l (Loop r) item = let q = item.0 in absurd (omega (arith, q))
