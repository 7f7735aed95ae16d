-- The analysis of straight-line code, of which the first node alone is a leader, and its persistent
-- bound, by tests that compute.
use Rattle.std.proofs.Common.{◌≡◌, ℕ, zero, suc, ◌+◌, ◌*◌, ◌/◌, ◌%◌, ◌<◌, ◌≤◌, ◌^◌, Bool}
use Rattle.std.proofs.Common.{false, ◌&&◌, List, [], ◌∷◌, IsTrue, length, replicate}
use Rattle.std.proofs.Common.{refl, sym, ◌∙◌, ap, subst, inl, inr, arith, ◌==◌, nat_lt, slice_index}
use Rattle.std.proofs.Common.{slice_index_or, get_or}
use Rattle.std.specs.Int.{bit_at}
use Rattle.std.proofs.lemmas.Bool.{cases_lt, and_parts, eqb-true, ltb-true, false≢true}
use Rattle.std.proofs.lemmas.List.{get_or_past}
use Rattle.std.proofs.lemmas.Nat.Bits.{bit_at-zero}
use Rattle.crpd_base.specs.declared.data.Platform.{Platform}
use Rattle.crpd_base.specs.Sets.{has as has_set, IsSetOf}
use Rattle.crpd_base.specs.Sum.{one_if}
use Rattle.crpd_base.proofs.Bools.{each, each_says}
use Rattle.crpd_base.proofs.Options.{none_some}
use Rattle.crpd_base.proofs.Sums.{sum_zero}
use Rattle.icache.specs.Accesses.{accesses}
use Rattle.flat_graph.specs.EdgeCost.{edge_cost, end_cost}
use Rattle.flat_graph.specs.Graph.{Edge}
use Rattle.loop_regions.specs.Nest.{Item, Node, Loop, IsItem}
use Rattle.loop_regions.specs.Potentials.{Costs, Potentials, Meets, edge_costs, item_potential}
use Rattle.loop_regions.specs.TaskGraph.{node_code_of, answering}
use Rattle.must_cache.specs.Events.{accesses_alone}
use Rattle.must_cache.specs.Sure.{CountsSureHits}
use Rattle.must_cache.proofs.PrepaidLaws.{prepaid_sure}
use Rattle.exec_bound.specs.Least.{AreLeastPotentials}
use Rattle.evict_sets.specs.ListedPart.{listed_of}
use Rattle.walk_parts.specs.Credit.{Payments, price, count_sets}
use Rattle.persistent_blocks.specs.PersistentPart.{IsPersistentBound}
use Rattle.cert_build.specs.Best.{IsBestPart, IsBestState}
use Rattle.worked_examples.specs.StraightCode.{first_alone, no_regions}
use Rattle.worked_examples.specs.WorkedSets.{AreThese}
use Rattle.worked_examples.proofs.StraightCode as law
use Rattle.worked_examples.proofs.StraightTests.{Way, IsWay, size, next, address, before, graph}
use Rattle.worked_examples.proofs.StraightTests.{same, same_says, is_next, is_next_says, line}
use Rattle.worked_examples.proofs.StraightTests.{hit_at, IsCertified, pays_at, ends_at}
use Rattle.worked_examples.proofs.WorkedSets.{HasRests, AreTested, IsTested, hit_is, row, sets}
use Rattle.worked_examples.proofs.WorkedSets.{is_in, in_says, says_in, same_test, test_says}
use Rattle.worked_examples.proofs.WorkedSets.{are_below, not_in}

-- the words of a set of cache sets have exactly these numbers
abbrev pub has_these : List ℕ → List ℕ → Bool
has_these words numbers =
    (length words == 8) && (each 8 (λ k. nat_lt (slice_index words k) (2 ^ 64))
    && (are_below 512 numbers && each 512 (λ s. same_test (has_set words s) (is_in numbers s))))

none_past : (words : List ℕ) (s : ℕ) → length words ≡ 8 → 512 ≤ s → has_set words s ≡ false
none_past words s e g =
    ap (λ x. bit_at x (s % 64) == 1) (get_or_past words (s / 64) 0 (omega (arith, e, g)))
    ∙ ap (λ x. x == 1) (bit_at-zero (s % 64))

pub set_of : (words numbers : List ℕ) (P : ℕ → Type 0) → IsTrue (has_these words numbers)
    → AreThese numbers P → IsSetOf words P
set_of words numbers P t are =
    let one = and_parts (length words == 8) _ t in
    let two = and_parts (each 8 (λ k. nat_lt (slice_index words k) (2 ^ 64))) _ one.1 in
    let three = and_parts (are_below 512 numbers) _ two.1 in
    let long = eqb-true (length words) 8 one.0 in
    let equal : (s : ℕ) → has_set words s ≡ is_in numbers s = λ s.
    elim (cases_lt s 512) [
      | inl l ↦
          test_says (has_set words s) (is_in numbers s)
          (each_says 512 (λ z. same_test (has_set words z) (is_in numbers z)) three.1 s l)
      | inr g ↦ none_past words s long g ∙ sym (not_in 512 numbers s three.0 g)
    ] in
    record {
      size = record {
        count = long;
        each = λ k l.
            ltb-true (slice_index words k) (2 ^ 64)
            (each_says 8 (λ z. nat_lt (slice_index words z) (2 ^ 64)) two.0 k l);
      };
      numbers = λ s. (
        λ h. (are s).1 (in_says numbers s (subst (λ b. IsTrue b) (equal s) h)),
        λ q. subst (λ b. IsTrue b) (sym (equal s)) (says_in numbers s ((are s).0 q)),
      );
    }

-- nothing is paid for
abbrev unpaid : Payments
unpaid = record { edge = λ u v s. false; start = λ s. false }

nothing_counted : (n : ℕ) → count_sets (λ s. false) n ≡ 0
nothing_counted n = sum_zero (λ s. one_if false) n (λ s l. refl)

module _ (w : Way) (way : IsWay w) (rest : ℕ → List ℕ) (R : HasRests w rest) (p : Platform)
    (below : (x : ℕ) → (accesses p (address w)).set x < p.sets) where
  -- the costs of the edges, with any prices
  abbrev costs : (ℕ → ℕ → ℕ) → Costs
  costs price =
      record (edge_costs p (node_code_of (graph w)) (answering (graph w)) (hit_at p w)) {
        price = price;
      }

  hits_are : CountsSureHits (graph w).graph (accesses p (address w)) (hit_at p w)
  hits_are y l =
      let is = hit_is w way rest R p below y l in
      (λ t. is.1 t, λ h. is.0 h)

  -- a node's potential is what its edge costs, with what comes after it, or the end
  abbrev pub is_exact : List ℕ → ℕ → List ℕ → Bool
  is_exact potentials u [] =
      answering (graph w) u
      && (slice_index_or potentials u 0 == end_cost p (node_code_of (graph w)) (hit_at p w) u)
  is_exact potentials u (v ∷ later) =
      is_next (next w u) v && (nat_lt v (size w) && (same (rest v) later
      && (slice_index_or potentials u 0
      == edge_cost p (node_code_of (graph w)) (hit_at p w) u v + slice_index_or potentials v 0)))

  -- the tests of a part that is certified: the potentials are the least ones, and the sets and the
  -- first state are those of the analysis
  pub record IsAnalysed (bound : ℕ)
      (evicting useful potentials evicted reused : List ℕ) : Type 0 where
    pub certified : IsCertified p w bound evicting useful potentials
    pub exact : IsTrue (each (size w) (λ u. is_exact potentials u (rest u)))
    pub bound_is : bound ≡ slice_index_or potentials 0 0
    pub evicts : IsTrue (has_these evicting evicted)
    pub reuses : IsTrue (has_these useful reused)
    pub tested : AreTested w way rest R p below evicted reused
    pub first : (window : ℕ) → IsTested w way rest R p below
        (listed_of (first_alone bound evicting useful potentials window))
        (law.lists_first (size w) (next w) bound evicting useful potentials window) 0 [] []

  module _ (bound : ℕ) (evicting useful potentials evicted reused : List ℕ)
      (A : IsAnalysed bound evicting useful potentials evicted reused) where
    abbrev pots : Potentials
    pots = record {
      node = λ y. slice_index_or potentials y 0;
      loop = λ r. slice_index_or [] r 0;
    }

    module _ (price : ℕ → ℕ → ℕ) (free : (u v : ℕ) → price u v ≡ 0) where
      meets : Meets (graph w).graph no_regions (costs price) pots
      meets =
          record {
            nodes = λ u l.
                (law.potentials (graph w).graph (costs price) pots free
                (pays_at p w bound evicting useful potentials A.certified)
                (ends_at p w bound evicting useful potentials A.certified) u l).edges;
            loops = λ r l. absurd (omega (arith, l));
          }

      exact_at : (u : ℕ) → u < size w → IsTrue (is_exact potentials u (rest u))
      exact_at u l = each_says (size w) (λ z. is_exact potentials z (rest z)) A.exact u l

      least_from : (later : List ℕ) (u : ℕ) → u < size w → IsTrue (is_exact potentials u later)
          → (q : Potentials) → Meets (graph w).graph no_regions (costs price) q
          → slice_index_or potentials u 0 ≤ q.node u
      least_from [] u l t q m =
          let both = and_parts (answering (graph w) u) _ t in
          let e = eqb-true _ _ both.1 in
          let end = (m.nodes u l).end both.0 in
          omega (arith, e, end)
      least_from (v ∷ later) u l t q m =
          let one = and_parts (is_next (next w u) v) _ t in
          let two = and_parts (nat_lt v (size w)) _ one.1 in
          let three = and_parts (same (rest v) later) _ two.1 in
          let e = eqb-true _ _ three.1 in
          let inside = ltb-true v (size w) two.0 in
          let edge : Edge (graph w).graph u v = (l, is_next_says (next w u) v one.0) in
          let after = least_from later v inside
          (subst (λ z. IsTrue (is_exact potentials v z)) (same_says (rest v) later three.0)
          (exact_at v inside)) q m in
          let covers = (m.nodes u l).inside v (Node v) edge
          (λ b. let k = b.1 in absurd (omega (arith, k)))
          (λ r lv. let k = lv.0 in absurd (omega (arith, k)))
          (refl, λ r k. absurd (omega (arith, k))) in
          omega (arith, e, after, covers)

      least : AreLeastPotentials (graph w).graph no_regions (costs price) pots
      least =
          record {
            meets = meets;
            nodes = λ q u m l. least_from (rest u) u l (exact_at u l) q m;
            loops = λ q r m l. absurd (omega (arith, l));
          }

    bound_at : (i : Item) → IsItem no_regions 0 i → bound ≡ item_potential pots i
    bound_at (Node y) item =
        A.bound_is ∙ ap (λ z. slice_index_or potentials z 0) (sym item.0)
    bound_at (Loop r) item = let l = item.0 in absurd (omega (arith, l))

    module _ (window : ℕ) where
      first_state : IsBestState (graph w).graph (accesses p (address w))
          (record { node = 0; sure = []; useful = replicate 8 0 })
      first_state =
          let at_first = row w way rest R p below
          (listed_of (first_alone bound evicting useful potentials window))
          (law.lists_first (size w) (next w) bound evicting useful potentials window) 0 [] []
          (A.first window) in
          record {
            node = way.some;
            leader = λ c. c.1.not_first refl;
            sure = λ s m. ((at_first.sure s m).1, (at_first.sure s m).0);
            ascending = λ i j d l m. absurd (omega (arith, m));
            useful = set_of (replicate 8 0) [] _ refl at_first.useful_sets;
          }

      pub best_part : IsBestPart p (graph w) (first_alone bound evicting useful potentials window)
      best_part =
          let all = sets w way rest R p below evicted reused A.tested in
          record {
            states = record {
              leaders = law.leaders (graph w).graph (before w)
                  (listed_of (first_alone bound evicting useful potentials window)) (line w way)
                  (law.lists_first (size w) (next w) bound evicting useful potentials window);
              each = λ k d l. only_one k d l;
              ascending = λ i j d l m. absurd (omega (arith, l, m));
            };
            evicting = set_of evicting evicted _ A.evicts all.evicts;
            useful = set_of useful reused _ A.reuses all.reuses;
            is_hit = hit_at p w;
            hits = hits_are;
            potentials = record {
              nodes = A.certified.count;
              regions = refl;
              least = least (λ u v. 0) (λ u v. refl);
              bound = bound_at;
            };
          }
        where
          only_one : (k : ℕ) (d : _) → k < 1 → IsBestState (graph w).graph (accesses p (address w))
              (get_or (record { node = 0; sure = []; useful = replicate 8 0 } ∷ []) k d)
          only_one zero d l = first_state
          only_one (suc k) d l = absurd (omega (arith, l))

    -- without loops the persistent bound is the plain one
    pub persistent_bound : IsPersistentBound p (graph w) bound
    persistent_bound =
        record {
          events = accesses_alone (accesses p (address w));
          are = record {
            accesses = refl;
            edges = λ u v s m e. (
              λ q. absurd (none_some q),
              λ q. let l = q.pair.region in absurd (omega (arith, l)),
            );
            start = λ s m. (
              λ q. absurd (none_some q),
              λ q. let l = q.pair.region in absurd (omega (arith, l)),
            );
          };
          bound_is = record {
            is_hit = hit_at p w;
            hits = λ y l.
                let sure = hits_are y l in
                let same = prepaid_sure (graph w).graph (accesses p (address w)) y
                ((accesses p (address w)).set y) ((accesses p (address w)).block y) in
                (λ t. same.1 (sure.0 t), λ h. sure.1 (same.0 h));
            pay = unpaid;
            edges = λ u v s e. (λ t. absurd (false≢true t), λ q. absurd (none_some q.1));
            start = λ s. (λ t. absurd (false≢true t), λ q. absurd (none_some q.1));
            potentials = pots;
            least =
                least (price p unpaid)
                (λ u v. let none = nothing_counted p.sets in
                let e : p.miss * count_sets (λ s. false) p.sets ≡ p.miss * 0 =
                ap (λ k. p.miss * k) none in omega (arith, e));
            bound_is = λ i item.
                let none = nothing_counted p.sets in
                let e : p.miss * count_sets (λ s. false) p.sets ≡ p.miss * 0 =
                ap (λ k. p.miss * k) none in
                let b = bound_at i item in
                omega (arith, e, b);
          };
        }
