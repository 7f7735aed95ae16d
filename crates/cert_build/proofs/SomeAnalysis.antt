-- Every task's code has an analysis, or its bound is too large.
use Rattle.std.proofs.Common.{◌≡◌, ◌≢◌, ℕ, zero, suc, ◌+◌, ◌*◌, ◌/◌, ◌%◌, ◌^◌, ◌<◌, ◌≤◌, ◌==◌, List}
use Rattle.std.proofs.Common.{[], ◌∷◌, ◌++◌, get_or, set, Some, None, refl, sym, ap, ◌∙◌, subst}
use Rattle.std.proofs.Common.{inl, inr, ⊎_elim, arith, Ok, Err, Bool, true, false, IsTrue, ◌↔◌}
use Rattle.std.proofs.Common.{if◌then◌else◌, eqb-true, bit_or, get_or-set_other, get_or-set_same}
use Rattle.std.proofs.Common.{replicate}
use Rattle.std.proofs.lemmas.Bool.{cases_Bool, cases_eq, cases_lt, false≢true, eqb-false}
use Rattle.std.proofs.lemmas.List.{get_or-replicate, length-replicate, length-set, get_or_past}
use Rattle.std.proofs.lemmas.Nat.{or_lt}
use Rattle.std.proofs.lemmas.Nat.Bits.{bit_at-zero}
use Rattle.std.specs.Int.{bit_at}
use Rattle.std.proofs.lemmas.Option.{same_Some}
use Rattle.crpd_base.proofs.Bits.{inserted}
use Rattle.crpd_base.proofs.Options.{none_some}
use Rattle.crpd_base.specs.Ranges.{IsPlatform}
use Rattle.crpd_base.specs.Sets.{AreWords, has, member}
use Rattle.crpd_base.specs.declared.data.NodeState.{NodeState}
use Rattle.crpd_base.specs.declared.data.Platform.{Platform}
use Rattle.flat_graph.specs.Graph.{Graph, IsLeader, IsWalk}
use Rattle.icache.specs.Accesses.{Accesses, accesses, first_access, last_access}
use Rattle.loop_regions.specs.TaskGraph.{TaskGraph, answering, node_code_of}
use Rattle.loop_regions.specs.Potentials.{edge_costs}
use Rattle.must_cache.specs.Sure.{CountsSureHits, IsSureHit, Sure}
use Rattle.useful_sets.specs.Sets.{AreUseful, sets_at}
use Rattle.useful_sets.specs.Useful.{IsEcb, IsUcb, Useful}
use Rattle.exec_bound.specs.declared.error.BoundError.TheVariants as bound
use Rattle.exec_bound.proofs.GreatestBound.{greatest_is}
use Rattle.cert_model.proofs.Ranged.{rise_wider}
use Rattle.cert_build.specs.Analysis.{IsAnalysis, KeepsRanges, part_of_analysis}
use Rattle.crpd_base.specs.Sets.{IsSetOf}
use Rattle.cert_build.specs.Inner.Entries.{AreLeaderEntries, IsStateEntry, ListsSure}
use Rattle.cert_build.specs.declared.one_task.Analysis.{Analysis}
use Rattle.cert_build.specs.AnalysisEnds.{IsAnalysable, AnAnalysisExists}
use Rattle.crpd_base.proofs.Classical.{AreValues, NotNot, a_list, a_test_below, decided, mapped}
use Rattle.crpd_base.proofs.Classical.{unrefuted, value_at, ◌>>=◌}
use Rattle.cert_build.proofs.EntryLaws.{all_entries, best_entry, entries_more, entries_same}
use Rattle.cert_build.proofs.EntryLaws.{entry_ranges, listed_more, listed_same}
use Rattle.exec_bound.specs.BoundEnds.{HasBound}
use Rattle.exec_bound.proofs.SomeBound.{a_bound_exists}

-- ---- sets as words

-- no number
abbrev no_words : List ℕ
no_words = replicate 8 0

-- one number more
abbrev with_number : List ℕ → ℕ → List ℕ
with_number words s =
    set words (s / 64) (bit_or (get_or words (s / 64) 0) (1 * 2 ^ (s % 64) % 2 ^ 64))

record AreWordsBelow (P : ℕ → Type 0) (n : ℕ) (words : List ℕ) : Type 0 where
  size : AreWords 8 words
  numbers : (s : ℕ) → IsTrue (has words s) ↔ ((s < n) × P s)

no_word : (k : ℕ) → get_or no_words k 0 ≡ 0
no_word k = elim (cases_lt k 8) [
  | inl lt ↦ get_or-replicate 8 k 0 0 lt
  | inr ge ↦ get_or_past no_words k 0 (let e = length-replicate {A = ℕ} 8 0 in omega (arith, e, ge))
]

none_in : (s : ℕ) → has no_words s ≡ false
none_in s = ap (λ m. m == 1) (ap (λ w. bit_at w (s % 64)) (no_word (s / 64)) ∙ bit_at-zero (s % 64))

more_size : (words : List ℕ) (n : ℕ) → n < 512 → AreWords 8 words → AreWords 8 (with_number words n)
more_size words n lt W =
    record {
      count = length-set words (n / 64)
          (bit_or (get_or words (n / 64) 0) (1 * 2 ^ (n % 64) % 2 ^ 64)) ∙ W.count;
      each = λ k below. elim (cases_eq k (n / 64)) [
        | inl e ↦
            subst (λ z. z < 2 ^ 64)
            (sym (ap (λ j. get_or (with_number words n) j 0) e
            ∙ get_or-set_same words (n / 64)
            (bit_or (get_or words (n / 64) 0) (1 * 2 ^ (n % 64) % 2 ^ 64)) 0
            (let c = W.count in omega (arith, c, lt))))
            (or_lt 64 (get_or words (n / 64) 0) (1 * 2 ^ (n % 64) % 2 ^ 64)
            (W.each (n / 64) (omega (arith, lt))) (omega arith))
        | inr ne ↦
            subst (λ z. z < 2 ^ 64)
            (sym (get_or-set_other words (n / 64) k
            (bit_or (get_or words (n / 64) 0) (1 * 2 ^ (n % 64) % 2 ^ 64)) 0 ne))
            (W.each k below)
      ];
    }

if_one : (b : Bool) (m : ℕ) → ((if b then 1 else m) == 1) ≡ (if b then true else (m == 1))
if_one true m = refl
if_one false m = refl

more_numbers : (words : List ℕ) (n s : ℕ) → n < 512 → AreWords 8 words
    → has (with_number words n) s ≡ (if s == n then true else has words s)
more_numbers words n s lt W =
    ap (λ m. m == 1) (inserted words n s (let c = W.count in omega (arith, c, lt)))
    ∙ if_one (s == n) (member words s)

module _ (P : ℕ → Type 0) where
  with_last : (n : ℕ) (words : List ℕ) → n < 512 → AreWordsBelow P n words → P n
      → AreWordsBelow P (suc n) (with_number words n)
  with_last n words lt W here = record {
    size = more_size words n lt W.size;
    numbers = λ s. by s (s == n) refl;
  }
    where
      by : (s : ℕ) (b : Bool) → (s == n) ≡ b
          → IsTrue (has (with_number words n) s) ↔ ((s < suc n) × P s)
      by s true e =
          let same : s ≡ n = eqb-true s n e in
          let is : has (with_number words n) s ≡ true =
          more_numbers words n s lt W.size ∙ ap (λ z. if z then true else has words s) e in
          (λ t. (omega (arith, same), subst P (sym same) here), λ q. is)
      by s false e =
          let is : has (with_number words n) s ≡ has words s =
          more_numbers words n s lt W.size ∙ ap (λ z. if z then true else has words s) e in (
            λ t. let r = (W.numbers s).0 (sym is ∙ t) in (omega (arith, r.0), r.1),
            λ q. is ∙ (W.numbers s).1
                ((let ne : s ≢ n = eqb-false s n e in omega (arith, q.0, ne)), q.1),
          )

  without_last : (n : ℕ) (words : List ℕ) → AreWordsBelow P n words → (P n → ⊥)
      → AreWordsBelow P (suc n) words
  without_last n words W not_here = record {
    size = W.size;
    numbers = λ s. (
      λ t. let r = (W.numbers s).0 t in (omega (arith, r.0), r.1),
      λ q. (W.numbers s).1 (elim (cases_eq s n) [
        | inl same ↦ absurd (not_here (subst P same q.1))
        | inr ne ↦ (omega (arith, q.0, ne), q.1)
      ]),
    );
  }

  a_set_below : (n : ℕ) → n ≤ 512 → NotNot ((words : List ℕ) × AreWordsBelow P n words)
  a_set_below zero le = unrefuted (
    no_words,
    record {
      size = record {
        count = length-replicate {A = ℕ} 8 0;
        each = λ k lt. let e = no_word k in subst (λ z. z < 2 ^ 64) (sym e) (omega arith);
      };
      numbers = λ s. (
        λ t. absurd (false≢true (sym (none_in s) ∙ t)),
        λ q. absurd (omega (arith, q.0)),
      );
    },
  )
  a_set_below (suc n) le =
      a_set_below n (omega arith) >>= (λ (w : (words : List ℕ) × AreWordsBelow P n words).
      mapped
      (⊎_elim
      (λ here. (with_number w.0 n, with_last n w.0 (omega arith) w.1 here))
      (λ not_here. (w.0, without_last n w.0 w.1 not_here)))
      (decided (P n)))

  -- a set of cache sets below 512
  pub a_set : ((s : ℕ) → P s → s < 512) → NotNot ((words : List ℕ) × IsSetOf words P)
  a_set low =
      mapped
      (λ (w : (words : List ℕ) × AreWordsBelow P 512 words). (
        w.0,
        record {
          size = w.1.size;
          numbers = λ s. (λ t. ((w.1.numbers s).0 t).1, λ h. (w.1.numbers s).1 (low s h, h));
        },
      ))
      (a_set_below 512 (omega arith))

-- ---- the accesses of a task

module _ (p : Platform) (I : IsPlatform p) (address : ℕ → ℕ) where
  abbrev uses : Accesses
  uses = accesses p address

  some_sets : 0 < p.sets
  some_sets = let s = I.sets.0 in omega (arith, s)

  few_sets : p.sets ≤ 512
  few_sets = I.sets.1

  low : (y s : ℕ) → uses.set y ≡ s → s < 512
  low y s e = let some = some_sets in let few = few_sets in omega (arith, e, some, few)

  first_set : (s z : ℕ) (nodes : List ℕ) → first_access uses s nodes ≡ Some z → uses.set z ≡ s
  first_set s z [] e = absurd (none_some e)
  first_set s z (x ∷ later) e =
      elim (cases_Bool (uses.set x == s)) [
        | inl b ↦
            let same : x ≡ z = same_Some x z (rw b at e) in
            ap uses.set (sym same) ∙ eqb-true (uses.set x) s b
        | inr b ↦ first_set s z later (rw b at e)
      ]

  block_bits : (x m : ℕ) → address x < 2 ^ 32 → uses.block x ≡ m → m < 2 ^ 32
  block_bits x m lt e = let l = I.line.0 in omega (arith, l, e, lt)

  last_bits : (g : Graph) → ((y : ℕ) → y < g.size → address y < 2 ^ 32) → (s m y : ℕ)
      (before : List ℕ) → IsWalk g (y ∷ before) → last_access uses s before ≡ Some m → m < 2 ^ 32
  last_bits g bits s m y [] walk e = absurd (none_some e)
  last_bits g bits s m y (x ∷ before) walk e =
      elim (cases_Bool (uses.set x == s)) [
        | inl b ↦
            block_bits x m (bits x walk.0.0) (same_Some (uses.block x) m (rw b at e))
        | inr b ↦ last_bits g bits s m x before walk.1 (rw b at e)
      ]

  -- the cache sets that nodes find useful, and that a task evicts and reuses, are below 512
  pub useful_low : (g : Graph) (y s : ℕ) → Useful g uses y s → s < 512
  useful_low g y s u = low u.0 s (first_set s u.0 (y ∷ u.1.later) u.1.first)

  pub ecb_low : (g : Graph) (s : ℕ) → IsEcb g uses s → s < 512
  ecb_low g s e = low e.0 s e.2

  pub ucb_low : (g : Graph) (s : ℕ) → IsUcb g uses s → s < 512
  ucb_low g s u = useful_low g u.0 s u.2

-- ---- the analysis of a task

module _ (p : Platform) (I : IsPlatform p) (t : TaskGraph) (A : IsAnalysable t) where
  abbrev g : Graph
  g = t.graph

  abbrev a : Accesses
  a = accesses p t.places.address

  -- the block that a set unrefuted holds
  sure_one : (y s m x : ℕ) → y < g.size → Sure g a y s m → Sure g a y s x → m ≡ x
  sure_one y s m x lt b c =
      let walk = A.graph.reached y lt in
      same_Some m x (sym (b walk.0 walk.1) ∙ c walk.0 walk.1)

  sure_bits : (y s m : ℕ) → y < g.size → Sure g a y s m → m < 2 ^ 32
  sure_bits y s m lt b =
      let walk = A.graph.reached y lt in
      last_bits p I t.places.address g A.addresses s m y walk.0 walk.1 (b walk.0 walk.1)

  pairs_below : (y : ℕ) → y < g.size → (n : ℕ)
      → NotNot ((pairs : List (ℕ × ℕ)) × ListsSure g a y n pairs)
  pairs_below y lt zero = unrefuted (
    [],
    record {
      each = λ s m below. absurd (omega arith);
      rise = tt;
      blocks = λ k d below. absurd (omega arith);
    },
  )
  pairs_below y lt (suc n) =
      pairs_below y lt n >>= (λ (q : (pairs : List (ℕ × ℕ)) × ListsSure g a y n pairs).
      mapped
      (⊎_elim
      (λ (m : (m : ℕ) × Sure g a y n m). (
        q.0 ++ (n, m.0) ∷ [],
        next n (q.0 ++ (n, m.0) ∷ []) (listed_more g a y n (Some m.0) m.0 q.0 (q.0 ++ (n, m.0) ∷ [])
            (λ x. (
              λ e. subst (Sure g a y n) (same_Some m.0 x e) m.1,
              λ b. ap Some (sure_one y n m.0 x lt m.1 b),
            ))
            refl refl (sure_bits y n m.0 lt m.1) q.1),
      ))
      (λ (none : (m : ℕ) × Sure g a y n m → ⊥). (
        q.0,
        next n q.0 (listed_same g a y n None q.0 q.0
            (λ x. (λ e. absurd (none_some e), λ b. absurd (none (x, b)))) refl refl q.1),
      )))
      (decided ((m : ℕ) × Sure g a y n m)))
    where
      next : (n : ℕ) (new : List (ℕ × ℕ)) → ListsSure g a y (n + 1) new
          → ListsSure g a y (suc n) new
      next n new L = subst (λ k. ListsSure g a y k new) (the n) L
        where
          the : (n : ℕ) → n + 1 ≡ suc n
          the n = omega arith

  abbrev pub AreUsefulWords : List (List ℕ) → Type 0
  AreUsefulWords useful = AreValues (λ y words. IsSetOf words (Useful g a y)) g.size useful

  pub some_useful : NotNot ((useful : List (List ℕ)) × AreUsefulWords useful)
  some_useful =
      a_list (λ y words. IsSetOf words (Useful g a y)) g.size
      (λ y lt. a_set (Useful g a y) (useful_low p I t.places.address g y))

  module _ (useful : List (List ℕ)) (U : AreUsefulWords useful) where
    pub words_at : (y : ℕ) → y < g.size → IsSetOf (sets_at useful y) (Useful g a y)
    words_at = value_at (λ y words. IsSetOf words (Useful g a y)) g.size useful [] U

    pub are_useful : AreUseful g a useful
    are_useful = record { count = U.count; each = λ y s lt. (words_at y lt).numbers s }

    states_below : (n : ℕ) → n ≤ g.size
        → NotNot ((states : List NodeState) × AreLeaderEntries g a n states)
    states_below zero le = unrefuted (
      [],
      record {
        leaders = λ y lt. absurd (omega arith);
        each = λ k d lt. absurd (omega arith);
        rise = tt;
        ranges = λ k d lt. absurd (omega arith);
      },
    )
    states_below (suc n) le =
        states_below n (omega arith)
        >>= (λ (q : (states : List NodeState) × AreLeaderEntries g a n states).
        decided (IsLeader g n) >>= (⊎_elim
        (λ leads. mapped (with_leader q.0 q.1 leads) (pairs_below n (omega arith) p.sets))
        (λ other. unrefuted (q.0, next q.0 (entries_same g a n q.0 A.graph other q.1)))))
      where
        next : (new : List NodeState) → AreLeaderEntries g a (n + 1) new
            → AreLeaderEntries g a (suc n) new
        next new L =
            let e : n + 1 ≡ suc n = omega arith in subst (λ k. AreLeaderEntries g a k new) e L

        with_leader : (states : List NodeState) → AreLeaderEntries g a n states → IsLeader g n
            → (pairs : List (ℕ × ℕ)) × ListsSure g a n p.sets pairs
            → (new : List NodeState) × AreLeaderEntries g a (suc n) new
        with_leader states L leads pairs =
            let words = sets_at useful n in
            let e : NodeState = record { node = n; sure = pairs.0; useful = sets_at useful n } in
            let E : IsStateEntry g a n (sets_at useful n) p.sets e =
            record {
              node = refl;
              sure = pairs.1;
              useful = refl;
              size = (words_at n (omega (arith, le))).size;
            } in
            let some = some_sets p I t.places.address in
            let few = few_sets p I t.places.address in (
              states ++ e ∷ [],
              next (states ++ e ∷ [])
                  (entries_more g a n states (states ++ e ∷ []) e refl refl
                  (best_entry p g t.places.address useful A.graph some few are_useful n
                  (sets_at useful n) e (omega (arith, le)) leads refl E)
                  (entry_ranges p g t.places.address useful A.graph some few are_useful n
                  (sets_at useful n) e E)
                  L),
            )

  -- the parts of an analysis
  module _ (states : List NodeState) (S : AreLeaderEntries g a g.size states)
      (evicting : List ℕ) (E : IsSetOf evicting (IsEcb g a))
      (useful : List ℕ) (U : IsSetOf useful (IsUcb g a))
      (is_hit : ℕ → Bool) (H : CountsSureHits g a is_hit)
      (B : HasBound g t.nest (edge_costs p (node_code_of t) (answering t) is_hit)) where
    abbrev analysis : Analysis
    analysis = record {
      part = record { bound = B.0; evicting = evicting; useful = useful };
      states = states;
      potentials = B.1;
      loops = B.2;
    }

    within : B.0 ≤ 2 ^ 40
    within = subst (λ k. B.0 ≤ k) greatest_is B.3.within

    is_analysis : IsAnalysis p t analysis
    is_analysis = record {
      best = record {
        states = all_entries g a (part_of_analysis analysis) S;
        evicting = E;
        useful = U;
        is_hit = is_hit;
        hits = H;
        potentials = record {
          nodes = B.3.all_nodes;
          regions = B.3.all_loops;
          least = B.3.least;
          bound = λ i item. B.3.first i item;
        };
      };
      within = within;
    }

    keeps_ranges : KeepsRanges analysis
    keeps_ranges name method window response is_name window_le response_le = record {
      bound = let top = within in omega (arith, top);
      loops = record {
        few = let count = B.3.all_loops in let few = A.few_regions in omega (arith, count, few);
        each = B.3.small_loops;
      };
      name = is_name;
      potentials = record {
        few = let count = B.3.all_nodes in let few = A.few in omega (arith, count, few);
        each = B.3.small_nodes;
      };
      response = response_le;
      nodes = rise_wider (λ (s : NodeState). s.node) 0 g.size 16384 states A.few S.rise;
      states = S.ranges;
      window = window_le;
    }

pub an_analysis_exists : AnAnalysisExists
an_analysis_exists p t I A none =
    let g = t.graph in
    let a = accesses p t.places.address in
    some_useful p I t A (λ u.
    states_below p I t A u.0 u.1 t.graph.size (omega arith) (λ s.
    a_set (IsEcb t.graph (accesses p t.places.address)) (ecb_low p I t.places.address t.graph) (λ e.
    a_set (IsUcb t.graph (accesses p t.places.address)) (ucb_low p I t.places.address t.graph) (λ v.
    a_test_below (IsSureHit t.graph (accesses p t.places.address)) t.graph.size (λ h.
    elim (a_bound_exists t.graph t.nest (edge_costs p (node_code_of t) (answering t) h.0) A.graph
    A.nested A.no_cycle A.turns) [
      | inl b ↦
          none (Ok (analysis p I t A s.0 s.1 e.0 e.1 v.0 v.1 h.0 h.1 b)) (
            is_analysis p I t A s.0 s.1 e.0 e.1 v.0 v.1 h.0 h.1 b,
            keeps_ranges p I t A s.0 s.1 e.0 e.1 v.0 v.1 h.0 h.1 b,
          )
      | inr large ↦
          none (Err (bound.TooLarge (t.places.address t.graph.first)))
          ((λ x. cc), (record { is_hit = h.0; hits = h.1; exceeds = large }, refl))
    ])))))
