-- A value that is joined in at one node.
use Rattle.std.proofs.Common.{◌≡◌, ◌≢◌, ℕ, ◌<◌, ◌≤◌, ◌⊎◌, [], Option, Some, None, suc, Bool, false}
use Rattle.std.proofs.Common.{IsTrue, refl, sym, ap, ◌∙◌, subst, inl, inr, ⊎_elim, arith}
use Rattle.std.proofs.lemmas.Bool.{cases_eq, cases_lt}
use Rattle.dataflow.specs.Problem.{Problem, IsBelow, HasEdge, IsAtLeast, Solves}
use Rattle.dataflow.specs.Inner.Search.{past_edge, IsLastEdge, IsJoinOfPaths, IsCarried}
use Rattle.dataflow.specs.Inner.Search.{IsPartialSolution, IsPassedOn, AbsorbsAt, absorbed}
use Rattle.dataflow.proofs.Solution.{HasLaws, below_self, below_trans, below_join_left}
use Rattle.dataflow.proofs.Solution.{below_join_right, of_one, of_join, of_passed}

module _ (V : Type 0) (p : Problem V) (laws : HasLaws V p) where
  -- the facts at which paths begin, and all nodes wait
  pub at_start : (facts : ℕ → Option V) (waiting : ℕ → Bool)
      → ((n : ℕ) → n < p.nodes → facts n ≡ p.begins n) → ((n : ℕ) → p.nodes ≤ n → facts n ≡ None)
      → ((n : ℕ) → n < p.nodes → IsTrue (waiting n))
      → IsPartialSolution V p facts waiting (λ k. Unit {0})
  at_start facts waiting begin none all = record {
    sound = λ n v e. ⊎_elim
        (λ (lt : n < p.nodes). of_one V p laws n v ([], lt, sym (begin n lt) ∙ e))
        (λ (ge : p.nodes ≤ n). let no_fact = none n ge in let absent : ⊥ = cc in absurd absent)
        (cases_lt n p.nodes);
    begun = λ n v lt e. (v, begin n lt ∙ e, below_self V p laws v);
    carried = λ k lt _. ⊎_elim
        (λ (own : (p.ends k).0 < p.nodes). inl (all (p.ends k).0 own))
        (λ (ge : p.nodes ≤ (p.ends k).0). let no_fact = none (p.ends k).0 ge in
        inr (λ v e. let absent : ⊥ = cc in absurd absent))
        (cases_lt (p.ends k).0 p.nodes);
  }

  module _ (facts new : ℕ → Option V) (waiting woken : ℕ → Bool) (t : ℕ) (u : V)
      (step : AbsorbsAt V p facts new waiting woken t u) where
    absorbed_over : (o : Option V) (v w : V) → o ≡ Some w → IsBelow p v w
        → IsBelow p v (absorbed p.joined o u)
    absorbed_over None v w e h = cc
    absorbed_over (Some x) v w e h =
        let same : w ≡ x = cc in
        below_trans V p laws v x (p.joined x u) (subst (λ y. IsBelow p v y) same h)
        (below_join_left V p laws x u)

    absorbed_new : (o : Option V) → IsBelow p u (absorbed p.joined o u)
    absorbed_new None = below_self V p laws u
    absorbed_new (Some x) = below_join_right V p laws x u

    pub grows : (n : ℕ) (v : V) → IsAtLeast p (facts n) v → IsAtLeast p (new n) v
    grows n v h = ⊎_elim
        (λ (e : n ≡ t). subst (λ i. IsAtLeast p (new i) v) (sym e) (
          absorbed p.joined (facts t) u,
          step.here,
          absorbed_over (facts t) v h.0 (ap facts (sym e) ∙ h.1) h.2,
        ))
        (λ (ne : n ≢ t). subst (λ o. IsAtLeast p o v) (sym (step.others n ne)) h)
        (cases_eq n t)

    pub woken_or_same : (n : ℕ) → IsTrue (woken n) ⊎ (new n ≡ facts n)
    woken_or_same n = ⊎_elim
        (λ (e : n ≡ t). subst (λ i. IsTrue (woken i) ⊎ (new i ≡ facts i)) (sym e) step.changed)
        (λ (ne : n ≢ t). inr (step.others n ne))
        (cases_eq n t)

    pub still_carried : (k : ℕ) → IsTrue (waiting (p.ends k).0) ⊎ IsCarried p facts k
        → IsTrue (woken (p.ends k).0) ⊎ IsCarried p new k
    still_carried k (inl w) = inl (step.kept (p.ends k).0 w)
    still_carried k (inr c) = ⊎_elim
        (λ (w : IsTrue (woken (p.ends k).0)). inl w)
        (λ (e : new (p.ends k).0 ≡ facts (p.ends k).0).
        inr (λ v is. grows (p.ends k).1 (p.passed (p.ends k).0 (p.ends k).1 v) (c v (sym e ∙ is))))
        (woken_or_same (p.ends k).0)

    pub still_source : (crossed : ℕ → ℕ → V → V) (m : ℕ) (x : V)
        → IsPassedOn V p crossed facts waiting m x → IsPassedOn V p crossed new woken m x
    still_source crossed m x s = record {
      from = s.from;
      passed = s.passed;
      brought = s.brought;
      fresh = ⊎_elim
          (λ (w : IsTrue (waiting m)). inl (step.kept m w))
          (λ (e : facts m ≡ Some s.from). ⊎_elim
          (λ (w : IsTrue (woken m)). inl w)
          (λ (same : new m ≡ facts m). inr (same ∙ e))
          (woken_or_same m))
          s.fresh;
    }

    pub now_carried : (crossed : ℕ → ℕ → V → V) (m k : ℕ) (x : V) → crossed m t x ≡ u
        → p.ends k ≡ (m, t) → IsPassedOn V p crossed facts waiting m x
        → IsTrue (woken (p.ends k).0) ⊎ IsCarried p new k
    unfolding still_source
    now_carried crossed m k x is_u e s =
        let source : (p.ends k).0 ≡ m = ap (λ q. q.0) e in
        let target : (p.ends k).1 ≡ t = ap (λ q. q.1) e in
        let later = still_source crossed m x s in
        ⊎_elim
        (λ (w : IsTrue (woken m)). inl (subst (λ i. IsTrue (woken i)) (sym source) w))
        (λ (is : new m ≡ Some s.from). inr (λ v has.
        let same : v ≡ s.from = let had = ap new source in cc in
        let comes : p.passed (p.ends k).0 (p.ends k).1 v ≡ u =
        ap (λ i. p.passed i (p.ends k).1 v) source ∙ ap (λ i. p.passed m i v) target
        ∙ ap (p.passed m t) same ∙ s.passed t ∙ is_u in (
          absorbed p.joined (facts t) u,
          ap new target ∙ step.here,
          subst (λ x. IsBelow p x (absorbed p.joined (facts t) u)) (sym comes)
              (absorbed_new (facts t)),
        )))
        later.fresh

    absorbed_sound : (o : Option V) → ((v : V) → o ≡ Some v → IsJoinOfPaths V p t v)
        → IsJoinOfPaths V p t u
        → IsJoinOfPaths V p t (absorbed p.joined o u)
    absorbed_sound None sound has = has
    absorbed_sound (Some x) sound has = of_join V p laws t x u (sound x refl) has

    pub still_sound : (crossed : ℕ → ℕ → V → V) (m : ℕ) (x : V) → crossed m t x ≡ u
        → HasEdge p m t → IsPassedOn V p crossed facts waiting m x
        → ((n : ℕ) (v : V) → facts n ≡ Some v → IsJoinOfPaths V p n v)
        → (n : ℕ) (v : V) → new n ≡ Some v → IsJoinOfPaths V p n v
    still_sound crossed m x is_u e s sound n v is = ⊎_elim
        (λ (at_t : n ≡ t).
        let comes : IsJoinOfPaths V p t u =
        subst (λ y. IsJoinOfPaths V p t y) (s.passed t ∙ is_u) (of_passed V p laws m t s.from e s.brought) in
        let same : absorbed p.joined (facts t) u ≡ v = let a = step.here in
        let b = ap new at_t in cc in
        subst (λ i. IsJoinOfPaths V p i v) (sym at_t)
        (subst (λ x. IsJoinOfPaths V p t x) same (absorbed_sound (facts t) (sound t) comes)))
        (λ (ne : n ≢ t). sound n v (sym (step.others n ne) ∙ is))
        (cases_eq n t)

    -- an edge from m is passed, and the one before it is next
    pub stepped : (crossed : ℕ → ℕ → V → V) (m k : ℕ) (x : V) (o : Option ℕ) → crossed m t x ≡ u
        → k < p.edges → p.ends k ≡ (m, t)
        → IsLastEdge p.ends k m o → IsPassedOn V p crossed facts waiting m x
        → IsPartialSolution V p facts waiting (λ j. (p.ends j).0 ≡ m → suc k ≤ j)
        → IsPartialSolution V p new woken (λ j. (p.ends j).0 ≡ m → past_edge o ≤ j)
    stepped crossed m k x o is_u lt e last s way = record {
      sound = still_sound crossed m x is_u (k, lt, e) s way.sound;
      begun = λ n v in_nodes is. grows n v (way.begun n v in_nodes is);
      carried = λ j below done. ⊎_elim
          (λ (here : j ≡ k). subst (λ i. IsTrue (woken (p.ends i).0) ⊎ IsCarried p new i) (sym here)
          (now_carried crossed m k x is_u e s))
          (λ (ne : j ≢ k). still_carried j (way.carried j below (λ of_m. ⊎_elim
          (λ (lower : j < k). let early = last.last j lower of_m in let late = done of_m in
          absurd (omega arith))
          (λ (ge : k ≤ j). omega arith)
          (cases_lt j k))))
          (cases_eq j k);
    }

  -- all edges from m are still to be passed
  pub none_passed : (facts : ℕ → Option V) (waiting : ℕ → Bool) (m : ℕ) (o : Option ℕ)
      → IsLastEdge p.ends p.edges m o
      → IsPartialSolution V p facts waiting (λ j. (p.ends j).0 ≢ m)
      → IsPartialSolution V p facts waiting (λ j. (p.ends j).0 ≡ m → past_edge o ≤ j)
  none_passed facts waiting m o last way = record {
    sound = way.sound;
    begun = way.begun;
    carried = λ j below done. way.carried j below (λ of_m.
        let early = last.last j below of_m in let late = done of_m in omega arith);
  }

  -- a waiting node is taken
  pub taken : (facts : ℕ → Option V) (waiting now : ℕ → Bool) (m : ℕ)
      → ((n : ℕ) → n ≢ m → now n ≡ waiting n)
      → IsPartialSolution V p facts waiting (λ j. Unit {0})
      → IsPartialSolution V p facts now (λ j. (p.ends j).0 ≢ m)
  taken facts waiting now m others way = record {
    sound = way.sound;
    begun = way.begun;
    carried = λ j below ne.
        subst (λ b. IsTrue b ⊎ IsCarried p facts j) (sym (others (p.ends j).0 ne))
        (way.carried j below tt);
  }

  -- and a waiting node without a fact
  pub taken_empty : (facts : ℕ → Option V) (waiting now : ℕ → Bool) (m : ℕ)
      → ((n : ℕ) → n ≢ m → now n ≡ waiting n) → facts m ≡ None
      → IsPartialSolution V p facts waiting (λ j. Unit {0})
      → IsPartialSolution V p facts now (λ j. Unit {0})
  taken_empty facts waiting now m others none way = record {
    sound = way.sound;
    begun = way.begun;
    carried = λ j below _. ⊎_elim
        (λ (e : (p.ends j).0 ≡ m). inr
        (λ v is. let at_m = ap facts e in let absent : ⊥ = cc in absurd absent))
        (λ (ne : (p.ends j).0 ≢ m). (taken facts waiting now m others way).carried j below ne)
        (cases_eq (p.ends j).0 m);
  }

  pub its_source : (crossed : ℕ → ℕ → V → V) (facts : ℕ → Option V) (waiting now : ℕ → Bool)
      (m : ℕ) (v u : V) → ((n : ℕ) → p.passed m n v ≡ crossed m n u) → facts m ≡ Some v
      → IsPartialSolution V p facts waiting (λ j. Unit {0})
      → IsPassedOn V p crossed facts now m u
  its_source crossed facts waiting now m v u passed e way = record {
    from = v;
    passed = passed;
    brought = way.sound m v e;
    fresh = inr e;
  }

  -- no node waits
  pub solved : (facts : ℕ → Option V) (waiting : ℕ → Bool) → ((n : ℕ) → waiting n ≡ false)
      → IsPartialSolution V p facts waiting (λ j. Unit {0}) → Solves V p facts
  solved facts waiting none way = record {
    begun = way.begun;
    carried = λ m n v e is.
        let source : (p.ends e.0).0 ≡ m = ap (λ q. q.0) e.2 in
        let target : (p.ends e.0).1 ≡ n = ap (λ q. q.1) e.2 in
        ⊎_elim
        (λ (w : IsTrue (waiting (p.ends e.0).0)). let no_wait = none (p.ends e.0).0 in
        let w2 : IsTrue false = subst (λ b. IsTrue b) no_wait w in absurd (by_false w2))
        (λ (c : IsCarried p facts e.0).
        subst (λ i. IsAtLeast p (facts i) (p.passed m i v)) target
        (subst (λ i. IsAtLeast p (facts (p.ends e.0).1) (p.passed i (p.ends e.0).1 v)) source
        (c v (ap facts source ∙ is))))
        (way.carried e.0 e.1 tt);
  }
    where
      by_false : IsTrue false → ⊥
      by_false h = cc
