-- Failures of clauses, combined.
use Rattle.std.proofs.Common.{◌≡◌, ◌↔◌, ℕ, ◌+◌, ◌<◌, ◌≤◌, Result, Ok, Err, sym, ◌∙◌, subst, inl}
use Rattle.std.proofs.Common.{inr, ⊎_elim, arith, IsErrAnd}
use Rattle.std.proofs.lemmas.Bool.{cases_lt}
use Rattle.cert_check.specs.declared.outcome.Clause.{Clause}
use Rattle.cert_check.specs.declared.outcome.Clause.TheVariants.{Platforms, HasTask, Names, Last}
use Rattle.cert_check.specs.declared.outcome.Clause.TheVariants.{Leaders, NodePotentials}
use Rattle.cert_check.specs.declared.outcome.Clause.TheVariants.{LoopPotentials, Bound, Window}
use Rattle.cert_check.specs.declared.outcome.Clause.TheVariants.{Response, Deadline}
use Rattle.cert_check.specs.Verdict.{clause_number, clause_place, IsEarlierClause}
use Rattle.cert_check.specs.Inner.FirstFailing.{IsFirstFailingWithin, AllHold, IsRangeJudged}
use Rattle.cert_check.specs.Inner.JudgedNodes.{IsFirst}

module _ (H : Clause → Type 0) where
  -- first some clauses, which hold, then those of larger numbers
  pub then_found : (low mid high : ℕ) (r : Result (Unit {0}) Clause) → low ≤ mid + 1 → mid ≤ high
      → AllHold H low mid → IsRangeJudged H (mid + 1) high r → IsRangeJudged H low high r
  then_found low mid high (Ok _) a b first rest = λ k from_low to_high.
      ⊎_elim (λ lt. first k from_low (omega arith)) (λ le. rest k le to_high)
      (cases_lt (clause_number k) (mid + 1))
  then_found low mid high (Err k) a b first rest = record {
    from_low = (let le = rest.from_low in omega (arith, a, le));
    to_high = rest.to_high;
    fails = rest.fails;
    before = λ l from_low earlier.
        ⊎_elim (λ lt. first l from_low (omega arith)) (λ le. rest.before l le earlier)
        (cases_lt (clause_number l) (mid + 1));
  }

  -- a failure among the first
  pub found_first : (low mid high : ℕ) (k : Clause) → mid ≤ high → IsFirstFailingWithin H low mid k
      → IsFirstFailingWithin H low high k
  found_first low mid high k le F =
      record {
        from_low = F.from_low;
        to_high = (let to = F.to_high in omega (arith, to, le));
        fails = F.fails;
        before = F.before;
      }

  -- it is passed on
  pub handed_on : (low high : ℕ) (r : Result (Unit {0}) Clause) (k : Clause)
      → IsErrAnd r (λ l. l ≡ k) → IsFirstFailingWithin H low high k → IsRangeJudged H low high r
  handed_on low high (Ok _) k h F = absurd h
  handed_on low high (Err l) k h F = subst (IsFirstFailingWithin H low high) (sym h) F

  -- the first of its number fails
  pub fails_first : (k : Clause) → clause_place k ≡ 0 → (H k → ⊥)
      → IsFirstFailingWithin H (clause_number k) (clause_number k) k
  fails_first k zero_place fails = record {
    from_low = omega arith;
    to_high = omega arith;
    fails = fails;
    before = λ l low earlier.
        ⊎_elim (λ less. absurd (omega (arith, low, less)))
        (λ same. absurd (let b = same.1 in omega (arith, zero_place, b))) earlier;
  }

  -- a later one fails, and the earlier ones hold
  pub fails_later : (k : Clause)
      → ((l : Clause) → clause_number l ≡ clause_number k → clause_place l < clause_place k → H l)
      → (H k → ⊥)
      → IsFirstFailingWithin H (clause_number k) (clause_number k) k
  fails_later k earlier_hold fails = record {
    from_low = omega arith;
    to_high = omega arith;
    fails = fails;
    before = λ l low earlier.
        ⊎_elim (λ less. absurd (omega (arith, low, less)))
        (λ same. earlier_hold l same.0 same.1) earlier;
  }

  -- the clauses of the platform, the tasks and the names
  pub names_hold : H Platforms → H HasTask → H Names → H Last → AllHold H 1 1
  names_hold p t n z Platforms low high = p
  names_hold p t n z HasTask low high = t
  names_hold p t n z Names low high = n
  names_hold p t n z Last low high = z
  names_hold p t n z k low high = absurd (omega (arith, low, high))

  pub names_before : (n : ℕ) → (0 < n → H Platforms) → (1 < n → H HasTask) → (2 < n → H Names)
      → n ≤ 3 → (l : Clause) → clause_number l ≡ 1 → clause_place l < n → H l
  names_before n p t m le Platforms e lt = p lt
  names_before n p t m le HasTask e lt = t lt
  names_before n p t m le Names e lt = m lt
  names_before n p t m le Last e lt = absurd (omega (arith, le, lt))
  names_before n p t m le k e lt = absurd (omega (arith, e))

  -- those of what is listed
  pub lists_hold : H Leaders → H NodePotentials → H LoopPotentials → AllHold H 2 2
  lists_hold a b d Leaders low high = a
  lists_hold a b d NodePotentials low high = b
  lists_hold a b d LoopPotentials low high = d
  lists_hold a b d k low high = absurd (omega (arith, low, high))

  pub lists_before : (n : ℕ) → (0 < n → H Leaders) → (1 < n → H NodePotentials) → n ≤ 2
      → (l : Clause) → clause_number l ≡ 2 → clause_place l < n → H l
  lists_before n a b le Leaders e lt = a lt
  lists_before n a b le NodePotentials e lt = b lt
  lists_before n a b le LoopPotentials e lt = absurd (omega (arith, le, lt))
  lists_before n a b le k e lt = absurd (omega (arith, e))

  -- the bound's, the window's, and those of the response
  pub bound_holds : H Bound → AllHold H 7 7
  bound_holds h Bound low high = h
  bound_holds h k low high = absurd (omega (arith, low, high))

  pub window_holds : H Window → AllHold H 8 8
  window_holds h Window low high = h
  window_holds h k low high = absurd (omega (arith, low, high))

  pub response_holds : H Response → H Deadline → AllHold H 9 9
  response_holds h d Response low high = h
  response_holds h d Deadline low high = d
  response_holds h d k low high = absurd (omega (arith, low, high))

  pub response_before : H Response → (l : Clause) → clause_number l ≡ 9 → clause_place l < 1 → H l
  response_before h Response e lt = h
  response_before h Deadline e lt = absurd (omega (arith, lt))
  response_before h k e lt = absurd (omega (arith, e))

-- a fact of the nodes is what the clauses of a number state
pub record IsOfNodes (H : Clause → Type 0) (P : ℕ → Type 0) (C : ℕ → Clause)
    (n size : ℕ) : Type 0 where
  pub number : (u : ℕ) → clause_number (C u) ≡ n
  pub place : (u : ℕ) → clause_place (C u) ≡ u
  pub only : (l : Clause) → clause_number l ≡ n → C (clause_place l) ≡ l
  pub to : (u : ℕ) → u < size → P u → H (C u)
  pub past : (u : ℕ) → size ≤ u → H (C u)
  pub back : (u : ℕ) → u < size → H (C u) → P u

module _ (H : Clause → Type 0) (P : ℕ → Type 0) (C : ℕ → Clause) (n size : ℕ)
    (X : IsOfNodes H P C n size) where
  -- it fails at the smallest node
  pub node_fails : (least : ℕ) → IsFirst P size least → IsFirstFailingWithin H n n (C least)
  node_fails least L = record {
    from_low = (let e = X.number least in omega (arith, e));
    to_high = (let e = X.number least in omega (arith, e));
    fails = λ h. L.fails (X.back least L.within h);
    before = λ l low earlier. ⊎_elim
        (λ less. absurd (let e = X.number least in omega (arith, e, low, less)))
        (λ same.
        let b = same.1 in
        let p = X.place least in
        let w = L.within in
        let before : clause_place l < least = omega (arith, b, p) in
        subst H (X.only l (same.0 ∙ X.number least))
        (X.to (clause_place l) (omega (arith, before, w)) (L.holds (clause_place l) before)))
        earlier;
  }

  -- and at no node, if it holds at each
  pub nodes_hold : ((u : ℕ) → u < size → P u) → AllHold H n n
  nodes_hold all k low high =
      subst H (X.only k (omega (arith, low, high)))
      (⊎_elim (λ lt. X.to (clause_place k) lt (all (clause_place k) lt))
      (λ le. X.past (clause_place k) le) (cases_lt (clause_place k) size))

not_later : (l k : Clause) → IsEarlierClause l k → clause_number l ≤ clause_number k
not_later l k (inl lt) = omega (arith, lt)
not_later l k (inr e) = (let same = e.0 in omega (arith, same))

-- equivalent clauses
pub found_as : (H K : Clause → Type 0) (low high : ℕ) (r : Result (Unit {0}) Clause)
    → ((k : Clause) → low ≤ clause_number k → clause_number k ≤ high → H k ↔ K k)
    → IsRangeJudged H low high r
    → IsRangeJudged K low high r
found_as H K low high (Ok _) same F = λ k a b. (same k a b).0 (F k a b)
found_as H K low high (Err k) same F = record {
  from_low = F.from_low;
  to_high = F.to_high;
  fails = λ h. F.fails ((same k F.from_low F.to_high).1 h);
  before = λ l a e.
      (same l a (let le = not_later l k e in let to = F.to_high in omega (arith, le, to))).0
      (F.before l a e);
}

-- every clause has a number from 1 to 9
pub numbers : (l : Clause) → (1 ≤ clause_number l) × (clause_number l ≤ 9)
numbers Platforms = (omega arith, omega arith)
numbers l = (omega arith, omega arith)
