-- The first failures of a task's clauses, as the code finds them: definitions that only contracts
-- inside the crate cite.
use Rattle.std.specs.Prelude.{ℕ, ◌≤◌, Result, Ok, Err}
use Rattle.cert_check.specs.declared.outcome.Clause.{Clause}
use Rattle.cert_check.specs.Verdict.{clause_number, IsEarlierClause}

-- of the clauses from one number to another, the first that does not hold
pub record IsFirstFailingWithin (H : Clause → Type 0) (low high : ℕ) (k : Clause) : Type 0 where
  pub from_low : low ≤ clause_number k
  pub to_high : clause_number k ≤ high
  pub fails : H k → ⊥
  pub before : (l : Clause) → low ≤ clause_number l → IsEarlierClause l k → H l

-- all these clauses hold
abbrev pub AllHold : (Clause → Type 0) → ℕ → ℕ → Type 0
AllHold H low high = (k : Clause) → low ≤ clause_number k → clause_number k ≤ high → H k

-- the result of checking these clauses: all hold, or the first failure
abbrev pub IsRangeJudged : (Clause → Type 0) → ℕ → ℕ → Result (Unit {0}) Clause → Type 0
IsRangeJudged H low high (Ok _) = AllHold H low high
IsRangeJudged H low high (Err k) = IsFirstFailingWithin H low high k
