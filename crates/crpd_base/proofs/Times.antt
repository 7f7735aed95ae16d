-- A task set within its ranges has times within theirs.
use Rattle.std.proofs.Common.{ℕ, zero, suc, ◌<◌, ◌≤◌, List, [], ◌∷◌, length, map, get_or, All, ◌≡◌}
use Rattle.std.proofs.Common.{sym, ◌∙◌, ap, None, arith, ◌^◌}
use Rattle.std.proofs.lemmas.List.{get_or-map}
use Rattle.crpd_base.specs.Ranges.{IsTaskSpec, IsTaskSet}
use Rattle.crpd_base.specs.Tasks.{HasTimes, period_of, jitter_of, deadline_of}
use Rattle.crpd_base.specs.declared.data.Place.TheVariants.{Number}
use Rattle.crpd_base.specs.declared.data.TaskSpec.{TaskSpec}
use Rattle.crpd_base.specs.declared.data.TaskSet.{TaskSet}

-- a relation of two numbers of each element, by its place
mapped : {X : Type 0} (P : X → Type 0) (f g : X → ℕ) (Q : ℕ → ℕ → Type 0) (xs : List X) → All P xs
    → ((x : X) → P x → Q (f x) (g x)) → (k : ℕ) → k < length xs
    → Q (get_or (map f xs) k 0) (get_or (map g xs) k 0)
mapped P f g Q [] all h k lt = absurd (omega arith)
mapped P f g Q (x ∷ xs) all h zero lt = h x (all 0 x (omega arith))
mapped P f g Q (x ∷ xs) all h (suc k) lt =
    mapped P f g Q xs (λ j d j_lt. all (suc j) d (omega arith)) h k (omega arith)

pub has_times : (set : TaskSet) → IsTaskSet set → HasTimes set
has_times set S = record {
  tasks = S.few;
  period = λ k lt.
      mapped IsTaskSpec (λ (t : TaskSpec). t.period) (λ (t : TaskSpec). t.period)
      (λ x y. 1 ≤ x) set.tasks S.each (λ t h. h.period.0) k lt;
  longest = λ k lt.
      mapped IsTaskSpec (λ (t : TaskSpec). t.period) (λ (t : TaskSpec). t.period)
      (λ x y. x ≤ 2 ^ 40) set.tasks S.each (λ t h. h.period.1) k lt;
  deadline = λ k lt.
      mapped IsTaskSpec (λ (t : TaskSpec). t.deadline) (λ (t : TaskSpec). t.period)
      (λ x y. x ≤ y) set.tasks S.each (λ t h. h.deadline.1) k lt;
  jitter = λ k lt.
      mapped IsTaskSpec (λ (t : TaskSpec). t.jitter) (λ (t : TaskSpec). t.jitter)
      (λ x y. x ≤ 2 ^ 40) set.tasks S.each (λ t h. h.jitter) k lt;
}

-- the period of a task that was read from the set
pub period_is : (set : TaskSet) (k : ℕ) (x : TaskSpec) → k < length set.tasks
    → x ≡ get_or set.tasks k x → period_of set k ≡ x.period
period_is set k x h e =
    get_or-map (λ (t : TaskSpec). t.period) set.tasks k x 0 h
    ∙ ap (λ (t : TaskSpec). t.period) (sym e)

-- the jitter of a task that was read from the set
pub jitter_is : (set : TaskSet) (k : ℕ) (x : TaskSpec) → k < length set.tasks
    → x ≡ get_or set.tasks k x → jitter_of set k ≡ x.jitter
jitter_is set k x h e =
    get_or-map (λ (t : TaskSpec). t.jitter) set.tasks k x 0 h
    ∙ ap (λ (t : TaskSpec). t.jitter) (sym e)

-- the deadline of a task that was read from the set
pub deadline_is : (set : TaskSet) (k : ℕ) (x : TaskSpec) → k < length set.tasks
    → x ≡ get_or set.tasks k x → deadline_of set k ≡ x.deadline
deadline_is set k x h e =
    get_or-map (λ (t : TaskSpec). t.deadline) set.tasks k x 0 h
    ∙ ap (λ (t : TaskSpec). t.deadline) (sym e)

-- an empty task, which a look-up past the end of a set gives
pub no_task : TaskSpec
no_task = record {
  name = [];
  file = [];
  entry = None;
  period = 0;
  deadline = 0;
  jitter = 0;
  stack = Number 0;
  global = Number 0;
  loops = [];
}
