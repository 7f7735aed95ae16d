-- If there are windows by the plain delays, there are windows, none of them longer.
use Rattle.std.proofs.Common.{◌≡◌, ℕ, zero, suc, ◌+◌, ◌<◌, ◌≤◌, inl, inr, List, [], ◌∷◌, ◌++◌}
use Rattle.std.proofs.Common.{length, refl, sym, subst, arith, length-append}
use Rattle.std.proofs.lemmas.Bool.{cases_eq}
use Rattle.crpd_base.specs.declared.data.TaskSet.{TaskSet}
use Rattle.crpd_base.specs.declared.data.Part.{Part}
use Rattle.crpd_base.specs.declared.data.Method.{Method}
use Rattle.crpd_base.specs.declared.data.Method.TheVariants.{Ucb, Ecb}
use Rattle.crpd_base.specs.Tasks.{HasTimes}
use Rattle.delay_count.specs.Demand.{demand}
use Rattle.response.specs.declared.choice.Choice.{Choice}
use Rattle.response.specs.Windows.{HasNoWindow, IsSmallerWindow, AreAllChoices, chosen_window}
use Rattle.response.specs.Windows.{chosen_method, AreChoices}
use Rattle.response.proofs.WindowLaws.{smaller_is_window, smaller_or_none, smaller_within}
use Rattle.response.proofs.Choices.{choices_more, window_before, window_last}
use Rattle.response.proofs.Least.{looks_above}
use Rattle.delay_classic.specs.Demand.{classic_demand, classic_demands}
use Rattle.delay_classic.specs.Laws.{HasShorter, WindowsWithin}
use Rattle.delay_classic.proofs.Within.{demand_within}

-- a smaller window, which is at most v
record HasSmaller (set : TaskSet) (parts : ℕ → Part) (longest window : ℕ → ℕ)
    (i v : ℕ) : Type 0 where
  choice : Choice
  is : IsSmallerWindow set (demand set parts longest window i) i choice.method choice.window
  within : choice.window ≤ v

-- there is a smaller window if there is one by the plain delays
has_smaller : (set : TaskSet) (parts : ℕ → Part) (longest window : ℕ → ℕ) (i : ℕ) (method : Method)
    (v : ℕ) → IsSmallerWindow set (classic_demand set parts longest i) i method v
    → HasSmaller set parts longest window i v
has_smaller set parts longest window i method v S =
    let W = smaller_is_window set (classic_demand set parts longest i) i method v S in
    let some = W.some in
    let in_deadline = W.in_deadline in
    let d = demand_within set parts longest window i method v in
    let e = W.enough in
    let fits : demand set parts longest window i method v ≤ v = omega (arith, d, e) in
    elim (smaller_or_none set (demand set parts longest window i) i) [
      | inl c ↦ record {
        choice = c.0;
        is = c.1;
        within =
            smaller_within set (demand set parts longest window i) i c.0.method method v c.0.window
            c.1 some fits in_deadline;
      }
      | inr none ↦
          absurd (let over = by_method none.0 none.1 method v some in_deadline in
          omega (arith, fits, over))
    ]
  where
    by_method : HasNoWindow set (demand set parts longest window i Ucb) i
        → HasNoWindow set (demand set parts longest window i Ecb) i → (m : Method)
        → HasNoWindow set (demand set parts longest window i m) i
    by_method u e Ucb = u
    by_method u e Ecb = e

module _ (set : TaskSet) (parts : ℕ → Part) (longest : ℕ → ℕ) (classic : List Choice)
    (times : HasTimes set)
    (answer : AreAllChoices set (classic_demands set parts longest) classic) where
  -- the choices of the first tasks
  record HasFirst (n : ℕ) : Type 0 where
    choices : List Choice
    size : length choices ≡ n
    each : AreChoices set (demand set parts longest) choices n
    shorter : (k : ℕ) → k < n → chosen_window choices k ≤ chosen_window classic k

  one_more : (n : ℕ) → n < length set.tasks → HasFirst n → HasFirst (suc n)
  one_more n l first =
      let s : HasSmaller set parts longest (chosen_window first.choices) n
      (chosen_window classic n) =
      has_smaller set parts longest (chosen_window first.choices) n (chosen_method classic n)
      (chosen_window classic n) (answer.each n l) in
      record {
        choices = first.choices ++ s.choice ∷ [];
        size = let e = first.size in simp length-append (omega (arith, e));
        each = λ k h.
            choices_more first.choices s.choice n first.size set (demand set parts longest)
            (chosen_window first.choices)
            (looks_above set parts longest (n + 1) times (omega (arith, l)))
            (λ q m. refl) first.each s.is k (omega arith);
        shorter = λ k h.
            elim (cases_eq k n) [
              | inl e ↦
                  subst (λ x. chosen_window (first.choices ++ s.choice ∷ []) x
                  ≤ chosen_window classic x)
                  (sym e)
                  (let q = window_last first.choices s.choice n first.size in let w = s.within in
                  omega (arith, q, w))
              | inr ne ↦
                  let before = window_before first.choices s.choice n first.size k (omega arith) in
                  let w = first.shorter k (omega arith) in
                  omega (arith, before, w)
            ];
      }

  first : (n : ℕ) → n ≤ length set.tasks → HasFirst n
  first zero l = record {
    choices = [];
    size = refl;
    each = λ k h. absurd (omega arith);
    shorter = λ k h. absurd (omega arith);
  }
  first (suc n) l = one_more n (omega arith) (first n (omega arith))

  has_shorter : HasShorter set parts longest classic
  has_shorter =
      let all = first (length set.tasks) (omega arith) in
      record {
        choices = all.choices;
        answer = record { tasks = all.size; each = all.each };
        shorter = all.shorter;
      }

pub windows_within : WindowsWithin
windows_within set parts longest classic times answer =
    has_shorter set parts longest classic times answer
