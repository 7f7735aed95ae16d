-- The order of the jobs of a script.
use Rattle.std.proofs.Common.{◌≡◌, ℕ, ◌+◌, ◌<◌, ◌≤◌, ◌≢◌, List, length, Option, Some, None, refl}
use Rattle.std.proofs.Common.{sym, ◌∙◌, ap, subst}
use Rattle.std.proofs.Common.{inl, inr, arith, get_or-set_same, get_or-set_other, length-set}
use Rattle.std.specs.Prelude.{slice_set}
use Rattle.std.proofs.lemmas.Bool.{cases_eq}
use Rattle.crpd_base.specs.declared.data.ScriptJob.{ScriptJob}
use Rattle.preempt_machine.specs.declared.Completion.{Completion}
use Rattle.preempt_machine.specs.Schedule.{completion}
use Rattle.preempt_machine.specs.declared.queue.Due.{Due}
use Rattle.preempt_machine.specs.Inner.Queue.{due_place, due_task, IsFirstAt, IsFirstFrom}
use Rattle.preempt_machine.specs.Inner.Queue.{position_at}
use Rattle.preempt_machine.specs.Inner.Schedule.{open_completion, HasOpened, IsPast, IsFrom}

-- the first position from here
first_here : (lines : List ScriptJob) (due : List Due) (p : ℕ) → p < length due
    → IsFirstAt lines due (due_task lines due p) p p
first_here lines due p h = record {
  from = omega arith;
  inside = h;
  here = refl;
  none = λ r a b. absurd (omega arith);
}

-- the same from one position earlier, of a job of another task
first_earlier : (lines : List ScriptJob) (due : List Due) (t p : ℕ) (found : Option ℕ)
    → due_task lines due p ≢ t → IsFirstFrom lines due t (p + 1) found
    → IsFirstFrom lines due t p found
first_earlier lines due t p None other h = λ r a b.
    elim (cases_eq p r) [
      | inl e ↦ subst (λ z. due_task lines due z ≢ t) e other
      | inr ne ↦ h r (omega arith) b
    ]
first_earlier lines due t p (Some q) other h =
    record {
      from = omega (arith, h.from);
      inside = h.inside;
      here = h.here;
      none = λ r a b. elim (cases_eq p r) [
        | inl e ↦ subst (λ z. due_task lines due z ≢ t) e other
        | inr ne ↦ h.none r (omega arith) b
      ];
    }

-- a position of the task is not before the first one
pub from_first : (lines : List ScriptJob) (due : List Due) (t p r : ℕ) (found : Option ℕ)
    → IsFirstFrom lines due t p found → p ≤ r → r < length due → due_task lines due r ≡ t
    → IsPast found r → ⊥
from_first lines due t p r None h a b e past = h r a b e
from_first lines due t p r (Some q) h a b e past = h.none r a past e

-- the first position and those after it are not before the start
pub start_first : (lines : List ScriptJob) (due : List Due) (t p r : ℕ) (found : Option ℕ)
    → IsFirstFrom lines due t p found → IsFrom found r → p ≤ r
start_first lines due t p r None h late = absurd late
start_first lines due t p r (Some q) h late = omega (arith, h.from)

-- one more position is recorded as open
pub opened_none : (due : List Due) (p : ℕ) (cs : List Completion) → HasOpened due p p cs cs
opened_none due p cs = record {
  long = refl;
  same = λ x. refl;
  those = λ q a b. absurd (omega arith);
  others = λ x h. refl;
}

pub opened_more : (due : List Due) (p q : ℕ) (old cs : List Completion)
    → HasOpened due p q old cs → p ≤ q → due_place due q < length cs
    → HasOpened due p (q + 1) old
    (slice_set cs (due_place due q) (open_completion (completion cs (due_place due q))))
opened_more due p q old cs h le below =
    record {
      long = length-set cs (due_place due q) _ ∙ h.long;
      same = λ x. elim (cases_eq x (due_place due q)) [
        | inl e ↦
            rw e (ap (λ (c : Completion). c.job) (get_or-set_same cs (due_place due q) _ _ below)
            ∙ h.same (due_place due q))
        | inr ne ↦
            ap (λ (c : Completion). c.job) (get_or-set_other cs (due_place due q) x _ _ ne)
            ∙ h.same x
      ];
      those = λ r a b. elim (cases_eq (due_place due r) (due_place due q)) [
        | inl e ↦
            rw e (get_or-set_same cs (due_place due q) _ _ below
            ∙ opens (completion cs (due_place due q)) (completion old (due_place due q))
            (h.same (due_place due q)))
        | inr ne ↦
            get_or-set_other cs (due_place due q) (due_place due r) _ _ ne
            ∙ h.those r a (earlier r b ne)
      ];
      others = λ x none.
          get_or-set_other cs (due_place due q) x _ _ (λ e. none q le (omega arith) (sym e))
          ∙ h.others x (λ r a b. none r a (omega arith));
    }
  where
    opens : (c d : Completion) → c.job ≡ d.job → open_completion c ≡ open_completion d
    opens c d e = rw e refl

    earlier : (r : ℕ) → r < q + 1 → due_place due r ≢ due_place due q → r < q
    earlier r b ne = elim (cases_eq r q) [
      | inl e ↦ absurd (ne (ap (due_place due) e))
      | inr other ↦ omega arith
    ]

-- one more position is linked: it is the first one of its task from here, and the next of its task
-- is the first one so far
pub record AreLinkedFrom (lines : List ScriptJob) (due : List Due) (at : ℕ)
    (later heads : List (Option ℕ)) : Type 0 where
  pub within : at ≤ length due
  pub next : (p : ℕ) → at ≤ p → p < length due
      → IsFirstFrom lines due (due_task lines due p) (p + 1) (position_at later p)
  pub heads_are : (t : ℕ) → t < length heads → IsFirstFrom lines due t at (position_at heads t)

pub linked_more : (lines : List ScriptJob) (due : List Due) (at n t : ℕ)
    (later heads : List (Option ℕ)) → at ≡ n + 1 → t ≡ due_task lines due n → t < length heads
    → length later ≡ length due → AreLinkedFrom lines due at later heads
    → AreLinkedFrom lines due n (slice_set later n (position_at heads t))
    (slice_set heads t (Some n))
linked_more lines due at n t later heads e is below long h =
    record {
      within = omega (arith, h.within);
      next = λ p a b. elim (cases_eq p n) [
        | inl same ↦
            rw same
            (rw (get_or-set_same later n (position_at heads t) None (omega (arith, h.within)))
            (subst (λ (k : ℕ). IsFirstFrom lines due (due_task lines due n) k (position_at heads t))
            e (subst (λ (k : ℕ). IsFirstFrom lines due k at (position_at heads t)) is
            (h.heads_are t below))))
        | inr ne ↦
            subst (λ (k : Option ℕ). IsFirstFrom lines due (due_task lines due p) (p + 1) k)
            (sym (get_or-set_other later n p (position_at heads t) None ne))
            (h.next p (omega arith) b)
      ];
      heads_are = λ u b. elim (cases_eq u t) [
        | inl same ↦
            rw same
            (subst (λ (k : Option ℕ). IsFirstFrom lines due t n k)
            (sym (get_or-set_same heads t (Some n) None below))
            (subst (λ (k : ℕ). IsFirstAt lines due k n n) (sym is)
            (first_here lines due n (omega (arith, h.within)))))
        | inr ne ↦
            subst (λ (k : Option ℕ). IsFirstFrom lines due u n k)
            (sym (get_or-set_other heads t u (Some n) None ne))
            (first_earlier lines due u n (position_at heads u) (λ q. ne (sym (is ∙ q)))
            (subst (λ (k : ℕ). IsFirstFrom lines due u k (position_at heads u)) e
            (h.heads_are u (omega (arith, length-set heads t (Some n))))))
      ];
    }
