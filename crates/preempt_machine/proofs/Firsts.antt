-- The first released job in the queue is the first of the ready ones.
use Rattle.std.proofs.Common.{◌≡◌, ℕ, ◌<◌, ◌≤◌, ◌⊎◌, true, false, List, length, Option, Some, None}
use Rattle.std.proofs.Common.{refl, sym, ◌∙◌, ap, subst, inl, inr, arith}
use Rattle.std.specs.Prelude.{MatchOption}
use Rattle.std.proofs.lemmas.Bool.{cases_Bool, cases_lt, cases_eq, false≢true}
use Rattle.std.proofs.lemmas.Bool.Decides.{nat_tests}
use Rattle.std.proofs.Math.ListN.{get_or-map}
use Rattle.std.proofs.lemmas.List.{length-map}
use Rattle.crpd_base.proofs.Options.{some_injective}
use Rattle.crpd_base.specs.declared.data.ScriptJob.{ScriptJob}
use Rattle.preempt_machine.specs.Machine.{Job, job_at, no_job}
use Rattle.preempt_machine.specs.Step.{is_open, is_ready, comes_before, before, first_ready}
use Rattle.preempt_machine.specs.Schedule.{script_line}
use Rattle.preempt_machine.specs.declared.queue.Due.{Due}
use Rattle.preempt_machine.specs.Inner.Queue.{due_at, due_release, due_place, due_task, IsDueBefore}
use Rattle.preempt_machine.specs.Inner.Queue.{IsReleaseOrder, position_at, IsHeadReleased}
use Rattle.preempt_machine.specs.Inner.Queue.{IsFirstReleased, NoneIsReleased}
use Rattle.preempt_machine.specs.Inner.Schedule.{HasTaskHeads, script_lines, IsPast, IsFrom}
use Rattle.preempt_machine.proofs.Order.{IsFirst, IsBest, comes_before_asym, first_ready_is}
use Rattle.preempt_machine.proofs.Steps.{ready_open, ready_released, ready_from}

comes : (a : ScriptJob) (x : ℕ) (b : ScriptJob) (y : ℕ)
    → (a.task.0 < b.task.0)
    ⊎ ((a.task.0 ≡ b.task.0) × ((a.release < b.release) ⊎ ((a.release ≡ b.release) × (x < y))))
    → comes_before a x b y ≡ true
unfolding comes_before
comes a x b y (inl h) = grind (arith, nat_tests)
comes a x b y (inr (e, inl h)) = grind (arith, nat_tests)
comes a x b y (inr (e, inr (f, h))) = grind (arith, nat_tests)

-- the lines of jobs
pub line_is : (jobs : List Job) (x : ℕ) → script_line (script_lines jobs) x ≡ (job_at jobs x).line
line_is jobs x = get_or-map (λ (job : Job). job.line) jobs x no_job

pub lines_long : (jobs : List Job) → length (script_lines jobs) ≡ length jobs
lines_long jobs = length-map jobs (λ (job : Job). job.line)

-- the position of a job in the order of releases
pub position_of : (jobs : List Job) (due : List Due) → IsReleaseOrder (script_lines jobs) due
    → (x : ℕ) → x < length jobs → (r : ℕ) × (r < length due) × (due_place due r ≡ x)
    × (due_release due r ≡ (job_at jobs x).line.release)
position_of jobs due d x below =
    let (r, inside, place) = d.every x (omega (arith, lines_long jobs)) in (
      r,
      inside,
      place,
      d.releases r inside ∙ ap (λ (l : ScriptJob). l.release)
          (ap (script_line (script_lines jobs)) place ∙ line_is jobs x),
    )

-- a released position at which a task's first job waits is that of a ready job
ready_at : (due : List Due) (heads : List (Option ℕ)) (jobs : List Job) (now p : ℕ)
    → IsReleaseOrder (script_lines jobs) due → HasTaskHeads (script_lines jobs) due heads jobs
    → IsHeadReleased due heads now (due_task (script_lines jobs) due p) p
    → is_ready now (job_at jobs (due_place due p)) ≡ true
ready_at due heads jobs now p d w h =
    let release : due_release due p ≡ (job_at jobs (due_place due p)).line.release =
    d.releases p h.inside ∙ ap (λ (l : ScriptJob). l.release) (line_is jobs (due_place due p)) in
    let here : p ≤ p = omega arith in
    ready_from now (job_at jobs (due_place due p))
    (w.open_still p h.inside (subst (λ q. IsFrom q p) (sym h.head) here))
    (omega (arith, h.come))

-- a position that is not before a task's first one: there is one, and it is not later
pub not_past : (head : Option ℕ) (p : ℕ) → (IsPast head p → ⊥)
    → (q : ℕ) × (head ≡ Some q) × (q ≤ p)
not_past None p never = absurd (never tt)
not_past (Some q) p never =
    (q, refl, elim (cases_lt p q) [ inl l ↦ absurd (never l) | inr g ↦ g ])

-- the position of a ready job: not before the first waiting one of its task, which is released too
record StandsAt (due : List Due) (heads : List (Option ℕ)) (lines : List ScriptJob)
    (now x r : ℕ) : Type 0 where
  place : due_place due r ≡ x
  inside : r < length due
  head : ℕ
  waits : head ≤ r
  come : IsHeadReleased due heads now (due_task lines due r) head

earlier_release : (a b : Due) → IsDueBefore a b → a.release ≤ b.release
earlier_release a b (inl h) = omega arith
earlier_release a b (inr h) = omega (arith, h.0)

pub release_le : (lines : List ScriptJob) (due : List Due) (p r : ℕ) → IsReleaseOrder lines due
    → p ≤ r → r < length due → due_release due p ≤ due_release due r
release_le lines due p r d le b =
    elim (cases_eq p r) [
      | inl e ↦ let f = ap (due_release due) e in omega (arith, f)
      | inr ne ↦
          earlier_release (due_at due p) (due_at due r)
          (d.ordered p r (omega arith) b)
    ]

-- a job is released before one time or at another or later, if the jobs below a position are
-- released before the one, and its own job is not released before the other
pub before_or_from : (jobs : List Job) (due : List Due) (count one other : ℕ)
    → IsReleaseOrder (script_lines jobs) due
    → ((p : ℕ) → p < count → due_release due p < one)
    → (count < length due → other ≤ due_release due count) → (x : ℕ) → x < length jobs
    → ((job_at jobs x).line.release < one) ⊎ (other ≤ (job_at jobs x).line.release)
before_or_from jobs due count one other d before next x below =
    let (r, inside, place, release) = position_of jobs due d x below in
    elim (cases_lt r count) [
      | inl l ↦ inl (omega (arith, before r l, release))
      | inr g ↦
          inr (omega (
            arith,
            next (omega arith),
            release_le (script_lines jobs) due count r d g inside,
            release,
          ))
    ]

stands : (due : List Due) (heads : List (Option ℕ)) (jobs : List Job) (now x : ℕ)
    → IsReleaseOrder (script_lines jobs) due → HasTaskHeads (script_lines jobs) due heads jobs
    → x < length jobs → is_ready now (job_at jobs x) ≡ true
    → (r : ℕ) × StandsAt due heads (script_lines jobs) now x r
stands due heads jobs now x d w below ready =
    let (r, inside, place, release) = position_of jobs due d x below in
    let task = due_task (script_lines jobs) due r in
    let (head, is, waits) = not_past (position_at heads task) r (λ past.
    false≢true
    (sym (ap (λ k. is_open (job_at jobs k).standing) (sym place) ∙ w.over r inside past)
    ∙ ready_open now (job_at jobs x) ready)) in (
      r,
      record {
        place = place;
        inside = inside;
        head = head;
        waits = waits;
        come = record {
          head = is;
          inside = omega arith;
          come =
              omega (
                arith,
                release_le (script_lines jobs) due head r d waits inside,
                release,
                ready_released now (job_at jobs x) ready,
              );
        };
      },
    )

-- an earlier position, or one of a higher task, is that of a job that comes before
ahead : (due : List Due) (jobs : List Job) (p r : ℕ) → IsReleaseOrder (script_lines jobs) due
    → p < length due → r < length due
    → (due_task (script_lines jobs) due p < due_task (script_lines jobs) due r)
    ⊎ ((due_task (script_lines jobs) due p ≡ due_task (script_lines jobs) due r)
    × IsDueBefore (due_at due p) (due_at due r))
    → before jobs (due_place due p) (due_place due r) ≡ true
ahead due jobs p r d a b h =
    let task : (q : ℕ) → due_task (script_lines jobs) due q
    ≡ (job_at jobs (due_place due q)).line.task.0 = λ q.
    ap (λ (l : ScriptJob). l.task.0) (line_is jobs (due_place due q)) in
    let release : (q : ℕ) → q < length due
    → due_release due q ≡ (job_at jobs (due_place due q)).line.release = λ q c.
    d.releases q c ∙ ap (λ (l : ScriptJob). l.release) (line_is jobs (due_place due q)) in
    comes (job_at jobs (due_place due p)).line (due_place due p)
    (job_at jobs (due_place due r)).line (due_place due r)
    (elim h [
      | inl l ↦ inl (omega (arith, task p, task r))
      | inr (e, inl l) ↦
          inr (sym (task p) ∙ e ∙ task r, inl (omega (arith, release p a, release r b)))
      | inr (e, inr (f, l)) ↦
          inr (sym (task p) ∙ e ∙ task r, inr (sym (release p a) ∙ f ∙ release r b, l))
    ])

-- the first job of the first task whose first job is released
pub come_is_first : (due : List Due) (heads : List (Option ℕ)) (jobs : List Job) (now place : ℕ)
    → IsReleaseOrder (script_lines jobs) due → HasTaskHeads (script_lines jobs) due heads jobs
    → IsFirstReleased due heads now place → IsFirst now jobs (length jobs) place
come_is_first due heads jobs now place d w f =
    let lines = script_lines jobs in
    let head = f.at in
    let inside = f.come.inside in
    let task : due_task lines due head ≡ f.task = w.head f.task head f.below f.come.head in
    record {
      below =
          subst (λ x. x < length jobs) (sym f.is)
          (omega (arith, d.places head inside, lines_long jobs));
      ready =
          subst (λ x. is_ready now (job_at jobs x) ≡ true) (sym f.is)
          (ready_at due heads jobs now head d w
          (subst (λ t. IsHeadReleased due heads now t head) (sym task) f.come));
      first = λ y b ready.
          let (r, s) = stands due heads jobs now y d w b ready in
          elim (cases_lt (due_task lines due r) f.task) [
            | inl l ↦ absurd (f.before (due_task lines due r) s.head l s.come)
            | inr g ↦ elim (cases_lt f.task (due_task lines due r)) [
              | inl l ↦
                  inr (rw (f.is, sym s.place)
                  (ahead due jobs head r d inside s.inside (inl (omega (arith, task)))))
              | inr k ↦
                  let even : due_task lines due r ≡ f.task = omega arith in
                  let same : s.head ≡ head =
                  some_injective (sym s.come.head ∙ ap (position_at heads) even ∙ f.come.head) in
                  elim (cases_eq head r) [
                    | inl e ↦ inl (sym s.place ∙ ap (due_place due) (sym e) ∙ sym f.is)
                    | inr ne ↦
                        inr (rw (f.is, sym s.place)
                        (ahead due jobs head r d inside s.inside
                        (inr (
                          task ∙ sym even,
                          d.ordered head r (omega (arith, s.waits, same)) s.inside,
                        ))))
                  ]
            ]
          ];
    }

-- if none is released no job is ready
pub none_come : (due : List Due) (heads : List (Option ℕ)) (jobs : List Job) (now : ℕ)
    → IsReleaseOrder (script_lines jobs) due → HasTaskHeads (script_lines jobs) due heads jobs
    → NoneIsReleased due heads now → (x : ℕ) → x < length jobs
    → is_ready now (job_at jobs x) ≡ false
none_come due heads jobs now d w none x below =
    elim (cases_Bool (is_ready now (job_at jobs x))) [
      | inl t ↦
          let (r, s) = stands due heads jobs now x d w below t in
          absurd (none (due_task (script_lines jobs) due r) s.head
          (w.tasks (due_place due r) (d.places r s.inside)) s.come)
      | inr f ↦ f
    ]

-- the first of the ready jobs is the best of them
pub best_is : (now : ℕ) (jobs : List Job) (place : ℕ) → IsFirst now jobs (length jobs) place
    → (best : Option ℕ) → IsBest now jobs (length jobs) best → best ≡ Some place
best_is now jobs place f None h = absurd (false≢true (sym (h place f.below) ∙ f.ready))
best_is now jobs place f (Some i) h =
    elim (h.first place f.below f.ready) [
      | inl e ↦ ap Some (sym e)
      | inr b ↦ elim (f.first i h.below h.ready) [
        | inl e ↦ ap Some e
        | inr k ↦
            absurd (false≢true
            (sym (comes_before_asym (job_at jobs i).line i (job_at jobs place).line place b) ∙ k))
      ]
    ]

best_none : (now : ℕ) (jobs : List Job)
    → ((x : ℕ) → x < length jobs → is_ready now (job_at jobs x) ≡ false) → (best : Option ℕ)
    → IsBest now jobs (length jobs) best → best ≡ None
best_none now jobs none None h = refl
best_none now jobs none (Some i) h = absurd (false≢true (sym (none i h.below) ∙ h.ready))

-- the meaning of the order's first job
pub first_is : (due : List Due) (heads : List (Option ℕ)) (jobs : List Job) (now : ℕ)
    (found : Option ℕ) → IsReleaseOrder (script_lines jobs) due
    → HasTaskHeads (script_lines jobs) due heads jobs
    → MatchOption found (NoneIsReleased due heads now) (IsFirstReleased due heads now)
    → first_ready now jobs (length jobs) ≡ found
first_is due heads jobs now None d w h =
    best_none now jobs (none_come due heads jobs now d w h) _
    (first_ready_is now jobs (length jobs))
first_is due heads jobs now (Some place) d w h =
    best_is now jobs place (come_is_first due heads jobs now place d w h) _
    (first_ready_is now jobs (length jobs))
