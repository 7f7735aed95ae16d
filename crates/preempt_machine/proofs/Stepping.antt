-- What a step leaves of the order and of the completions.
use Rattle.std.proofs.Common.{◌≡◌, ℕ, suc, ◌+◌, ◌<◌, ◌≤◌, ◌≢◌, Bool, true, false, List, length}
use Rattle.std.proofs.Common.{Option, Some, None, refl, sym, ◌∙◌, ap, subst, inl, inr, arith}
use Rattle.std.proofs.Common.{get_or-set_same, get_or-set_other, length-set}
use Rattle.std.specs.Prelude.{nat_le, option_and_then}
use Rattle.std.proofs.Math.Seq.{map-set_same}
use Rattle.std.proofs.lemmas.Bool.{cases_Bool, cases_eq, cases_lt, false≢true}
use Rattle.std.proofs.lemmas.Bool.Decides.{nat_tests}
use Rattle.crpd_base.proofs.Options.{some_injective}
use Rattle.crpd_base.specs.declared.data.JobId.{JobId}
use Rattle.crpd_base.specs.declared.data.ScriptJob.{ScriptJob}
use Rattle.preempt_machine.specs.declared.Completion.{Completion}
use Rattle.preempt_machine.specs.declared.End.TheVariants as «end»
use Rattle.preempt_machine.specs.Machine.{System, Standing, Open, Answered, Faulted, Job, Machine}
use Rattle.preempt_machine.specs.Machine.{job_at, no_job, number_in_script}
use Rattle.preempt_machine.specs.Step.{is_open, candidate, makes_fetch, step, step_by, turn_of}
use Rattle.preempt_machine.specs.Candidate.{release_of}
use Rattle.preempt_machine.specs.Safe.{end_by}
use Rattle.preempt_machine.specs.Jobs.{end_of_standing}
use Rattle.preempt_machine.specs.Running.{job_id, completion_at}
use Rattle.preempt_machine.specs.Schedule.{script_line, completion}
use Rattle.preempt_machine.specs.declared.queue.Due.{Due}
use Rattle.preempt_machine.specs.Inner.Queue.{due_place, due_task, IsReleaseOrder, IsFirstAt}
use Rattle.preempt_machine.specs.Inner.Queue.{IsFirstFrom, position_at, IsLinked, IsUpTo, HasHead}
use Rattle.preempt_machine.specs.Inner.Queue.{heads_without}
use Rattle.preempt_machine.specs.Inner.Schedule.{HasTaskHeads, open_completion, HasOpened}
use Rattle.preempt_machine.specs.Inner.Schedule.{script_lines, IsOwner, IsHead, IsRepresented}
use Rattle.preempt_machine.specs.Inner.Schedule.{AreReleased, heads_after, completions_after}
use Rattle.preempt_machine.specs.Inner.Schedule.{IsPast, IsFrom}
use Rattle.preempt_machine.proofs.Candidates.{open_is}
use Rattle.preempt_machine.proofs.Firsts.{line_is, release_le, position_of}
use Rattle.preempt_machine.proofs.ReleaseOrder.{from_first, start_first}
use Rattle.preempt_machine.proofs.Steps.{cache_after, candidate_some, ready_open, ready_released}
use Rattle.preempt_machine.proofs.Steps.{step_length, step_line, step_other, step_time}
use Rattle.preempt_machine.proofs.Steps.{turned_cache, turned_line}

-- lines stay
lines_by : (sys : System) (m : Machine) (c : Option ℕ)
    → script_lines (step_by sys m c).jobs ≡ script_lines m.jobs
lines_by sys m None = refl
lines_by sys m (Some i) =
    map-set_same (λ (job : Job). job.line) m.jobs i _ no_job
    (turned_line sys m.time (turn_of sys m i))

pub lines_stay : (sys : System) (m : Machine) → script_lines (step sys m).jobs ≡ script_lines m.jobs
lines_stay sys m = lines_by sys m (candidate sys m)

id_by : List ScriptJob → ScriptJob → ℕ → JobId
id_by lines line x = record {
  task = record { 0 = line.task.0 };
  number = number_in_script lines line.task.0 x;
}

pub id_stays : (sys : System) (m : Machine) (x : ℕ) → job_id (step sys m) x ≡ job_id m x
unfolding id_by
id_stays sys m x =
    ap (λ (lines : List ScriptJob). id_by lines (job_at (step sys m).jobs x).line x)
    (lines_stay sys m)
    ∙ ap (λ (line : ScriptJob). id_by (script_lines m.jobs) line x) (step_line sys m x)

-- ends at the next time
end_later : (time release : ℕ) (s : Standing) → release < time
    → end_by time release s ≡ end_by (suc time) release s
end_later time release Open h =
    let a : nat_le time release ≡ false = grind (arith, nat_tests) in
    let b : nat_le (suc time) release ≡ false = grind (arith, nat_tests) in
    rw (a, b) refl
end_later time release (Answered t) h = refl
end_later time release Faulted h = refl

end_now : (time release : ℕ) → release ≤ time → «end».Open ≡ end_by (suc time) release Open
end_now time release h =
    let b : nat_le (suc time) release ≡ false = grind (arith, nat_tests) in rw b refl

end_waits : (time release : ℕ) → suc time ≤ release
    → end_by time release Open ≡ end_by (suc time) release Open
end_waits time release h =
    let a : nat_le time release ≡ true = grind (arith, nat_tests) in
    let b : nat_le (suc time) release ≡ true = grind (arith, nat_tests) in
    rw (a, b) refl

end_over : (time release : ℕ) (s : Standing) → is_open s ≡ false
    → end_of_standing s ≡ end_by time release s
end_over time release Open o = absurd (false≢true (sym o))
end_over time release (Answered t) o = refl
end_over time release Faulted o = refl

-- no job has two positions
pub apart : (lines : List ScriptJob) (due : List Due) (p r : ℕ) → IsReleaseOrder lines due
    → p < r → r < length due → due_place due p ≢ due_place due r
apart lines due p r d a b e =
    elim (d.ordered p r a b) [
      | inl l ↦ let same =
          d.releases p (omega arith) ∙ ap (λ x. (script_line lines x).release) e
          ∙ sym (d.releases r b) in omega (arith, same)
      | inr (f, l) ↦ omega (arith, e)
    ]

-- the releases of a step
pub up_to_next : (lines : List ScriptJob) (due : List Due) (time from to : ℕ)
    (cs new : List Completion) → IsReleaseOrder lines due → IsUpTo due time from
    → AreReleased due time from to cs new → IsUpTo due (suc time) to
up_to_next lines due time from to cs new d h r =
    record {
      within = r.within h.within;
      before = λ p a. elim (cases_lt p from) [
        | inl l ↦ omega (arith, h.before p l)
        | inr g ↦ omega (arith, r.come p g a)
      ];
      after = λ p a b. omega (arith, r.wait (omega arith), release_le lines due to p d a b);
    }

-- a record of completions at a time, by the standings of a state
abbrev pub told_at : Machine → ℕ → ℕ → Completion
told_at m time x = record {
  job = job_id m x;
  «end» = end_by time (release_of m x) (job_at m.jobs x).standing;
}

pub told_next : (m : Machine) (due : List Due) (from to : ℕ) (cs new : List Completion)
    → IsReleaseOrder (script_lines m.jobs) due → IsUpTo due m.time from → IsUpTo due (suc m.time) to
    → ((x : ℕ) → x < length m.jobs → is_open (job_at m.jobs x).standing ≡ false
    → (job_at m.jobs x).line.release < m.time) → HasOpened due from to cs new
    → ((x : ℕ) → x < length m.jobs → completion cs x ≡ completion_at m x) → (x : ℕ)
    → x < length m.jobs → completion new x ≡ told_at m (suc m.time) x
told_next m due from to cs new d h k over o told x below =
    let (r, inside, place, release) = position_of m.jobs due d x below in
    let s = (job_at m.jobs x).standing in
    let job = job_id m x in
    elim (cases_lt r from) [
      | inl l ↦
          let same = o.others x (λ p a b e.
          apart (script_lines m.jobs) due r p d (omega arith) (omega (arith, k.within))
          (place ∙ sym e)) in
          same ∙ told x below ∙ ap (λ e. record { job = job; «end» = e })
          (end_later m.time (release_of m x) s (omega (arith, h.before r l, release)))
      | inr g ↦
          let late : m.time ≤ release_of m x = omega (arith, h.after r g inside, release) in
          let opening : s ≡ Open = elim (cases_Bool (is_open s)) [
            | inl t ↦ open_is s t
            | inr f ↦ absurd (omega (arith, over x below f))
          ] in
          elim (cases_lt r to) [
            | inl l ↦
                let opens = subst (λ y. completion new y ≡ open_completion (completion cs y)) place
                (o.those r g l) in
                opens ∙ ap open_completion (told x below)
                ∙ ap (λ e. record { job = job; «end» = e })
                (end_now m.time (release_of m x) (omega (arith, k.before r l, release))
                ∙ ap (end_by (suc m.time) (release_of m x)) (sym opening))
            | inr z ↦
                let same = o.others x (λ p a b e.
                apart (script_lines m.jobs) due p r d (omega arith) inside (e ∙ sym place)) in
                same ∙ told x below
                ∙ ap (λ e. record { job = job; «end» = e })
                (ap (end_by m.time (release_of m x)) opening
                ∙ end_waits m.time (release_of m x) (omega (arith, k.after r z inside, release))
                ∙ ap (end_by (suc m.time) (release_of m x)) (sym opening))
          ]
    ]

-- the completions once a job's turn is recorded: those of the jobs after it
pub told_turn : (m : Machine) (jobs : List Job) (i : ℕ) (cs : List Completion) → i < length m.jobs
    → length cs ≡ length m.jobs → (job_at m.jobs i).standing ≡ Open
    → ((x : ℕ) → x ≢ i → job_at jobs x ≡ job_at m.jobs x)
    → ((x : ℕ) → x < length m.jobs → completion cs x ≡ told_at m (suc m.time) x) → (x : ℕ)
    → x < length m.jobs → completion (completions_after jobs cs i) x ≡ record {
      job = job_id m x;
      «end» = end_by (suc m.time) (release_of m x) (job_at jobs x).standing;
    }
told_turn m jobs i cs inside long opening same told x below =
    let give : Standing → Completion = λ s. record {
      job = job_id m x;
      «end» = end_by (suc m.time) (release_of m x) s;
    } in
    elim (cases_Bool (is_open (job_at jobs i).standing)) [
      | inl t ↦ rw t (told x below ∙ ap give (elim (cases_eq x i) [
        | inl e ↦ rw e (opening ∙ sym (open_is (job_at jobs i).standing t))
        | inr ne ↦ ap (λ (j : Job). j.standing) (sym (same x ne))
      ]))
      | inr f ↦ rw f (elim (cases_eq x i) [
        | inl e ↦
            rw e
            (get_or-set_same cs i _ _ (omega (arith, long))
            ∙ ap (λ (c : Completion). record {
              job = c.job;
              «end» = end_of_standing (job_at jobs i).standing;
            }) (told i inside)
            ∙ ap (λ z. record { job = job_id m i; «end» = z })
            (end_over (suc m.time) (release_of m i) (job_at jobs i).standing f))
        | inr ne ↦
            get_or-set_other cs i x _ _ ne ∙ told x below
            ∙ ap give (ap (λ (j : Job). j.standing) (sym (same x ne)))
      ])
    ]

-- the order once a job's turn is recorded
pub waits_on : (lines : List ScriptJob) (due : List Due) (heads : List (Option ℕ))
    (jobs new : List Job)
    → ((x : ℕ) → is_open (job_at new x).standing ≡ is_open (job_at jobs x).standing)
    → HasTaskHeads lines due heads jobs → HasTaskHeads lines due heads new
waits_on lines due heads jobs new same w =
    record {
      tasks = w.tasks;
      inside = w.inside;
      head = w.head;
      over = λ p a b. same (due_place due p) ∙ w.over p a b;
      open_still = λ p a b. same (due_place due p) ∙ w.open_still p a b;
    }

pub waits_over : (lines : List ScriptJob) (due : List Due) (later heads : List (Option ℕ))
    (jobs new : List Job) (i : ℕ) → lines ≡ script_lines jobs → IsReleaseOrder lines due
    → IsLinked lines due later → IsHead jobs due heads i
    → ((x : ℕ) → x ≢ i → job_at new x ≡ job_at jobs x) → is_open (job_at new i).standing ≡ false
    → HasTaskHeads lines due heads jobs
    → HasTaskHeads lines due (heads_without later heads (job_at jobs i).line.task.0) new
waits_over lines due later heads jobs new i eq d k h same over w =
    let t = (job_at jobs i).line.task.0 in
    let head = h.first.at in
    let first : position_at heads t ≡ Some head = h.first.head in
    let inside = h.first.inside in
    let next = position_at later head in
    let new_heads = heads_without later heads t in
    let value = option_and_then (position_at later) (position_at heads t) in
    let task : due_task lines due head ≡ t =
    ap (λ (l : ScriptJob). l.task.0)
    (ap (λ (ls : List ScriptJob). script_line ls (due_place due head)) eq
    ∙ line_is jobs (due_place due head) ∙ ap (λ x. (job_at jobs x).line) h.first.is) in
    let below : t < length heads = subst (λ n. n < length heads) task
    (w.tasks (due_place due head) (d.places head inside)) in
    let link : IsFirstFrom lines due t (head + 1) next =
    subst (λ n. IsFirstFrom lines due n (head + 1) next) task (k.next head inside) in
    let at : position_at new_heads t ≡ next = get_or-set_same heads t value None below
    ∙ ap (option_and_then (position_at later)) first in
    let away : (u : ℕ) → u ≢ t → position_at new_heads u ≡ position_at heads u = λ u ne.
    get_or-set_other heads t u value None ne in
    let at_task : (u : ℕ) → u ≡ t → position_at new_heads u ≡ next = λ u e.
    ap (position_at new_heads) e ∙ at in
    let was : (u : ℕ) → u ≡ t → position_at heads u ≡ Some head = λ u e.
    ap (position_at heads) e ∙ first in
    let linked : (u p : ℕ) → u ≡ t → position_at new_heads u ≡ Some p
    → IsFirstAt lines due t (head + 1) p = λ u p e is.
    subst (IsFirstFrom lines due t (head + 1)) (sym (at_task u e) ∙ is) link in
    let others : (p : ℕ) → due_place due p ≢ i
    → is_open (job_at new (due_place due p)).standing
    ≡ is_open (job_at jobs (due_place due p)).standing = λ p ne.
    ap (λ (j : Job). is_open j.standing) (same (due_place due p) ne) in
    let closed : (p : ℕ) → due_place due p ≡ i
    → is_open (job_at new (due_place due p)).standing ≡ false = λ p e.
    ap (λ x. is_open (job_at new x).standing) e ∙ over in
    record {
      tasks = λ x a. omega (arith, w.tasks x a, length-set heads t value);
      inside = λ u p a is. elim (cases_eq u t) [
        | inl e ↦ (linked u p e is).inside
        | inr ne ↦ w.inside u p (omega (arith, length-set heads t value)) (sym (away u ne) ∙ is)
      ];
      head = λ u p a is. elim (cases_eq u t) [
        | inl e ↦ (linked u p e is).here ∙ sym e
        | inr ne ↦ w.head u p (omega (arith, length-set heads t value)) (sym (away u ne) ∙ is)
      ];
      over = λ p a b. elim (cases_eq (due_place due p) i) [
        | inl e ↦ closed p e
        | inr ne ↦ others p ne ∙ w.over p a (elim (cases_eq (due_task lines due p) t) [
          | inl e ↦
              let before : IsPast next p =
              subst (λ q. IsPast q p) (at_task (due_task lines due p) e) b in
              elim (cases_lt p head) [
                | inl l ↦ subst (λ q. IsPast q p) (sym (was (due_task lines due p) e)) l
                | inr g ↦ elim (cases_eq p head) [
                  | inl z ↦ absurd (ne (ap (due_place due) z ∙ h.first.is))
                  | inr z ↦
                      absurd (from_first lines due t (head + 1) p next link (omega arith) a e
                      before)
                ]
              ]
          | inr z ↦ subst (λ q. IsPast q p) (away (due_task lines due p) z) b
        ])
      ];
      open_still = λ p a b. elim (cases_eq (due_task lines due p) t) [
        | inl e ↦
            let after : head + 1 ≤ p = start_first lines due t (head + 1) p next link
            (subst (λ q. IsFrom q p) (at_task (due_task lines due p) e) b) in
            let here : head ≤ p = omega arith in
            others p (λ z. apart lines due head p d (omega arith) a (h.first.is ∙ sym z))
            ∙ w.open_still p a
            (subst (λ q. IsFrom q p) (sym (was (due_task lines due p) e)) here)
        | inr ne ↦
            others p
            (λ z. ne
            (ap (λ (l : ScriptJob). l.task.0)
            (ap (λ (ls : List ScriptJob). script_line ls (due_place due p)) eq
            ∙ line_is jobs (due_place due p) ∙ ap (λ x. (job_at jobs x).line) z)))
            ∙ w.open_still p a (subst (λ q. IsFrom q p) (away (due_task lines due p) ne) b)
      ];
    }

-- a cache keeps its length
cache_by : (sys : System) (m : Machine) (c : Option ℕ)
    → length (step_by sys m c).cache ≡ length m.cache
cache_by sys m None = refl
cache_by sys m (Some i) =
    ap length (turned_cache sys m.time (turn_of sys m i))
    ∙ after (makes_fetch sys (turn_of sys m i)) where
      after : (b : Bool) → length (cache_after sys (turn_of sys m i) b) ≡ length m.cache
      after true = length-set m.cache _ _
      after false = refl

-- the owner of the core after a job's turn
owner_after : (jobs new : List Job) (due : List Due) (later heads : List (Option ℕ)) (i : ℕ)
    → IsHead jobs due heads i → length new ≡ length jobs
    → (job_at new i).line ≡ (job_at jobs i).line → IsOwner new due (heads_after new later heads i) i
owner_after jobs new due later heads i h long line =
    record {
      below = omega (arith, h.below);
      first = λ o.
          let same : heads_after new later heads i ≡ heads = rw o refl in
          subst (λ (hs : List (Option ℕ)). HasHead due hs (job_at new i).line.task.0 i) (sym same)
          (subst (λ (l : ScriptJob). HasHead due heads l.task.0 i) (sym line) h.first);
    }

-- the order after a job's turn
waits_after : (lines : List ScriptJob) (due : List Due) (later heads : List (Option ℕ))
    (jobs new : List Job) (i : ℕ) → lines ≡ script_lines jobs → IsReleaseOrder lines due
    → IsLinked lines due later → IsHead jobs due heads i → is_open (job_at jobs i).standing ≡ true
    → ((x : ℕ) → x ≢ i → job_at new x ≡ job_at jobs x) → (job_at new i).line ≡ (job_at jobs i).line
    → HasTaskHeads lines due heads jobs → HasTaskHeads lines due (heads_after new later heads i) new
waits_after lines due later heads jobs new i eq d k h o same line w =
    elim (cases_Bool (is_open (job_at new i).standing)) [
      | inl t ↦
          rw t
          (waits_on lines due heads jobs new
          (λ x. elim (cases_eq x i) [
            | inl e ↦ rw e (t ∙ sym o)
            | inr ne ↦ ap (λ (j : Job). is_open j.standing) (same x ne)
          ])
          w)
      | inr f ↦
          rw (f, line) (waits_over lines due later heads jobs new i eq d k h same f w)
    ]

-- the representation of a state after the step of a job
pub kept_some : (sys : System) (sets : ℕ) (m : Machine) (due : List Due)
    (later heads : List (Option ℕ)) (from to : ℕ) (cs new : List Completion) (i : ℕ)
    → IsRepresented sets m due later heads from cs → candidate sys m ≡ Some i
    → IsHead m.jobs due heads i → AreReleased due m.time from to cs new
    → IsRepresented sets (step sys m) due later (heads_after (step sys m).jobs later heads i) to
    (completions_after (step sys m).jobs new i)
kept_some sys sets m due later heads from to cs new i k e h r =
    let m' = step sys m in
    let time : m'.time ≡ suc m.time = step_time sys m in
    let long : length m'.jobs ≡ length m.jobs = step_length sys m in
    let lines : script_lines m'.jobs ≡ script_lines m.jobs = lines_stay sys m in
    let same : (x : ℕ) → x ≢ i → job_at m'.jobs x ≡ job_at m.jobs x = λ x ne.
    step_other sys m x (λ z. ne (some_injective (sym z ∙ e))) in
    let ready = (candidate_some sys m i e).ready in
    let opening : is_open (job_at m.jobs i).standing ≡ true =
    ready_open m.time (job_at m.jobs i) ready in
    let next = up_to_next (script_lines m.jobs) due m.time from to cs new k.due k.released r in
    let told = told_next m due from to cs new k.due k.released next k.over r.opens k.completions in
    let turn = told_turn m m'.jobs i new h.below (r.opens.long ∙ k.told)
    (open_is (job_at m.jobs i).standing opening) same told in
    let waits = waits_after (script_lines m.jobs) due later heads m.jobs m'.jobs i refl k.due
    k.linked h opening same (step_line sys m i) k.waiting in
    record {
      room = omega (arith, k.room, cache_by sys m (candidate sys m));
      due = subst (λ ls. IsReleaseOrder ls due) (sym lines) k.due;
      linked = subst (λ ls. IsLinked ls due later) (sym lines) k.linked;
      waiting =
          subst (λ ls. HasTaskHeads ls due (heads_after m'.jobs later heads i) m'.jobs)
          (sym lines) waits;
      released = subst (λ t. IsUpTo due t to) (sym time) next;
      over = λ x a b.
          subst (λ t. (job_at m'.jobs x).line.release < t) (sym time) (elim (cases_eq x i) [
            | inl z ↦
                omega (
                  arith,
                  ready_released m.time (job_at m.jobs i) ready,
                  ap (λ (l : ScriptJob). l.release) (step_line sys m x),
                  ap (λ y. (job_at m.jobs y).line.release) z,
                )
            | inr ne ↦
                omega (
                  arith,
                  k.over x (omega arith) (sym (ap (λ (j : Job). is_open j.standing) (same x ne))
                      ∙ b),
                  ap (λ (l : ScriptJob). l.release) (step_line sys m x),
                )
          ]);
      told = completions_long m'.jobs new i ∙ r.opens.long ∙ k.told ∙ sym long;
      completions = λ x a.
          turn x (omega arith)
          ∙ ap (λ id. record {
            job = id;
            «end» = end_by (suc m.time) (release_of m x) (job_at m'.jobs x).standing;
          }) (sym (id_stays sys m x))
          ∙ ap (λ t. record {
            job = job_id m' x;
            «end» = end_by t (release_of m x) (job_at m'.jobs x).standing;
          }) (sym time)
          ∙ ap (λ (l : ScriptJob). record {
            job = job_id m' x;
            «end» = end_by m'.time l.release (job_at m'.jobs x).standing;
          }) (sym (step_line sys m x));
      owner = λ o own.
          let is : i ≡ o = some_injective (sym (ap (λ c. (step_by sys m c).owner) e) ∙ own) in
          subst (λ y. IsOwner m'.jobs due (heads_after m'.jobs later heads i) y) is
          (owner_after m.jobs m'.jobs due later heads i h long (step_line sys m i));
    }
  where
    completions_long : (jobs : List Job) (c : List Completion) (x : ℕ)
        → length (completions_after jobs c x) ≡ length c
    completions_long jobs c x = elim (cases_Bool (is_open (job_at jobs x).standing)) [
      | inl t ↦ rw t refl
      | inr f ↦ rw f (length-set c x _)
    ]
