-- The steps of one candidate are its job's turns.
use Rattle.std.proofs.Common.{◌≡◌, ℕ, zero, suc, ◌+◌, ◌-◌, ◌<◌, ◌≤◌, ◌≢◌, ◌⊎◌, Bool, true, List}
use Rattle.std.proofs.Common.{length, length-set, Option, Some, None, refl, sym, ◌∙◌, ap, subst}
use Rattle.std.proofs.Common.{inl, inr, arith, get_or-set_same, get_or-set_other}
use Rattle.std.specs.Prelude.{◌==◌, nat_lt, slice_set}
use Rattle.std.proofs.lemmas.Bool.{and_from, and_parts, cases_Bool, cases_eq, eq-eqb, false≢true}
use Rattle.std.proofs.lemmas.Bool.Decides.{nat_tests}
use Rattle.std.proofs.lemmas.List.{set-get_or, set-set}
use Rattle.crpd_base.proofs.Options.{some_injective}
use Rattle.crpd_base.specs.declared.data.ScriptJob.{ScriptJob}
use Rattle.crpd_base.specs.declared.data.Switching.{Switching}
use Rattle.crpd_base.specs.declared.data.Switching.TheVariants.{Cycle, Instruction}
use Rattle.rv_decode.specs.declared.Ins.{Ins}
use Rattle.preempt_machine.specs.Machine.{System, Job, Machine, ins_at, job_at, no_job}
use Rattle.preempt_machine.specs.Step.{is_open, is_ready, comes_before, keeps_core, candidate}
use Rattle.preempt_machine.specs.Step.{first_ready, Turn, turn_of, turn_after_step}
use Rattle.preempt_machine.specs.Step.{turn_after_fetch, machine_after_turn, step, step_by, run}
use Rattle.preempt_machine.specs.Candidate.{release_of}
use Rattle.preempt_machine.specs.Inner.Schedule.{owner_keeps}
use Rattle.preempt_machine.proofs.Candidates.{none_candidate}
use Rattle.preempt_machine.proofs.Firsts.{best_is}
use Rattle.preempt_machine.proofs.CyclesLeft.{turned_left}
use Rattle.preempt_machine.proofs.Order.{IsBest, IsFirst, first_ready_is}
use Rattle.preempt_machine.proofs.Steps.{candidate_some, ready_from, ready_open, ready_released}
use Rattle.preempt_machine.proofs.CandidateTurns.{candidate_is}
use Rattle.preempt_machine.specs.Stretch.{machine_after_turns, NoRelease, IdleLaw, SwitchLaw}
use Rattle.preempt_machine.specs.Stretch.{CyclesLaw, EffectLaw}
use Rattle.preempt_machine.specs.Inner.Moves.{turn_after_steps}
use Rattle.preempt_machine.proofs.TurnsInARow.{counts, finishes, open_up_to, switches}
use Rattle.preempt_machine.proofs.TurnsInARow.{turned_by_line}

-- the first ready job stays the first if no job is released
first_stays : (m : Machine) (i k j : ℕ) (job : Job) → NoRelease m k → j < k
    → first_ready m.time m.jobs (length m.jobs) ≡ Some i → job.line ≡ (job_at m.jobs i).line
    → is_open job.standing ≡ true
    → first_ready (m.time + j) (slice_set m.jobs i job) (length (slice_set m.jobs i job)) ≡ Some i
first_stays m i k j job none less e line o =
    let f : IsFirst m.time m.jobs (length m.jobs) i =
    subst (λ b. IsBest m.time m.jobs (length m.jobs) b) e
    (first_ready_is m.time m.jobs (length m.jobs)) in
    let jobs = slice_set m.jobs i job in
    let time = m.time + j in
    let long : length jobs ≡ length m.jobs = length-set m.jobs i job in
    let own : job_at jobs i ≡ job = get_or-set_same m.jobs i job no_job f.below in
    let other : (y : ℕ) → y ≢ i → job_at jobs y ≡ job_at m.jobs y = λ y ne.
    get_or-set_other m.jobs i y job no_job ne in
    let own_line : (job_at jobs i).line ≡ (job_at m.jobs i).line =
    ap (λ (x : Job). x.line) own ∙ line in
    best_is time jobs i
    (record {
      below = omega (arith, f.below);
      ready =
          ready_from time (job_at jobs i) (ap (λ (x : Job). is_open x.standing) own ∙ o)
          (omega (
            arith,
            ready_released m.time (job_at m.jobs i) f.ready,
            ap (λ (l : ScriptJob). l.release) own_line,
          ));
      first = λ y b r. elim (cases_eq y i) [
        | inl z ↦ inl z
        | inr ne ↦
            let there : is_ready time (job_at m.jobs y) ≡ true =
            subst (λ (x : Job). is_ready time x ≡ true) (other y ne) r in
            let inside : y < length m.jobs = omega (arith, b) in
            let early : release_of m y ≤ m.time = elim (none y inside) [
              | inl l ↦ l
              | inr g ↦ absurd (omega (arith, ready_released time (job_at m.jobs y) there, g))
            ] in
            let now = ready_from m.time (job_at m.jobs y)
            (ready_open time (job_at m.jobs y) there) early in
            elim (f.first y inside now) [
              | inl z ↦ inl z
              | inr first ↦
                  inr (ap (λ (l : ScriptJob). comes_before l i (job_at jobs y).line y) own_line
                  ∙ ap (λ (x : Job). comes_before (job_at m.jobs i).line i x.line y) (other y ne)
                  ∙ first)
            ]
      ];
    })
    (first_ready time jobs (length jobs)) (first_ready_is time jobs (length jobs))

-- an owner that keeps the core keeps it while its instruction is under way
keeps_on : (s : Switching) (time : ℕ) (jobs : List Job) (owner : Option ℕ)
    → owner_keeps s time jobs owner ≡ true → (later : ℕ) (job : Job) → is_ready later job ≡ true
    → 0 < job.left → keeps_core s later job ≡ true
keeps_on s time jobs None h later job r l = absurd (false≢true h)
keeps_on Cycle time jobs (Some o) h later job r l = absurd (false≢true h)
keeps_on Instruction time jobs (Some o) h later job r l = and_from _ _ r (more job.left l) where
  more : (n : ℕ) → 0 < n → nat_lt 0 n ≡ true
  more n a = grind (arith, nat_tests)

keeps_left : (s : Switching) (time : ℕ) (jobs : List Job) (owner : Option ℕ) (i : ℕ)
    → owner_keeps s time jobs owner ≡ true → owner ≡ Some i → 0 < (job_at jobs i).left
keeps_left s time jobs None i h e = absurd (false≢true h)
keeps_left Cycle time jobs (Some o) i h e = absurd (false≢true h)
keeps_left Instruction time jobs (Some o) i h e =
    let b : nat_lt 0 (job_at jobs o).left ≡ true = (and_parts _ _ h).1 in
    let l : 0 < (job_at jobs o).left = grind (arith, nat_tests) in
    subst (λ x. 0 < (job_at jobs x).left) (some_injective e) l

-- whether the owner keeps the core in a state
abbrev pub owner_keeps_in : System → Machine → Bool
owner_keeps_in sys m = owner_keeps sys.platform.switching m.time m.jobs m.owner

pub keeping_left : (sys : System) (m : Machine) (i : ℕ) → candidate sys m ≡ Some i
    → owner_keeps_in sys m ≡ true → 0 < (job_at m.jobs i).left
keeping_left sys m i c b =
    let owner : m.owner ≡ Some i = sym (candidate_is sys m ∙ rw b refl) ∙ c in
    keeps_left sys.platform.switching m.time m.jobs m.owner i b owner

-- the candidate stays the same while it is open and no job is released, if it keeps the core up to
-- the end of its instruction
stays : (sys : System) (m : Machine) (i k j : ℕ) (t : Turn) → candidate sys m ≡ Some i
    → NoRelease m k → j < k → t.job.line ≡ (job_at m.jobs i).line → is_open t.job.standing ≡ true
    → (owner_keeps_in sys m ≡ true → 0 < t.job.left)
    → candidate sys (machine_after_turns m j i t) ≡ Some i
stays sys m i k j t c none less line o keep =
    let n = machine_after_turns m j i t in
    let facts = candidate_some sys m i c in
    let own : job_at n.jobs i ≡ t.job = get_or-set_same m.jobs i t.job no_job facts.below in
    elim (cases_Bool (owner_keeps_in sys m)) [
      | inl b ↦
          let ready : is_ready n.time t.job ≡ true =
          ready_from n.time t.job o
          (omega (
            arith,
            ready_released m.time (job_at m.jobs i) facts.ready,
            ap (λ (l : ScriptJob). l.release) line,
          )) in
          let core : keeps_core sys.platform.switching n.time (job_at n.jobs i) ≡ true =
          ap (keeps_core sys.platform.switching n.time) own
          ∙ keeps_on sys.platform.switching m.time m.jobs m.owner b n.time t.job ready (keep b) in
          candidate_is sys n ∙ rw core refl
      | inr b ↦
          let first : first_ready m.time m.jobs (length m.jobs) ≡ Some i =
          sym (candidate_is sys m ∙ rw b refl) ∙ c in
          let next = first_stays m i k j t.job none less first line o in
          candidate_is sys n
          ∙ elim (cases_Bool (keeps_core sys.platform.switching n.time (job_at n.jobs i))) [
            | inl d ↦ rw d refl
            | inr d ↦ rw d next
          ]
    ]

-- the turn of the job that had the last one
pub turn_again : (sys : System) (m : Machine) (i j : ℕ) (t : Turn) → i < length m.jobs
    → turn_of sys (machine_after_turns m j i t) i ≡ t
turn_again sys m i j t below =
    let same : (i == i) ≡ true = eq-eqb i i refl in
    let own : job_at (slice_set m.jobs i t.job) i ≡ t.job =
    get_or-set_same m.jobs i t.job no_job below in
    rw (same, own) refl

placed_again : (m : Machine) (i j : ℕ) (t u : Turn)
    → machine_after_turn (machine_after_turns m j i t) i u ≡ machine_after_turns m (suc j) i u
placed_again m i j t u =
    let time : suc (m.time + j) ≡ m.time + suc j = omega arith in
    ap (λ n. record {
      time = n;
      cache = u.cache;
      memory = u.memory;
      owner = Some i;
      switch_left = u.switch_left;
      jobs = slice_set (slice_set m.jobs i t.job) i u.job;
    }) time
    ∙ ap (λ js. record {
      time = m.time + suc j;
      cache = u.cache;
      memory = u.memory;
      owner = Some i;
      switch_left = u.switch_left;
      jobs = js;
    }) (set-set m.jobs i t.job u.job)

-- what is required of k steps of a candidate: its job is open before each of them, and if it keeps
-- the core, its instruction is under way
pub record IsStretch (sys : System) (m : Machine) (i k : ℕ) : Type 0 where
  pub is_candidate : candidate sys m ≡ Some i
  pub none : NoRelease m k
  pub open_before : (j : ℕ) → j < k
      → is_open (turn_after_steps sys m.time (turn_of sys m i) j).job.standing ≡ true
  pub under_way : owner_keeps_in sys m ≡ true → (j : ℕ) → j < k
      → 0 < (turn_after_steps sys m.time (turn_of sys m i) j).job.left

pub run_by : (sys : System) (m : Machine) (i k : ℕ) → IsStretch sys m i k → (j : ℕ) → 1 ≤ j → j ≤ k
    → run sys m j ≡ machine_after_turns m j i (turn_after_steps sys m.time (turn_of sys m i) j)
run_by sys m i k s zero a b = absurd (omega arith)
run_by sys m i k s (suc zero) a b =
    let t = turn_of sys m i in
    let z : m.time ≡ m.time + 0 = omega arith in
    let one : suc m.time ≡ m.time + suc zero = omega arith in
    ap (step_by sys m) s.is_candidate
    ∙ ap (λ n. machine_after_turn m i (turn_after_step sys n t)) z
    ∙ ap (λ n. record (machine_after_turn m i (turn_after_step sys (m.time + 0) t)) { time = n })
    one
run_by sys m i k s (suc (suc j)) a b =
    let t = turn_after_steps sys m.time (turn_of sys m i) (suc j) in
    let n = machine_after_turns m (suc j) i t in
    let line : t.job.line ≡ (job_at m.jobs i).line =
    turned_by_line sys m.time (turn_of sys m i) (suc j) in
    let c : candidate sys n ≡ Some i = stays sys m i k (suc j) t s.is_candidate s.none
    (omega arith) line (s.open_before (suc j) (omega arith))
    (λ keep. s.under_way keep (suc j) (omega arith)) in
    ap (step sys) (run_by sys m i k s (suc j) (omega arith) (omega arith))
    ∙ ap (step_by sys n) c
    ∙ ap (λ u. machine_after_turn n i (turn_after_step sys n.time u))
    (turn_again sys m i (suc j) t (candidate_some sys m i s.is_candidate).below)
    ∙ placed_again m i (suc j) t (turn_after_step sys (m.time + suc j) t)

-- its candidate is the same before each of them
pub stays_by : (sys : System) (m : Machine) (i k : ℕ) → IsStretch sys m i k → (j : ℕ) → j < k
    → candidate sys (run sys m j) ≡ Some i
stays_by sys m i k s zero b = s.is_candidate
stays_by sys m i k s (suc j) b =
    let t = turn_after_steps sys m.time (turn_of sys m i) (suc j) in
    ap (candidate sys) (run_by sys m i k s (suc j) (omega arith) (omega arith))
    ∙ stays sys m i k (suc j) t s.is_candidate s.none b
    (turned_by_line sys m.time (turn_of sys m i) (suc j)) (s.open_before (suc j) b)
    (λ keep. s.under_way keep (suc j) b)

-- a number of turns use at most that many of the cycles left of an instruction
pub left_by : (sys : System) (n : ℕ) (t : Turn) (j : ℕ)
    → t.job.left ≤ (turn_after_steps sys n t j).job.left + j
left_by sys n t zero = omega arith
left_by sys n t (suc j) =
    omega (arith, turned_left sys (n + j) (turn_after_steps sys n t j), left_by sys n t j)

-- the laws
pub idle_law : IdleLaw
idle_law sys m zero h =
    let e : m.time ≡ m.time + 0 = omega arith in ap (λ n. record m { time = n }) e
idle_law sys m (suc k) h =
    let n = record m { time = m.time + k } in
    let c : candidate sys n ≡ None = none_candidate sys n (h k (omega arith)) in
    let e : suc (m.time + k) ≡ m.time + suc k = omega arith in
    ap (step sys) (idle_law sys m k (λ j l. h j (omega arith))) ∙ ap (step_by sys n) c
    ∙ ap (λ x. record m { time = x }) e

candidate_open : (sys : System) (m : Machine) (i : ℕ) → candidate sys m ≡ Some i
    → is_open (job_at m.jobs i).standing ≡ true
candidate_open sys m i c = ready_open m.time (job_at m.jobs i) (candidate_some sys m i c).ready

pub switch_law : SwitchLaw
switch_law sys m i k c some none less =
    let t = turn_of sys m i in
    let at : (j : ℕ) → j < k → turn_after_steps sys m.time t j ≡ record t {
      switch_left = t.switch_left - j;
    } = λ j l. switches sys m.time t j (omega arith) in
    let s : IsStretch sys m i k = record {
      is_candidate = c;
      none = none;
      open_before = λ j l.
          ap (λ (u : Turn). is_open u.job.standing) (at j l) ∙ candidate_open sys m i c;
      under_way = λ keep j l.
          subst (λ (u : Turn). 0 < u.job.left) (sym (at j l)) (keeping_left sys m i c keep);
    } in
    run_by sys m i k s k some (omega arith)
    ∙ ap (machine_after_turns m k i) (switches sys m.time t k less)
    ∙ ap (λ js. record {
      time = m.time + k;
      cache = m.cache;
      memory = m.memory;
      owner = Some i;
      switch_left = t.switch_left - k;
      jobs = js;
    }) (set-get_or m.jobs i no_job)

-- cycles of an instruction up to its last one are a stretch
of_instruction : (sys : System) (m : Machine) (i k : ℕ) (ins : Ins) → candidate sys m ≡ Some i
    → NoRelease m k → (turn_of sys m i).switch_left ≡ 0 → ins_at sys (job_at m.jobs i).pc ≡ Some ins
    → (k ≡ 1) ⊎ (k ≤ (turn_after_fetch sys ins (turn_of sys m i)).job.left) → IsStretch sys m i k
of_instruction sys m i k ins c none e found h =
    let t = turn_of sys m i in
    record {
      is_candidate = c;
      none = none;
      open_before = open_up_to sys m.time t ins k e found h (candidate_open sys m i c);
      under_way = λ keep j l. way keep j l;
    }
  where
    way : owner_keeps_in sys m ≡ true → (j : ℕ) → j < k
        → 0 < (turn_after_steps sys m.time (turn_of sys m i) j).job.left
    way keep zero l = keeping_left sys m i c keep
    way keep (suc j) l =
        let t = turn_of sys m i in
        let more : suc j < (turn_after_fetch sys ins t).job.left = elim h [
          | inl one ↦ absurd (omega (arith, one))
          | inr all ↦ omega (arith, all)
        ] in
        subst (λ (u : Turn). 0 < u.job.left)
        (sym (counts sys m.time t ins (suc j) e found (omega arith) more)) (omega arith)

pub cycles_law : CyclesLaw
cycles_law sys m i k ins c some none e found less =
    let s = of_instruction sys m i k ins c none e found (inr (omega arith)) in
    run_by sys m i k s k some (omega arith)
    ∙ ap (machine_after_turns m k i) (counts sys m.time (turn_of sys m i) ins k e found some less)

pub effect_law : EffectLaw
effect_law sys m i k ins c none e found last =
    let h : (k ≡ 1) ⊎ (k ≤ (turn_after_fetch sys ins (turn_of sys m i)).job.left) =
    elim last.no_more [ inl one ↦ inl one | inr all ↦ inr (omega (arith, all)) ] in
    let s = of_instruction sys m i k ins c none e found h in
    run_by sys m i k s k last.some (omega arith)
    ∙ ap (machine_after_turns m k i) (finishes sys m.time (turn_of sys m i) ins k e found last)
