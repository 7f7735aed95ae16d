-- For step 5: a turn of a job on a walk spends a cycle, and at a reload the cost of a miss.
use Rattle.std.proofs.Common.{◌≡◌, ℕ, ◌+◌, ◌-◌, ◌<◌, ◌≤◌, Bool, true, false, not, ◌&&◌, List, ◌∷◌}
use Rattle.std.proofs.Common.{Some, refl, sym, ◌∙◌, ap, subst, inl, inr, arith}
use Rattle.std.specs.Prelude.{◌==◌, if◌then◌else◌, drop}
use Rattle.std.proofs.lemmas.Bool.{cases_Bool, cases_eq, and_from, and_parts, eq-eqb, ne_eqb}
use Rattle.std.proofs.lemmas.Bool.{not-true, false≢true}
use Rattle.crpd_base.specs.declared.data.TaskPlan.{TaskPlan}
use Rattle.rv_decode.specs.declared.Ins.{Ins}
use Rattle.rv_decode.specs.Address.{end_address}
use Rattle.rv_decode.specs.Cost.{cost}
use Rattle.rv_core.specs.declared.Next.{Next}
use Rattle.rv_core.specs.declared.Next.TheVariants.{Goto, Answer, Fault}
use Rattle.rv_core.specs.Effect.{next_pc}
use Rattle.icache.specs.Cache.{block_of, is_hit}
use Rattle.flow_watch.specs.Watch.{is_unbroken, step as watch_step}
use Rattle.loop_regions.specs.TaskGraph.{TaskGraph, node_code_of, answering}
use Rattle.cert_check.specs.JudgeInput.{IsGraphOf, longest_of}
use Rattle.preempt_machine.specs.Machine.{System, Job, ins_at, plan_of}
use Rattle.preempt_machine.specs.Step.{is_open, Turn, turn_after_step, turn_after_effect}
use Rattle.preempt_machine.specs.Step.{makes_fetch, goes_to_next}
use Rattle.run_account.specs.Nodes.{node_of_job, node_number}
use Rattle.rv_decode.specs.Flow.{IsCodeMap}
use Rattle.walk_parts.specs.Parts.{WalkPart, IsSoundPart}
use Rattle.sound_laws.specs.Walks.{before_of, IsOnWalk}
use Rattle.sound_laws.specs.CyclesToGo.{rest_after, walk_of, cycles_to_go, rest_of_walk, goes_on}
use Rattle.sound_laws.specs.CyclesToGo.{has_rest}
use Rattle.sound_laws.specs.StepTests.{misses_if}
use Rattle.preempt_machine.proofs.TurnLaws.{TurnOf, switches, works, goes, begun, begun_pos}
use Rattle.preempt_machine.proofs.TurnLaws.{cost_hit, cost_miss, cost_counted, turn_of_job}
use Rattle.sound_laws.proofs.Walks.Stands.{Stands, stands_on}
use Rattle.run_account.proofs.Stands.{nodes_after, nodes_switched}
use Rattle.sound_laws.proofs.Walks.Walked.{executed, went_on_walk}
use Rattle.sound_laws.proofs.Execution.Longests.{edge_longest, end_longest}
use Rattle.sound_laws.proofs.Execution.Paid.{pays, pays_alone}

-- the cost of a reload, given whether the node is counted as a hit
abbrev pub extra_of : System → Bool → Turn → ℕ
extra_of sys counted u = if misses_if sys counted u then sys.platform.miss else 0

pub go_between : (sys : System) (plan : TaskPlan) (t : TaskGraph) (rest : List ℕ → ℕ) (job : Job)
    (nodes : List ℕ) → is_open job.standing ≡ true → job.left ≡ 0
    → cycles_to_go sys plan t rest job nodes ≡ rest (walk_of t job nodes)
go_between sys plan t rest job nodes o l =
    let bit : (job.left == 0) ≡ true = eq-eqb _ _ l in
    rw (o, bit) (omega arith)

pub go_within : (sys : System) (plan : TaskPlan) (t : TaskGraph) (rest : List ℕ → ℕ) (job : Job)
    (nodes : List ℕ) (ins : Ins) → is_open job.standing ≡ true → 1 ≤ job.left
    → ins_at sys job.pc ≡ Some ins
    → cycles_to_go sys plan t rest job nodes
    ≡ job.left + rest_after plan t rest job (walk_of t job nodes) ins
    (next_pc ins job.pc job.registers)
go_within sys plan t rest job nodes ins o l at =
    let bit : (job.left == 0) ≡ false = ne_eqb _ _ (λ e. omega arith) in
    rw (o, bit, at) refl

pub go_over : (sys : System) (plan : TaskPlan) (t : TaskGraph) (rest : List ℕ → ℕ) (job : Job)
    (nodes : List ℕ) → is_open job.standing ≡ false → cycles_to_go sys plan t rest job nodes ≡ 0
go_over sys plan t rest job nodes o = rw o refl

-- what a turn spends
pub record SpendTurn (sys : System) (plan : TaskPlan) (t : TaskGraph) (part : WalkPart)
    (u : Turn) (nodes : List ℕ) (after : Turn) (later : List ℕ) : Type 0 where
  pub less : is_unbroken after.job.watch ≡ true
      → cycles_to_go sys plan t part.rest after.job later + after.switch_left + 1
      ≤ cycles_to_go sys plan t part.rest u.job nodes + u.switch_left + extra_of sys (part.counts (walk_of t u.job nodes)) u
  pub short : u.job.left ≤ longest_of sys.platform t - 1
      → after.job.left ≤ longest_of sys.platform t - 1
  pub some : 1 ≤ cycles_to_go sys plan t part.rest u.job nodes
  pub switched : 0 < u.switch_left
      → cycles_to_go sys plan t part.rest after.job later ≡ cycles_to_go sys plan t part.rest u.job nodes

module _ (sys : System) (plan : TaskPlan) (t : TaskGraph) (ok : IsGraphOf sys.word plan t)
    (map : IsCodeMap sys.word) (hit : 1 ≤ sys.platform.hit) (part : WalkPart)
    (sound : IsSoundPart sys.platform t part) where
  module _ (n : ℕ) (u : Turn) (nodes : List ℕ) (W : IsOnWalk sys.word plan t u.job nodes)
      (S : Stands sys t (node_of_job t u.job) u.job.pc)
      (same_plan : plan_of sys u.job.line.task.0 ≡ plan) (o : is_open u.job.standing ≡ true) where
    abbrev hits : Bool
    hits = is_hit sys.platform u.cache (block_of sys.platform u.job.pc)

    abbrev next : Next
    next = next_pc S.ins u.job.pc u.job.registers

    abbrev after_it : ℕ
    after_it = rest_after plan t part.rest u.job (walk_of t u.job nodes) S.ins next

    -- the cost of an instruction that begins is paid
    begin_pays : u.switch_left ≡ 0
        → begun sys S.ins u + after_it
        ≤ cycles_to_go sys plan t part.rest u.job nodes + extra_of sys (part.counts (walk_of t u.job nodes)) u
    begin_pays z =
        elim (cases_eq u.job.left 0) [
          | inl l ↦
              let bit : (u.job.left == 0) ≡ true = eq-eqb _ _ l in
              let m : makes_fetch sys u ≡ true =
              and_from _ _ (and_from _ _ (eq-eqb _ _ z) bit) (rw S.at refl) in
              let is : begun sys S.ins u
              ≡ cost sys.platform S.ins (not hits) (not (goes_to_next next u.job.pc)) =
              rw bit refl in
              let extra : extra_of sys (part.counts (walk_of t u.job nodes)) u
              ≡ (if part.counts (walk_of t u.job nodes) && not hits then sys.platform.miss else 0) =
              rw m refl in
              let c = cost_counted sys.platform S.ins (part.counts (walk_of t u.job nodes)) hits
              (not (goes_to_next next u.job.pc)) in
              let paid = pays sys plan t ok map part sound u.job nodes W S in
              let go = go_between sys plan t part.rest u.job nodes o l in
              omega (arith, is, extra, c, paid, go)
          | inr ne ↦
              let bit : (u.job.left == 0) ≡ false = ne_eqb _ _ ne in
              let is : begun sys S.ins u ≡ u.job.left = rw bit refl in
              let go = go_within sys plan t part.rest u.job nodes S.ins o (omega arith) S.at in
              omega (arith, is, go)
        ]

    pub some_left : 1 ≤ cycles_to_go sys plan t part.rest u.job nodes
    some_left =
        elim (cases_eq u.job.left 0) [
          | inl l ↦
              let paid = pays sys plan t ok map part sound u.job nodes W S in
              let c = cost_hit sys.platform S.ins (not (part.counts (walk_of t u.job nodes)))
              (not (goes_to_next next u.job.pc)) hit in
              let go = go_between sys plan t part.rest u.job nodes o l in
              omega (arith, paid, c, go)
          | inr ne ↦
              let go = go_within sys plan t part.rest u.job nodes S.ins o (omega arith) S.at in
              omega (arith, go)
        ]

    begun_short : u.job.left ≤ longest_of sys.platform t - 1
        → begun sys S.ins u ≤ longest_of sys.platform t
    begun_short h =
        elim (cases_eq u.job.left 0) [
          | inl l ↦
              let bit : (u.job.left == 0) ≡ true = eq-eqb _ _ l in
              let is : begun sys S.ins u
              ≡ cost sys.platform S.ins (not hits) (not (goes_to_next next u.job.pc)) =
              rw bit refl in
              let alone = pays_alone sys plan t ok map (λ y. false) (longest_of sys.platform t)
              (node_of_job t u.job) u.job.pc S W.walked.address
              (λ v e. edge_longest sys.platform t.graph (node_code_of t) (answering t)
              (node_of_job t u.job) v e)
              (λ b. end_longest sys.platform t.graph (node_code_of t) (answering t)
              (node_of_job t u.job) S.node b)
              (before_of u.job nodes) W.frames W.walked u.job.registers in
              let c = cost_miss sys.platform S.ins (not hits) (not (goes_to_next next u.job.pc)) in
              omega (arith, is, alone, c)
          | inr ne ↦
              let bit : (u.job.left == 0) ≡ false = ne_eqb _ _ ne in
              let is : begun sys S.ins u ≡ u.job.left = rw bit refl in
              omega (arith, is)
        ]

    -- in the middle of the instruction
    go_working : (k : ℕ) (later : List ℕ) → 1 ≤ k → later ≡ walk_of t u.job nodes
        → cycles_to_go sys plan t part.rest (record u.job { left = k }) later ≡ k + after_it
    go_working k later l e =
        let bit : (k == 0) ≡ false = ne_eqb _ _ (λ q. omega arith) in
        let before : before_of (record u.job { left = k }) later ≡ before_of u.job nodes =
        rw bit (ap (drop 1) e) in
        go_within sys plan t part.rest (record u.job { left = k }) later S.ins o l S.at
        ∙ ap (λ b. k + rest_after plan t part.rest u.job (node_of_job t u.job ∷ b) S.ins next) before

    -- after it
    go_arrived : (later : List ℕ) (next : Next) → later ≡ walk_of t u.job nodes
        → is_unbroken (turn_after_effect sys n S.ins u next).job.watch ≡ true
        → cycles_to_go sys plan t part.rest (turn_after_effect sys n S.ins u next).job later
        ≤ rest_after plan t part.rest u.job (walk_of t u.job nodes) S.ins next
    go_arrived later (Goto to) e k =
        elim (cases_Bool (to == end_address)) [
          | inl q ↦ rw q (omega arith)
          | inr q ↦
              let same : (turn_after_effect sys n S.ins u (Goto to)).job.watch
              ≡ watch_step plan u.job.watch u.job.pc S.ins to =
              ap (λ x. watch_step x u.job.watch u.job.pc S.ins to) same_plan in
              let k' : is_unbroken (watch_step plan u.job.watch u.job.pc S.ins to) ≡ true =
              ap is_unbroken (sym same) ∙ k in
              let go : cycles_to_go sys plan t part.rest (turn_after_effect sys n S.ins u (Goto to)).job
              later ≡ part.rest
              (node_number t (turn_after_effect sys n S.ins u (Goto to)).job.watch to ∷ later) =
              rw q (omega arith) in
              let after : rest_after plan t part.rest u.job (walk_of t u.job nodes) S.ins (Goto to)
              ≡ part.rest (node_number t (watch_step plan u.job.watch u.job.pc S.ins to) to
              ∷ walk_of t u.job nodes) = rw (q, k') refl in
              let mid : part.rest
              (node_number t (turn_after_effect sys n S.ins u (Goto to)).job.watch to ∷ later)
              ≡ part.rest (node_number t (watch_step plan u.job.watch u.job.pc S.ins to) to
              ∷ walk_of t u.job nodes) =
              ap (λ w. part.rest (node_number t w to ∷ later)) same
              ∙ ap (λ b. part.rest
              (node_number t (watch_step plan u.job.watch u.job.pc S.ins to) to ∷ b)) e in
              omega (arith, go, after, mid)
        ]
    go_arrived later Answer e k = omega arith
    go_arrived later Fault e k = omega arith

    went_left : (next : Next) → (turn_after_effect sys n S.ins u next).job.left ≡ 0
    went_left (Goto to) = refl
    went_left Answer = refl
    went_left Fault = refl

    spend_turn_by : TurnOf sys n u S.ins
        → SpendTurn sys plan t part u nodes (turn_after_step sys n u)
        (nodes_after sys t u nodes)
    spend_turn_by (switches l e) =
        let later = nodes_switched sys t u nodes l in
        let same : cycles_to_go sys plan t part.rest (turn_after_step sys n u).job
        (nodes_after sys t u nodes) ≡ cycles_to_go sys plan t part.rest u.job nodes =
        ap (λ (x : Turn). cycles_to_go sys plan t part.rest x.job (nodes_after sys t u nodes)) e
        ∙ ap (λ b. cycles_to_go sys plan t part.rest u.job b) later in
        let sw : (turn_after_step sys n u).switch_left ≡ u.switch_left - 1 =
        ap (λ (x : Turn). x.switch_left) e in
        record {
          less = λ k. omega (arith, same, sw);
          short = λ h. subst (λ (x : Turn). x.job.left ≤ longest_of sys.platform t - 1) (sym e) h;
          some = some_left;
          switched = λ q. same;
        }
    spend_turn_by (works k z l b e zs) =
        let later = executed sys plan t u nodes W S z in
        let paid = begin_pays z in
        let go : cycles_to_go sys plan t part.rest (turn_after_step sys n u).job (nodes_after sys t u nodes)
        ≡ k + after_it =
        ap (λ (j : Job). cycles_to_go sys plan t part.rest j (nodes_after sys t u nodes)) e
        ∙ go_working k (nodes_after sys t u nodes) l later in
        record {
          less = λ kept. omega (arith, paid, go, b, zs, z);
          short = λ h.
              let s = begun_short h in
              subst (λ (j : Job). j.left ≤ longest_of sys.platform t - 1) (sym e)
              (omega (arith, s, b));
          some = some_left;
          switched = λ q. absurd (omega arith);
        }
    spend_turn_by (goes z b e zs) =
        let later = executed sys plan t u nodes W S z in
        let paid = begin_pays z in
        record {
          less = λ kept.
              let go = go_arrived (nodes_after sys t u nodes) next later
              (subst (λ (j : Job). is_unbroken j.watch ≡ true) e kept) in
              let same = ap (λ (j : Job). cycles_to_go sys plan t part.rest j (nodes_after sys t u nodes))
              e in
              omega (arith, paid, go, same, b, zs, z);
          short = λ h.
              let zero = went_left next in
              subst (λ (j : Job). j.left ≤ longest_of sys.platform t - 1) (sym e)
              (omega (arith, zero));
          some = some_left;
          switched = λ q. absurd (omega arith);
        }

    pub spend_turn : SpendTurn sys plan t part u nodes (turn_after_step sys n u)
        (nodes_after sys t u nodes)
    spend_turn =
        spend_turn_by
        (turn_of_job sys n S.ins u S.at (begun_pos sys S.ins u hit))

  -- the rest is at least 1 if there is one
  rest_by : (u : Turn) (nodes : List ℕ) (W : IsOnWalk sys.word plan t u.job nodes)
      (S : Stands sys t (node_of_job t u.job) u.job.pc)
      → plan_of sys u.job.line.task.0 ≡ plan → is_open u.job.standing ≡ true → (next : Next)
      → next_pc S.ins u.job.pc u.job.registers ≡ next → goes_on plan u.job S.ins next ≡ true
      → 1 ≤ rest_after plan t part.rest u.job (walk_of t u.job nodes) S.ins next
  rest_by u nodes W S same_plan o (Goto to) e going =
      let parts = and_parts _ _ going in
      let after : Turn = turn_after_effect sys 0 S.ins u (Goto to) in
      let later = walk_of t u.job nodes in
      let off : (to == end_address) ≡ false = not-true _ parts.0 in
      let op : is_open after.job.standing ≡ true = rw off refl in
      let kept : is_unbroken after.job.watch ≡ true =
      ap (λ x. is_unbroken (watch_step x u.job.watch u.job.pc S.ins to)) same_plan ∙ parts.1 in
      let on = went_on_walk sys plan t ok map hit 0 u nodes W S same_plan o later (Goto to) refl e
      kept op in
      let there = stands_on sys plan t ok map after.job later on in
      let some = some_left 0 after later on there same_plan op in
      let go = go_arrived 0 u nodes W S same_plan o later (Goto to) refl kept in
      omega (arith, some, go)
  rest_by u nodes W S same_plan o Answer e going = absurd (false≢true going)
  rest_by u nodes W S same_plan o Fault e going = absurd (false≢true going)

  pub rest_some : (u : Turn) (nodes : List ℕ) (W : IsOnWalk sys.word plan t u.job nodes)
      (S : Stands sys t (node_of_job t u.job) u.job.pc)
      → plan_of sys u.job.line.task.0 ≡ plan → is_open u.job.standing ≡ true
      → has_rest sys plan u.job ≡ true → 1 ≤ rest_of_walk sys plan t part.rest u.job nodes
  rest_some u nodes W S same_plan o has =
      elim (cases_eq u.job.left 0) [
        | inl l ↦
            let some = some_left 0 u nodes W S same_plan o in
            let go = go_between sys plan t part.rest u.job nodes o l in
            let is : rest_of_walk sys plan t part.rest u.job nodes
            ≡ part.rest (walk_of t u.job nodes) = rw (eq-eqb _ _ l) refl in
            omega (arith, some, go, is)
        | inr ne ↦
            let bit : (u.job.left == 0) ≡ false = ne_eqb _ _ ne in
            let next = next_pc S.ins u.job.pc u.job.registers in
            let going : goes_on plan u.job S.ins next ≡ true = rw (bit, S.at) at has in
            let is : rest_of_walk sys plan t part.rest u.job nodes
            ≡ rest_after plan t part.rest u.job (walk_of t u.job nodes) S.ins next =
            rw (bit, S.at) refl in
            let some = rest_by u nodes W S same_plan o next refl going in
            omega (arith, some, is)
      ]
