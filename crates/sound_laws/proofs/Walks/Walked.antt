-- For step 3: a turn of a job on a walk continues the walk.
use Rattle.std.proofs.Common.{◌≡◌, ◌≢◌, ℕ, ◌≤◌, true, false, List, [], ◌∷◌, Some, None, refl, sym}
use Rattle.std.proofs.Common.{◌∙◌, ap, subst, inl, inr, arith, ◌==◌, drop, if◌then◌else◌}
use Rattle.std.proofs.lemmas.Bool.{cases_Bool, cases_eq, eqb-false, eq-eqb, ne_eqb}
use Rattle.std.proofs.lemmas.Bool.{false≢true}
use Rattle.crpd_base.specs.declared.data.TaskPlan.{TaskPlan}
use Rattle.rv_decode.specs.Address.{end_address}
use Rattle.rv_decode.specs.Flow.{flow, flows}
use Rattle.rv_core.specs.declared.Next.{Next}
use Rattle.rv_core.specs.declared.Next.TheVariants.{Goto, Answer, Fault}
use Rattle.rv_core.specs.Effect.{next_pc}
use Rattle.flow_watch.specs.Watch.{Frame, Watch, is_unbroken, step as watch_step}
use Rattle.flat_graph.specs.Graph.{IsWalk}
use Rattle.loop_regions.specs.Nest.{IsKeptWalk}
use Rattle.loop_regions.specs.Watched.{IsWatchedWalk}
use Rattle.loop_regions.proofs.Steps.{step_some}
use Rattle.loop_regions.specs.TaskGraph.{TaskGraph}
use Rattle.cert_check.specs.JudgeInput.{IsGraphOf}
use Rattle.preempt_machine.specs.Machine.{System, Faulted, Job, plan_of}
use Rattle.preempt_machine.specs.Step.{is_open, Turn, turn_after_step, turn_after_effect}
use Rattle.run_account.specs.Nodes.{node_of_job, node_number}
use Rattle.rv_decode.specs.Flow.{IsCodeMap}
use Rattle.sound_laws.specs.Walks.{before_of, IsOnWalk, IsNoneOrKeptWalk}
use Rattle.preempt_machine.proofs.TurnLaws.{TurnOf, switches, works, goes, begun_pos}
use Rattle.preempt_machine.proofs.TurnLaws.{turn_of_job, not_faulted}
use Rattle.run_account.proofs.Stands.{nodes_after, nodes_switched, nodes_executed}
use Rattle.sound_laws.proofs.Walks.Stands.{Stands, no_fault_next, empty_at_end, goes_on_walk}
use Rattle.sound_laws.proofs.Walks.Stands.{number_there}

-- what a turn leaves
pub record WalkTurn (sys : System) (plan : TaskPlan) (t : TaskGraph) (nodes : List ℕ)
    (after : Turn) : Type 0 where
  pub nodes_kept : IsNoneOrKeptWalk t nodes
  pub stays : is_unbroken after.job.watch ≡ true → is_open after.job.standing ≡ true
      → IsOnWalk sys.word plan t after.job nodes
  pub no_fault : after.job.standing ≢ Faulted

tail_walk : (t : TaskGraph) (y : ℕ) (before : List ℕ) → IsWalk t.graph (y ∷ before)
    → IsKeptWalk t.nest (y ∷ before) → IsNoneOrKeptWalk t before
tail_walk t y [] walk kept = tt
tail_walk t y (x ∷ before) walk kept = (walk.1, kept.1)

pub before_fresh : (job : Job) (nodes : List ℕ) → job.left ≡ 0 → before_of job nodes ≡ nodes
before_fresh job nodes l = rw (eq-eqb _ _ l)

module _ (sys : System) (plan : TaskPlan) (t : TaskGraph) (u : Turn) (nodes : List ℕ)
    (W : IsOnWalk sys.word plan t u.job nodes) where
  -- in the middle of the instruction the job's node is in its fetches
  fetched : nodes ≡ (if u.job.left == 0 then before_of u.job nodes
      else node_of_job t u.job ∷ before_of u.job nodes)
  fetched =
      elim (cases_eq u.job.left 0) [
        | inl l ↦ rw (eq-eqb _ _ l) refl
        | inr ne ↦ rw (ne_eqb _ _ ne) (rw (ne_eqb _ _ ne) at (W.under_way ne))
      ]

  -- the same after the turn, without a switch cycle
  pub executed : Stands sys t (node_of_job t u.job) u.job.pc → u.switch_left ≡ 0
      → nodes_after sys t u nodes ≡ node_of_job t u.job ∷ before_of u.job nodes
  executed S = nodes_executed sys t u nodes (before_of u.job nodes) S.ins fetched S.at

module _ (sys : System) (plan : TaskPlan) (t : TaskGraph) (ok : IsGraphOf sys.word plan t)
    (map : IsCodeMap sys.word) (hit : 1 ≤ sys.platform.hit) where
  pub nodes_are : (job : Job) (nodes : List ℕ) → IsOnWalk sys.word plan t job nodes
      → IsNoneOrKeptWalk t nodes
  nodes_are job nodes W =
      elim (cases_eq job.left 0) [
        | inl l ↦
            subst (λ b. IsNoneOrKeptWalk t b) (before_fresh job nodes l)
            (tail_walk t (node_of_job t job) (before_of job nodes) W.walked.walk W.walked.kept)
        | inr ne ↦
            subst (λ b. IsNoneOrKeptWalk t b) (sym (W.under_way ne)) (W.walked.walk, W.walked.kept)
      ]

  module _ (n : ℕ) (u : Turn) (nodes : List ℕ) (W : IsOnWalk sys.word plan t u.job nodes)
      (S : Stands sys t (node_of_job t u.job) u.job.pc)
      (same_plan : plan_of sys u.job.line.task.0 ≡ plan) (o : is_open u.job.standing ≡ true) where
    -- in the middle of the instruction
    working : (k : ℕ) (later : List ℕ) → 1 ≤ k → later ≡ node_of_job t u.job ∷ before_of u.job nodes
        → IsOnWalk sys.word plan t (record u.job { left = k }) later
    working k later l e =
        let bit : (k == 0) ≡ false = ne_eqb _ _ (λ q. omega arith) in
        let before : before_of (record u.job { left = k }) later ≡ before_of u.job nodes =
        rw bit (ap (drop 1) e) in
        record {
          frames = W.frames;
          watch = W.watch;
          walked =
              subst (λ b. IsWatchedWalk (flows sys.word) plan t.graph t.places t.nest
              (node_of_job t u.job) b u.job.pc W.frames) (sym before) W.walked;
          under_way = λ q. e ∙ ap (λ b. node_of_job t u.job ∷ b) (sym before);
        }

    -- after it
    arrived : (later : List ℕ) (to : ℕ) (h : Frame) (hs : List Frame)
        → later ≡ node_of_job t u.job ∷ before_of u.job nodes
        → next_pc S.ins u.job.pc u.job.registers ≡ Goto to
        → (turn_after_effect sys n S.ins u (Goto to)).job.watch ≡ Some (h ∷ hs)
        → IsOnWalk sys.word plan t (turn_after_effect sys n S.ins u (Goto to)).job later
    arrived later to h hs e next w =
        let w' : watch_step plan u.job.watch u.job.pc S.ins to ≡ Some (h ∷ hs) =
        ap (λ p. watch_step p u.job.watch u.job.pc S.ins to) (sym same_plan) ∙ w in
        let g = goes_on_walk sys plan t ok map u.job nodes W S to h hs next w' in
        let there : node_of_job t (turn_after_effect sys n S.ins u (Goto to)).job ≡ g.node =
        ap (λ x. node_number t x to) w
        ∙ number_there sys plan t ok map g.node (node_of_job t u.job ∷ before_of u.job nodes) to
        (h ∷ hs) g.walked in
        record {
          frames = h ∷ hs;
          watch = w;
          walked =
              subst (λ v. IsWatchedWalk (flows sys.word) plan t.graph t.places t.nest v later to
              (h ∷ hs)) (sym there)
              (subst (λ b. IsWatchedWalk (flows sys.word) plan t.graph t.places t.nest g.node b to
              (h ∷ hs)) (sym e) g.walked);
          under_way = λ q. absurd (q refl);
        }

    by_watch : (later : List ℕ) (to : ℕ) (w : Watch)
        → later ≡ node_of_job t u.job ∷ before_of u.job nodes
        → next_pc S.ins u.job.pc u.job.registers ≡ Goto to
        → (turn_after_effect sys n S.ins u (Goto to)).job.watch ≡ w → is_unbroken w ≡ true
        → to ≢ end_address → IsOnWalk sys.word plan t
        (turn_after_effect sys n S.ins u (Goto to)).job later
    by_watch later to None e next w k ne = absurd (false≢true k)
    by_watch later to (Some []) e next w k ne =
        absurd (ne
        (empty_at_end (flows sys.word) plan W.frames u.job.pc (flow u.job.pc S.ins) to
        W.walked.are_frames
        (sym (step_some plan W.frames u.job.pc S.ins to)
        ∙ ap (λ x. watch_step plan x u.job.pc S.ins to) (sym W.watch)
        ∙ ap (λ p. watch_step p u.job.watch u.job.pc S.ins to) (sym same_plan) ∙ w)))
    by_watch later to (Some (h ∷ hs)) e next w k ne = arrived later to h hs e next w

    pub went_on_walk : (later : List ℕ) (next : Next)
        → later ≡ node_of_job t u.job ∷ before_of u.job nodes
        → next_pc S.ins u.job.pc u.job.registers ≡ next
        → is_unbroken (turn_after_effect sys n S.ins u next).job.watch ≡ true
        → is_open (turn_after_effect sys n S.ins u next).job.standing ≡ true
        → IsOnWalk sys.word plan t (turn_after_effect sys n S.ins u next).job later
    went_on_walk later (Goto to) e is k op =
        elim (cases_Bool (to == end_address)) [
          | inl q ↦ absurd (false≢true (rw q at op))
          | inr q ↦
              by_watch later to (turn_after_effect sys n S.ins u (Goto to)).job.watch e is refl k
              (eqb-false _ _ q)
        ]
    went_on_walk later Answer e is k op = absurd (false≢true op)
    went_on_walk later Fault e is k op = absurd (false≢true op)

    no_fault_at : (next : Next) → next_pc S.ins u.job.pc u.job.registers ≡ next
        → (turn_after_effect sys n S.ins u next).job.standing ≢ Faulted
    no_fault_at (Goto to) e = elim (cases_Bool (to == end_address)) [
      | inl q ↦ rw q (λ f. cc)
      | inr q ↦ rw q (λ f. cc)
    ]
    no_fault_at Answer e = λ f. cc
    no_fault_at Fault e = absurd (no_fault_next S.ins u.job.pc u.job.registers S.followed e)

    walk_turn_by : TurnOf sys n u S.ins
        → WalkTurn sys plan t (nodes_after sys t u nodes) (turn_after_step sys n u)
    walk_turn_by (switches l e) =
        let later = nodes_switched sys t u nodes l in
        record {
          nodes_kept = subst (λ b. IsNoneOrKeptWalk t b) (sym later) (nodes_are u.job nodes W);
          stays = λ k op.
              subst (λ (x : Turn). IsOnWalk sys.word plan t x.job (nodes_after sys t u nodes))
              (sym e) (subst (λ b. IsOnWalk sys.word plan t u.job b) (sym later) W);
          no_fault = subst (λ (x : Turn). x.job.standing ≢ Faulted) (sym e) (not_faulted _ o);
        }
    walk_turn_by (works k z l b e zs) =
        let later = executed sys plan t u nodes W S z in
        record {
          nodes_kept = subst (λ b. IsNoneOrKeptWalk t b) (sym later) (W.walked.walk, W.walked.kept);
          stays = λ kept op.
              subst (λ (j : Job). IsOnWalk sys.word plan t j (nodes_after sys t u nodes)) (sym e)
              (working k (nodes_after sys t u nodes) l later);
          no_fault = subst (λ (j : Job). j.standing ≢ Faulted) (sym e) (not_faulted _ o);
        }
    walk_turn_by (goes z b e zs) =
        let later = executed sys plan t u nodes W S z in
        record {
          nodes_kept = subst (λ b. IsNoneOrKeptWalk t b) (sym later) (W.walked.walk, W.walked.kept);
          stays = λ kept op.
              subst (λ (j : Job). IsOnWalk sys.word plan t j (nodes_after sys t u nodes)) (sym e)
              (went_on_walk (nodes_after sys t u nodes) (next_pc S.ins u.job.pc u.job.registers)
              later refl (subst (λ (j : Job). is_unbroken j.watch ≡ true) e kept)
              (subst (λ (j : Job). is_open j.standing ≡ true) e op));
          no_fault =
              subst (λ (j : Job). j.standing ≢ Faulted) (sym e)
              (no_fault_at (next_pc S.ins u.job.pc u.job.registers) refl);
        }

    pub walk_turn : WalkTurn sys plan t (nodes_after sys t u nodes) (turn_after_step sys n u)
    walk_turn = walk_turn_by (turn_of_job sys n S.ins u S.at (begun_pos sys S.ins u hit))
