-- For step 5: the potentials pay for each instruction of a job on a walk, and for what comes after
-- it.
use Rattle.std.proofs.Common.{◌≡◌, ◌≢◌, ℕ, ◌+◌, ◌≤◌, Bool, true, false, not, List, [], ◌∷◌, ◌++◌}
use Rattle.std.proofs.Common.{Some, None, Contains, IsTrue, reverse, refl, sym, ◌∙◌, ap, subst, inl}
use Rattle.std.proofs.Common.{inr, arith, ◌==◌, if◌then◌else◌}
use Rattle.std.proofs.lemmas.Bool.{cases_Bool, eqb-false, ne_eqb}
use Rattle.crpd_base.specs.declared.data.TaskPlan.{TaskPlan}
use Rattle.rv_decode.specs.Address.{next_address, end_address}
use Rattle.rv_decode.specs.Cost.{cost}
use Rattle.rv_decode.specs.Flow.{Flow, Plain, Branch, Jump, Call, Return, Exit, Break, OtherJalr}
use Rattle.rv_decode.specs.Flow.{OtherJal, flow, flows}
use Rattle.rv_core.specs.declared.Next.{Next}
use Rattle.rv_core.specs.declared.Next.TheVariants.{Goto, Answer, Fault}
use Rattle.rv_core.specs.Effect.{next_pc}
use Rattle.flow_watch.specs.Watch.{Frame, Watch, call_of, calls_under_way, is_unbroken}
use Rattle.flow_watch.specs.Watch.{step as watch_step}
use Rattle.flat_graph.specs.FlatGraph.{FlatNode, answers_by, goes_to, returns_to}
use Rattle.flat_graph.specs.Graph.{Edge}
use Rattle.flat_graph.specs.Numbered.{node_at}
use Rattle.flat_graph.specs.EdgeCost.{edge_cost, end_cost, is_return}
use Rattle.loop_regions.specs.Watched.{IsBehindCall, IsWatchedWalk}
use Rattle.loop_regions.proofs.Watched.{behind_is, returns_from, in_one, to_next, to_target, next}
use Rattle.loop_regions.proofs.Steps.{exit_answers, step_some}
use Rattle.loop_regions.specs.TaskGraph.{TaskGraph, node_code_of, answering}
use Rattle.cert_check.specs.JudgeInput.{IsGraphOf}
use Rattle.preempt_machine.specs.Machine.{System, Job}
use Rattle.preempt_machine.specs.Step.{goes_to_next}
use Rattle.run_account.specs.Nodes.{node_of_job, node_number}
use Rattle.rv_decode.specs.Flow.{IsCodeMap}
use Rattle.walk_parts.specs.Parts.{WalkPart, IsSoundPart}
use Rattle.sound_laws.specs.Walks.{before_of, IsOnWalk}
use Rattle.sound_laws.specs.CyclesToGo.{rest_after, walk_of}
use Rattle.rv_decode.proofs.Addresses.{after_is}
use Rattle.loop_regions.proofs.Flows.{GoesBy, flow_goes}
use Rattle.preempt_machine.proofs.TurnLaws.{cost_taken}
use Rattle.sound_laws.proofs.Walks.Stands.{Stands, IsFollowed, empty_at_end, goes_on_walk}
use Rattle.sound_laws.proofs.Walks.Stands.{number_there}

module _ (sys : System) (plan : TaskPlan) (t : TaskGraph) (ok : IsGraphOf sys.word plan t)
    (map : IsCodeMap sys.word) where
  -- an instruction at a node costs at most the largest cost of the node's edges
  module _ (counted : ℕ → Bool) (most y a : ℕ) (S : Stands sys t y a)
      (here : t.places.address y ≡ a)
      (edges : (v : ℕ) → Edge t.graph y v
      → edge_cost sys.platform (node_code_of t) counted y v ≤ most)
      (ends : IsTrue (answering t y)
      → end_cost sys.platform (node_code_of t) counted y ≤ most) where
    by_edge : (v to : ℕ) → Edge t.graph y v → t.places.address v ≡ to
        → cost sys.platform S.ins (not (counted y)) (not (to == next_address a)) ≤ most
    by_edge v to e there =
        let same : edge_cost sys.platform (node_code_of t) counted y v
        ≡ cost sys.platform S.ins (not (counted y)) (not (to == next_address a)) =
        ap (λ i. cost sys.platform i (not (counted y))
        (not (t.places.address v == t.places.address y + 4))) S.listed
        ∙ ap (λ z. cost sys.platform S.ins (not (counted y)) (not (z == t.places.address y + 4)))
        there
        ∙ ap (λ z. cost sys.platform S.ins (not (counted y)) (not (to == z)))
        (ap (λ z. z + 4) here ∙ sym (after_is a S.room)) in
        let le = edges v e in
        omega (arith, same, le)

    by_end : (b : Bool) → answers_by (t.places.context y) (Some (Some (flow a S.ins))) ≡ true
        → is_return (flow a S.ins) ≡ b → cost sys.platform S.ins (not (counted y)) b ≤ most
    by_end b answers returns =
        let flow_same : flow (t.places.address y) (t.ins y) ≡ flow a S.ins =
        ap (λ z. flow z (t.ins y)) here ∙ ap (flow a) S.listed in
        let le = ends (ap (λ f. answers_by (t.places.context y) (Some (Some f))) flow_same
        ∙ answers) in
        let same : end_cost sys.platform (node_code_of t) counted y
        ≡ cost sys.platform S.ins (not (counted y)) b =
        ap (λ i. cost sys.platform i (not (counted y))
        (is_return (flow (t.places.address y) (t.ins y)))) S.listed
        ∙ ap (λ z. cost sys.platform S.ins (not (counted y)) z)
        (ap is_return flow_same ∙ returns) in
        omega (arith, same, le)

    behind_other : (back : ℕ) → flow a S.ins ≡ Return → IsBehindCall (flows sys.word) back
        → back ≢ a + 4
    behind_other back r behind e =
        let same : behind.0 ≡ a = omega (arith, behind.3, e) in
        let both : Some (Some (Call behind.1)) ≡ Some (Some (flow a S.ins)) =
        sym behind.4 ∙ ap (flows sys.word) same ∙ S.flow_is in
        let wrong : Some (Some (Call behind.1)) ≡ Some (Some Return) =
        both ∙ ap (λ f. Some (Some f)) r in
        cc

    module _ (before : List ℕ) (f : Frame) (fs : List Frame)
        (W : IsWatchedWalk (flows sys.word) plan t.graph t.places t.nest y before a (f ∷ fs)) where
      leads : (fl : Flow) → flow a S.ins ≡ fl → (m : FlatNode)
          → Contains (goes_to (t.places.context y) (t.places.address y) fl) m
          → (v : ℕ) × Edge t.graph y v × (node_at t.places v ≡ m)
      leads fl e m c =
          next (flows sys.word) plan t.graph t.places t.nest ok.follows ok.regions ok.no_errors y
          before a fl 0 f fs W (S.flow_is ∙ ap (λ x. Some (Some x)) e) m c

      by_node : (fl : Flow) → flow a S.ins ≡ fl → (c : List ℕ) (to : ℕ)
          → Contains (goes_to (t.places.context y) (t.places.address y) fl)
          (record { context = c; address = to })
          → cost sys.platform S.ins (not (counted y)) (not (to == next_address a)) ≤ most
      by_node fl e c to k =
          let v = leads fl e (record { context = c; address = to }) k in
          by_edge v.0 to v.1 (ap (λ (m : FlatNode). m.address) v.2)

      goes_after : (next : Next) (to : ℕ) → next ≡ Goto to
          → cost sys.platform S.ins (not (counted y)) (not (to == next_address a)) ≤ most
          → cost sys.platform S.ins (not (counted y)) (not (goes_to_next next a)) ≤ most
      goes_after next to e le = rw e le

    returns_back : (before : List ℕ) (frames : List Frame)
        (W : IsWatchedWalk (flows sys.word) plan t.graph t.places t.nest y before a frames)
        → flow a S.ins ≡ Return → cost sys.platform S.ins (not (counted y)) true ≤ most
    returns_back before [] W r = absurd W.are_frames
    returns_back before (f ∷ []) W r =
        by_end true (ap (λ c. answers_by c (Some (Some (flow a S.ins)))) W.context
        ∙ ap (λ fl. answers_by [] (Some (Some fl))) r) (ap is_return r)
    returns_back before (f ∷ h ∷ hs) W r =
        let behind = W.are_frames.1 in
        let there : Contains (goes_to (t.places.context y) (t.places.address y) Return)
        (record { context = calls_under_way (h ∷ hs); address = call_of f + 4 }) =
        subst (λ l. Contains l (record {
          context = calls_under_way (h ∷ hs);
          address = call_of f + 4;
        }))
        (sym (ap (λ c. returns_to (reverse c)) W.context
        ∙ returns_from (calls_under_way (h ∷ hs)) (call_of f)))
        (in_one (record { context = calls_under_way (h ∷ hs); address = call_of f + 4 })
        (record { context = calls_under_way (h ∷ hs); address = call_of f + 4 }) refl) in
        let le = by_node before f (h ∷ hs) W Return r (calls_under_way (h ∷ hs))
        (call_of f + 4) there in
        let away : (call_of f + 4 == next_address a) ≡ false =
        ne_eqb _ _
        (λ e. behind_other f.back r behind
        (sym (behind_is (flows sys.word) f.back behind) ∙ e ∙ after_is a S.room)) in
        rw away at le

    by_flow : (before : List ℕ) (f : Frame) (fs : List Frame)
        (W : IsWatchedWalk (flows sys.word) plan t.graph t.places t.nest y before a (f ∷ fs))
        (fl : Flow) (next : Next) → flow a S.ins ≡ fl → IsFollowed fl → GoesBy fl a next
        → cost sys.platform S.ins (not (counted y)) (not (goes_to_next next a)) ≤ most
    by_flow before f fs W Plain next e ok g =
        goes_after before f fs W next (next_address a) g
        (by_node before f fs W Plain e (t.places.context y) (next_address a)
        (in_one _ _ (λ i. record {
          context = t.places.context y;
          address = (ap (λ z. z + 4) here ∙ sym (after_is a S.room)) i;
        })))
    by_flow before f fs W (Branch target) next e ok (inl g) =
        goes_after before f fs W next (next_address a) g
        (by_node before f fs W (Branch target) e (t.places.context y) (next_address a)
        (to_next (t.places.context y) (t.places.address y) target (next_address a)
        (ap (λ z. z + 4) here ∙ sym (after_is a S.room))))
    by_flow before f fs W (Branch target) next e ok (inr g) =
        goes_after before f fs W next target g
        (by_node before f fs W (Branch target) e (t.places.context y) target
        (to_target (t.places.context y) (t.places.address y) target target refl))
    by_flow before f fs W (Jump target) next e ok g =
        goes_after before f fs W next target g
        (by_node before f fs W (Jump target) e (t.places.context y) target (in_one _ _ refl))
    by_flow before f fs W (Call target) next e ok g =
        goes_after before f fs W next target g
        (by_node before f fs W (Call target) e (t.places.context y ++ t.places.address y ∷ [])
        target (in_one _ _ refl))
    by_flow before f fs W Return next e ok (to, g) =
        let le = returns_back before (f ∷ fs) W e in
        let all = cost_taken sys.platform S.ins (not (counted y)) (not (to == next_address a)) in
        goes_after before f fs W next to g (omega (arith, le, all))
    by_flow before f fs W Exit next e ok g =
        let le = by_end false (ap (λ fl. answers_by (t.places.context y) (Some (Some fl))) e
        ∙ exit_answers (t.places.context y)) (ap is_return e) in
        rw g le
    by_flow before f fs W Break next e ok g = absurd ok
    by_flow before f fs W OtherJalr next e ok g = absurd ok
    by_flow before f fs W OtherJal next e ok g = absurd ok

    pub pays_alone : (before : List ℕ) (frames : List Frame)
        (W : IsWatchedWalk (flows sys.word) plan t.graph t.places t.nest y before a frames)
        (r : List ℕ) → cost sys.platform S.ins (not (counted y))
        (not (goes_to_next (next_pc S.ins a r) a)) ≤ most
    pays_alone before [] W r = absurd W.are_frames
    pays_alone before (f ∷ fs) W r =
        by_flow before f fs W (flow a S.ins) (next_pc S.ins a r) refl S.followed
        (flow_goes S.ins a r)

  -- the cost and the rest after it are at most the rest
  module _ (part : WalkPart) (sound : IsSoundPart sys.platform t part) (job : Job) (nodes : List ℕ) (W : IsOnWalk sys.word plan t job nodes)
      (S : Stands sys t (node_of_job t job) job.pc) where
    alone : (next : Next) → next_pc S.ins job.pc job.registers ≡ next
        → cost sys.platform S.ins (not (part.counts (walk_of t job nodes)))
        (not (goes_to_next next job.pc)) ≤ part.rest (walk_of t job nodes)
    alone next e =
        let le = pays_alone (λ y. part.counts (walk_of t job nodes))
        (part.rest (walk_of t job nodes)) (node_of_job t job) job.pc S W.walked.address
        (λ v e. sound.edge (node_of_job t job) v (before_of job nodes) e)
        (λ b. sound.end (node_of_job t job) (before_of job nodes) S.node b) (before_of job nodes)
        W.frames W.walked job.registers in
        subst (λ n. cost sys.platform S.ins (not (part.counts (walk_of t job nodes)))
        (not (goes_to_next n job.pc)) ≤ part.rest (walk_of t job nodes)) e le

    with_step : (to : ℕ) (h : Frame) (hs : List Frame)
        → next_pc S.ins job.pc job.registers ≡ Goto to
        → watch_step plan job.watch job.pc S.ins to ≡ Some (h ∷ hs)
        → cost sys.platform S.ins (not (part.counts (walk_of t job nodes)))
        (not (to == next_address job.pc))
        + part.rest (node_number t (Some (h ∷ hs)) to ∷ walk_of t job nodes)
        ≤ part.rest (walk_of t job nodes)
    with_step to h hs e w =
        let g = goes_on_walk sys plan t ok map job nodes W S to h hs e w in
        let there = number_there sys plan t ok map g.node (walk_of t job nodes) to
        (h ∷ hs) g.walked in
        let step = sound.step (node_of_job t job) g.node (before_of job nodes) g.edge
        g.walked.kept in
        let same : edge_cost sys.platform (node_code_of t)
        (λ y. part.counts (walk_of t job nodes)) (node_of_job t job) g.node
        ≡ cost sys.platform S.ins (not (part.counts (walk_of t job nodes)))
        (not (to == next_address job.pc)) =
        ap (λ i. cost sys.platform i (not (part.counts (walk_of t job nodes)))
        (not (t.places.address g.node == t.places.address (node_of_job t job) + 4))) S.listed
        ∙ ap (λ z. cost sys.platform S.ins (not (part.counts (walk_of t job nodes)))
        (not (z == t.places.address (node_of_job t job) + 4))) g.walked.address
        ∙ ap (λ z. cost sys.platform S.ins (not (part.counts (walk_of t job nodes))) (not (to == z)))
        (ap (λ z. z + 4) W.walked.address ∙ sym (after_is job.pc S.room)) in
        let rests : part.rest (node_number t (Some (h ∷ hs)) to ∷ walk_of t job nodes)
        ≡ part.rest (g.node ∷ walk_of t job nodes) =
        ap (λ v. part.rest (v ∷ walk_of t job nodes)) there in
        omega (arith, step, same, rests)

    by_watch : (to : ℕ) (w : Watch) → next_pc S.ins job.pc job.registers ≡ Goto to
        → watch_step plan job.watch job.pc S.ins to ≡ w → to ≢ end_address
        → cost sys.platform S.ins (not (part.counts (walk_of t job nodes)))
        (not (to == next_address job.pc))
        + (if is_unbroken w then part.rest (node_number t w to ∷ walk_of t job nodes) else 0)
        ≤ part.rest (walk_of t job nodes)
    by_watch to None e w ne = let le = alone (Goto to) e in omega (arith, le)
    by_watch to (Some []) e w ne =
        absurd (ne
        (empty_at_end (flows sys.word) plan W.frames job.pc (flow job.pc S.ins) to
        W.walked.are_frames
        (sym (step_some plan W.frames job.pc S.ins to)
        ∙ ap (λ x. watch_step plan x job.pc S.ins to) (sym W.watch) ∙ w)))
    by_watch to (Some (h ∷ hs)) e w ne = with_step to h hs e w

    pays_by : (next : Next) → next_pc S.ins job.pc job.registers ≡ next
        → cost sys.platform S.ins (not (part.counts (walk_of t job nodes)))
        (not (goes_to_next next job.pc)) + rest_after plan t part.rest job (walk_of t job nodes) S.ins next
        ≤ part.rest (walk_of t job nodes)
    pays_by (Goto to) e =
        elim (cases_Bool (to == end_address)) [
          | inl q ↦ let le = alone (Goto to) e in rw q (omega (arith, le))
          | inr q ↦
              rw q (by_watch to (watch_step plan job.watch job.pc S.ins to) e refl
              (eqb-false _ _ q))
        ]
    pays_by Answer e = let le = alone Answer e in omega (arith, le)
    pays_by Fault e = let le = alone Fault e in omega (arith, le)

    pub pays : cost sys.platform S.ins (not (part.counts (walk_of t job nodes)))
        (not (goes_to_next (next_pc S.ins job.pc job.registers) job.pc)) + rest_after plan t part.rest job
        (walk_of t job nodes) S.ins (next_pc S.ins job.pc job.registers)
        ≤ part.rest (walk_of t job nodes)
    pays = pays_by (next_pc S.ins job.pc job.registers) refl
