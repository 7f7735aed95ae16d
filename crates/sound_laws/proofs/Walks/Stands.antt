-- For steps 3 to 5: a job on a walk is at an instruction of its graph, and continues along an edge.
use Rattle.std.proofs.Common.{◌≡◌, ℕ, ◌+◌, ◌<◌, ◌≤◌, List, [], ◌∷◌, Option, Some, None, refl, sym}
use Rattle.std.proofs.Common.{◌∙◌, ap, subst, inl, inr, ◌==◌, ◌%◌}
use Rattle.std.proofs.lemmas.Bool.{cases_Bool}
use Rattle.crpd_base.specs.declared.data.TaskPlan.{TaskPlan}
use Rattle.rv_decode.specs.declared.Ins.{Ins}
use Rattle.rv_decode.specs.declared.Ins.TheVariants.{Ebreak}
use Rattle.rv_decode.specs.Address.{end_address}
use Rattle.rv_decode.specs.Table.{ins_of_word}
use Rattle.rv_decode.specs.Flow.{Flow, Plain, Branch, Jump, Call, Return, Exit, Break, OtherJalr}
use Rattle.rv_decode.specs.Flow.{OtherJal, flow, flows, flow_of_word, flow_of_row}
use Rattle.rv_core.specs.declared.Next.{Next}
use Rattle.rv_core.specs.declared.Next.TheVariants.{Goto, Fault}
use Rattle.rv_core.specs.Effect.{next_pc}
use Rattle.flow_watch.specs.Watch.{Frame, step_by_flow, calls_under_way, step as watch_step}
use Rattle.flat_graph.specs.FlatGraph.{NodeError, OutsideCode, Undecodable, Breakpoint}
use Rattle.flat_graph.specs.FlatGraph.{IndirectJump, OtherLink, Misaligned, ins_error}
use Rattle.flat_graph.specs.Graph.{IsWalk}
use Rattle.flat_graph.specs.Numbered.{node_at}
use Rattle.loop_regions.specs.Watched.{AreFrames, IsWatchedWalk, GoesTo}
use Rattle.loop_regions.proofs.Watched.{watch_step_law}
use Rattle.loop_regions.specs.TaskGraph.{TaskGraph}
use Rattle.cert_check.specs.JudgeInput.{IsGraphOf}
use Rattle.preempt_machine.specs.Machine.{System, Job, ins_at, runnable}
use Rattle.run_account.specs.Nodes.{node_of_job, node_number}
use Rattle.rv_decode.specs.Flow.{IsCodeMap}
use Rattle.sound_laws.specs.Walks.{before_of, IsOnWalk}
use Rattle.loop_regions.proofs.Flows.{GoesBy, flow_goes, can_go}
use Rattle.loop_regions.proofs.Steps.{bottom_return, step_some}
use Rattle.run_account.proofs.NodeNumbers.{number_is}

-- the flows that a node without an error has
abbrev pub IsFollowed : Flow → Type 0
IsFollowed Break = ⊥
IsFollowed OtherJalr = ⊥
IsFollowed OtherJal = ⊥
IsFollowed _ = Unit {0}

-- the instruction at which a job is
pub record Stands (sys : System) (t : TaskGraph) (y a : ℕ) : Type 0 where
  pub node : y < t.graph.size
  pub ins : Ins
  pub at : ins_at sys a ≡ Some ins
  pub flow_is : flows sys.word a ≡ Some (Some (flow a ins))
  pub listed : t.ins y ≡ ins
  pub room : a + 4 ≤ end_address
  pub followed : IsFollowed (flow a ins)

none_some_error : (e : NodeError) → Some e ≡ None → ⊥
none_some_error e h = cc

runs : (ins : Ins) (a : ℕ) → IsFollowed (flow a ins) → runnable ins ≡ Some ins
unfolding flow
runs Ebreak a h = absurd h
runs _ a h = refl

followed_by : (code : ℕ → Option (Option Flow)) (entry : ℕ) (c : List ℕ) (f : Flow)
    → ins_error code entry c (Some (Some f)) ≡ None → IsFollowed f
followed_by code entry c Plain h = tt
followed_by code entry c (Branch t) h = tt
followed_by code entry c (Jump t) h = tt
followed_by code entry c (Call t) h = tt
followed_by code entry c Return h = tt
followed_by code entry c Exit h = tt
followed_by code entry c Break h = none_some_error Breakpoint h
followed_by code entry c OtherJalr h = none_some_error IndirectJump h
followed_by code entry c OtherJal h = none_some_error OtherLink h

pub no_fault_next : (ins : Ins) (a : ℕ) (r : List ℕ) → IsFollowed (flow a ins)
    → next_pc ins a r ≡ Fault → ⊥
no_fault_next ins a r h e = by_flow (flow a ins) (next_pc ins a r) h (flow_goes ins a r) e
  where
    by_flow : (f : Flow) (next : Next) → IsFollowed f → GoesBy f a next → next ≡ Fault → ⊥
    by_flow Plain next h g e = absurd (let x = sym e ∙ g in cc)
    by_flow (Branch t) next h (inl g) e = absurd (let x = sym e ∙ g in cc)
    by_flow (Branch t) next h (inr g) e = absurd (let x = sym e ∙ g in cc)
    by_flow (Jump t) next h g e = absurd (let x = sym e ∙ g in cc)
    by_flow (Call t) next h g e = absurd (let x = sym e ∙ g in cc)
    by_flow Return next h g e = absurd (let x = sym e ∙ g.1 in cc)
    by_flow Exit next h g e = absurd (let x = sym e ∙ g in cc)
    by_flow Break next h g e = h
    by_flow OtherJalr next h g e = h
    by_flow OtherJal next h g e = h

-- the frames are empty only if the job is at its end
pub empty_at_end : (code : ℕ → Option (Option Flow)) (plan : TaskPlan) (frames : List Frame)
    (from : ℕ) (f : Flow) (to : ℕ) → AreFrames code plan frames
    → step_by_flow plan frames from f to ≡ Some [] → to ≡ end_address
empty_at_end code plan frames from f to are e =
    (bottom_return code plan frames from f to are e).at_end

module _ (sys : System) (plan : TaskPlan) (t : TaskGraph) (ok : IsGraphOf sys.word plan t)
    (map : IsCodeMap sys.word) where
  pub walk_node : (y : ℕ) (before : List ℕ) → IsWalk t.graph (y ∷ before) → y < t.graph.size
  walk_node y [] walk = subst (λ x. x < t.graph.size) (sym walk) ok.follows.graph.first
  walk_node y (x ∷ before) walk = ok.follows.graph.edges x y walk.0

  no_ins_error : (y : ℕ) → y < t.graph.size
      → ins_error (flows sys.word) plan.entry (t.places.context y)
      (flows sys.word (t.places.address y)) ≡ None
  no_ins_error y l =
      let none = ok.no_errors (node_at t.places y) (ok.follows.nodes y l) in
      elim (cases_Bool (t.places.address y % 4 == 0)) [
        | inl b ↦ rw b at none
        | inr b ↦ absurd (none_some_error Misaligned (rw b at none))
      ]

  stands_by_row : (y a w : ℕ) (r : Option Ins) → y < t.graph.size → t.places.address y ≡ a
      → sys.word a ≡ Some w → ins_of_word w ≡ r
      → ins_error (flows sys.word) plan.entry (t.places.context y) (Some (flow_of_row a r)) ≡ None
      → Stands sys t y a
  unfolding ins_at
  stands_by_row y a w None l here is r none = absurd (none_some_error Undecodable none)
  stands_by_row y a w (Some ins) l here is r none =
      let followed = followed_by (flows sys.word) plan.entry (t.places.context y)
      (flow a ins) none in
      let listed : ins_of_word w ≡ Some (t.ins y) = ok.instructions y w l (ap sys.word here ∙ is) in
      record {
        node = l;
        ins = ins;
        at = rw (is, r) (runs ins a followed);
        flow_is = rw (is, r) refl;
        listed = let both = sym listed ∙ r in cc;
        room = map a w is;
        followed = followed;
      }

  stands_by_word : (y a : ℕ) (o : Option ℕ) → y < t.graph.size → t.places.address y ≡ a
      → sys.word a ≡ o → ins_error (flows sys.word) plan.entry (t.places.context y)
      (flow_of_word a o) ≡ None → Stands sys t y a
  stands_by_word y a None l here is none = absurd (none_some_error OutsideCode none)
  stands_by_word y a (Some w) l here is none =
      stands_by_row y a w (ins_of_word w) l here is refl none

  pub stands : (y a : ℕ) → y < t.graph.size → t.places.address y ≡ a → Stands sys t y a
  stands y a l here =
      let none = subst
      (λ z. ins_error (flows sys.word) plan.entry (t.places.context y) (flows sys.word z) ≡ None)
      here (no_ins_error y l) in
      stands_by_word y a (sys.word a) l here refl none

  pub stands_on : (job : Job) (nodes : List ℕ) → IsOnWalk sys.word plan t job nodes
      → Stands sys t (node_of_job t job) job.pc
  stands_on job nodes W =
      stands (node_of_job t job) job.pc
      (walk_node (node_of_job t job) (before_of job nodes) W.walked.walk) W.walked.address

  -- where a job continues under a watch that is not broken
  pub goes_on_walk : (job : Job) (nodes : List ℕ) (W : IsOnWalk sys.word plan t job nodes)
      (S : Stands sys t (node_of_job t job) job.pc) (to : ℕ) (h : Frame) (hs : List Frame)
      → next_pc S.ins job.pc job.registers ≡ Goto to
      → watch_step plan job.watch job.pc S.ins to ≡ Some (h ∷ hs)
      → GoesTo (flows sys.word) plan t.graph t.places t.nest (node_of_job t job)
      (before_of job nodes) to (h ∷ hs)
  goes_on_walk job nodes W S to h hs e w =
      watch_step_law (flows sys.word) plan t.graph t.places t.nest (node_of_job t job)
      (before_of job nodes) job.pc W.frames (flow job.pc S.ins) to h hs ok.follows ok.no_errors
      ok.regions W.walked S.flow_is S.room
      (can_go (flow job.pc S.ins) job.pc (next_pc S.ins job.pc job.registers) to
      (flow_goes S.ins job.pc job.registers) e)
      (sym (step_some plan W.frames job.pc S.ins to)
      ∙ ap (λ x. watch_step plan x job.pc S.ins to) (sym W.watch) ∙ w)

  -- the number of the node that it reaches
  pub number_there : (v : ℕ) (before : List ℕ) (a : ℕ) (frames : List Frame)
      → IsWatchedWalk (flows sys.word) plan t.graph t.places t.nest v before a frames
      → node_number t (Some frames) a ≡ v
  number_there v before a frames W =
      number_is t.places (calls_under_way frames) a v W.context W.address t.graph.size
      (walk_node v before W.walk)
      (λ u l c b. ok.follows.one_number u v l (walk_node v before W.walk)
      (λ i. record { context = (c ∙ sym W.context) i; address = (b ∙ sym W.address) i }))
