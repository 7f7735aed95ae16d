-- A job whose watch is not broken makes a kept walk.
use Rattle.std.specs.Prelude.{◌≡◌, ◌⊎◌, ℕ, ◌+◌, ◌<◌, ◌≤◌, List, [], ◌∷◌, length, Some, slice_get}
use Rattle.std.specs.Prelude.{slice_index_or}
use Rattle.crpd_base.specs.declared.data.LoopAt.{LoopAt}
use Rattle.crpd_base.specs.declared.data.TaskPlan.{TaskPlan}
use Rattle.rv_decode.specs.Address.{next_address, end_address}
use Rattle.rv_decode.specs.Flow.{Flow, Plain, Branch, Jump, Call, Exit, Break, Flows}
use Rattle.flat_graph.specs.FlatGraph.{HasNoErrors}
use Rattle.flat_graph.specs.Graph.{Graph, Edge, IsWalk, Places}
use Rattle.flat_graph.specs.Numbered.{FollowsCode}
use Rattle.flow_watch.specs.Watch.{Frame, start, step_by_flow, calls_under_way}
use Rattle.loop_regions.specs.Nest.{Nest, head_count, IsKeptWalk}
use Rattle.loop_regions.specs.Stated.{IsRegionOf, IsRegions}

-- the addresses to which an instruction may go for some registers
abbrev pub CanGo : ℕ → Flow → ℕ → Type 0
CanGo from Plain to = to ≡ next_address from
CanGo from (Branch t) to = (to ≡ next_address from) ⊎ (to ≡ t)
CanGo from (Jump t) to = to ≡ t
CanGo from (Call t) to = to ≡ t
CanGo from Exit to = ⊥
CanGo from Break to = ⊥
CanGo from _ to = Unit {0}

-- the iterations that a frame counts of the loop at a place of the plan
abbrev pub iterations_of : Frame → ℕ → ℕ
iterations_of f i = slice_index_or f.turns i 0

-- an address is the one after a call
abbrev pub IsBehindCall : Flows → ℕ → Type 0
IsBehindCall code back =
    (a t : ℕ) × (a + 4 ≤ end_address) × (back ≡ a + 4) × (code a ≡ Some (Some (Call t)))

-- the frames of a job: the bottom one returns to the end, each other one after a call, and each
-- counts all loops
abbrev pub AreFrames : Flows → TaskPlan → List Frame → Type 0
AreFrames code plan [] = ⊥
AreFrames code plan (f ∷ []) = (length f.turns ≡ length plan.loops) × (f.back ≡ end_address)
AreFrames code plan (f ∷ h ∷ fs) =
    (length f.turns ≡ length plan.loops) × IsBehindCall code f.back × AreFrames code plan (h ∷ fs)

-- each frame has the counts of the walk in the regions of the frame's context
abbrev pub CountsAgree : Graph → Places → List LoopAt → Nest → List Frame → List ℕ → Type 0
CountsAgree g p loops n [] w = Unit {0}
CountsAgree g p loops n (f ∷ fs) w =
    ((r i : ℕ) (l : LoopAt) → r < n.size → slice_get loops i ≡ Some l → IsRegionOf g p n r l
    → p.context (n.head r) ≡ calls_under_way (f ∷ fs) → head_count n r w ≡ iterations_of f i)
    × CountsAgree g p loops n fs w

-- the nodes are a kept walk; the frames' context and the address name its last node, and its counts
-- are the frames'
pub record IsWatchedWalk (code : Flows) (plan : TaskPlan) (g : Graph) (p : Places) (n : Nest)
    (y : ℕ) (before : List ℕ) (a : ℕ) (frames : List Frame) : Type 0 where
  pub walk : IsWalk g (y ∷ before)
  pub kept : IsKeptWalk n (y ∷ before)
  pub context : p.context y ≡ calls_under_way frames
  pub address : p.address y ≡ a
  pub counts : CountsAgree g p plan.loops n frames (y ∷ before)
  pub are_frames : AreFrames code plan frames

-- the start is such a walk, if the watch is not broken
abbrev pub WatchStartLaw : Type 0
WatchStartLaw =
    (code : Flows) (plan : TaskPlan) (g : Graph) (p : Places) (n : Nest) (frames : List Frame) →
    FollowsCode code plan.entry g p → IsRegions g p plan.loops n → start plan ≡ Some frames →
    IsWatchedWalk code plan g p n g.first [] plan.entry frames

-- the node to which a step goes, and the walk with it
pub record GoesTo (code : Flows) (plan : TaskPlan) (g : Graph) (p : Places) (n : Nest) (y : ℕ)
    (before : List ℕ) (to : ℕ) (frames : List Frame) : Type 0 where
  pub node : ℕ
  pub edge : Edge g y node
  pub walked : IsWatchedWalk code plan g p n node (y ∷ before) to frames

-- a step from an address with room for its word, after which the watch is not broken and has a
-- frame, continues the walk
abbrev pub WatchStepLaw : Type 0
WatchStepLaw =
    (code : Flows) (plan : TaskPlan) (g : Graph) (p : Places) (n : Nest) (y : ℕ) (before : List ℕ)
    (from : ℕ) (frames : List Frame) (flow : Flow) (to : ℕ) (h : Frame) (hs : List Frame) →
    FollowsCode code plan.entry g p → HasNoErrors code plan.entry → IsRegions g p plan.loops n →
    IsWatchedWalk code plan g p n y before from frames → code from ≡ Some (Some flow)
    → from + 4 ≤ end_address → CanGo from flow to →
    step_by_flow plan frames from flow to ≡ Some (h ∷ hs)
    → GoesTo code plan g p n y before to (h ∷ hs)
