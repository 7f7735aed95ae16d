-- The watch's counts are those of the walk.
use Rattle.std.proofs.Common.{◌≡◌, ◌≢◌, ℕ, zero, suc, ◌+◌, ◌<◌, ◌≤◌, eqb, ltb, leb, List, [], ◌∷◌}
use Rattle.std.proofs.Common.{◌++◌, length, map, reverse, Some, None, Contains, IsTrue, IsFalse}
use Rattle.std.proofs.Common.{slice_get, refl, sym, ap, ◌∙◌, subst, ⊎_elim, arith, eq-eqb, ne_eqb}
use Rattle.std.proofs.Common.{append_assoc, append-nil, length-append, slice_index_or}
use Rattle.std.proofs.lemmas.Bool.{cases_eq, cases_Bool, and_parts, leb-true, eqb-true, false≢true}
use Rattle.std.proofs.lemmas.List.{reverse-append, reverse-reverse}
use Rattle.crpd_base.proofs.Elements.{contains_at}
use Rattle.crpd_base.specs.declared.data.LoopAt.{LoopAt}
use Rattle.crpd_base.specs.declared.data.TaskPlan.{TaskPlan}
use Rattle.rv_decode.specs.Address.{next_address, address_before, end_address}
use Rattle.rv_decode.specs.Flow.{Flow, Plain, Branch, Jump, Call, Return, Exit, Break, OtherJalr}
use Rattle.rv_decode.specs.Flow.{OtherJal, Flows}
use Rattle.rv_decode.proofs.Addresses.{after_is, before_is, before_after}
use Rattle.flat_graph.specs.FlatGraph.{FlatNode, returns_to, goes_to, successors_by, successors}
use Rattle.flat_graph.specs.FlatGraph.{HasNoErrors}
use Rattle.flat_graph.specs.Graph.{Graph, Edge, IsWalk, Places}
use Rattle.flat_graph.specs.Numbered.{node_at, FollowsCode}
use Rattle.flow_watch.specs.Watch.{Frame, call_of, holds, iterations_after, all_iterations_after}
use Rattle.flow_watch.specs.Watch.{within_bounds, arrive, new_frame, step_by_flow, start}
use Rattle.flow_watch.specs.Watch.{calls_under_way}
use Rattle.loop_regions.specs.Nest.{Nest, head_count, IsKeptWalk}
use Rattle.loop_regions.specs.Stated.{seen_from, holds_seen, IsRegionOf, IsRegions}
use Rattle.loop_regions.specs.Watched.{CanGo, iterations_of, IsBehindCall, AreFrames, CountsAgree}
use Rattle.loop_regions.specs.Watched.{IsWatchedWalk, GoesTo, WatchStartLaw, WatchStepLaw}
use Rattle.loop_regions.proofs.Potential.{count_on, count_out}
use Rattle.loop_regions.proofs.Stated.{seen_here}

-- a node further in, seen from a context
seen_further : (c ext : List ℕ) (a : ℕ) → seen_from c (c ++ ext) a ≡ seen_from [] ext a
seen_further [] ext a = refl
seen_further (x ∷ c) ext a = rw (eq-eqb x x refl) (seen_further c ext a)

-- a node further out is not seen
seen_out : (c ext : List ℕ) (x a : ℕ) → seen_from (c ++ x ∷ ext) c a ≡ None
seen_out [] ext x a = refl
seen_out (y ∷ c) ext x a = rw (eq-eqb y y refl) (seen_out c ext x a)

-- the context of a node that is seen begins with this one
seen_prefix : (l : LoopAt) (c d : List ℕ) (a : ℕ) → IsTrue (holds_seen l (seen_from c d a))
    → (ext : List ℕ) × (d ≡ c ++ ext)
seen_prefix l [] d a h = (d, refl)
seen_prefix l (x ∷ c) [] a h = absurd (false≢true h)
seen_prefix l (x ∷ c) (y ∷ d) a h =
    ⊎_elim
    (λ (e : x ≡ y).
    let r = seen_prefix l c d a (rw (eq-eqb x y e) at h) in
    (r.0, ap (λ z. z ∷ d) (sym e) ∙ ap (λ z. x ∷ z) r.1))
    (λ (ne : x ≢ y). absurd (false≢true (rw (ne_eqb x y ne) at h)))
    (cases_eq x y)

longer : (c ext : List ℕ) (x : ℕ) → c ≡ c ++ x ∷ ext → ⊥
longer c ext x e = absurd (omega (arith, ap length e, length-append c (x ∷ ext)))

-- each count is within its bound
bounded : (loops : List LoopAt) (turns : List ℕ) (i : ℕ) (l : LoopAt) → length turns ≡ length loops
    → IsTrue (within_bounds loops turns) → slice_get loops i ≡ Some l
    → slice_index_or turns i 0 ≤ l.bound
bounded [] turns i l len h e = cc
bounded (m ∷ loops) [] i l len h e = absurd (omega arith)
bounded (m ∷ loops) (k ∷ turns) zero l len h e =
    let le = leb-true k m.bound (and_parts (leb k m.bound) (within_bounds loops turns) h).0 in
    let same : m ≡ l = cc in
    subst (λ x. k ≤ x.bound) same le
bounded (m ∷ loops) (k ∷ turns) (suc i) l len h e =
    bounded loops turns i l (omega arith)
    (and_parts (leb k m.bound) (within_bounds loops turns) h).1 e

-- the iterations of one loop after an arrival
turn_at : (a : ℕ) (loops : List LoopAt) (turns : List ℕ) (i : ℕ) (l : LoopAt)
    → length turns ≡ length loops → slice_get loops i ≡ Some l
    → slice_index_or (all_iterations_after a loops turns) i 0
    ≡ iterations_after a l (slice_index_or turns i 0)
turn_at a [] turns i l len e = cc
turn_at a (m ∷ loops) [] i l len e = absurd (omega arith)
turn_at a (m ∷ loops) (k ∷ turns) zero l len e =
    let same : m ≡ l = cc in ap (λ x. iterations_after a x k) same
turn_at a (m ∷ loops) (k ∷ turns) (suc i) l len e = turn_at a loops turns i l (omega arith) e

turns_length : (a : ℕ) (loops : List LoopAt) (turns : List ℕ) → length turns ≡ length loops
    → length (all_iterations_after a loops turns) ≡ length loops
turns_length a [] turns len = refl
turns_length a (m ∷ loops) [] len = absurd (omega arith)
turns_length a (m ∷ loops) (k ∷ turns) len = omega (arith, turns_length a loops turns (omega arith))

abbrev none_yet_of : List LoopAt → List ℕ
none_yet_of loops = map (λ l. 0) loops

zero_turns : (loops : List LoopAt) (i : ℕ) → slice_index_or (none_yet_of loops) i 0 ≡ 0
zero_turns [] i = refl
zero_turns (m ∷ loops) zero = refl
zero_turns (m ∷ loops) (suc i) = zero_turns loops i

no_turns_length : (loops : List LoopAt) → length (none_yet_of loops) ≡ length loops
no_turns_length [] = refl
no_turns_length (m ∷ loops) = omega (arith, no_turns_length loops)

-- a frame after the arrival at an address
abbrev arrived : TaskPlan → ℕ → Frame → Frame
arrived plan to f = record { back = f.back; turns = all_iterations_after to plan.loops f.turns }

context_arrive : (plan : TaskPlan) (to : ℕ) (f : Frame) (fs : List Frame)
    → calls_under_way (arrived plan to f ∷ fs) ≡ calls_under_way (f ∷ fs)
context_arrive plan to f [] = refl
context_arrive plan to f (g ∷ fs) = refl

frames_arrive : (code : Flows) (plan : TaskPlan) (to : ℕ) (f : Frame) (fs : List Frame)
    → AreFrames code plan (f ∷ fs) → AreFrames code plan (arrived plan to f ∷ fs)
frames_arrive code plan to f [] b = (turns_length to plan.loops f.turns b.0, b.1)
frames_arrive code plan to f (g ∷ fs) b = (turns_length to plan.loops f.turns b.0, b.1, b.2)

top_length : (code : Flows) (plan : TaskPlan) (f : Frame) (fs : List Frame)
    → AreFrames code plan (f ∷ fs) → length f.turns ≡ length plan.loops
top_length code plan f [] b = b.0
top_length code plan f (g ∷ fs) b = b.0

-- the address after a call follows that of the call
pub behind_is : (code : Flows) (back : ℕ) → IsBehindCall code back → address_before back + 4 ≡ back
behind_is code back b =
    let call : address_before back ≡ b.0 = ap address_before b.3 ∙ before_is b.0 b.2 in
    ap (λ a. a + 4) call ∙ sym b.3

-- a return from a context that ends with b
pub returns_from : (c : List ℕ) (b : ℕ) → returns_to (reverse (c ++ b ∷ [])) ≡ record {
  context = c;
  address = b + 4;
} ∷ []
returns_from c b =
    ap returns_to (reverse-append c (b ∷ []))
    ∙ ap (λ d. record { context = d; address = b + 4 } ∷ []) (reverse-reverse c)

pub in_one : (m m' : FlatNode) → m ≡ m' → Contains (m ∷ []) m'
in_one m m' e = (0, omega arith, e)

-- a branch goes to the next address or to its target
pub to_next : (c : List ℕ) (a t to : ℕ) → a + 4 ≡ to
    → Contains (goes_to c a (Branch t)) (record { context = c; address = to })
to_next c a t to e = (0, omega arith, λ i. record { context = c; address = e i })

pub to_target : (c : List ℕ) (a t to : ℕ) → t ≡ to
    → Contains (goes_to c a (Branch t)) (record { context = c; address = to })
to_target c a t to e =
    ⊎_elim
    (λ (next : t ≡ a + 4). to_next c a t to (sym next ∙ e))
    (λ (ne : t ≢ a + 4).
    let two : goes_to c a (Branch t) ≡ record { context = c; address = a + 4 } ∷ record {
      context = c;
      address = t;
    } ∷ [] = rw (ne_eqb t (a + 4) ne) refl in
    subst (λ l. Contains l (record { context = c; address = to })) (sym two) (
      1,
      omega arith,
      λ i. record { context = c; address = e i },
    ))
    (cases_eq t (a + 4))

module _ (code : Flows) (plan : TaskPlan) (g : Graph) (p : Places) (n : Nest)
    (F : FollowsCode code plan.entry g p) (R : IsRegions g p plan.loops n) where
  abbrev loops : List LoopAt
  loops = plan.loops

  kept_so_far : (w : List ℕ) (r : ℕ) → r < n.size → IsKeptWalk n w → head_count n r w ≤ n.bound r
  kept_so_far [] r lt k = omega arith
  kept_so_far (x ∷ w) r lt k = k.0 r lt

  same_place : (u v : ℕ) → p.context u ≡ p.context v → p.address u ≡ p.address v
      → node_at p u ≡ node_at p v
  same_place u v c a = λ i. record { context = c i; address = a i }

  -- in the node's own context, the count is that of the watch
  top_count : (v : ℕ) (w : List ℕ) (r : ℕ) (l : LoopAt) → v < g.size → r < n.size
      → IsRegionOf g p n r l → p.context (n.head r) ≡ p.context v
      → head_count n r (v ∷ w) ≡ iterations_after (p.address v) l (head_count n r w)
  top_count v w r l v_lt r_lt O e =
      let held : n.holds r v ≡ holds l (p.address v) =
      O.holds v v_lt ∙ ap (λ c. holds_seen l (seen_from c (p.context v) (p.address v))) e
      ∙ ap (holds_seen l) (seen_here (p.context v) (p.address v)) in
      let test : eqb v (n.head r) ≡ eqb (p.address v) l.head =
      ⊎_elim
      (λ (here : v ≡ n.head r).
      eq-eqb v (n.head r) here ∙ sym (eq-eqb (p.address v) l.head (ap p.address here ∙ O.head)))
      (λ (ne : v ≢ n.head r). ne_eqb v (n.head r) ne
      ∙ sym (ne_eqb (p.address v) l.head
      (λ h. ne
      (F.one_number v (n.head r) v_lt (R.node r r_lt)
      (same_place v (n.head r) (sym e) (h ∙ sym O.head))))))
      (cases_eq v (n.head r)) in
      ⊎_elim
      (λ (at_head : IsTrue (eqb (p.address v) l.head)). rw (held, test, at_head) refl)
      (λ (away : IsFalse (eqb (p.address v) l.head)). rw (held, test, away) refl)
      (cases_Bool (eqb (p.address v) l.head))

  -- in a context further out, it stays
  same_count : (v y : ℕ) (before : List ℕ) (r : ℕ) (l : LoopAt) → v < g.size → y < g.size
      → IsRegionOf g p n r l → v ≢ n.head r
      → seen_from (p.context (n.head r)) (p.context v) (p.address v)
      ≡ seen_from (p.context (n.head r)) (p.context y) (p.address y)
      → head_count n r (v ∷ y ∷ before) ≡ head_count n r (y ∷ before)
  same_count v y before r l v_lt y_lt O ne seen =
      let same : n.holds r v ≡ n.holds r y =
      O.holds v v_lt ∙ ap (holds_seen l) seen ∙ sym (O.holds y y_lt) in
      ⊎_elim
      (λ h. count_on n r v (y ∷ before) h ne)
      (λ h. count_out n r v (y ∷ before) h ∙ sym (count_out n r y before (sym same ∙ h)))
      (cases_Bool (n.holds r v))

  -- the frames below
  module _ (v y : ℕ) (before : List ℕ) (v_lt : v < g.size) (y_lt : y < g.size) where
    frame_same : (c mv my : List ℕ) → 0 < length mv → p.context v ≡ c ++ mv → p.context y ≡ c ++ my
        → seen_from [] mv (p.address v) ≡ seen_from [] my (p.address y) → (r : ℕ) (l : LoopAt)
        → IsRegionOf g p n r l → p.context (n.head r) ≡ c
        → head_count n r (v ∷ y ∷ before) ≡ head_count n r (y ∷ before)
    frame_same c mv my pos cv cy seen r l O e =
        same_count v y before r l v_lt y_lt O
        (λ here. let shorter : c ≡ c ++ mv = sym e ∙ ap p.context (sym here) ∙ cv in
        absurd (omega (arith, ap length shorter, length-append c mv, pos)))
        (ap (λ x. seen_from x (p.context v) (p.address v)) e
        ∙ ap (λ d. seen_from c d (p.address v)) cv
        ∙ seen_further c mv (p.address v)
        ∙ seen
        ∙ sym (seen_further c my (p.address y))
        ∙ sym (ap (λ d. seen_from c d (p.address y)) cy)
        ∙ sym (ap (λ x. seen_from x (p.context y) (p.address y)) e))

    lower : (fs : List Frame) (mv my : List ℕ) → 0 < length mv
        → p.context v ≡ calls_under_way fs ++ mv → p.context y ≡ calls_under_way fs ++ my
        → seen_from [] mv (p.address v) ≡ seen_from [] my (p.address y)
        → CountsAgree g p loops n fs (y ∷ before) → CountsAgree g p loops n fs (v ∷ y ∷ before)
    lower [] mv my pos cv cy seen old = tt
    lower (f ∷ []) mv my pos cv cy seen old = (
      (λ r i l lt at O e. frame_same [] mv my pos cv cy seen r l O e ∙ old.0 r i l lt at O e),
      tt,
    )
    lower (f ∷ h ∷ fs) mv my pos cv cy seen old =
        let b : ℕ = call_of f in (
          (λ r i l lt at O e. frame_same (calls_under_way (f ∷ h ∷ fs)) mv my pos cv cy seen r l O e
              ∙ old.0 r i l lt at O e),
          lower (h ∷ fs) (b ∷ mv) (b ∷ my) (omega arith)
              (cv ∙ append_assoc (calls_under_way (h ∷ fs)) (b ∷ []) mv)
              (cy ∙ append_assoc (calls_under_way (h ∷ fs)) (b ∷ []) my) refl old.1,
        )

  -- the arrival at a node
  module _ (v : ℕ) (w : List ℕ) (f : Frame) (fs : List Frame) (v_lt : v < g.size)
      (walk : IsWalk g (v ∷ w)) (kept : IsKeptWalk n w)
      (context : p.context v ≡ calls_under_way (f ∷ fs)) (are : AreFrames code plan (f ∷ fs))
      (old : (r i : ℕ) (l : LoopAt) → r < n.size → slice_get loops i ≡ Some l → IsRegionOf g p n r l
      → p.context (n.head r) ≡ p.context v → head_count n r w ≡ iterations_of f i)
      (below : CountsAgree g p loops n fs (v ∷ w)) where
    top : (r i : ℕ) (l : LoopAt) → r < n.size → slice_get loops i ≡ Some l → IsRegionOf g p n r l
        → p.context (n.head r) ≡ p.context v
        → head_count n r (v ∷ w) ≡ iterations_of (arrived plan (p.address v) f) i
    top r i l lt at O e =
        top_count v w r l v_lt lt O e
        ∙ ap (iterations_after (p.address v) l) (old r i l lt at O e)
        ∙ sym (turn_at (p.address v) loops f.turns i l (top_length code plan f fs are) at)

    abbrev fits_now : Type 0
    fits_now = IsTrue (within_bounds loops (all_iterations_after (p.address v) loops f.turns))

    kept_now : fits_now → (r : ℕ) → r < n.size → head_count n r (v ∷ w) ≤ n.bound r
    kept_now fits r lt =
        let s = R.stated r lt in
        let at = contains_at loops s.0 s.1 in
        ⊎_elim
        (λ (h : IsTrue (n.holds r v)).
        let seen = seen_prefix s.0 (p.context (n.head r)) (p.context v) (p.address v)
        (sym (s.2.holds v v_lt) ∙ h) in
        further r lt s.0 s.2 at.0 at.1 fits h seen.0 seen.1)
        (λ (h : IsFalse (n.holds r v)). omega (arith, count_out n r v w h))
        (cases_Bool (n.holds r v))
      where
        further : (r : ℕ) → r < n.size → (l : LoopAt) → IsRegionOf g p n r l → (i : ℕ)
            → slice_get loops i ≡ Some l → fits_now → IsTrue (n.holds r v) → (ext : List ℕ)
            → p.context v ≡ p.context (n.head r) ++ ext → head_count n r (v ∷ w) ≤ n.bound r
        further r lt l O i at fits h [] e =
            let now = top r i l lt at O (sym (e ∙ append-nil (p.context (n.head r)))) in
            let ok = bounded loops (all_iterations_after (p.address v) loops f.turns) i l
            (turns_length (p.address v) loops f.turns (top_length code plan f fs are)) fits at in
            omega (arith, now, ok, O.bound)
        further r lt l O i at fits h (x ∷ ext) e =
            let on = count_on n r v w h (λ here.
            longer (p.context (n.head r)) ext x (ap p.context (sym here) ∙ e)) in
            let before = kept_so_far w r lt kept in
            omega (arith, on, before)

    arrives : fits_now → IsWatchedWalk code plan g p n v w (p.address v)
        (arrived plan (p.address v) f ∷ fs)
    arrives fits = record {
      walk = walk;
      kept = (kept_now fits, kept);
      context = context ∙ sym (context_arrive plan (p.address v) f fs);
      address = refl;
      counts = (
        (λ r i l lt at O e. top r i l lt at O
            (e ∙ context_arrive plan (p.address v) f fs ∙ sym context)),
        below,
      );
      are_frames = frames_arrive code plan (p.address v) f fs are;
    }

    -- the frames afterwards
    arrived_at : (to : ℕ) (frames : List Frame) → p.address v ≡ to
        → arrive plan to (f ∷ fs) ≡ Some frames → IsWatchedWalk code plan g p n v w to frames
    arrived_at to frames here e =
        subst (λ a. arrive plan a (f ∷ fs) ≡ Some frames
        → IsWatchedWalk code plan g p n v w a frames) here
        (λ e'. ⊎_elim
        (λ (fits : fits_now).
        let same : arrived plan (p.address v) f ∷ fs ≡ frames = let r = rw fits at e' in cc in
        subst (λ z. IsWatchedWalk code plan g p n v w (p.address v) z) same (arrives fits))
        (λ (breaks : IsFalse
        (within_bounds loops (all_iterations_after (p.address v) loops f.turns))).
        absurd (let r = rw breaks at e' in cc))
        (cases_Bool (within_bounds loops (all_iterations_after (p.address v) loops f.turns))))
        e

  -- one step from y
  module _ (no_error : HasNoErrors code plan.entry) (y : ℕ) (before : List ℕ) (from : ℕ)
      (ins : Flow) (to : ℕ) (f : Frame) (fs : List Frame)
      (W : IsWatchedWalk code plan g p n y before from (f ∷ fs))
      (there : code from ≡ Some (Some ins)) where
    y_lt : y < g.size
    y_lt = by_walk before W.walk
      where
        by_walk : (before : List ℕ) → IsWalk g (y ∷ before) → y < g.size
        by_walk [] walk = subst (λ x. x < g.size) (sym walk) F.graph.first
        by_walk (x ∷ before) walk = F.graph.edges x y walk.0

    goes : successors code plan.entry (node_at p y) ≡ goes_to (p.context y) (p.address y) ins
    goes =
        ap (λ o. successors_by o (p.context y) (p.address y) (code (p.address y)))
        (no_error (node_at p y) (F.nodes y y_lt))
        ∙ ap (λ c. successors_by None (p.context y) (p.address y) c) (ap code W.address ∙ there)

    pub next : (m : FlatNode) → Contains (goes_to (p.context y) (p.address y) ins) m
        → (v : ℕ) × Edge g y v × (node_at p v ≡ m)
    next m c = F.numbers y m y_lt (subst (λ l. Contains l m) (sym goes) c)

    -- the frames below the top one, at a node in the same context
    below_top : (hs : List Frame) (v : ℕ) → v < g.size → p.context y ≡ calls_under_way (f ∷ hs)
        → p.context v ≡ calls_under_way (f ∷ hs) → CountsAgree g p loops n hs (y ∷ before)
        → CountsAgree g p loops n hs (v ∷ y ∷ before)
    below_top [] v v_lt cy cv old = tt
    below_top (h ∷ hs) v v_lt cy cv old =
        let b : ℕ = call_of f in
        lower v y before v_lt y_lt (h ∷ hs) (b ∷ []) (b ∷ []) (omega arith) cv cy refl old

    -- a step to the next address in the same context
    straight : (frames : List Frame)
        → Contains (goes_to (p.context y) (p.address y) ins)
        (record { context = p.context y; address = to }) → arrive plan to (f ∷ fs) ≡ Some frames
        → GoesTo code plan g p n y before to frames
    straight frames c e =
        let v = next (record { context = p.context y; address = to }) c in
        let v_lt = F.graph.edges y v.0 v.1 in
        let same : p.context v.0 ≡ p.context y = ap (λ m. m.context) v.2 in
        record {
          node = v.0;
          edge = v.1;
          walked =
              arrived_at v.0 (y ∷ before) f fs v_lt (v.1, W.walk) W.kept
              (same ∙ W.context) W.are_frames
              (λ r i l lt at O e'. W.counts.0 r i l lt at O (e' ∙ same ∙ W.context))
              (below_top fs v.0 v_lt W.context (same ∙ W.context) W.counts.1)
              to frames (ap (λ m. m.address) v.2) e;
        }

    -- a call: no region of the new context holds the caller
    none_yet : (v : ℕ) → p.context v ≡ p.context y ++ p.address y ∷ [] → (r : ℕ) (l : LoopAt)
        → IsRegionOf g p n r l → p.context (n.head r) ≡ p.context v
        → head_count n r (y ∷ before) ≡ 0
    none_yet v cv r l O e =
        count_out n r y before
        (O.holds y y_lt
        ∙ ap (λ c. holds_seen l (seen_from c (p.context y) (p.address y))) (e ∙ cv)
        ∙ ap (holds_seen l) (seen_out (p.context y) [] (p.address y) (p.address y)))

    call : (t : ℕ) → ins ≡ Call t → (frames : List Frame)
        → Contains (goes_to (p.context y) (p.address y) ins)
        (record { context = p.context y ++ p.address y ∷ []; address = to })
        → arrive plan to (new_frame plan (next_address from) ∷ f ∷ fs) ≡ Some frames
        → from + 4 ≤ end_address → GoesTo code plan g p n y before to frames
    call t is frames c e room =
        let v = next (record { context = p.context y ++ p.address y ∷ []; address = to }) c in
        let v_lt = F.graph.edges y v.0 v.1 in
        let cv : p.context v.0 ≡ p.context y ++ p.address y ∷ [] = ap (λ m. m.context) v.2 in
        let back : p.address y ≡ call_of (new_frame plan (next_address from)) =
        W.address ∙ sym (before_after from room) in
        let frame_context : p.context v.0
        ≡ calls_under_way (f ∷ fs) ++ call_of (new_frame plan (next_address from)) ∷ [] =
        cv ∙ ap (λ x. x ++ p.address y ∷ []) W.context
        ∙ ap (λ x. calls_under_way (f ∷ fs) ++ x ∷ []) back in
        let behind : IsBehindCall code (next_address from) =
        (from, t, room, after_is from room, there ∙ ap (λ k. Some (Some k)) is) in
        record {
          node = v.0;
          edge = v.1;
          walked =
              arrived_at v.0 (y ∷ before) (new_frame plan (next_address from)) (f ∷ fs) v_lt
              (v.1, W.walk) W.kept frame_context
              (no_turns_length loops, behind, W.are_frames)
              (λ r i l lt at O e'. none_yet v.0 cv r l O e' ∙ sym (zero_turns loops i))
              (lower v.0 y before v_lt y_lt (f ∷ fs) (p.address y ∷ []) [] (omega arith)
              (cv ∙ ap (λ x. x ++ p.address y ∷ []) W.context)
              (W.context ∙ sym (append-nil (calls_under_way (f ∷ fs)))) refl W.counts)
              to frames (ap (λ m. m.address) v.2) e;
        }

  -- a return to the frame below
  module _ (no_error : HasNoErrors code plan.entry) (y : ℕ) (before : List ℕ) (from to : ℕ)
      (f h : Frame) (hs : List Frame) (W : IsWatchedWalk code plan g p n y before from (f ∷ h ∷ hs))
      (there : code from ≡ Some (Some Return)) where
    landing : FlatNode
    landing = record { context = calls_under_way (h ∷ hs); address = call_of f + 4 }

    lands : Contains (goes_to (p.context y) (p.address y) Return) landing
    unfolding landing
    lands =
        subst (λ l. Contains l (record {
          context = calls_under_way (h ∷ hs);
          address = call_of f + 4;
        }))
        (sym (ap (λ c. returns_to (reverse c)) W.context
        ∙ returns_from (calls_under_way (h ∷ hs)) (call_of f)))
        (in_one (record { context = calls_under_way (h ∷ hs); address = call_of f + 4 })
        (record { context = calls_under_way (h ∷ hs); address = call_of f + 4 }) refl)

    below_lower : (ks : List Frame) (v : ℕ) → v < g.size → y < g.size
        → p.context y ≡ calls_under_way (h ∷ ks) ++ (call_of f) ∷ []
        → p.context v ≡ calls_under_way (h ∷ ks) → CountsAgree g p loops n ks (y ∷ before)
        → CountsAgree g p loops n ks (v ∷ y ∷ before)
    below_lower [] v v_lt y_lt cy cv old = tt
    below_lower (k ∷ ks) v v_lt y_lt cy cv old =
        let b : ℕ = call_of h in
        let d : ℕ = call_of f in
        lower v y before v_lt y_lt (k ∷ ks) (b ∷ []) (b ∷ d ∷ []) (omega arith) cv
        (cy ∙ append_assoc (calls_under_way (k ∷ ks)) (b ∷ []) (d ∷ [])) refl old

    back : (frames : List Frame) → to ≡ f.back → arrive plan to (h ∷ hs) ≡ Some frames
        → GoesTo code plan g p n y before to frames
    unfolding landing
    back frames here e =
        let v = next no_error y before from Return to f (h ∷ hs) W there landing lands in
        let v_lt = F.graph.edges y v.0 v.1 in
        let cv : p.context v.0 ≡ calls_under_way (h ∷ hs) = ap (λ m. m.context) v.2 in
        let av : p.address v.0 ≡ call_of f + 4 = ap (λ m. m.address) v.2 in
        let four = behind_is code f.back W.are_frames.1 in
        record {
          node = v.0;
          edge = v.1;
          walked = arrived_at v.0 (y ∷ before) h hs v_lt (v.1, W.walk) W.kept cv W.are_frames.2
              (λ r i l lt at O e'. W.counts.1.0 r i l lt at O (e' ∙ cv))
              (below_lower hs v.0 v_lt v.1.0 W.context cv W.counts.1.1)
              to frames (omega (arith, av, here, four)) e;
        }

  -- any step
  pub one_step : (no_error : HasNoErrors code plan.entry) (y : ℕ) (before : List ℕ) (from : ℕ)
      (ins : Flow) (to : ℕ) (f : Frame) (fs : List Frame)
      (W : IsWatchedWalk code plan g p n y before from (f ∷ fs)) → code from ≡ Some (Some ins)
      → from + 4 ≤ end_address → CanGo from ins to → (h : Frame) (hs : List Frame)
      → step_by_flow plan (f ∷ fs) from ins to ≡ Some (h ∷ hs)
      → GoesTo code plan g p n y before to (h ∷ hs)
  one_step no_error y before from Plain to f fs W there room can h hs e =
      straight no_error y before from Plain to f fs W there (h ∷ hs)
      (in_one _ _ (λ i. record {
        context = p.context y;
        address = (ap (λ a. a + 4) W.address ∙ sym (can ∙ after_is from room)) i;
      })) e
  one_step no_error y before from (Branch t) to f fs W there room can h hs e =
      straight no_error y before from (Branch t) to f fs W there (h ∷ hs)
      (⊎_elim
      (λ (on : to ≡ next_address from).
      to_next (p.context y) (p.address y) t to
      (ap (λ a. a + 4) W.address ∙ sym (on ∙ after_is from room)))
      (λ (there : to ≡ t). to_target (p.context y) (p.address y) t to (sym there))
      can)
      e
  one_step no_error y before from (Jump t) to f fs W there room can h hs e =
      straight no_error y before from (Jump t) to f fs W there (h ∷ hs)
      (in_one _ _ (λ i. record { context = p.context y; address = sym can i })) e
  one_step no_error y before from (Call t) to f fs W there room can h hs e =
      ⊎_elim
      (λ (fits : IsTrue (ltb (length (f ∷ fs)) 17)).
      call no_error y before from (Call t) to f fs W there t refl (h ∷ hs)
      (in_one _ _ (λ i. record { context = p.context y ++ p.address y ∷ []; address = sym can i }))
      (rw fits at e) room)
      (λ (full : IsFalse (ltb (length (f ∷ fs)) 17)). absurd (let x = rw full at e in cc))
      (cases_Bool (ltb (length (f ∷ fs)) 17))
  one_step no_error y before from Return to f [] W there room can h hs e =
      ⊎_elim
      (λ (here : IsTrue (eqb to f.back)). absurd (let x = rw here at e in cc))
      (λ (other : IsFalse (eqb to f.back)). absurd (let x = rw other at e in cc))
      (cases_Bool (eqb to f.back))
  one_step no_error y before from Return to f (k ∷ ks) W there room can h hs e =
      ⊎_elim
      (λ (here : IsTrue (eqb to f.back)).
      back no_error y before from to f k ks W there (h ∷ hs) (eqb-true to f.back here)
      (rw here at e))
      (λ (other : IsFalse (eqb to f.back)). absurd (let x = rw other at e in cc))
      (cases_Bool (eqb to f.back))
  one_step no_error y before from Exit to f fs W there room can h hs e = absurd can
  one_step no_error y before from Break to f fs W there room can h hs e = absurd can
  one_step no_error y before from OtherJalr to f fs W there room can h hs e =
      absurd (let x = e in cc)
  one_step no_error y before from OtherJal to f fs W there room can h hs e =
      absurd (let x = e in cc)

  -- the start
  pub at_start : (frames : List Frame) → start plan ≡ Some frames
      → IsWatchedWalk code plan g p n g.first [] plan.entry frames
  at_start frames e =
      arrived_at g.first [] (new_frame plan end_address) [] F.graph.first refl tt
      (ap (λ m. m.context) F.first) (no_turns_length loops, refl)
      (λ r i l lt at O e'. sym (zero_turns loops i)) tt plan.entry frames
      (ap (λ m. m.address) F.first) e

pub watch_start_law : WatchStartLaw
watch_start_law code plan g p n frames F R e = at_start code plan g p n F R frames e

pub watch_step_law : WatchStepLaw
watch_step_law code plan g p n y before from [] flow to h hs F no_error R W there room can e =
    absurd W.are_frames
watch_step_law code plan g p n y before from (f ∷ fs) flow to h hs F no_error R W there room can e =
    one_step code plan g p n F R no_error y before from flow to f fs W there room can h hs e
