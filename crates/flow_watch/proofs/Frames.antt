-- Rows of iterations, and the frames that they store.
use Rattle.std.proofs.Common.{◌≡◌, ◌≢◌, ℕ, suc, zero, ◌+◌, ◌-◌, ◌*◌, ◌^◌, ◌<◌, ◌≤◌, ◌==◌, nat_lt}
use Rattle.std.proofs.Common.{true, false, List, [], ◌∷◌, ◌++◌, length, take, drop, get_or, set}
use Rattle.std.proofs.Common.{map, replicate, slice_index, IfSome, Option, Some, None}
use Rattle.std.proofs.Common.{option_and_then, refl, sym, ◌∙◌, ap, subst, arith, length-append}
use Rattle.std.proofs.Common.{eq-eqb, get_or-set_same, get_or-set_other, Vec}
use Rattle.std.proofs.lemmas.Bool.{lt-ltb, le-ltb, ne_eqb}
use Rattle.std.proofs.Math.Nat.{mul-le-mul_right}
use Rattle.std.proofs.Math.Seq.{take-suc}
use Rattle.std.proofs.lemmas.List.{drop-take, take-take, take_at, drop_at, length-take-le}
use Rattle.std.proofs.lemmas.List.{length-drop, with_items_is, take-replicate}
use Rattle.std.proofs.lemmas.List.Elements.{All-nil, All-cons, All-get_or}
use Rattle.std.proofs.lemmas.Simd.{splat_is_map}
use Rattle.std.specs.Prelude.{Bool, if◌then◌else◌}
use Rattle.std.specs.Vec.{with_items_from}
use Rattle.crpd_base.proofs.Rows.{row_ends}
use Rattle.rv_decode.specs.Address.{next_address, address_before, end_address}
use Rattle.crpd_base.specs.declared.data.LoopAt.{LoopAt}
use Rattle.crpd_base.specs.declared.data.TaskPlan.{TaskPlan}
use Rattle.flow_watch.specs.Watch.{Frame, Watch, all_iterations_after, within_bounds, arrive}
use Rattle.flow_watch.specs.Watch.{context}
use Rattle.flow_watch.specs.Iterations.{HasIterations}
use Rattle.flow_watch.specs.Quiet.{IsQuiet}
use Rattle.flow_watch.specs.Inner.Quiet.{KeepsAllIterations}
use Rattle.flow_watch.specs.Inner.Changes.{frames_after_call, frames_after_return}
use Rattle.flow_watch.specs.Inner.Rows.{frame_row, back, frames_of, watch_of, IsRoom}

-- a part of a prefix of a list is the same part of the list
front : (a n l : ℕ) (xs : List ℕ) → a + n ≤ l → take n (drop a (take l xs)) ≡ take n (drop a xs)
front a n l xs fits =
    let is : l ≡ a + (l - a) = omega arith in
    let room : n ≤ l - a = omega arith in
    ap (λ (k : ℕ). take n (drop a (take k xs))) is
    ∙ (ap (λ (ys : List ℕ). take n ys) (drop-take a (l - a) xs)
    ∙ take-take n (l - a) (drop a xs) room)

-- a row was written, and those below it are unchanged
pub record IsWritten (n k : ℕ) (old ws new : List ℕ) : Type 0 where
  pub same : length new ≡ length old
  pub here : frame_row n new k ≡ ws
  pub below : (j : ℕ) → j < k → frame_row n new j ≡ frame_row n old j

pub written :
    (n k : ℕ) (old ws new : List ℕ) → length ws ≡ n → k * n + n ≤ length old →
    new ≡ take (k * n) old ++ (ws ++ drop (length ws) (drop (k * n) old)) → IsWritten n k old ws new
written n k old ws new len fits is =
    let front_len : length (take (k * n) old) ≡ k * n = length-take-le (k * n) old (omega arith) in
    let rest : List ℕ = ws ++ drop (length ws) (drop (k * n) old) in
    record {
      same =
          ap length is
          ∙ omega (
            arith,
            length-append (take (k * n) old) (ws ++ drop (length ws) (drop (k * n) old)),
            length-append ws (drop (length ws) (drop (k * n) old)),
            length-drop (length ws) (drop (k * n) old),
            length-drop (k * n) old,
            front_len,
          );
      here =
          ap (λ (t : List ℕ). take n (drop (k * n) t)) is
          ∙ (ap (λ (t : List ℕ). take n t)
          (drop_at (take (k * n) old) (ws ++ drop (length ws) (drop (k * n) old)) (k * n) front_len)
          ∙ take_at ws (drop (length ws) (drop (k * n) old)) n len);
      below = λ j lt.
          let ends = row_ends n j k lt in
          ap (λ (t : List ℕ). take n (drop (j * n) t)) is
          ∙ (sym (front (j * n) n (k * n)
          (take (k * n) old ++ (ws ++ drop (length ws) (drop (k * n) old))) ends)
          ∙ (ap (λ (t : List ℕ). take n (drop (j * n) t))
          (take_at (take (k * n) old) (ws ++ drop (length ws) (drop (k * n) old)) (k * n) front_len)
          ∙ front (j * n) n (k * n) old ends));
    }

-- frames with the same rows and the same return addresses
pub frames-same :
    (n : ℕ) (calls' calls turns' turns : List ℕ) (d : ℕ)
    → ((k : ℕ) → k < d → back calls' k ≡ back calls k) →
    ((k : ℕ) → k < d → frame_row n turns' k ≡ frame_row n turns k)
    → frames_of n calls' turns' d ≡ frames_of n calls turns d
frames-same n calls' calls turns' turns zero backs rows = refl
frames-same n calls' calls turns' turns (suc d) backs rows =
    let b : back calls' d ≡ back calls d = backs d (omega arith) in
    let r : frame_row n turns' d ≡ frame_row n turns d = rows d (omega arith) in
    let fs : frames_of n calls' turns' d ≡ frames_of n calls turns d =
    frames-same n calls' calls turns' turns d (λ k lt. backs k (omega arith))
    (λ k lt. rows k (omega arith)) in
    rw (b, r, fs) refl

pub length-row : (n : ℕ) (turns : List ℕ) (d : ℕ) → d * n + n ≤ length turns
    → length (frame_row n turns d) ≡ n
length-row n turns d room =
    length-take-le n (drop (d * n) turns) (omega (arith, length-drop (d * n) turns))

pub length-frames_of : (n : ℕ) (calls turns : List ℕ) (d : ℕ)
    → length (frames_of n calls turns d) ≡ d
length-frames_of n calls turns zero = refl
length-frames_of n calls turns (suc d) = ap suc (length-frames_of n calls turns d)

-- frames of which the top row was written; those below it are unchanged
pub frames-written :
    (n k : ℕ) (calls old ws new : List ℕ) → IsWritten n k old ws new →
    frames_of n calls new (suc k) ≡ record {
      back = back calls k;
      turns = ws;
    } ∷ frames_of n calls old k
frames-written n k calls old ws new w =
    let h : frame_row n new k ≡ ws = w.here in
    let fs : frames_of n calls new k ≡ frames_of n calls old k =
    frames-same n calls calls new old k (λ j lt. refl) w.below in
    rw (h, fs) refl

-- each frame has its iterations
pub turns_of :
    (n : ℕ) (calls turns : List ℕ) (d : ℕ) → d * n ≤ length turns
    → HasIterations n (Some (frames_of n calls turns d))
turns_of n calls turns zero room = All-nil (λ (f : Frame). length f.turns ≡ n)
turns_of n calls turns (suc d) room =
    All-cons (λ (f : Frame). length f.turns ≡ n)
    (record { back = back calls d; turns = frame_row n turns d })
    (frames_of n calls turns d)
    (length-row n turns d (omega arith)) (turns_of n calls turns d (omega arith))

-- so the number of loops is determined
pub loops_are :
    (m n : ℕ) (calls turns : List ℕ) (d : ℕ) → 0 < d → d * n ≤ length turns →
    HasIterations m (Some (frames_of n calls turns d)) → n ≡ m
loops_are m n calls turns zero some room has = absurd (omega arith)
loops_are m n calls turns (suc d) some room has =
    let f : Frame = record { back = back calls d; turns = frame_row n turns d } in
    let here : length (frame_row n turns d) ≡ m =
    All-get_or (λ (f : Frame). length f.turns ≡ m) (f ∷ frames_of n calls turns d) 0 f
    (omega arith) has in
    sym (length-row n turns d (omega arith)) ∙ here

-- a row of a Vec was written through a borrow
pub vec-written :
    {Z : Type 0} (n k : ℕ) (v : Vec ℕ Z) (ws : List ℕ) → length ws ≡ n
    → k * n + n ≤ length v.items →
    IsWritten n k v.items ws (with_items_from v (k * n) ws).items
vec-written n k v ws len fits =
    let all : List ℕ = take (k * n) v.items ++ (ws ++ drop (length ws) (drop (k * n) v.items)) in
    let front_len : length (take (k * n) v.items) ≡ k * n =
    length-take-le (k * n) v.items (omega arith) in
    let whole : length all ≡ v.len =
    omega (
      arith,
      length-append (take (k * n) v.items) (ws ++ drop (length ws) (drop (k * n) v.items)),
      length-append ws (drop (length ws) (drop (k * n) v.items)),
      length-drop (length ws) (drop (k * n) v.items),
      length-drop (k * n) v.items,
      front_len,
      v.ok.0,
    ) in
    written n k v.items ws ((with_items_from v (k * n) ws).items) len fits
    (with_items_is v all whole)

-- a watch that is not broken, with this many frames in use
pub record IsInUse (n : ℕ) (calls turns : List ℕ) (frames : ℕ) (w : Watch) : Type 0 where
  pub is : Some (frames_of n calls turns frames) ≡ w
  pub rows : length turns ≡ 17 * n
  pub most : length calls ≡ 16
  pub few : frames ≤ 17

pub in_use :
    (n : ℕ) (calls turns : List ℕ) (o : Option ℕ) (frames : ℕ) (w : Watch) → IsRoom n calls turns o
    → o ≡ Some frames →
    watch_of n calls turns o ≡ w → IsInUse n calls turns frames w
in_use n calls turns o frames w room some is =
    let few : IfSome (Some frames) (λ (k : ℕ). k ≤ 17) =
    subst (λ (p : Option ℕ). IfSome p (λ (k : ℕ). k ≤ 17)) some room.few in
    record {
      is = sym (ap (watch_of n calls turns) some) ∙ is;
      rows = room.rows;
      most = room.most;
      few = few;
    }

-- the rows in use are in the room
pub rows_fit : (n k : ℕ) (turns : List ℕ) → length turns ≡ 17 * n → k ≤ 17 → k * n ≤ length turns
rows_fit n k turns rows few = let le : k * n ≤ 17 * n = mul-le-mul_right n few in omega arith

pub loops_told :
    (n : ℕ) (calls turns : List ℕ) (frames : ℕ) (w : Watch) (m : ℕ) → IsInUse n calls turns frames w
    → 0 < frames →
    HasIterations m w → n ≡ m
loops_told n calls turns frames w m u some has =
    loops_are m n calls turns frames some (rows_fit n frames turns u.rows u.few)
    (subst (HasIterations m) (sym u.is) has)

-- the arrival at an address, with and without a loop that exceeds its bound
pub arrived :
    (plan : TaskPlan) (a n : ℕ) (calls turns : List ℕ) (frames : ℕ) (w : Watch) (ws new : List ℕ) →
    IsInUse n calls turns frames w → 0 < frames → IsWritten n (frames - 1) turns ws new →
    ws ≡ all_iterations_after a plan.loops (frame_row n turns (frames - 1)) →
    true ≡ within_bounds plan.loops
    (all_iterations_after a plan.loops (frame_row n turns (frames - 1))) →
    Some (frames_of n calls new frames) ≡ option_and_then (arrive plan a) w
arrived plan a n calls turns zero w ws new u some written_row counted within = absurd (omega arith)
arrived plan a n calls turns (suc k) w ws new u some written_row counted within =
    let at_k : suc k - 1 ≡ k = omega arith in
    let wrote : IsWritten n k turns ws new =
    subst (λ (j : ℕ). IsWritten n j turns ws new) at_k written_row in
    let counted_k : ws ≡ all_iterations_after a plan.loops (frame_row n turns k) =
    subst (λ (j : ℕ). ws ≡ all_iterations_after a plan.loops (frame_row n turns j)) at_k counted in
    let within_k : true ≡ within_bounds plan.loops
    (all_iterations_after a plan.loops (frame_row n turns k)) =
    subst (λ (j : ℕ). true ≡ within_bounds plan.loops
    (all_iterations_after a plan.loops (frame_row n turns j))) at_k within in
    let new_frames = frames-written n k calls turns ws new wrote in
    rw (new_frames, counted_k, ← u.is, ← within_k) refl

pub overran :
    (plan : TaskPlan) (a n : ℕ) (calls turns : List ℕ) (frames : ℕ) (w : Watch) →
    IsInUse n calls turns frames w → 0 < frames →
    false ≡ within_bounds plan.loops
    (all_iterations_after a plan.loops (frame_row n turns (frames - 1))) →
    None ≡ option_and_then (arrive plan a) w
overran plan a n calls turns zero w u some within = absurd (omega arith)
overran plan a n calls turns (suc k) w u some within =
    let at_k : suc k - 1 ≡ k = omega arith in
    let within_k : false ≡ within_bounds plan.loops
    (all_iterations_after a plan.loops (frame_row n turns k)) =
    subst (λ (j : ℕ). false ≡ within_bounds plan.loops
    (all_iterations_after a plan.loops (frame_row n turns j))) at_k within in
    rw (← u.is, ← within_k) refl

-- the frames in the room have iterations for each loop
pub has_turns :
    (n m : ℕ) (calls turns : List ℕ) (frames : ℕ) → n ≡ m → frames ≤ 17 → length turns ≡ 17 * n →
    HasIterations m (Some (frames_of n calls turns frames))
has_turns n m calls turns frames loops few rows =
    subst (λ (j : ℕ). HasIterations j (Some (frames_of n calls turns frames))) loops
    (turns_of n calls turns frames (rows_fit n frames turns rows few))

-- the return addresses up to that of the call below are unchanged
backs-same : (calls : List ℕ) (k from j : ℕ) → j < suc k → back (set calls k from) j ≡ back calls j
backs-same calls k from zero lt = refl
backs-same calls k from (suc j) lt =
    let ne : j ≢ k = omega arith in
    ap next_address (get_or-set_other calls k j from 0 ne)

-- a call, if there is room for its frame: its row is cleared, and its address is stored after those
-- below it
pub pushed_frames :
    (plan : TaskPlan) (n from : ℕ) (calls turns : List ℕ) (frames : ℕ) (w : Watch)
    (ws new : List ℕ) →
    IsInUse n calls turns frames w → 0 < frames → frames < 17 → n ≡ length plan.loops
    → ws ≡ replicate n 0 →
    IsWritten n frames turns ws new →
    Some (frames_of n (set calls (frames - 1) from) new (frames + 1))
    ≡ option_and_then (frames_after_call plan from) w
pushed_frames plan n from calls turns zero w ws new u some room loops clear wrote =
    absurd (omega arith)
pushed_frames plan n from calls turns (suc k) w ws new u some room loops clear wrote =
    let calls' : List ℕ = set calls k from in
    let at_k : suc k - 1 ≡ k = omega arith in
    let at_top : suc k + 1 ≡ suc (suc k) = omega arith in
    let most = u.most in
    let here : get_or calls' k 0 ≡ from = get_or-set_same calls k from 0 (omega arith) in
    let below : frames_of n calls' new (suc k) ≡ frames_of n calls turns (suc k) =
    frames-same n calls' calls new turns (suc k) (backs-same calls k from) wrote.below in
    let zeros : ws ≡ map (λ l. 0) plan.loops =
    clear ∙ splat_is_map plan.loops n 0 (sym loops) in
    let count : length (frames_of n calls turns (suc k)) ≡ suc k =
    length-frames_of n calls turns (suc k) in
    let few : nat_lt (length (frames_of n calls turns (suc k))) 17 ≡ true =
    lt-ltb (length (frames_of n calls turns (suc k))) 17 (omega arith) in
    let top : frame_row n new (suc k) ≡ ws = wrote.here in
    rw (at_k, at_top, top, here, below, zeros, ← u.is, few) refl

-- at seventeen frames a call breaks the watch
pub full :
    (plan : TaskPlan) (n from : ℕ) (calls turns : List ℕ) (frames : ℕ) (w : Watch)
    → IsInUse n calls turns frames w → 17 ≤ frames
    → None ≡ option_and_then (frames_after_call plan from) w
full plan n from calls turns frames w u many =
    let len = length-frames_of n calls turns frames in
    let b = le-ltb (length (frames_of n calls turns frames)) 17 (omega (arith, len)) in
    rw (← u.is) (rw b refl)

-- a watch whose bottom frame was not popped has a frame in use
pub some_frames :
    (n : ℕ) (calls turns : List ℕ) (frames : ℕ) (w : Watch) → IsInUse n calls turns frames w
    → w ≢ Some [] →
    0 < frames
some_frames n calls turns zero w u open_still = absurd (open_still (sym u.is))
some_frames n calls turns (suc k) w u open_still = omega arith

-- a row as it is borrowed
pub lent : (n k : ℕ) (turns : List ℕ)
    → take ((k * n + n) - k * n) (drop (k * n) turns) ≡ frame_row n turns k
lent n k turns =
    let e : (k * n + n) - k * n ≡ n = omega arith in ap (λ (m : ℕ). take m (drop (k * n) turns)) e

-- a return to the top frame's return address, and to a different one
pub popped_frames :
    (n to : ℕ) (calls turns : List ℕ) (frames : ℕ) (w : Watch)
    → Some (frames_of n calls turns frames) ≡ w → 0 < frames →
    to ≡ back calls (frames - 1)
    → Some (frames_of n calls turns (frames - 1)) ≡ option_and_then (frames_after_return to) w
popped_frames n to calls turns zero w is some goes = absurd (omega arith)
popped_frames n to calls turns (suc k) w is some goes =
    let at_k : suc k - 1 ≡ k = omega arith in
    let there : to ≡ back calls k = goes ∙ ap (back calls) at_k in
    let test : (to == back calls k) ≡ true = eq-eqb to (back calls k) there in
    rw (at_k, ← is, test) refl

pub strayed :
    (n to : ℕ) (calls turns : List ℕ) (frames : ℕ) (w : Watch)
    → Some (frames_of n calls turns frames) ≡ w → 0 < frames →
    to ≢ back calls (frames - 1) → None ≡ option_and_then (frames_after_return to) w
strayed n to calls turns zero w is some goes = absurd (omega arith)
strayed n to calls turns (suc k) w is some goes =
    let at_k : suc k - 1 ≡ k = omega arith in
    let other : to ≢ back calls k = λ e. goes (e ∙ ap (back calls) (sym at_k)) in
    let test : (to == back calls k) ≡ false = ne_eqb to (back calls k) other in
    rw (← is, test) refl

pub nowhere :
    (n to : ℕ) (calls turns : List ℕ) (frames : ℕ) (w : Watch)
    → Some (frames_of n calls turns frames) ≡ w → frames ≤ 0 →
    None ≡ option_and_then (frames_after_return to) w
nowhere n to calls turns zero w is none = rw (← is) refl
nowhere n to calls turns (suc k) w is none = absurd (omega arith)

-- the call before a return address
call_before : (a : ℕ) → a < 2 ^ 32 → address_before (next_address a) ≡ a
call_before a small = omega arith

-- the addresses of the calls, the outermost first
pub calls_are :
    (n : ℕ) (calls turns : List ℕ) (d : ℕ) → ((k : ℕ) → slice_index calls k < 2 ^ 32)
    → d ≤ length calls →
    context (Some (frames_of n calls turns (suc d))) ≡ take d calls
calls_are n calls turns zero words few = refl
calls_are n calls turns (suc d) words few =
    let below : context (Some (frames_of n calls turns (suc d))) ≡ take d calls =
    calls_are n calls turns d words (omega arith) in
    let here : address_before (next_address (slice_index calls d)) ≡ slice_index calls d =
    call_before (slice_index calls d) (words d) in
    rw (below, here, take-suc calls d 0) refl

-- if no frame is left, the one that was popped was the bottom one
pub ended_frames :
    (n : ℕ) (calls turns : List ℕ) (k : ℕ) → Some (frames_of n calls turns k) ≡ Some []
    → back calls k ≡ end_address
ended_frames n calls turns zero none = refl
ended_frames n calls turns (suc k) none = cc

pub broken_is_not_empty : {P : Type 0} (e : ◌≡◌ {A = Watch} None (Some [])) → P
broken_is_not_empty e = cc

-- at the start no loop of the bottom row is open
pub closed :
    {L : Type 0} (loops : List L) (n : ℕ) (rows : List ℕ) → rows ≡ replicate (17 * n) 0
    → n ≡ length loops →
    frame_row n rows 0 ≡ map (λ (l : L). 0) loops
closed loops n rows is len =
    let none : 0 * n ≡ 0 = omega arith in
    let few : n ≤ 17 * n = omega arith in
    let front_is : take n (replicate (17 * n) 0) ≡ replicate n 0 =
    take-replicate {X = ℕ} n (17 * n) 0 few in
    rw (none, is) (front_is ∙ splat_is_map loops n 0 (sym len))

-- an arrival that does not change the iterations of the top frame does not change the watch
pub quiet_frames :
    (plan : TaskPlan) (a n : ℕ) (calls turns : List ℕ) (frames : ℕ) (w : Watch) →
    Some (frames_of n calls turns frames) ≡ w → 0 < frames →
    KeepsAllIterations a plan.loops (frame_row n turns (frames - 1)) → IsQuiet plan w a
quiet_frames plan a n calls turns zero w is some still = absurd (omega arith)
quiet_frames plan a n calls turns (suc k) w is some still =
    let at_k : suc k - 1 ≡ k = omega arith in
    let stands : KeepsAllIterations a plan.loops (frame_row n turns k) =
    subst (λ (j : ℕ). KeepsAllIterations a plan.loops (frame_row n turns j)) at_k still in
    let same = stands.same in
    let within = stands.within in
    rw (← is, same, within) refl

-- an arrival that does not change the watch does not change the iterations of the top frame
still_by : (loops : List LoopAt) (a to : ℕ) (row : List ℕ) (rest : List Frame) (b : Bool)
    → b ≡ within_bounds loops (all_iterations_after a loops row)
    → (if b then Some (record {
      back = to;
      turns = all_iterations_after a loops row;
    } ∷ rest) else None) ≡ Some (record { back = to; turns = row } ∷ rest)
    → KeepsAllIterations a loops row
still_by loops a to row rest true within e =
    let same : all_iterations_after a loops row ≡ row = ap top_turns e in
    record { same = same; within = ap (within_bounds loops) (sym same) ∙ sym within }
  where
    top_turns : Watch → List ℕ
    top_turns None = []
    top_turns (Some []) = []
    top_turns (Some (f ∷ fs)) = f.turns
still_by loops a to row rest false within e = absurd (none_some _ e)
  where
    none_some : (fs : List Frame) → None ≡ Some fs → ⊥
    none_some fs e = cc

pub keeps_all :
    (plan : TaskPlan) (a n : ℕ) (calls turns : List ℕ) (frames : ℕ) (w : Watch) →
    Some (frames_of n calls turns frames) ≡ w → 0 < frames → IsQuiet plan w a →
    KeepsAllIterations a plan.loops (frame_row n turns (frames - 1))
keeps_all plan a n calls turns zero w is some quiet = absurd (omega arith)
keeps_all plan a n calls turns (suc k) w is some quiet =
    let at_k : k ≡ suc k - 1 = omega arith in
    let there : IsQuiet plan (Some (frames_of n calls turns (suc k))) a =
    subst (λ (v : Watch). IsQuiet plan v a) (sym is) quiet in
    subst (λ (j : ℕ). KeepsAllIterations a plan.loops (frame_row n turns j)) at_k
    (still_by plan.loops a (back calls k) (frame_row n turns k) (frames_of n calls turns k)
    (within_bounds plan.loops (all_iterations_after a plan.loops (frame_row n turns k))) refl there)
