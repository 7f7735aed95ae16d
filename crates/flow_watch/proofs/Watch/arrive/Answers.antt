use Rattle.std.proofs.Common.{◌≡◌, ℕ, ◌-◌, ◌*◌, List, Option, length, true, false, sym, ap, subst}
use Rattle.std.proofs.Common.{◌∙◌, arith}
use Rattle.crpd_base.proofs.Rows.{row_ends}
use Rattle.crpd_base.specs.declared.data.LoopAt.{LoopAt}
use Rattle.flow_watch.specs.Watch.{all_iterations_after, within_bounds}
use Rattle.flow_watch.specs.Inner.Rows.{frame_row, watch_of}
use Rattle.std.specs.Vec.{with_items_from}
use Rattle.flow_watch.specs.Iterations.{HasIterations}
use Rattle.flow_watch.proofs.Frames.{in_use, loops_told, arrived, overran, vec-written, rows_fit}
use Rattle.flow_watch.proofs.Frames.{has_turns, length-row, lent}
use Rattle.flow_watch.proofs.Watch.arrive.Goals as goal

pub overflow_mul-first : goal.overflow_mul-first
overflow_mul-first c =
    let s = c.self.inside in
    let u = in_use s.loops s.calls s.turns.items s.frames c.in-Some.frames c.args.self.now
    c.self.invariant c.in-Some.is c.self.view_is in
    let room = rows_fit s.loops c.in-Some.frames s.turns.items u.rows u.few in
    let ends = row_ends s.loops (c.in-Some.frames - 1) c.in-Some.frames (omega arith) in
    omega (arith, room, ends, s.turns.ok)

pub overflow_add-first : goal.overflow_add-first
overflow_add-first c =
    let s = c.self.inside in
    let u = in_use s.loops s.calls s.turns.items s.frames c.in-Some.frames c.args.self.now
    c.self.invariant c.in-Some.is c.self.view_is in
    let room = rows_fit s.loops c.in-Some.frames s.turns.items u.rows u.few in
    let ends = row_ends s.loops (c.in-Some.frames - 1) c.in-Some.frames (omega arith) in
    omega (arith, room, ends, s.turns.ok)

pub slice_mut-row-requires-clause-in_bounds : goal.slice_mut-row-requires-clause-in_bounds
slice_mut-row-requires-clause-in_bounds c =
    let s = c.self.inside in
    let u = in_use s.loops s.calls s.turns.items s.frames c.in-Some.frames c.args.self.now
    c.self.invariant c.in-Some.is c.self.view_is in
    let room = rows_fit s.loops c.in-Some.frames s.turns.items u.rows u.few in
    let ends = row_ends s.loops (c.in-Some.frames - 1) c.in-Some.frames (omega arith) in
    omega (arith, room, ends, s.turns.ok)

pub count_arrival-requires : goal.count_arrival-requires
count_arrival-requires c =
    let s = c.self.inside in
    let k = c.in-Some.frames - 1 in
    let u = in_use s.loops s.calls s.turns.items s.frames c.in-Some.frames c.args.self.now
    c.self.invariant c.in-Some.is c.self.view_is in
    let room = rows_fit s.loops c.in-Some.frames s.turns.items u.rows u.few in
    let ends = row_ends s.loops k c.in-Some.frames (omega arith) in
    ap length (c.slice_mut-row.ensures.value ∙ lent s.loops k s.turns.items)
    ∙ (length-row s.loops s.turns.items k (omega arith)
    ∙ (loops_told s.loops s.calls s.turns.items c.in-Some.frames c.args.self.now
    (length c.args.plan.now.loops) u c.if-frames-gt0.true c.requires.turns
    ∙ sym (ap length c.as_slice.ensures)))

pub returns-then-not-count_arrival-clause-arrived :
    goal.returns-then-not-count_arrival-clause-arrived
returns-then-not-count_arrival-clause-arrived c =
    let s = c.self.inside in
    let k = c.in-Some.frames - 1 in
    let u = in_use s.loops s.calls s.turns.items s.frames c.in-Some.frames c.args.self.now
    c.self.invariant c.in-Some.is c.self.view_is in
    let is_row = c.slice_mut-row.ensures.value ∙ lent s.loops k s.turns.items in
    overran c.args.plan.now c.args.address s.loops s.calls s.turns.items c.in-Some.frames
    c.args.self.now u c.if-frames-gt0.true
    (subst (λ (ls : List LoopAt).
    false ≡ within_bounds ls
    (all_iterations_after c.args.address ls (frame_row s.loops s.turns.items k))) c.as_slice.ensures
    (subst (λ (ts : List ℕ).
    false ≡ within_bounds c.as_slice.result.now
    (all_iterations_after c.args.address c.as_slice.result.now ts)) is_row
    c.if-not-count_arrival.ensures.within))

pub returns-else-not-count_arrival-clause-arrived :
    goal.returns-else-not-count_arrival-clause-arrived
returns-else-not-count_arrival-clause-arrived c =
    let s = c.self.inside in
    let k = c.in-Some.frames - 1 in
    let ws = c.count_arrival.new.turns in
    let u = in_use s.loops s.calls s.turns.items s.frames c.in-Some.frames c.args.self.now
    c.self.invariant c.in-Some.is c.self.view_is in
    let room = rows_fit s.loops c.in-Some.frames s.turns.items u.rows u.few in
    let ends = row_ends s.loops k c.in-Some.frames (omega arith) in
    let is_row = c.slice_mut-row.ensures.value ∙ lent s.loops k s.turns.items in
    let len = c.count_arrival.auto.turns
    ∙ (ap length is_row ∙ length-row s.loops s.turns.items k (omega arith)) in
    let counted = subst (λ (ls : List LoopAt).
    ws ≡ all_iterations_after c.args.address ls (frame_row s.loops s.turns.items k))
    c.as_slice.ensures
    (subst (λ (ts : List ℕ). ws ≡ all_iterations_after c.args.address c.as_slice.result.now ts)
    is_row c.if-not-count_arrival.ensures.counted) in
    let within = subst (λ (ls : List LoopAt).
    true ≡ within_bounds ls
    (all_iterations_after c.args.address ls (frame_row s.loops s.turns.items k))) c.as_slice.ensures
    (subst (λ (ts : List ℕ).
    true ≡ within_bounds c.as_slice.result.now
    (all_iterations_after c.args.address c.as_slice.result.now ts)) is_row
    c.if-not-count_arrival.ensures.within) in
    let wrote = vec-written s.loops k s.turns ws len (omega arith) in
    ap (watch_of s.loops s.calls (with_items_from s.turns (k * s.loops) ws).items) c.in-Some.is
    ∙ arrived c.args.plan.now c.args.address s.loops s.calls s.turns.items c.in-Some.frames
    c.args.self.now ws (with_items_from s.turns (k * s.loops) ws).items u c.if-frames-gt0.true wrote
    counted within

pub returns-else-not-count_arrival-clause-turns : goal.returns-else-not-count_arrival-clause-turns
returns-else-not-count_arrival-clause-turns c =
    let s = c.self.inside in
    let k = c.in-Some.frames - 1 in
    let ws = c.count_arrival.new.turns in
    let new = (with_items_from s.turns (k * s.loops) ws).items in
    let m = length c.args.plan.now.loops in
    let u = in_use s.loops s.calls s.turns.items s.frames c.in-Some.frames c.args.self.now
    c.self.invariant c.in-Some.is c.self.view_is in
    let same : length new ≡ 17 * s.loops =
    sym (with_items_from s.turns (k * s.loops) ws).ok.0 ∙ (s.turns.ok.0 ∙ u.rows) in
    subst (λ (o : Option ℕ). HasIterations m (watch_of s.loops s.calls new o)) (sym c.in-Some.is)
    (has_turns s.loops m s.calls new c.in-Some.frames
    (loops_told s.loops s.calls s.turns.items c.in-Some.frames c.args.self.now m u
    c.if-frames-gt0.true c.requires.turns) u.few same)
