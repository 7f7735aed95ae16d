use Rattle.std.proofs.Common.{◌≡◌, ℕ, ◌+◌, ◌-◌, ◌*◌, set, length, replicate, sym, ap, ◌∙◌, arith}
use Rattle.std.specs.Vec.{with_items_from}
use Rattle.crpd_base.proofs.Rows.{row_ends}
use Rattle.flow_watch.proofs.Frames.{in_use, some_frames, loops_told, pushed_frames, vec-written}
use Rattle.flow_watch.proofs.Frames.{rows_fit, has_turns, lent, length-row, full}
use Rattle.flow_watch.proofs.Watch.push.Goals as goal

pub overflow_sub-self : goal.overflow_sub-self
overflow_sub-self c =
    let s = c.self.inside in
    let u = in_use s.loops s.calls s.turns.items s.frames c.in-Some.frames c.args.self.now
    c.self.invariant c.in-Some.is c.self.view_is in
    some_frames s.loops s.calls s.turns.items c.in-Some.frames c.args.self.now u
    c.requires.under_way

pub overflow_mul-first : goal.overflow_mul-first
overflow_mul-first c =
    let s = c.self.inside in
    let ends = row_ends s.loops c.in-Some.frames 17 (omega arith) in
    omega (arith, ends, c.self.invariant.rows, s.turns.ok)

pub overflow_add-first : goal.overflow_add-first
overflow_add-first c =
    let s = c.self.inside in
    let ends = row_ends s.loops c.in-Some.frames 17 (omega arith) in
    omega (arith, ends, c.self.invariant.rows, s.turns.ok)

pub slice_mut-requires-clause-in_bounds : goal.slice_mut-requires-clause-in_bounds
slice_mut-requires-clause-in_bounds c =
    let s = c.self.inside in
    let ends = row_ends s.loops c.in-Some.frames 17 (omega arith) in
    omega (arith, ends, c.self.invariant.rows, s.turns.ok)

pub returns-then-room-clause-pushed :
    goal.returns-then-room-clause-pushed
returns-then-room-clause-pushed c =
    let s = c.self.inside in
    let k = c.in-Some.frames in
    let plan = c.args.plan.now in
    let ws = c.fill.new.self in
    let u = in_use s.loops s.calls s.turns.items s.frames k c.args.self.now c.self.invariant
    c.in-Some.is c.self.view_is in
    let some = some_frames s.loops s.calls s.turns.items k c.args.self.now u c.requires.under_way in
    let loops = loops_told s.loops s.calls s.turns.items k c.args.self.now (length plan.loops) u
    some c.requires.turns in
    let ends = row_ends s.loops k 17 (omega arith) in
    let room = rows_fit s.loops 17 s.turns.items u.rows (omega arith) in
    let len : length c.slice_mut.result.now ≡ s.loops =
    ap length (c.slice_mut.ensures.value ∙ lent s.loops k s.turns.items)
    ∙ length-row s.loops s.turns.items k (omega arith) in
    let clear : ws ≡ replicate s.loops 0 =
    c.fill.ensures.after (λ y e. e) ∙ ap (λ (m : ℕ). replicate m 0) len in
    pushed_frames plan s.loops c.args.from s.calls s.turns.items k c.args.self.now ws
    (with_items_from s.turns (k * s.loops) ws).items u some
    (omega arith) loops clear
    (vec-written s.loops k s.turns ws (c.fill.ensures.len ∙ len) (omega arith))

pub returns-then-room-clause-turns :
    goal.returns-then-room-clause-turns
returns-then-room-clause-turns c =
    let s = c.self.inside in
    let k = c.in-Some.frames in
    let new = with_items_from s.turns (k * s.loops) c.fill.new.self in
    let u = in_use s.loops s.calls s.turns.items s.frames k c.args.self.now c.self.invariant
    c.in-Some.is c.self.view_is in
    let some = some_frames s.loops s.calls s.turns.items k c.args.self.now u c.requires.under_way in
    let m = length c.args.plan.now.loops in
    let same : length new.items ≡ 17 * s.loops = sym new.ok.0 ∙ (s.turns.ok.0 ∙ u.rows) in
    has_turns s.loops m (set s.calls (k - 1) c.args.from) new.items (k + 1)
    (loops_told s.loops s.calls s.turns.items k c.args.self.now m u some c.requires.turns)
    (omega arith) same

pub returns-else-room-clause-pushed : goal.returns-else-room-clause-pushed
returns-else-room-clause-pushed c =
    let s = c.self.inside in
    let k = c.in-Some.frames in
    full c.args.plan.now s.loops c.args.from s.calls s.turns.items k c.args.self.now
    (in_use s.loops s.calls s.turns.items s.frames k c.args.self.now c.self.invariant
    c.in-Some.is c.self.view_is) c.if-room.false
