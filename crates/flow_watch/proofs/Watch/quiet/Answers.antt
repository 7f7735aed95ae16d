use Rattle.std.proofs.Common.{ℕ, ◌+◌, ◌-◌, ◌*◌, List, length, take, drop, ap, sym, subst, ◌∙◌}
use Rattle.std.proofs.Common.{arith}
use Rattle.crpd_base.proofs.Rows.{row_ends}
use Rattle.crpd_base.specs.declared.data.LoopAt.{LoopAt}
use Rattle.flow_watch.specs.Inner.Rows.{frame_row}
use Rattle.flow_watch.specs.Inner.Quiet.{KeepsAllIterations}
use Rattle.flow_watch.proofs.Frames.{in_use, loops_told, rows_fit, lent, length-row, quiet_frames}
use Rattle.flow_watch.proofs.Frames.{keeps_all}
use Rattle.flow_watch.proofs.Watch.quiet.Goals as goal

pub quiet_range-requires : goal.quiet_range-requires
quiet_range-requires c =
    let s = c.self.inside in
    let k = c.in-Some.frames - 1 in
    let u = in_use s.loops s.calls s.turns.items s.frames c.in-Some.frames c.args.self.now
    c.self.invariant c.in-Some.is c.self.view_is in
    let room = rows_fit s.loops c.in-Some.frames s.turns.items u.rows u.few in
    let ends = row_ends s.loops k c.in-Some.frames (omega arith) in
    ap (λ (ts : List ℕ). length
    (take ((k * s.loops + s.loops) - k * s.loops) (drop (k * s.loops) ts))) c.deref.ensures.value
    ∙ (ap length (lent s.loops k s.turns.items)
    ∙ (length-row s.loops s.turns.items k (omega arith)
    ∙ (loops_told s.loops s.calls s.turns.items c.in-Some.frames c.args.self.now
    (length c.args.plan.now.loops) u c.if-frames-gt0.true c.requires.turns
    ∙ sym (ap length c.as_slice.ensures))))

pub returns-in-Some-clause-quiet : goal.returns-in-Some-clause-quiet
returns-in-Some-clause-quiet c =
    λ a low high.
    let s = c.self.inside in
    let k = c.in-Some.frames - 1 in
    let u = in_use s.loops s.calls s.turns.items s.frames c.in-Some.frames c.args.self.now
    c.self.invariant c.in-Some.is c.self.view_is in
    let is_row = ap (λ (ts : List ℕ).
    take ((k * s.loops + s.loops) - k * s.loops) (drop (k * s.loops) ts)) c.deref.ensures.value
    ∙ lent s.loops k s.turns.items in
    quiet_frames c.args.plan.now a s.loops s.calls s.turns.items c.in-Some.frames c.args.self.now
    u.is c.if-frames-gt0.true
    (subst (λ (ls : List LoopAt). KeepsAllIterations a ls (frame_row s.loops s.turns.items k))
    c.as_slice.ensures
    (subst (λ (ts : List ℕ). KeepsAllIterations a c.as_slice.result.now ts) is_row
    (c.quiet_range.ensures.still a low high)))

pub returns-in-Some-clause-near : goal.returns-in-Some-clause-near
returns-in-Some-clause-near c =
    λ small quiet.
    let s = c.self.inside in
    let k = c.in-Some.frames - 1 in
    let u = in_use s.loops s.calls s.turns.items s.frames c.in-Some.frames c.args.self.now
    c.self.invariant c.in-Some.is c.self.view_is in
    let is_row = ap (λ (ts : List ℕ).
    take ((k * s.loops + s.loops) - k * s.loops) (drop (k * s.loops) ts)) c.deref.ensures.value
    ∙ lent s.loops k s.turns.items in
    c.quiet_range.ensures.near small
    (subst (λ (ls : List LoopAt). KeepsAllIterations c.args.near ls
    (take ((k * s.loops + s.loops) - k * s.loops) (drop (k * s.loops) c.deref.result.now)))
    (sym c.as_slice.ensures)
    (subst (λ (ts : List ℕ). KeepsAllIterations c.args.near c.args.plan.now.loops ts) (sym is_row)
    (keeps_all c.args.plan.now c.args.near s.loops s.calls s.turns.items c.in-Some.frames
    c.args.self.now u.is c.if-frames-gt0.true quiet)))
