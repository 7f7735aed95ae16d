use Rattle.std.proofs.Common.{◌-◌, sym, ap, ◌∙◌, option_and_then}
use Rattle.flow_watch.specs.Inner.Changes.{frames_after_return}
use Rattle.flow_watch.specs.Inner.Rows.{watch_of}
use Rattle.flow_watch.proofs.Frames.{popped_frames, strayed, nowhere, ended_frames}
use Rattle.flow_watch.proofs.Frames.{broken_is_not_empty}
use Rattle.flow_watch.proofs.Watch.pop.Goals as goal
use Rattle.flow_watch.proofs.Watch.pop.Goals.{in-Some, in_default-2, in_default-3, in_default}

pub returns-clause-popped : goal.returns-clause-popped
returns-clause-popped c =
    let s = c.self.inside in
    elim c.match-self.branch [
      | in-Some w ↦ ap (watch_of s.loops s.calls s.turns.items) w.self-is
          ∙ popped_frames s.loops c.args.to s.calls s.turns.items w.in-Some.frames c.args.self.now
          (sym (ap (watch_of s.loops s.calls s.turns.items) w.in-Some.is) ∙ c.self.view_is)
          w.if-frames-gt0.true (w.if-to-back.true ∙ w.back.ensures)
      | in_default-2 w ↦ ap (watch_of s.loops s.calls s.turns.items) w.self-is
          ∙ strayed s.loops c.args.to s.calls s.turns.items w.in-Some.frames c.args.self.now
          (sym (ap (watch_of s.loops s.calls s.turns.items) w.in-Some.is) ∙ c.self.view_is)
          w.if-frames-gt0.true (λ e. w.if-to-back.false (e ∙ sym w.back.ensures))
      | in_default-3 w ↦ ap (watch_of s.loops s.calls s.turns.items) w.self-is
          ∙ nowhere s.loops c.args.to s.calls s.turns.items w.in-Some.frames c.args.self.now
          (sym (ap (watch_of s.loops s.calls s.turns.items) w.in-Some.is) ∙ c.self.view_is)
          w.if-frames-gt0.false
      | in_default w ↦ ap (watch_of s.loops s.calls s.turns.items) w.self-is
          ∙ ap (option_and_then (frames_after_return c.args.to))
          (sym (ap (watch_of s.loops s.calls s.turns.items) w.in_default.is) ∙ c.self.view_is)
    ]

pub returns-clause-ended : goal.returns-clause-ended
returns-clause-ended c empty =
    let s = c.self.inside in
    elim c.match-self.branch [
      | in-Some w ↦ w.if-to-back.true ∙ (w.back.ensures
          ∙ ended_frames s.loops s.calls s.turns.items (w.in-Some.frames - 1)
          (sym (ap (watch_of s.loops s.calls s.turns.items) w.self-is) ∙ empty))
      | in_default-2 w ↦
          broken_is_not_empty (sym (ap (watch_of s.loops s.calls s.turns.items) w.self-is) ∙ empty)
      | in_default-3 w ↦
          broken_is_not_empty (sym (ap (watch_of s.loops s.calls s.turns.items) w.self-is) ∙ empty)
      | in_default w ↦
          broken_is_not_empty (sym (ap (watch_of s.loops s.calls s.turns.items) w.self-is) ∙ empty)
    ]
