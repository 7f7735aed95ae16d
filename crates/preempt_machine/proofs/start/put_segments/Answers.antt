use Rattle.std.proofs.Common.{sym, ◌∙◌, ap, take}
use Rattle.rv_core.specs.Memory.{Memory}
use Rattle.crpd_base.specs.declared.data.Segment.{Segment}
use Rattle.preempt_machine.specs.Starts.{with_segment, with_segments}
use Rattle.preempt_machine.proofs.Loads.{next_segment}
use Rattle.preempt_machine.proofs.start.put_segments.Goals as goal

pub loop-segment-preserved : goal.loop-segment-preserved
loop-segment-preserved c =
    c.in_ok-put_segment.ensures
    ∙ ap (λ (m : Memory). with_segment m c.segment-item.result) c.loop-segment.invariant
    ∙ ap (λ (s : Segment). with_segment
    (with_segments c.args.memory.now (take c.loop-segment.segment-index c.args.segments.now)) s)
    c.segment-item.is
    ∙ sym (next_segment c.args.memory.now c.args.segments.now c.loop-segment.segment-index
    c.segment-item.result c.loop-segment-test.true)
