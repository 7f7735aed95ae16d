-- The control flow of an instruction, as the code represents it.
use Rattle.rv_decode.specs.Flow.{Flow}
use Rattle.rv_decode.specs.Flow as flow
use Rattle.flat_graph.specs.declared.ins_flow.InsFlow.{InsFlow}
use Rattle.flat_graph.specs.declared.ins_flow.InsFlow.TheVariants as code

-- the flow as the definitions represent it
abbrev pub flow_by : InsFlow → Flow
flow_by code.Next = flow.Plain
flow_by (code.Branch t) = flow.Branch t
flow_by (code.Jump t) = flow.Jump t
flow_by (code.Call t) = flow.Call t
flow_by code.Return = flow.Return
flow_by code.Exit = flow.Exit
flow_by code.Breakpoint = flow.Break
flow_by code.IndirectJump = flow.OtherJalr
flow_by code.OtherLink = flow.OtherJal
