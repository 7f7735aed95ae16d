-- The steps that find the graphs of a set's tasks and the regions of their loops, and why they
-- stop.
use Rattle.std.specs.Prelude.{ℕ, List, Result}
use Rattle.flat_graph.specs.CodeGraph.{CodeGraph}
use Rattle.flat_graph.specs.declared.error.GraphError.{GraphError}
use Rattle.flat_graph.specs.declared.error.GraphError.TheVariants as graph_error
use Rattle.loop_regions.specs.declared.error.LoopError.{LoopError}
use Rattle.loop_regions.specs.declared.error.LoopError.TheVariants as loop_error
use Rattle.task_shapes.specs.declared.error.ShapeError.{ShapeError}
use Rattle.task_shapes.specs.declared.error.ShapeError.TheVariants as shape_error
use Rattle.task_shapes.specs.Inputs.{SetWithCode}
use Rattle.task_shapes.specs.Graphs.{GraphsOf}
use Rattle.task_shapes.specs.Shapes.{SetWithShapes, ShapesOf}
use Rattle.crpd_io.specs.Outside.{Contents}
use Rattle.crpd_base.specs.Texts.{hexadecimal}
use Rattle.crpd_input.specs.declared.cause.Cause.{Cause}
use Rattle.crpd_input.specs.declared.cause.Cause.TheVariants as cause
use Rattle.crpd_input.specs.declared.halt.Halt.{Halt}
use Rattle.crpd_input.specs.declared.halt.Halt.TheVariants as halt
use Rattle.crpd_input.specs.Reading.{input_in}
use Rattle.crpd_input.specs.Steps.{AsStep, Exactly, Then, refusal}

-- the refusal of a task for this cause, with an address
abbrev pub refused_at : Cause → List ℕ → ℕ → Halt
refused_at why name address = refusal why name (hexadecimal address)

-- the stop of a task's graph; out of memory is not a refusal, and no graph has it as its error (nor
-- in the tables below)
abbrev pub graph_halt : List ℕ → GraphError → Halt
graph_halt name graph_error.Memory = halt.Memory
graph_halt name (graph_error.Undecodable a) = refused_at cause.Undecodable name a
graph_halt name (graph_error.OutsideCode a) = refused_at cause.OutsideCode name a
graph_halt name (graph_error.IndirectJump a) = refused_at cause.IndirectJump name a
graph_halt name (graph_error.OtherLink a) = refused_at cause.OtherLink name a
graph_halt name (graph_error.Breakpoint a) = refused_at cause.Breakpoint name a
graph_halt name (graph_error.Recursive a) = refused_at cause.Recursive name a
graph_halt name (graph_error.TooManyNodes a) = refused_at cause.TooManyNodes name a
graph_halt name (graph_error.TooDeep a) = refused_at cause.TooDeep name a
graph_halt name (graph_error.Misaligned a) = refused_at cause.Misaligned name a

-- the stop of a task's loops
abbrev pub loop_halt : List ℕ → LoopError → Halt
loop_halt name loop_error.Memory = halt.Memory
loop_halt name (loop_error.SecondEntry a) = refused_at cause.SecondEntry name a
loop_halt name (loop_error.NotNested a) = refused_at cause.NotNested name a
loop_halt name (loop_error.SameHead a) = refused_at cause.SameHead name a
loop_halt name (loop_error.CycleWithoutBound a) = refused_at cause.CycleWithoutBound name a

-- the stop of a set's shapes
abbrev pub shape_halt : ShapeError → Halt
shape_halt shape_error.Memory = halt.Memory
shape_halt (shape_error.Graph name e) = graph_halt name e
shape_halt (shape_error.Loops name e) = loop_halt name e

-- the graphs of all tasks
abbrev pub GraphsFrom : SetWithCode → Result (List CodeGraph) Halt → Type 0
GraphsFrom input = AsStep shape_halt (GraphsOf input)

-- the set with its shapes
abbrev pub ShapedFrom : SetWithCode → Result SetWithShapes Halt → Type 0
ShapedFrom input = AsStep shape_halt (ShapesOf input)

-- the set of a file, with its code and its shapes
abbrev pub ShapedIn : Contents → List ℕ → Result SetWithShapes Halt → Type 0
ShapedIn contents name = Then (Exactly (input_in contents name)) ShapedFrom
