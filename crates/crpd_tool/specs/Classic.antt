-- The steps of `classic SET`.
use Rattle.std.specs.Prelude.{ℕ, List, Result}
use Rattle.delay_classic.specs.Demand.{classic_demands}
use Rattle.crpd_io.specs.Outside.{Contents}
use Rattle.crpd_tool.specs.declared.answer.Answer.{Answer}
use Rattle.crpd_input.specs.declared.halt.Halt.{Halt}
use Rattle.task_shapes.specs.Shapes.{SetWithShapes}
use Rattle.crpd_tool.specs.Analyze.{AnalysisBy}
use Rattle.crpd_input.specs.Shapes.{ShapedIn}
use Rattle.crpd_input.specs.Steps.{Then}

-- the analysis of all tasks with the plain union delays, over their graphs and the regions of their
-- loops: its certificate, or the reason why there is none
abbrev pub ClassicOf : List ℕ → SetWithShapes → Result Answer Halt → Type 0
ClassicOf = AnalysisBy classic_demands

-- the whole command: the set with its code, the graphs of all tasks and the regions of their loops,
-- and then the analysis
abbrev pub ClassicEnds : Contents → List ℕ → Result Answer Halt → Type 0
ClassicEnds contents set = Then (ShapedIn contents set) (ClassicOf set)
