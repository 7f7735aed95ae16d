use Rattle.std.proofs.Common.{refl}
use Rattle.task_shapes.specs.declared.error.ShapeError.TheVariants.{Memory}
use Rattle.task_shapes.specs.Graphs.{GraphsOf}
use Rattle.crpd_input.specs.Shapes.{shape_halt}
use Rattle.crpd_input.proofs.Readers.{no_fault}
use Rattle.crpd_input.proofs.ShapeSteps.{stops_as}
use Rattle.crpd_input.proofs.shapes.input_graphs.Goals as goal

pub returns-in-Err-clause-exact : goal.returns-in-Err-clause-exact
returns-in-Err-clause-exact c =
    stops_as shape_halt (GraphsOf c.args.input.now) Memory c.in-Err.error c.shape_halt.result
    c.shape_halt.ensures refl c.in-Err.ensures

pub returns-in-Err-clause-no_fault : goal.returns-in-Err-clause-no_fault
returns-in-Err-clause-no_fault c =
    no_fault (shape_halt c.in-Err.error) c.shape_halt.result c.shape_halt.ensures
