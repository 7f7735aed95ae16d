-- The text of refined windows.
use Rattle.std.specs.Prelude.{ℕ, List, [], ◌∷◌, ◌++◌, codes}
use Rattle.std.specs.List.{flat_map, zip}
use Rattle.crpd_base.specs.declared.data.PointMethod.{PointMethod}
use Rattle.crpd_base.specs.declared.data.PointMethod.TheVariants.{Ucb, Ecb, Point}
use Rattle.crpd_base.specs.declared.data.PointMethod.TheVariants.{PersistentUcb, PersistentPoint}
use Rattle.crpd_base.specs.declared.data.RefinedTask.{RefinedTask}
use Rattle.crpd_base.specs.declared.data.TaskSet.{TaskSet}
use Rattle.crpd_base.specs.declared.data.TaskSpec.{TaskSpec}
use Rattle.crpd_report.specs.Check.{times_text}

-- the name of a method
abbrev pub point_method_name : PointMethod → List ℕ
point_method_name Ucb = codes "ucb"
point_method_name Ecb = codes "ecb"
point_method_name Point = codes "point"
point_method_name PersistentUcb = codes "persistent-ucb"
point_method_name PersistentPoint = codes "persistent-point"

-- the times of a task with its refined window
abbrev pub refined_times : RefinedTask → List ℕ
refined_times t = times_text t.bound t.window t.response (point_method_name t.method)

-- the line of a task
abbrev pub refined_line : TaskSpec × RefinedTask → List ℕ
refined_line pair = pair.0.name ++ codes " " ++ refined_times pair.1 ++ 10 ∷ []

-- all tasks have one: a line for each task of the set, with the result at its place
unfoldable pub refined_text : TaskSet → List RefinedTask → List ℕ
refined_text set tasks = (codes "yes" ++ 10 ∷ []) ++ flat_map refined_line (zip set.tasks tasks)
