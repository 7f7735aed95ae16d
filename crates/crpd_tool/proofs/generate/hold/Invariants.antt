use Rattle.std.proofs.Common.{◌≡◌, map, take, zip}
use Rattle.crpd_base.specs.declared.data.TaskSpec.{TaskSpec}
use Rattle.crpd_tool.proofs.MadeFiles.{seen}
use Rattle.crpd_tool.proofs.generate.hold.Given as goal

abbrev pub invariant-loop-i : goal.invariant-loop-i
invariant-loop-i l =
    map seen l.kept.items ≡ zip (take l.i (map (λ (t : TaskSpec). t.file) l.set.tasks))
    (take l.i l.files)
