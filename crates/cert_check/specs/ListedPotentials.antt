-- The potentials that a task's part of a certificate lists.
use Rattle.std.specs.Prelude.{slice_index_or}
use Rattle.crpd_base.specs.declared.data.TaskPart.{TaskPart}
use Rattle.loop_regions.specs.Potentials.{Potentials}

-- the potentials that a task's part lists; 0 past the lists' ends
abbrev pub potentials_of : TaskPart → Potentials
potentials_of t = record {
  node = λ y. slice_index_or t.potentials y 0;
  loop = λ r. slice_index_or t.loops r 0;
}
