-- What the program stores of a job, and its turns: what only contracts inside the crate cite.
use Rattle.std.specs.Prelude.{◌≡◌, ◌≢◌, ◌==◌, ◌&&◌, if◌then◌else◌, is_some, Option, Some, None, []}
use Rattle.icache.specs.declared.Access.{Access}
use Rattle.preempt_machine.specs.declared.jobs.Job.TheInside.{Inside}
use Rattle.preempt_machine.specs.declared.jobs.Standing as told
use Rattle.preempt_machine.specs.declared.jobs.Standing.TheVariants as kept
use Rattle.preempt_machine.specs.Machine.{System, Standing, Open, Answered, Faulted, Job, ins_at}
use Rattle.preempt_machine.specs.Step.{Turn}
use Rattle.preempt_machine.specs.Running.{access_by}

-- the standing of a job
abbrev pub standing_of : told.Standing → Standing
standing_of kept.Open = Open
standing_of (kept.Answered t) = Answered t
standing_of kept.Faulted = Faulted

-- the job that the program stores
abbrev pub job_of : Inside → Job
job_of j =
    record {
      line = j.line;
      registers = j.registers;
      pc = j.pc;
      left = j.left;
      watch = j.watch;
      standing = standing_of j.standing;
    }

-- the watch of an open job is broken, or still has its bottom frame
abbrev pub HasBottomFrame : Inside → Type 0
HasBottomFrame j = standing_of j.standing ≡ Open → j.watch ≢ Some []

-- what the fetch of a turn finds, if it makes one
abbrev pub found_by : System → Turn → Option Access
found_by sys t =
    if (t.job.left == 0) && is_some (ins_at sys t.job.pc)
    then Some (access_by sys.platform t.cache t.job.pc) else None
