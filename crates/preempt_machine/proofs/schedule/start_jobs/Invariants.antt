use Rattle.std.proofs.Common.{◌≡◌, ℕ, ◌<◌, length, take, map}
use Rattle.preempt_machine.specs.Machine.{System, job_at, new_job}
use Rattle.preempt_machine.specs.Running.{HasPlan}
use Rattle.preempt_machine.proofs.schedule.start_jobs.Given as goal

abbrev pub invariant-loop-line : goal.invariant-loop-line
invariant-loop-line l =
    record {
      jobs : (sys : System) → sys.plans ≡ l.code.plans
          → l.jobs.items ≡ map (new_job sys) (take l.line-index l.lines);
      plans : (x : ℕ) → x < length l.jobs.items → HasPlan l.code.plans (job_at l.jobs.items x);
    }
