-- What an account reports of a run: what only contracts inside the crate cite.
use Rattle.std.specs.Prelude.{List}
use Rattle.preempt_machine.specs.declared.Completion.{Completion}
use Rattle.preempt_machine.specs.Schedule.{completion}
use Rattle.run_account.specs.declared.told.Entry.{Entry}
use Rattle.run_account.specs.declared.trails.Reload.{Reload}

-- the same entry, with the jobs taken from the completions
abbrev pub entry_from_completions : List Completion → Reload → Entry
entry_from_completions cs r =
    record {
      job = (completion cs r.job).job;
      set = r.set;
      time = r.time;
      evictor = (completion cs r.evictor).job;
      preemptor = (completion cs r.preemptor).job;
    }
