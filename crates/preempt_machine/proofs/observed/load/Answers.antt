use Rattle.std.proofs.Common.{◌≡◌, ◌≤◌, sym, ◌∙◌, length, ap, arith}
use Rattle.crpd_base.specs.declared.data.Platform.{Platform}
use Rattle.icache.specs.Cache.{Cache}
use Rattle.rv_core.specs.Memory.{Memory}
use Rattle.preempt_machine.specs.Machine.{Machine, start_machine}
use Rattle.preempt_machine.specs.Running.{system_by}
use Rattle.preempt_machine.specs.Safe.{system_of}
use Rattle.preempt_machine.specs.Inner.Schedule.{machine_by}
use Rattle.preempt_machine.specs.Starts.{start_cache, start_of_script}
use Rattle.preempt_machine.specs.Step.{state}
use Rattle.preempt_machine.proofs.observed.load.Goals as goal

pub returns-clause-steps : goal.returns-clause-steps
returns-clause-steps c =
    ap (λ (m : Machine). m.time)
    (c.in_ok-schedule.ensures.started c.start_cache.result c.in_ok-memory.memory)

pub returns-clause-runs : goal.returns-clause-runs
returns-clause-runs c =
    let code = c.args.code.now in
    let sys = system_of c.args.set.now code in
    let memory = c.in_ok-memory.memory in
    let script = c.args.script.now in
    let s = start_of_script c.args.set.now code script in
    let sets = c.new-geometry.result.platform.sets in
    let cache = c.start_cache.result in
    let room : sets ≤ length cache = omega (
      arith,
      ap (λ (p : Platform). p.sets) c.new-geometry.ensures,
      c.requires.few,
      c.start_cache.ensures.room,
    ) in
    let started : machine_by cache memory c.in_ok-schedule.schedule ≡ state s 0 =
    c.in_ok-schedule.ensures.started cache memory
    ∙ ap (λ (x : Cache). start_machine sys x memory script.jobs) c.start_cache.ensures.is
    ∙ ap (λ (x : Memory). start_machine sys (start_cache c.args.set.now.platform script.cache) x
    script.jobs) c.in_ok-memory.ensures in
    record {
      system = ap (λ (p : Platform). system_by p code) (sym c.new-geometry.ensures);
      state = started ∙ ap (state s) (sym (returns-clause-steps c));
      machine = c.in_ok-schedule.ensures.scheduled sets cache memory room;
      run = record {
        plans = c.in_ok-schedule.ensures.plans;
        decoded = c.in_ok-decoded.ensures;
      };
      kept = c.are_kept-kept.ensures;
    }
