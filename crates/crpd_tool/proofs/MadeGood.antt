-- Properties of the generated input: a set in its ranges, code with a plan for each task, a legal
-- script, and a start of the machine.
use Rattle.std.proofs.Common.{◌≡◌, ℕ, Ok, ap, sym, subst, ◌∙◌, arith}
use Rattle.crpd_base.specs.Arrivals.{IsLegal}
use Rattle.preempt_machine.specs.Safe.{IsLegalRun, NamesTasks}
use Rattle.preempt_machine.specs.Starts.{start_of_script}
use Rattle.preempt_machine.proofs.Loads.{start_cache_length}
use Rattle.gen_tasks.specs.GeneratedInput.{made}
use Rattle.gen_tasks.proofs.MadeLaw.{made_in_set, made_legal, made_set_is}
use Rattle.task_shapes.specs.Inputs.{IsInput, SetWithCode}
use Rattle.crpd_input.specs.Reading.{code_in}
use Rattle.crpd_input.proofs.Given.{code_good, step_ok}
use Rattle.crpd_tool.specs.Generate.{contents_of_files, made_input, made_name, named_files}
use Rattle.crpd_tool.proofs.MadeStart.{made_start}

-- the set with its code, by its parts
pub record IsMadeOf (n : ℕ) (input : SetWithCode) : Type 0 where
  pub set : input.set ≡ (made n).set
  pub code : code_in (contents_of_files (named_files (made n).set (made n).files)) made_name
      (made n).set ≡ Ok input.code

pub made_parts : (n : ℕ) (input : SetWithCode) → made_input n ≡ Ok input → IsMadeOf n input
made_parts n input e =
    let c = step_ok (code_in (contents_of_files (named_files (made n).set (made n).files)) made_name
    (made n).set) (λ code. Ok (record { set = (made n).set; code = code })) input e in
    let is : ◌≡◌ {A = SetWithCode} (record { set = (made n).set; code = c.0 }) input = cc in
    record {
      set = sym (ap (λ (i : SetWithCode). i.set) is);
      code = c.1 ∙ ap (λ (i : SetWithCode). Ok i.code) is;
    }

pub made_good : (n : ℕ) (input : SetWithCode) → made_input n ≡ Ok input → IsInput input
made_good n input e =
    let M = made_parts n input e in
    subst (λ s. IsInput (record { set = s; code = input.code })) (sym M.set)
    (code_good (contents_of_files (named_files (made n).set (made n).files)) made_name
    (made n).set input.code (made_set_is n) M.code)

-- the run of the generated script is a legal one
pub made_run : (n : ℕ) (input : SetWithCode) → made_input n ≡ Ok input
    → IsLegalRun input.set (start_of_script input.set input.code (made n).script)
made_run n input e =
    let M = made_parts n input e in
    let good = made_good n input e in
    record {
      cache =
          omega (
            arith,
            good.ranges.platform.sets,
            start_cache_length input.set.platform (made n).script.cache,
          );
      memory = made_start n input.code M.code;
      tasks = subst (λ s. NamesTasks s (made n).script.jobs) (sym M.set) (made_in_set n);
      legal = subst (λ s. IsLegal s (made n).script.jobs) (sym M.set) (made_legal n);
    }
