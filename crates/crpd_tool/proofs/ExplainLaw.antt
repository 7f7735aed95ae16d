-- A text of `explain` with the status Done results from a yes, and from an account within the
-- certificate's delays.
use Rattle.std.proofs.Common.{◌≡◌, ℕ, ◌<◌, List, Result, Ok, length, ap, sym, subst, ◌∙◌, refl}
use Rattle.std.proofs.Common.{arith}
use Rattle.crpd_base.specs.declared.data.Certificate.{Certificate}
use Rattle.crpd_base.specs.declared.data.Script.{Script}
use Rattle.crpd_base.specs.declared.data.TaskSet.{TaskSet}
use Rattle.crpd_base.specs.Arrivals.{IsLegal}
use Rattle.script_reader.specs.Reading as script_reader
use Rattle.script_reader.proofs.Found.{found_in}
use Rattle.loop_regions.specs.TaskGraph.{TaskGraph}
use Rattle.cert_check.specs.FirstFailing.{answer_of}
use Rattle.cert_check.proofs.Clauses.{yes_meets_listing, yes_meets_sets}
use Rattle.cert_check.specs.Verdict.{IsJudged, Yes}
use Rattle.crpd_tool.specs.Shaped.{graphs_of}
use Rattle.cert_check.specs.declared.outcome.Verdict.{Verdict}
use Rattle.cert_check.specs.declared.outcome.Verdict.TheVariants as verdict
use Rattle.preempt_machine.specs.Safe.{IsKept, NamesTasks}
use Rattle.preempt_machine.specs.Step.{Start}
use Rattle.run_account.specs.Account.{HasAccountFacts, IsAccount}
use Rattle.run_account.specs.Facts.{AreSetsMet, LedgerFacts}
use Rattle.run_account.specs.Fetches.{HasCache}
use Rattle.run_account.specs.Nodes.{job_task}
use Rattle.run_account.specs.Walks.{HasGraphs, AreStatesMet}
use Rattle.preempt_machine.specs.Starts.{start_of_script}
use Rattle.run_account.specs.declared.told.Account.{Account}
use Rattle.preempt_machine.proofs.Loads.{start_cache_length}
use Rattle.sound_laws.specs.Walks.{IsCodeOf}
use Rattle.sound_laws.specs.Accepted.{IsChecked}
use Rattle.sound_laws.specs.CheckedCode.{CheckedAccountIsWithinDelay, IsWithinDelay}
use Rattle.sound_laws.specs.CheckedCode.{CheckedAccountIsWithinDelays, IsWithinDelays}
use Rattle.sound_laws.proofs.Headline.InRange.{in_range}
use Rattle.sound_laws.proofs.Headline.Within.{code_of}
use Rattle.sound_laws.proofs.Reloads.OwnFetches.{has_graphs}
use Rattle.sound_laws.proofs.Walks.KeptWalks.{task_below}
use Rattle.crpd_io.specs.Outside.{Contents}
use Rattle.crpd_input.specs.declared.halt.Halt.{Halt}
use Rattle.task_shapes.specs.Shapes.{SetWithShapes}
use Rattle.crpd_input.specs.Reading.{certificate_in, input_in}
use Rattle.crpd_input.specs.Script.{script_in, script_halt}
use Rattle.crpd_input.specs.Shapes.{ShapedFrom}
use Rattle.crpd_input.specs.Steps.{Exactly, bytes_in, file_bytes, or_refused}
use Rattle.crpd_input.proofs.Given.{input_good, read_ok, step_ok}
use Rattle.task_shapes.specs.Inputs.{IsInput}
use Rattle.crpd_tool.proofs.ReadSet.{IsReadFrom, built_of}
use Rattle.crpd_tool.specs.Check.{verdict_answer}
use Rattle.crpd_tool.specs.Explain.{AccountOf, ExplainEnds, ExplainFromCertificate}
use Rattle.crpd_tool.specs.Explain.{ExplainFromShapes, ExplainedBy, ExplanationOf}
use Rattle.crpd_tool.specs.ExplainLaw.{DoneIsExplained, IsExplained}
use Rattle.crpd_tool.specs.Output.{ending_output}
use Rattle.crpd_tool.specs.Simulate.{run_of}
use Rattle.crpd_tool.specs.Commands.{explain}
use Rattle.crpd_tool.specs.declared.answer.Answer.{Answer}
use Rattle.crpd_tool.specs.declared.status.Status.TheVariants.{Done}
use Rattle.crpd_tool.proofs.Done.{output_done, shapes_done, then_done}

-- the jobs of a script that was read are of the set's tasks
pub script_named : (contents : Contents) (name : List ℕ) (set : TaskSet) (given : Script)
    → script_in contents name set ≡ Ok given → NamesTasks set given.jobs
script_named contents name set given e =
    let bytes = step_ok (bytes_in file_bytes contents name)
    (λ bytes. or_refused (script_halt name) (script_reader.reading bytes set)) given e in
    found_in bytes.0 set (Ok given)
    (read_ok (script_halt name) (script_reader.reading bytes.0 set) given bytes.2)

-- what a yes gives the laws on a script's run
module _ (shaped : SetWithShapes) (c : Certificate) (given : Script) (is : IsInput shaped.input)
    (are : ShapedFrom shaped.input (Ok shaped))
    (named : NamesTasks shaped.input.set given.jobs)
    (judged : IsJudged shaped.input.set (graphs_of shaped) c Yes) where
  abbrev set : TaskSet
  set = shaped.input.set

  abbrev start : Start
  start = start_of_script set shaped.input.code given

  abbrev graphs : ℕ → TaskGraph
  graphs = graphs_of shaped

  pub cached : HasCache start
  cached =
      let sets = is.ranges.platform.sets in
      let room : length (start.cache) ≡ 512 = start_cache_length set.platform given.cache in
      record { size = omega (arith, sets.1, room); some_set = omega (arith, sets.0) }

  checked : IsChecked set shaped.input.code graphs c
  checked =
      record {
        ranges = is.ranges;
        words = is.words;
        graphs_of = built_of shaped are;
        says = judged;
      }

  -- what the laws on ledgers require of the run
  in_code : IsCodeOf start.system set graphs
  in_code = code_of set shaped.input.code graphs c checked

  pub graphs_here : HasGraphs start graphs
  graphs_here = has_graphs start set graphs (in_range set is.ranges) in_code named

  pub below : (x : ℕ) → x < length given.jobs → job_task start x < length set.tasks
  below x h = task_below start set graphs (in_range set is.ranges) in_code named x h

  states_met : AreStatesMet start graphs c
  states_met x h = (yes_meets_listing set graphs c (job_task start x) judged (below x h)).states

  sets_met : AreSetsMet start graphs c
  sets_met x h = yes_meets_sets set graphs c (job_task start x) judged (below x h)

  account_facts : LedgerFacts → (a : Account) → IsAccount start graphs c given.cycles a
      → HasAccountFacts start graphs c given.cycles a
  account_facts facts_law a I =
      record {
        ledger = I.ledger;
        is_ledger = I.is_ledger;
        entries = I.entries;
        facts =
            facts_law start graphs c given.cycles I.ledger cached graphs_here states_met sets_met
            I.is_ledger;
      }

  within_delays : CheckedAccountIsWithinDelays → (a : Account)
      → IsAccount start graphs c given.cycles a → IsLegal set given.jobs
      → IsKept (run_of shaped.input given) → IsWithinDelays set shaped.input.code given c a
  within_delays within_law a I legal kept =
      within_law set shaped.input.code graphs c given a checked named legal I (I.kept.1 kept)

  within_delay : CheckedAccountIsWithinDelay → (a : Account)
      → IsAccount start graphs c given.cycles a → IsLegal set given.jobs
      → IsKept (run_of shaped.input given) → IsWithinDelay set shaped.input.code given c a
  within_delay line_law a I legal kept =
      line_law set shaped.input.code graphs c given a checked named legal I (I.kept.1 kept)

denied : (set : TaskSet) (c : Certificate) (task clause place : ℕ)
    → (ending_output
    (Ok (verdict_answer set c (verdict.No (record { 0 = task }) clause place)))).status ≡ Done → ⊥
denied set c task clause place e = cc

-- with the status Done the verdict was yes
account_of : (shaped : SetWithShapes) (c : Certificate) (given : Script) (v : Verdict)
    (ending : Result Answer Halt) → ExplainedBy shaped c given v ending
    → (ending_output ending).status ≡ Done
    → (answer_of v ≡ Yes) × AccountOf shaped c given ending
account_of shaped c given verdict.Yes ending a e = (refl, a)
account_of shaped c given (verdict.No task clause place) ending a e =
    absurd (denied shaped.input.set c task.0 clause place
    (ap (λ (r : Result Answer Halt). (ending_output r).status) (sym a) ∙ e))

module _ (facts_law : LedgerFacts) (within_law : CheckedAccountIsWithinDelays)
    (line_law : CheckedAccountIsWithinDelay) (contents : Contents)
    (set certificate script : List ℕ) where
  explained : (shaped : SetWithShapes) (c : Certificate) (given : Script)
      (ending : Result Answer Halt) → IsReadFrom (input_in contents set) shaped
      → certificate_in contents certificate ≡ Ok c
      → script_in contents script shaped.input.set ≡ Ok given
      → ExplanationOf shaped c given ending → (ending_output ending).status ≡ Done
      → IsExplained contents set certificate script (ending_output ending).text
  explained shaped c given ending read stated scripted found e =
      let is = input_good contents set shaped.input read.input_is in
      let named = script_named contents script shaped.input.set given scripted in
      let told = account_of shaped c given found.0 ending found.2 e in
      let judged : IsJudged shaped.input.set (graphs_of shaped) c Yes =
      subst (λ a. IsJudged shaped.input.set (graphs_of shaped) c a) told.0 found.1 in
      let account = told.1 in
      record {
        shaped = shaped;
        stated = c;
        given = given;
        account = account.0;
        last = account.1;
        input_is = read.input_is;
        shapes_are = read.shapes_are;
        certificate_is = stated;
        script_is = scripted;
        judged = judged;
        is_account = account.2;
        line = account.3;
        text_is = ap (λ (r : Result Answer Halt). (ending_output r).text) account.4;
        facts =
            account_facts shaped c given is read.shapes_are named judged facts_law account.0
            account.2;
        within =
            within_delays shaped c given is read.shapes_are named judged within_law account.0
            account.2;
        within_line =
            within_delay shaped c given is read.shapes_are named judged line_law account.0
            account.2;
      }

  ended : (ending : Result Answer Halt) → ExplainEnds contents set certificate script ending
      → (ending_output ending).status ≡ Done
      → IsExplained contents set certificate script (ending_output ending).text
  ended ending is e =
      let found = shapes_done (input_in contents set)
      (ExplainFromShapes contents certificate script) ending is e in
      let stated = then_done (Exactly (certificate_in contents certificate))
      (ExplainFromCertificate contents script found.0) ending found.2 e in
      let given = then_done (Exactly (script_in contents script found.0.input.set))
      (ExplanationOf found.0 stated.0) ending stated.2 e in
      explained found.0 stated.0 given.0 ending found.1 stated.1 given.1 given.2 e

pub done_is_explained : LedgerFacts → CheckedAccountIsWithinDelays → CheckedAccountIsWithinDelay
    → (words : List (List ℕ)) (contents : Contents) → DoneIsExplained words contents
done_is_explained facts_law within_law line_law words contents set certificate script output =
    output_done words contents (explain set certificate script) output
    (IsExplained contents set certificate script)
    (ended facts_law within_law line_law contents set certificate script)
