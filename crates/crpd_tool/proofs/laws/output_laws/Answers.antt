use Rattle.crpd_tool.proofs.AcceptedText.{done_is_accepted}
use Rattle.crpd_tool.proofs.AnalyzeLaw.{done_is_best}
use Rattle.crpd_tool.proofs.ClassicIsNoShorter.{classic_is_no_shorter}
use Rattle.crpd_tool.proofs.ClassicLaw.{done_is_classic}
use Rattle.crpd_tool.proofs.ExplainLaw.{done_is_explained}
use Rattle.crpd_tool.proofs.GenerateLaw.{done_is_generated}
use Rattle.crpd_tool.proofs.OneAnswer.{one_answer}
use Rattle.crpd_tool.proofs.RefineLaw.{done_is_refined}
use Rattle.crpd_tool.proofs.RefinedToo.{analyzed_is_refined}
use Rattle.crpd_tool.proofs.SimulateLaw.{done_is_reported}
use Rattle.crpd_tool.proofs.Safety.{done_is_safe}
use Rattle.crpd_tool.proofs.SlackLaw.{done_is_slack}
use Rattle.crpd_tool.proofs.Undisturbed.{done_is_bounded}
use Rattle.crpd_tool.proofs.SomeOutput.{an_output_exists}
use Rattle.crpd_tool.proofs.UpdateLaw.{done_is_update}
use Rattle.crpd_tool.proofs.UpdatedIsAnalyzed.{updated_is_analyzed}
use Rattle.crpd_tool.proofs.Whole.{outputs_are_whole}
use Rattle.crpd_tool.proofs.laws.output_laws.Goals as goal

pub returns-clause-one_answer : goal.returns-clause-one_answer
returns-clause-one_answer c = one_answer c.refined_law.ensures.one_end

pub returns-clause-whole_outputs : goal.returns-clause-whole_outputs
returns-clause-whole_outputs c = outputs_are_whole

pub returns-clause-an_output_exists : goal.returns-clause-an_output_exists
returns-clause-an_output_exists c = an_output_exists

pub returns-clause-safety : goal.returns-clause-safety
returns-clause-safety c = done_is_safe c.checked_code_is_safe.ensures

pub returns-clause-undisturbed_bound : goal.returns-clause-undisturbed_bound
returns-clause-undisturbed_bound c = done_is_bounded c.checked_code_is_bounded.ensures

pub returns-clause-report : goal.returns-clause-report
returns-clause-report c = done_is_reported

pub returns-clause-analyze_exact : goal.returns-clause-analyze_exact
returns-clause-analyze_exact c = done_is_best

pub returns-clause-classic_sound : goal.returns-clause-classic_sound
returns-clause-classic_sound c =
    done_is_classic c.checked_code_is_safe.ensures c.certificate_law.ensures.judged
    c.certificate_law.ensures.one c.certificate_law.ensures.best

pub returns-clause-slack_exact : goal.returns-clause-slack_exact
returns-clause-slack_exact c =
    done_is_slack c.acceptance_law.ensures.stays c.checked_code_is_safe.ensures

pub returns-clause-refined_is_safe : goal.returns-clause-refined_is_safe
returns-clause-refined_is_safe c =
    done_is_refined c.refined_law.ensures.safe c.refined_law.ensures.one
    c.refined_law.ensures.no_longer

pub returns-clause-analyze_then_refine : goal.returns-clause-analyze_then_refine
returns-clause-analyze_then_refine c =
    analyzed_is_refined c.refined_law.ensures.one c.refined_law.ensures.one_end
    c.refined_law.ensures.no_longer

pub returns-clause-update_exact : goal.returns-clause-update_exact
returns-clause-update_exact c =
    done_is_update c.update_laws.ensures.judged c.update_laws.ensures.best

pub returns-clause-classic_and_analyze : goal.returns-clause-classic_and_analyze
returns-clause-classic_and_analyze c =
    classic_is_no_shorter
    (done_is_classic c.checked_code_is_safe.ensures c.certificate_law.ensures.judged
    c.certificate_law.ensures.one c.certificate_law.ensures.best)

pub returns-clause-analyze_then_update : goal.returns-clause-analyze_then_update
returns-clause-analyze_then_update c =
    updated_is_analyzed (one_answer c.refined_law.ensures.one_end) c.update_laws.ensures.best
    c.update_laws.ensures.refused done_is_best

pub returns-clause-analyze_then_check : goal.returns-clause-analyze_then_check
returns-clause-analyze_then_check c = λ words contents.
    done_is_accepted words contents (done_is_best words contents)
    (done_is_classic c.checked_code_is_safe.ensures c.certificate_law.ensures.judged
    c.certificate_law.ensures.one c.certificate_law.ensures.best words contents)
    (done_is_update c.update_laws.ensures.judged c.update_laws.ensures.best words contents)

pub returns-clause-generate_safe : goal.returns-clause-generate_safe
returns-clause-generate_safe c =
    done_is_generated c.checked_code_is_safe.ensures c.late_law.ensures.none

pub returns-clause-ledger_within_delays : goal.returns-clause-ledger_within_delays
returns-clause-ledger_within_delays c =
    done_is_explained c.ledger_facts.ensures c.checked_account_is_within_delays.ensures
    c.checked_account_is_within_delay.ensures

pub returns-clause-costs_grow : goal.returns-clause-costs_grow
returns-clause-costs_grow c = record {
  bound = c.costs_law.ensures.bound;
  longest = c.costs_law.ensures.longest;
  delay = c.costs_law.ensures.delay;
  demand = c.costs_law.ensures.demand;
  windows = c.costs_law.ensures.windows;
}
