use Rattle.std.proofs.Common.{◌≡◌, ◌∙◌, ℕ, Bool, List, Ok, ap, inl, refl, rules}
use Rattle.cert_check.specs.declared.outcome.Verdict.{Verdict}
use Rattle.cert_check.proofs.InRange.{in_range}
use Rattle.crpd_base.specs.declared.data.Certificate.{Certificate}
use Rattle.crpd_base.specs.declared.data.Script.{Script}
use Rattle.task_shapes.specs.Shapes.{SetWithShapes}
use Rattle.preempt_machine.specs.declared.Completion.{Completion}
use Rattle.crpd_report.specs.Generate.{generate_text}
use Rattle.crpd_tool.specs.declared.answer.Answer.{Answer}
use Rattle.crpd_tool.specs.declared.answer.Outcome.{Outcome}
use Rattle.crpd_tool.specs.Check.{verdict_outcome}
use Rattle.crpd_tool.specs.Generate.{made_answer, node_count}
use Rattle.crpd_tool.specs.Simulate.{completions_of, run_of}
use Rattle.crpd_tool.proofs.Simulated.{told}
use Rattle.crpd_tool.proofs.generate.certified_answer.Goals as goal

-- the answer, from its parts
made_is : (n : ℕ) (script : Script) (shaped : SetWithShapes) (certificate : Certificate)
    (verdict : Verdict) (kept : Bool) (text : List ℕ) (outcome : Outcome) (nodes : ℕ)
    (ends : List Completion)
    → text ≡ generate_text n nodes shaped.input.set certificate verdict script ends kept
    → nodes ≡ node_count shaped.graphs → ends ≡ completions_of (run_of shaped.input script)
    → outcome ≡ verdict_outcome verdict
    → ◌≡◌ {A = Answer} (record { text = text; outcome = outcome })
    (made_answer n script shaped certificate verdict kept)
made_is n script shaped certificate verdict kept text outcome nodes ends text_is nodes_is ends_is
    outcome_is = rw (text_is, nodes_is, ends_is, outcome_is) refl

pub verdict-found-requires-clause-tasks : goal.verdict-found-requires-clause-tasks
verdict-found-requires-clause-tasks c =
    rw (c.set-set.ensures.is, c.graphs-graphs.ensures, c.nests.ensures) c.shaped_law.ensures.shown

pub verdict-found-requires-clause-certificate : goal.verdict-found-requires-clause-certificate
verdict-found-requires-clause-certificate c = in_range c.args.certificate.now c.requires.ranges

pub returns-clause-exact : goal.returns-clause-exact
returns-clause-exact c =
    let n = c.args.number in
    let input = c.args.shaped.now.input in
    let shaped = c.args.shaped.now in
    let script = c.args.script.now in
    let certificate = c.args.certificate.now in
    let found = c.verdict-found.result in
    let kept = c.in_ok-completions.kept in
    let m = run_of input script in
    let outcome = rw (c.code-code.ensures, c.input.ensures, c.set-set.ensures.is)
    at c.in_ok-completions.ensures in
    let answer = made_is n script shaped certificate found kept c.new.result
    c.verdict_outcome.result c.node_count-nodes.result c.as_slice-ends.result.now
    (c.new.ensures ∙ (rw c.set-set.ensures.is at c.in_ok-text.ensures))
    (c.node_count-nodes.ensures ∙ ap node_count c.graphs-graphs.ensures)
    (c.as_slice-ends.ensures.value
    ∙ told m c.in_ok-completions.completions.items outcome.long outcome.each)
    c.verdict_outcome.ensures in
    inl (
      certificate,
      found,
      kept,
      record {
        best = c.requires.best;
        few = c.requires.ranges.entries;
        judged =
            rw (c.set-set.ensures.is, c.graphs-graphs.ensures, c.nests.ensures)
            at c.verdict-found.ensures;
        kept_so = outcome.kept_so;
      },
      ap (λ (a : Answer). Ok a) answer,
    )

pub verdict-found-requires-clause-set : goal.verdict-found-requires-clause-set
verdict-found-requires-clause-set c = c.set-set.ensures.ranges

pub run_fast-requires-clause-tasks : goal.run_fast-requires-clause-tasks
run_fast-requires-clause-tasks c = rw c.set-set.ensures.is c.requires.tasks

pub generate_text-requires-clause-script : goal.generate_text-requires-clause-script
generate_text-requires-clause-script c = rw c.set-set.ensures.is c.requires.tasks

pub returns-in_err-completions-clause-exact : goal.returns-in_err-completions-clause-exact
returns-in_err-completions-clause-exact c = search rules

pub returns-in_err-completions-clause-no_fault : goal.returns-in_err-completions-clause-no_fault
returns-in_err-completions-clause-no_fault c = search rules

pub returns-in_err-text-clause-exact : goal.returns-in_err-text-clause-exact
returns-in_err-text-clause-exact c = search rules

pub returns-in_err-text-clause-no_fault : goal.returns-in_err-text-clause-no_fault
returns-in_err-text-clause-no_fault c = search rules
