use Rattle.std.proofs.Common.{sym, subst}
use Rattle.std.proofs.lemmas.Result.{IfOk-weaker}
use Rattle.preempt_machine.specs.Starts.{start_of_script}
use Rattle.run_account.specs.declared.run.Run.{Run}
use Rattle.run_account.specs.declared.told.Account.{Account}
use Rattle.run_account.specs.Inner.Runs.{no_nests, AreHits, HasAccountInput}
use Rattle.run_account.proofs.AnyRegions.{account_by}
use Rattle.run_account.proofs.AccountFacts.{account_facts}
use Rattle.run_account.proofs.run.account.Goals as goal

pub account-requires-clause-ready : goal.account-requires-clause-ready
account-requires-clause-ready c =
    record {
      set = c.requires.set;
      plans = c.requires.plans;
      words = c.words_law.ensures;
      graphs = c.requires.graphs;
      met = c.requires.met;
      tasks = c.requires.tasks;
      hits =
          subst (λ hs. AreHits c.args.set.now.platform c.args.graphs.now c.args.certificate.now hs)
          (sym c.as_slice.ensures.value) c.in_ok-hits.ensures;
    }

pub returns-clause-is : goal.returns-clause-is
returns-clause-is c =
    IfOk-weaker c.account.result _ _ (λ (a : Account) A nests.
    account_by (start_of_script c.args.set.now c.args.code.now c.args.script.now)
    c.args.graphs.now c.args.certificate.now no_nests nests c.args.script.now.cycles a A)
    c.account.ensures

pub returns-clause-facts : goal.returns-clause-facts
returns-clause-facts c U =
    let r : Run = record {
      code = c.args.code;
      set = c.args.set;
      script = c.args.script;
      graphs = c.args.graphs;
      certificate = c.args.certificate;
      hits = c.as_slice.result;
    } in
    let ready : HasAccountInput r = record {
      set = c.requires.set;
      plans = c.requires.plans;
      words = c.words_law.ensures;
      graphs = c.requires.graphs;
      met = c.requires.met;
      tasks = c.requires.tasks;
      hits =
          subst (λ hs. AreHits c.args.set.now.platform c.args.graphs.now c.args.certificate.now hs)
          (sym c.as_slice.ensures.value) c.in_ok-hits.ensures;
    } in
    IfOk-weaker c.account.result _ _ (λ (a : Account) A nests.
    account_facts r ready nests U c.args.script.now.cycles a (A nests))
    (returns-clause-is c)
