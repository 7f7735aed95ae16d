use Rattle.std.proofs.Common.{arith, refl}
use Rattle.crpd_io.proofs.Logs.{adds_none}
use Rattle.std.proofs.Common.{[]}
use Rattle.crpd_input.proofs.Asking.{asked_none, asks_names}
use Rattle.crpd_tool.proofs.front.perform.Goals as goal

pub returns-in-Check-clause-exact : goal.returns-in-Check-clause-exact
returns-in-Check-clause-exact g c = rw c.in-Check.is c.check.ensures.exact

pub returns-in-List-clause-exact : goal.returns-in-List-clause-exact
returns-in-List-clause-exact g c = rw c.in-List.is c.list.ensures.exact

pub returns-in-Simulate-clause-exact : goal.returns-in-Simulate-clause-exact
returns-in-Simulate-clause-exact g c = rw c.in-Simulate.is c.simulate.ensures.exact

pub returns-in-Sets-clause-exact : goal.returns-in-Sets-clause-exact
returns-in-Sets-clause-exact g c = rw c.in-Sets.is c.sets.ensures.exact

pub returns-in-Analyze-clause-exact : goal.returns-in-Analyze-clause-exact
returns-in-Analyze-clause-exact g c = rw c.in-Analyze.is c.analyze.ensures.exact

pub returns-in-Explain-clause-exact : goal.returns-in-Explain-clause-exact
returns-in-Explain-clause-exact g c = rw c.in-Explain.is c.explain.ensures.exact

pub returns-in-Classic-clause-exact : goal.returns-in-Classic-clause-exact
returns-in-Classic-clause-exact g c = rw c.in-Classic.is c.classic.ensures.exact

pub returns-in-Slack-clause-exact : goal.returns-in-Slack-clause-exact
returns-in-Slack-clause-exact g c = rw c.in-Slack.is c.slack.ensures.exact

pub returns-in-Refine-clause-exact : goal.returns-in-Refine-clause-exact
returns-in-Refine-clause-exact g c = rw c.in-Refine.is c.refine.ensures.exact

pub returns-in-Update-clause-exact : goal.returns-in-Update-clause-exact
returns-in-Update-clause-exact g c = rw c.in-Update.is c.update.ensures.exact

pub returns-in-Generate-clause-exact : goal.returns-in-Generate-clause-exact
returns-in-Generate-clause-exact g c = λ contents told.
    rw c.in-Generate.is c.generate.ensures.exact

pub returns-in-Generate-clause-any_files : goal.returns-in-Generate-clause-any_files
returns-in-Generate-clause-any_files g c = λ none contents.
    rw c.in-Generate.is c.generate.ensures.exact

pub returns-in-Check-clause-files : goal.returns-in-Check-clause-files
returns-in-Check-clause-files g c = c.check.ensures.files

pub returns-in-List-clause-files : goal.returns-in-List-clause-files
returns-in-List-clause-files g c = c.list.ensures.files

pub returns-in-Simulate-clause-files : goal.returns-in-Simulate-clause-files
returns-in-Simulate-clause-files g c = c.simulate.ensures.files

pub returns-in-Sets-clause-files : goal.returns-in-Sets-clause-files
returns-in-Sets-clause-files g c = c.sets.ensures.files

pub returns-in-Analyze-clause-files : goal.returns-in-Analyze-clause-files
returns-in-Analyze-clause-files g c = c.analyze.ensures.files

pub returns-in-Explain-clause-files : goal.returns-in-Explain-clause-files
returns-in-Explain-clause-files g c = c.explain.ensures.files

pub returns-in-Classic-clause-files : goal.returns-in-Classic-clause-files
returns-in-Classic-clause-files g c = c.classic.ensures.files

pub returns-in-Slack-clause-files : goal.returns-in-Slack-clause-files
returns-in-Slack-clause-files g c = c.slack.ensures.files

pub returns-in-Refine-clause-files : goal.returns-in-Refine-clause-files
returns-in-Refine-clause-files g c = c.refine.ensures.files

pub returns-in-Update-clause-files : goal.returns-in-Update-clause-files
returns-in-Update-clause-files g c = c.update.ensures.files

pub returns-in-Generate-clause-files : goal.returns-in-Generate-clause-files
returns-in-Generate-clause-files g c = (
  refl,
  omega arith,
  λ e. absurd (c.generate.ensures.no_fault e),
  adds_none _ _ _ refl,
)

pub returns-in-Check-clause-asks : goal.returns-in-Check-clause-asks
returns-in-Check-clause-asks g c = rw c.in-Check.is c.check.ensures.asks

pub returns-in-List-clause-asks : goal.returns-in-List-clause-asks
returns-in-List-clause-asks g c = rw c.in-List.is c.list.ensures.asks

pub returns-in-Simulate-clause-asks : goal.returns-in-Simulate-clause-asks
returns-in-Simulate-clause-asks g c = rw c.in-Simulate.is c.simulate.ensures.asks

pub returns-in-Sets-clause-asks : goal.returns-in-Sets-clause-asks
returns-in-Sets-clause-asks g c = rw c.in-Sets.is c.sets.ensures.asks

pub returns-in-Analyze-clause-asks : goal.returns-in-Analyze-clause-asks
returns-in-Analyze-clause-asks g c = rw c.in-Analyze.is c.analyze.ensures.asks

pub returns-in-Explain-clause-asks : goal.returns-in-Explain-clause-asks
returns-in-Explain-clause-asks g c = rw c.in-Explain.is c.explain.ensures.asks

pub returns-in-Classic-clause-asks : goal.returns-in-Classic-clause-asks
returns-in-Classic-clause-asks g c = rw c.in-Classic.is c.classic.ensures.asks

pub returns-in-Slack-clause-asks : goal.returns-in-Slack-clause-asks
returns-in-Slack-clause-asks g c = rw c.in-Slack.is c.slack.ensures.asks

pub returns-in-Refine-clause-asks : goal.returns-in-Refine-clause-asks
returns-in-Refine-clause-asks g c = rw c.in-Refine.is c.refine.ensures.asks

pub returns-in-Update-clause-asks : goal.returns-in-Update-clause-asks
returns-in-Update-clause-asks g c = rw c.in-Update.is c.update.ensures.asks

pub returns-in-Generate-clause-asks : goal.returns-in-Generate-clause-asks
returns-in-Generate-clause-asks g c =
    rw c.in-Generate.is
    (asks_names (asked_none (g.F.Files.log c.args.files.now)) (λ contents. []) c.generate.result
    (λ contents since. refl))
