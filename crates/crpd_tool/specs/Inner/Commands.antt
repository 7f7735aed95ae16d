-- The commands that the words mean: what only contracts inside the crate cite.
use Rattle.crpd_tool.specs.declared.command.Command.{Command as Code}
use Rattle.crpd_tool.specs.declared.command.Command.TheVariants as code
use Rattle.crpd_tool.specs.Commands.{Command, check, list, simulate, sets, analyze, explain}
use Rattle.crpd_tool.specs.Commands.{classic, slack, refine, update, generate}

-- the command that a value of the code means, whose words are borrowed
abbrev pub meant_by : Code → Command
meant_by (code.Check set certificate) = check set.now certificate.now
meant_by (code.List set name) = list set.now name.now
meant_by (code.Simulate set script) = simulate set.now script.now
meant_by (code.Sets set) = sets set.now
meant_by (code.Analyze set) = analyze set.now
meant_by (code.Explain set certificate script) = explain set.now certificate.now script.now
meant_by (code.Classic set) = classic set.now
meant_by (code.Slack set) = slack set.now
meant_by (code.Refine set) = refine set.now
meant_by (code.Update old_set old_certificate new_set) =
    update old_set.now old_certificate.now new_set.now
meant_by (code.Generate seed) = generate seed.number

-- the command names no file
abbrev pub NamesNoFile : Command → Type 0
NamesNoFile (generate n) = Unit {0}
NamesNoFile _ = ⊥
