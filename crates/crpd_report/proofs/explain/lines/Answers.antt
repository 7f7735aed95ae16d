use Rattle.std.proofs.Common.{◌≡◌, ◌∙◌, ap, arith}
use Rattle.crpd_report.specs.Simulate.{is_legal, run_line}
use Rattle.crpd_report.proofs.Legality.{is_the_test}
use Rattle.crpd_report.proofs.explain.lines.Goals as goal

pub returns : goal.returns
returns c =
    let legal : c.legal.result ≡ is_legal c.args.set.now c.args.script.now.jobs =
    is_the_test c.legal.result c.args.set.now c.args.script.now.jobs c.legal.ensures in
    let line : c.run_line-line.result.now
    ≡ run_line (is_legal c.args.set.now c.args.script.now.jobs) c.args.account.now.kept =
    c.run_line-line.ensures ∙ ap (λ b. run_line b c.args.account.now.kept) legal in
    grind (arith, line)
