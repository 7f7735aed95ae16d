use Rattle.std.proofs.Common.{ℕ, ◌+◌, List, ◌∙◌, ap}
use Rattle.cert_build.specs.Analysis.{part_with}
use Rattle.cert_build.proofs.completed.task_part.Goals as goal

pub returns : goal.returns
returns c =
    ap (λ (x : List ℕ). part_with c.args.analysis x c.args.choice.method c.args.choice.window
    (c.args.choice.window + c.args.task.now.jitter))
    (c.new.ensures ∙ c.in_ok-name.ensures.ok ∙ c.as_str.ensures)
