use Rattle.std.proofs.Common.{ℕ, List, ◌∙◌, ap}
use Rattle.cert_update.proofs.kept.copy_state.Goals as goal

pub returns : goal.returns
returns c =
    ap (λ (x : List (ℕ × ℕ)). record c.args.state.now { sure = x })
    (c.new.ensures ∙ c.in_ok-sure.ensures.items ∙ c.as_slice.ensures)
