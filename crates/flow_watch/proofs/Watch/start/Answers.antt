use Rattle.std.proofs.Common.{ℕ, List, [], ◌∷◌, ap, ◌∙◌, length, arith}
use Rattle.std.proofs.lemmas.List.{length-replicate}
use Rattle.rv_decode.specs.Address.{end_address}
use Rattle.flow_watch.specs.Watch.{arrive}
use Rattle.flow_watch.proofs.Frames.{closed, has_turns}
use Rattle.flow_watch.proofs.Watch.start.Goals as goal

pub arrive-requires : goal.arrive-requires
arrive-requires c = record {
  turns =
      has_turns c.len-loops.result (length c.args.plan.now.loops) []
      c.in_ok-closed_rows.field-0.items 1 c.len-loops.ensures (omega arith)
      (ap length c.in_ok-closed_rows.ensures ∙ length-replicate _ _);
}

pub returns-clause-turns : goal.returns-clause-turns
returns-clause-turns c = c.arrive.ensures.turns

pub returns-clause-started : goal.returns-clause-started
returns-clause-started c =
    let plan = c.args.plan.now in
    c.arrive.ensures.arrived
    ∙ ap (λ (ts : List ℕ). arrive plan plan.entry (record { back = end_address; turns = ts } ∷ []))
    (closed plan.loops c.len-loops.result c.in_ok-closed_rows.field-0.items
    c.in_ok-closed_rows.ensures c.len-loops.ensures)
