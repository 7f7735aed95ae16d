use Rattle.loop_regions.proofs.Seen.{seen_none, seen_call, seen_itself}
use Rattle.std.proofs.Common.{◌∙◌, sym, arith}
use Rattle.loop_regions.proofs.holding.seen_from.Goals as goal

pub returns-then-not-starts_with : goal.returns-then-not-starts_with
returns-then-not-starts_with c =
    sym (seen_none c.args.from.now c.args.context.now c.args.address
    (sym c.starts_with.ensures.value ∙ c.if-not-starts_with.true))

pub returns-then-from-context : goal.returns-then-from-context
returns-then-from-context c =
    sym (seen_call c.args.from.now c.args.context.now c.args.address
    (sym c.starts_with.ensures.value ∙ c.if-not-starts_with.false) (omega arith))

pub returns-else-from-context : goal.returns-else-from-context
returns-else-from-context c =
    sym (seen_itself c.args.from.now c.args.context.now c.args.address
    (sym c.starts_with.ensures.value ∙ c.if-not-starts_with.false) (omega arith))
