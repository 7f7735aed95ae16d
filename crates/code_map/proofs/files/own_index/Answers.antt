use Rattle.std.proofs.Common.{List, subst, sym}
use Rattle.code_map.specs.declared.runs.Run.{Run}
use Rattle.code_map.specs.Inner.Runs.{IsOwnIndex}
use Rattle.code_map.proofs.Indexed.{alone_index}
use Rattle.code_map.proofs.files.own_index.Goals as goal

pub returns : goal.returns
returns c =
    subst (λ (rs : List Run). IsOwnIndex rs c.args.image.now) (sym c.new.ensures)
    (alone_index c.args.image.now c.from_ref.result.now c.in_ok-indexed.indexed.runs.items
    c.in_ok-indexed.indexed.conflict c.from_ref.ensures.value c.in_ok-indexed.ensures.conflict
    c.in_ok-indexed.ensures.is)
