use Rattle.std.proofs.Common.{◌-◌, [], arith, refl}
use Rattle.code_map.proofs.Found.{ascending, bytes_of_run, none_from}
use Rattle.code_map.proofs.runs.bytes_from.Goals as goal

pub runs_up_to-count-requires : goal.runs_up_to-count-requires
runs_up_to-count-requires c = ascending c.args.images.now c.args.runs.now c.requires

pub returns-then-count-eq0 : goal.returns-then-count-eq0
returns-then-count-eq0 c =
    none_from c.args.images.now c.args.runs.now c.args.address
    (λ k d low high. c.runs_up_to-count.ensures.after k d (omega arith) high) [] refl

pub returns : goal.returns
returns c =
    rw (c.after.ensures, c.bytes_of.ensures)
    (bytes_of_run c.args.images.now c.args.runs.now (c.runs_up_to-count.result - 1) c.args.address
    c.requires (omega arith)
    (λ k d low high. c.runs_up_to-count.ensures.before k d low (omega arith))
    (λ k d low high. c.runs_up_to-count.ensures.after k d (omega arith) high))
