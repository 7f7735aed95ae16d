use Rattle.std.proofs.Common.{take, IsFalse}
use Rattle.std.specs.List.{list_any}
use Rattle.code_map.specs.Words.{word_at}
use Rattle.rv_decode.specs.Flow.{flows}
use Rattle.flat_graph.specs.FlatGraph.{calls}
use Rattle.flat_graph.proofs.checks.is_under_way.Given as goal

abbrev pub invariant-loop-call : goal.invariant-loop-call
invariant-loop-call l =
    IsFalse
    (list_any (λ a. calls (flows (word_at l.code.images) a) l.target)
    (take l.call-index l.under_way))
