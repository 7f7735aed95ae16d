-- The costs of a node's edges.
use Rattle.std.proofs.Common.{◌≡◌, ℕ, zero, suc, Bool, true, max, pos, List, []}
use Rattle.std.proofs.Common.{◌∷◌, ◌++◌, Some, refl, arith}
use Rattle.std.proofs.lemmas.Bool.{false≢true}
use Rattle.crpd_base.specs.declared.data.Platform.{Platform}
use Rattle.rv_decode.specs.declared.Ins.{Ins}
use Rattle.rv_decode.specs.declared.Ins.TheVariants.{Jal, Jalr, Ecall}
use Rattle.rv_decode.specs.Cost.{cost}
use Rattle.rv_decode.specs.Flow.{Flow, Plain, Branch, Jump, Call, Return, Exit, Break, OtherJalr}
use Rattle.rv_decode.specs.Flow.{OtherJal, flow}
use Rattle.flat_graph.specs.FlatGraph.{answers_by}
use Rattle.flat_graph.specs.EdgeCost.{is_return}
use Rattle.flat_graph.specs.CodeGraph.{kind_of}
use Rattle.flat_graph.specs.declared.node.Kind.TheVariants as kind
use Rattle.evict_sets.specs.Longest.{greatest_of}

-- the largest with one more number
pub greatest_more : (f : ℕ → ℕ) (xs : List ℕ) (v : ℕ)
    → greatest_of f (xs ++ v ∷ []) ≡ max (f v) (greatest_of f xs)
greatest_more f [] v = refl
greatest_more f (x ∷ xs) v = let h = greatest_more f xs v in omega (arith, h)

-- a completing node is of the kind that completes
pub answers_kind : (c : List ℕ) (f : Flow) → kind_of c f ≡ kind.Answer
    → answers_by c (Some (Some f)) ≡ true
answers_kind c Plain e = cc
answers_kind c (Branch t) e = cc
answers_kind c (Jump t) e = cc
answers_kind c (Call t) e = cc
answers_kind [] Return e = refl
answers_kind (b ∷ c) Return e = cc
answers_kind c Exit e = refl
answers_kind c Break e = cc
answers_kind c OtherJalr e = cc
answers_kind c OtherJal e = cc

-- if a job completes by an ECALL, no change of flow is charged
pub end_cost_is : (p : Platform) (a : ℕ) (c : List ℕ) (ins : Ins) (missed : Bool)
    → answers_by c (Some (Some (flow a ins))) ≡ true
    → cost p ins missed true ≡ cost p ins missed (is_return (flow a ins))
unfolding flow
end_cost_is p a c (Jal zero imm) missed e = absurd (false≢true e)
end_cost_is p a c (Jal (suc zero) imm) missed e = absurd (false≢true e)
end_cost_is p a c (Jal (suc (suc d)) imm) missed e = absurd (false≢true e)
end_cost_is p a c (Jalr zero (suc zero) (pos zero)) missed e = refl
end_cost_is p a c (Jalr rd rs imm) missed e = absurd (false≢true e)
end_cost_is p a c Ecall missed e = refl
end_cost_is p a c ins missed e = absurd (false≢true e)
