-- The bodies of nodes, one by one.
use Rattle.std.proofs.Common.{◌≡◌, ℕ, ◌≤◌, List, [], ◌∷◌, ◌++◌, length, Some, None, Contains}
use Rattle.std.proofs.Common.{slice_get, sym, ap, ◌∙◌, subst, ⊎_elim, All, option_map}
use Rattle.std.proofs.lemmas.List.Elements.{All-contains_itself, All-weaker}
use Rattle.crpd_base.proofs.Elements.{at_contains, some_at, at_more}
use Rattle.rv_decode.specs.declared.Ins.{Ins}
use Rattle.rv_decode.specs.Flow.{Flow, Flows, Words, flow, flows, flow_of_row, flow_of_word}
use Rattle.flat_graph.specs.FlatGraph.{FlatNode, IsNode, a_successor, IsNumbering, error_of}
use Rattle.flat_graph.specs.FlatGraph.{successors, goes_to, successors_by}
use Rattle.flat_graph.specs.GraphErrors.{IsGraphError}
use Rattle.flat_graph.specs.Inner.GraphErrors.{HasInstructionAt, graph_error}
use Rattle.flat_graph.specs.Inner.GraphParts.{IsNodeBody, AreNodeBodies}
use Rattle.flat_graph.specs.declared.error.GraphError.{GraphError}
use Rattle.flat_graph.specs.declared.graph.NodeBody.{NodeBody}
use Rattle.flat_graph.proofs.Numbers.{refused_at, refused_by}

pub node_at : (code : Flows) (entry : ℕ) (nodes : List FlatNode) (k : ℕ) (n : FlatNode)
    → IsNumbering code entry nodes → slice_get nodes k ≡ Some n → IsNode code entry n
node_at code entry nodes k n N e = (N.all n).1 (at_contains nodes k n e)

-- the next nodes of an instruction are the node's successors
pub led : (words : Words) (entry : ℕ) (n : FlatNode) (ins : Ins) (f : Flow)
    → error_of (flows words) entry n ≡ None → HasInstructionAt words n.address ins
    → f ≡ flow n.address ins →
    goes_to n.context n.address f ≡ successors (flows words) entry n
led words entry n ins f clean (w, at, is) e =
    let here : flows words n.address ≡ Some (Some f) =
    ap (flow_of_word n.address) at ∙ ap (λ o. Some (flow_of_row n.address o)) is
    ∙ ap (λ g. Some (Some g)) (sym e) in
    sym (λ i. successors_by (clean i) n.context n.address (here i))

pub successors_there : (code : Flows) (entry : ℕ) (nodes : List FlatNode) (k : ℕ) (n : FlatNode)
    → IsNumbering code entry nodes → slice_get nodes k ≡ Some n →
    All (Contains nodes) (successors code entry n)
successors_there code entry nodes k n N e =
    All-weaker (Contains (successors code entry n)) (Contains nodes)
    (λ m c. (N.all m).0 (a_successor n m (node_at code entry nodes k n N e) c))
    (successors code entry n) (All-contains_itself (successors code entry n))

pub one_node : (a b : FlatNode) → Some a ≡ Some b → a ≡ b
one_node a b s = cc

pub bodies_more : (words : Words) (entry : ℕ) (nodes : List FlatNode) (bodies : List NodeBody)
    (body : NodeBody) (n : FlatNode) → AreNodeBodies words entry nodes bodies →
    slice_get nodes (length bodies) ≡ Some n → IsNodeBody words entry nodes n body
    → AreNodeBodies words entry nodes (bodies ++ body ∷ [])
bodies_more words entry nodes bodies body n L at I k m l e f =
    ⊎_elim
    (λ old. L k m l e old)
    (λ new.
    let same : m ≡ n = one_node m n (sym e ∙ ap (slice_get nodes) new.0 ∙ at) in
    subst (IsNodeBody words entry nodes m) new.1
    (subst (λ x. IsNodeBody words entry nodes x body) (sym same) I))
    (at_more bodies body k l f)

-- the error of the first node that has no body
pub refused_body : (words : Words) (entry : ℕ) (nodes : List FlatNode) (bodies : List NodeBody)
    (n : FlatNode) (e : GraphError) → IsNumbering (flows words) entry nodes → length nodes ≤ 16384 →
    AreNodeBodies words entry nodes bodies → slice_get nodes (length bodies) ≡ Some n
    → option_map (λ x. graph_error x n.address) (error_of (flows words) entry n) ≡ Some e →
    IsGraphError (flows words) entry e
refused_body words entry nodes bodies n e N few L at h =
    refused_by (flows words) entry (error_of (flows words) entry n) n.address e h
    (λ x s. refused_at (flows words) entry 16384 nodes (length bodies) n x N few at s
    (λ j m lt f. let l = some_at bodies j lt in (L j m l.0 f l.1).no_error))
