use Rattle.std.proofs.Common.{◌≡◌, ℕ, ◌<◌, List, Err, false, length, get_or, subst}
use Rattle.std.specs.declared.cmp.Ordering.TheVariants.{Equal}
use Rattle.std.specs.List.Sorted.{IsBinarySearchResult}
use Rattle.rv_decode.specs.declared.Ins.TheVariants.{Ecall}
use Rattle.flat_graph.specs.FlatGraph.{FlatNode}
use Rattle.flat_graph.specs.Inner.NumberingOrder.{flat_cmp, stored_flat_node}
use Rattle.flat_graph.specs.declared.graph.StoredNode.{StoredNode}
use Rattle.flat_graph.specs.declared.graph.NextNodes.TheVariants.{Ends}
use Rattle.flat_graph.proofs.Search.{found_at, nowhere}
use Rattle.flat_graph.proofs.graph.Graph.find.Goals as goal

some_stored : StoredNode
some_stored = record { context = 0; address = 0; ins = Ecall; next = Ends; leader = false }

equal_kept : (contexts cs : List (List ℕ)) (nodes ns : List StoredNode) (place : ℕ) (x : FlatNode)
    → cs ≡ contexts → ns ≡ nodes
    → flat_cmp (stored_flat_node cs (get_or ns place some_stored)) x ≡ Equal
    → flat_cmp (stored_flat_node contexts (get_or nodes place some_stored)) x ≡ Equal
equal_kept contexts cs nodes ns place x a b e =
    subst (λ c. flat_cmp (stored_flat_node c (get_or nodes place some_stored)) x ≡ Equal) a
    (subst (λ n. flat_cmp (stored_flat_node cs (get_or n place some_stored)) x ≡ Equal) b e)

searched_kept : (contexts cs : List (List ℕ)) (nodes ns : List StoredNode) (i : ℕ) (x : FlatNode)
    → cs ≡ contexts → ns ≡ nodes
    → IsBinarySearchResult (λ s. flat_cmp (stored_flat_node cs s) x) ns (Err i)
    → IsBinarySearchResult (λ s. flat_cmp (stored_flat_node contexts s) x) nodes (Err i)
searched_kept contexts cs nodes ns i x a b e =
    subst (λ c. IsBinarySearchResult (λ s. flat_cmp (stored_flat_node c s) x) nodes (Err i)) a
    (subst (λ n. IsBinarySearchResult (λ s. flat_cmp (stored_flat_node cs s) x) n (Err i)) b e)

pub returns-in-Ok-clause-found : goal.returns-in-Ok-clause-found
returns-in-Ok-clause-found c =
    let x : FlatNode = record { context = c.args.context.now; address = c.args.address } in
    found_at c.self.inside.contexts c.self.inside.nodes c.self.inside.first c.self.invariant x
    c.in-Ok.place some_stored
    (subst (λ (ns : List StoredNode). c.in-Ok.place < length ns) c.as_slice.ensures
    c.in-Ok.ensures.bound)
    (equal_kept c.self.inside.contexts c.as_slice-contexts.result.now c.self.inside.nodes
    c.as_slice.result.now c.in-Ok.place x c.as_slice-contexts.ensures c.as_slice.ensures
    (c.in-Ok.ensures.position some_stored))
    c.args.self.now c.self.view_is

pub returns-in-Err-clause-none : goal.returns-in-Err-clause-none
returns-in-Err-clause-none c none =
    let x : FlatNode = record { context = c.args.context.now; address = c.args.address } in
    nowhere c.self.inside.contexts c.self.inside.nodes c.self.inside.first c.self.invariant x
    c.in-Err.field-0 some_stored
    (searched_kept c.self.inside.contexts c.as_slice-contexts.result.now c.self.inside.nodes
    c.as_slice.result.now c.in-Err.field-0 x c.as_slice-contexts.ensures c.as_slice.ensures
    c.in-Err.ensures.position)
    c.args.self.now c.self.view_is
