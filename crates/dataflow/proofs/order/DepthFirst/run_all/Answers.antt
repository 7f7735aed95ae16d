use Rattle.std.proofs.Common.{◌≡◌, get_or, true, false, length, ap, arith, subst, sym, ◌∙◌}
use Rattle.std.proofs.lemmas.Bool.{not-false}
use borrow.Author.Count.{below_more}
use Rattle.dataflow.specs.Inner.Search.{root_at}
use Rattle.dataflow.proofs.Depth.{all_left, each_root, root_within}
use Rattle.dataflow.proofs.order.DepthFirst.run_all.Goals as goal
use Rattle.dataflow.proofs.order.DepthFirst.run_all.Goals.{then-is_new+in_ok-run, else-is_new}

pub loop-k-init : goal.loop-k-init
loop-k-init g c = record {
  search = c.requires.search;
  path = c.requires.path;
  found = λ n lt.
      absurd {
      A = get_or c.args.self.now.seen.items
      (root_at c.args.from_last (g.G.Flow.node_count c.args.flow.now) n) false ≡ true
      }
      (omega arith);
}

pub returns : goal.returns
returns g c =
    all_left _ _ _ _ _ _ (ap length c.loop-k.invariant.path)
    (each_root (λ n. get_or c.loop-k.self.seen.items n false ≡ true) c.args.from_last
    (g.G.Flow.node_count c.args.flow.now)
    (λ k lt. c.loop-k.invariant.found k (omega (arith, c.nodes-k-end.ensures))))
    c.loop-k.invariant.search

pub loop-k-preserved : goal.loop-k-preserved
loop-k-preserved g c =
    let n = g.G.Flow.node_count c.args.flow.now in
    let root : c.root_at-root.result ≡ root_at c.args.from_last n c.loop-k.k =
    c.root_at-root.ensures ∙ ap (λ m. root_at c.args.from_last m c.loop-k.k) c.nodes.ensures in
    elim c.if-is_new.branch [
      | then-is_new+in_ok-run w ↦
          rw w.self-is
          (record {
            search = w.in_ok-run.ensures.search;
            path = w.in_ok-run.ensures.path;
            found =
                below_more
                (λ j. get_or w.run.new.self.seen.items (root_at c.args.from_last n j) false ≡ true)
                c.loop-k.k (λ j lt. w.in_ok-run.ensures.seen _ (c.loop-k.invariant.found j lt))
                (subst (λ r. get_or w.run.new.self.seen.items r false ≡ true) root
                w.in_ok-run.ensures.root);
          })
      | else-is_new w ↦
          rw w.self-is
          (record {
            search = c.loop-k.invariant.search;
            path = c.loop-k.invariant.path;
            found =
                below_more
                (λ j. get_or c.loop-k.self.seen.items (root_at c.args.from_last n j) false ≡ true)
                c.loop-k.k c.loop-k.invariant.found
                (subst (λ r. get_or c.loop-k.self.seen.items r false ≡ true) root
                (not-false _ (sym c.is_new.ensures ∙ w.if-is_new.false)));
          })
    ]

pub root_at-root-requires : goal.root_at-root-requires
root_at-root-requires g c =
    omega (arith, c.loop-k-test.true, c.nodes-k-end.ensures, c.nodes.ensures)

pub is_new-requires : goal.is_new-requires
is_new-requires g c =
    let root = root_within c.args.from_last (g.G.Flow.node_count c.args.flow.now) _ c.loop-k.k _
    c.root_at-root.ensures c.nodes.ensures
    (omega (arith, c.loop-k-test.true, c.nodes-k-end.ensures)) in
    omega (arith, root, c.loop-k.self.seen.ok, c.loop-k.invariant.search.seen_nodes)

pub run-requires : goal.run-requires
run-requires g c = record {
  edges = c.requires.edges;
  root =
      root_within c.args.from_last (g.G.Flow.node_count c.args.flow.now) _ c.loop-k.k _
      c.root_at-root.ensures c.nodes.ensures
      (omega (arith, c.loop-k-test.true, c.nodes-k-end.ensures));
  search = c.loop-k.invariant.search;
  path = c.loop-k.invariant.path;
}

pub loop-k-smaller : goal.loop-k-smaller
loop-k-smaller g c = omega arith
