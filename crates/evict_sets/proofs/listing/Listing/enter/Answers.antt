use Rattle.std.proofs.Common.{ℕ, ◌<◌, List, ap, sym, subst, ◌∙◌, All}
use Rattle.crpd_base.specs.declared.data.NodeState.{NodeState}
use Rattle.flat_graph.specs.CodeGraph.{graph_of}
use Rattle.evict_sets.specs.ListedPart.{block_of_set, listed_of}
use Rattle.evict_sets.specs.Listing.{node_accesses}
use Rattle.evict_sets.proofs.ListedAt.{entry_listed, entry_none, entry_state, entry_in}
use Rattle.evict_sets.proofs.FullBlocks.{listed_state}
use Rattle.evict_sets.proofs.listing.Listing.enter.Goals as goal

pub returns-in-Some : goal.returns-in-Some
returns-in-Some c =
    listed_state (graph_of c.args.self.now.graph.now)
    (node_accesses c.args.self.now.platform.now c.args.self.now.graph.now)
    (listed_of c.args.self.now.part.now) c.args.node.0 c.load.new.blocks
    (entry_listed c.args.self.now.part.now c.args.node.0 c.in-Some.entry.now c.in-Some.ensures)
    (λ s. c.load.ensures s ∙ ap (λ xs. block_of_set xs s) c.as_slice.ensures
    ∙ sym (entry_state c.args.self.now.part.now c.args.node.0 c.in-Some.entry.now s
    c.in-Some.ensures))

pub entry-requires : goal.entry-requires
entry-requires c = record { index = c.requires.case.index; node = c.requires.node }

pub load-requires : goal.load-requires
load-requires c = record {
  low =
      subst (λ (xs : List (ℕ × ℕ)). All (λ (x : ℕ × ℕ). x.0 < 512) xs) (sym c.as_slice.ensures)
      (entry_in (λ (s : NodeState). All (λ (x : ℕ × ℕ). x.0 < 512) s.sure)
      c.args.self.now.part.now.states c.args.node.0 c.in-Some.entry.now c.requires.case.sets
      c.in-Some.ensures);
  room = c.requires.room;
}

pub returns-in_default : goal.returns-in_default
returns-in_default c =
    c.requires.follows (entry_none c.args.self.now.part.now c.args.node.0 c.in_default.ensures)
