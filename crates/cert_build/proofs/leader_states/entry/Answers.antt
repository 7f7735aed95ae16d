use Rattle.std.proofs.Common.{ℕ, List, refl, sym, subst}
use Rattle.icache.specs.Accesses.{accesses}
use Rattle.flat_graph.specs.CodeGraph.{graph_of, places_of}
use Rattle.cert_build.specs.Inner.Entries.{ListsSure}
use Rattle.cert_build.proofs.leader_states.entry.Goals as goal

pub returns : goal.returns
returns c = record {
  node = refl;
  sure =
      subst (λ (l : List (ℕ × ℕ)). ListsSure (graph_of c.args.graph.now)
      (accesses c.args.geometry.now.platform (places_of c.args.graph.now).address)
      c.args.leader.0 c.args.geometry.now.platform.sets l) (sym c.new.ensures) c.in_ok-sure.ensures;
  useful = refl;
  size = c.words_law.ensures;
}
