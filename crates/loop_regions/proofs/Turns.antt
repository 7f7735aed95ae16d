-- The progress of a loop over a node's successors.
use Rattle.std.proofs.Common.{◌≡◌, ◌<◌, ℕ, List, length, sym, subst, Option, Some, All}
use Rattle.std.specs.Iterator.{Yields}
use Rattle.std.proofs.lemmas.Iterator.Consumers.{YieldsList-from_first, YieldsList-turn}
use Rattle.crpd_base.specs.declared.data.NodeId.{NodeId}
use Rattle.flat_graph.specs.Successors.{GivesFirst}

-- the next node is below any bound on all successors
pub next_below : (size : ℕ) (vs : List ℕ) {s : List ℕ} → s ≡ vs → All (λ v. v < size) vs
    → (done : List NodeId) (t : List ℕ) → Yields GivesFirst s done t → (r : Option NodeId)
    (u : List ℕ) (x : NodeId) → r ≡ Some x → GivesFirst t r u → x.0 < size
next_below size vs e all done t y r u x is step =
    let turn = YieldsList-turn
    (YieldsList-from_first (λ (n : NodeId). n.0) (λ (left : List ℕ). left) vs e) done t y r u x is
    step in
    subst (λ v. v < size) (sym turn.1) (all (length done) _ turn.0)
