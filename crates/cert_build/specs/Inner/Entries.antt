-- The entries of leaders while they are made.
use Rattle.std.specs.Prelude.{◌≡◌, ℕ, ◌<◌, ◌^◌, List, Some, is_some, IsFalse, All, ◌↔◌}
use Rattle.crpd_base.specs.declared.data.NodeState.{NodeState}
use Rattle.crpd_base.specs.Sets.{AreWords}
use Rattle.flat_graph.specs.Graph.{Graph, Continues}
use Rattle.icache.specs.Accesses.{Accesses}
use Rattle.must_cache.specs.Sure.{Sure}
use Rattle.evict_sets.specs.ListedPart.{block_of_set, state_entry_of}
use Rattle.crpd_base.specs.CertificateRanges.{RiseFrom, IsState}
use Rattle.cert_build.specs.Best.{IsBestState}

-- the pairs of the sets below n that surely hold a block before node y, in ascending order of sets
pub record ListsSure (g : Graph) (a : Accesses) (y n : ℕ) (pairs : List (ℕ × ℕ)) : Type 0 where
  pub each : (s m : ℕ) → s < n → (block_of_set pairs s ≡ Some m) ↔ Sure g a y s m
  pub rise : RiseFrom (λ (p : ℕ × ℕ). p.0) 0 n pairs
  pub blocks : All (λ (p : ℕ × ℕ). p.1 < 2 ^ 32) pairs

-- the entry of a node, with what the sets surely hold and the useful ones
pub record IsStateEntry (g : Graph) (a : Accesses) (y : ℕ) (words : List ℕ) (sets : ℕ)
    (e : NodeState) : Type 0 where
  pub node : e.node ≡ y
  pub sure : ListsSure g a y sets e.sure
  pub useful : e.useful ≡ words
  pub size : AreWords 8 words

-- the entries of the leaders below n, in ascending order of nodes, and of no other nodes
pub record AreLeaderEntries (g : Graph) (a : Accesses) (n : ℕ)
    (states : List NodeState) : Type 0 where
  pub leaders : (y : ℕ) → y < n → IsFalse (is_some (state_entry_of states y))
      → (u : ℕ) × Continues g u y
  pub each : All (IsBestState g a) states
  pub rise : RiseFrom (λ (s : NodeState). s.node) 0 n states
  pub ranges : All IsState states
