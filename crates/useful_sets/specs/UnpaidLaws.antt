-- Laws of useful sets with payments.
use Rattle.std.specs.Prelude.{◌≡◌, ◌↔◌, ℕ, ◌<◌, Bool, IsTrue}
use Rattle.flat_graph.specs.Graph.{Graph}
use Rattle.icache.specs.Accesses.{Accesses}
use Rattle.must_cache.specs.Sure.{IsSureHit}
use Rattle.must_cache.specs.Events.{Events, accesses_in, accesses_alone}
use Rattle.must_cache.specs.Prepaid.{Prepaid, IsPrepaidHit, CountsPrepaidHits, CountsPayments}
use Rattle.useful_sets.specs.Useful.{Useful}
use Rattle.useful_sets.specs.Unpaid.{UsefulUnpaid, UsefulPrepaid, pays_nothing}

-- where no edge pays for anything, the sets that are useful by the hits by Sure are Useful
abbrev pub UnpaidLaw : Type 0
UnpaidLaw =
    (g : Graph) (a : Accesses) (y s : ℕ)
    → UsefulUnpaid g a (IsSureHit g a) pays_nothing y s ↔ Useful g a y s

-- where nothing is brought, UsefulPrepaid is Useful
abbrev pub UsefulPrepaidLaw : Type 0
UsefulPrepaidLaw =
    (g : Graph) (a : Accesses) (y s : ℕ)
    → UsefulPrepaid g (accesses_alone a) y s ↔ Useful g a y s

-- the sets that are useful by tests of prepaid hits and of payments are UsefulPrepaid
abbrev pub CountedPrepaidLaw : Type 0
CountedPrepaidLaw =
    (g : Graph) (e : Events) (is_hit : ℕ → Bool) (pays : ℕ → ℕ → ℕ → Bool)
    → CountsPrepaidHits g e is_hit → CountsPayments g e pays
    → (y s : ℕ) → UsefulUnpaid g (accesses_in e) (λ z. IsTrue (is_hit z))
    (λ u v t. IsTrue (pays u v t)) y s ↔ UsefulPrepaid g e y s

-- the sets that are useful before some node, where what edges bring is prepaid, are those of the
-- nodes that are prepaid hits
abbrev pub PrepaidUcbLaw : Type 0
PrepaidUcbLaw =
    (g : Graph) (e : Events) (s : ℕ)
    → ((y : ℕ) × (y < g.size) × UsefulPrepaid g e y s)
    ↔ ((z : ℕ) × (z < g.size) × IsPrepaidHit g e z × (e.set z ≡ s))

-- a set that is useful before y where what edges bring is prepaid holds a block there, prepaid,
-- which some path uses next in this set
abbrev pub PrepaidBlockLaw : Type 0
PrepaidBlockLaw =
    (g : Graph) (e : Events) (y s : ℕ) (u : UsefulPrepaid g e y s) → Prepaid g e y s (e.block u.0)
