-- The cache accesses of a graph's nodes, and of lists of nodes.
use Rattle.std.specs.Prelude.{ℕ, ◌==◌, if◌then◌else◌, List, [], ◌∷◌, Option, Some, None}
use Rattle.crpd_base.specs.declared.data.Platform.{Platform}
use Rattle.icache.specs.Cache.{block_of, set_of}

-- the block of each node, and its cache set
pub record Accesses : Type 0 where
  pub block : ℕ → ℕ
  pub set : ℕ → ℕ

-- the accesses at the nodes' addresses
abbrev pub accesses : Platform → (ℕ → ℕ) → Accesses
accesses p address = record {
  block = λ y. block_of p (address y);
  set = λ y. set_of p (block_of p (address y));
}

-- the block of the last access to set s, on a walk that is listed with its last node first
abbrev pub last_access : Accesses → ℕ → List ℕ → Option ℕ
last_access a s [] = None
last_access a s (x ∷ before) = if a.set x == s then Some (a.block x) else last_access a s before

-- the first node that accesses set s
abbrev pub first_access : Accesses → ℕ → List ℕ → Option ℕ
first_access a s [] = None
first_access a s (x ∷ later) = if a.set x == s then Some x else first_access a s later
