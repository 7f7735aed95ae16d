-- The sets whose next access is a hit, and how they change against the edges.
use Rattle.std.specs.Prelude.{ℕ, Bool, false, ◌==◌, if◌then◌else◌}
use Rattle.icache.specs.Accesses.{Accesses}
use Rattle.must_cache.specs.Inner.Marks.{Marks}

-- before node n its own set is accessed by n next, the other sets as after it
abbrev pub before_access : Accesses → (ℕ → Bool) → ℕ → Marks → Marks
before_access a is_hit n after s = if a.set n == s then is_hit n else after s

-- after node u, by the edge to v, the sets for which the edge pays are not included, the others as
-- before v
abbrev pub after_edge : (ℕ → ℕ → ℕ → Bool) → ℕ → ℕ → Marks → Marks
after_edge pays v u before s = if pays u v s then false else before s
