-- How the tests of sets propagate against the edges, each on its own.
use Rattle.std.proofs.Common.{◌≡◌, ℕ, Bool, true, false, ◌||◌, if◌then◌else◌, ◌==◌, refl}
use Rattle.icache.specs.Accesses.{Accesses}
use Rattle.must_cache.specs.Inner.Marks.{Marks, either_marks}
use Rattle.useful_sets.specs.Inner.Reuse.{before_access, after_edge}

-- a test or itself is the test
or_self : (b : Bool) → b ≡ (b || b)
or_self true = refl
or_self false = refl

-- setting a mark or leaving it distributes over joins
either_way : (t b x y : Bool)
    → (if t then b else x || y) ≡ ((if t then b else x) || (if t then b else y))
either_way true b x y = or_self b
either_way false b x y = refl

-- an access distributes over unions of marks
pub before_distributes : (a : Accesses) (is_hit : ℕ → Bool) (n : ℕ) (x y : Marks)
    → before_access a is_hit n (either_marks x y)
    ≡ either_marks (before_access a is_hit n x) (before_access a is_hit n y)
before_distributes a is_hit n x y i s = either_way (a.set n == s) (is_hit n) (x s) (y s) i

-- an edge distributes over unions of marks
pub edge_distributes : (pays : ℕ → ℕ → ℕ → Bool) (v u : ℕ) (x y : Marks)
    → after_edge pays v u (either_marks x y)
    ≡ either_marks (after_edge pays v u x) (after_edge pays v u y)
edge_distributes pays v u x y i s = either_way (pays u v s) false (x s) (y s) i
