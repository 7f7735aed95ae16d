-- Cache sets that are useful to one of some tasks.
use Rattle.std.proofs.Common.{◌≡◌, ℕ, zero, suc, ◌+◌, ◌<◌, ◌≤◌, refl, sym, ◌∙◌, ap, arith, false}
use Rattle.std.specs.Prelude.{Bool, ◌||◌}
use Rattle.std.proofs.lemmas.Bool.{le-leb, lt-leb}
use Rattle.delay_count.specs.Gamma.{shared_count}
use Rattle.delay_classic.specs.Gamma.{useful_to_some}

pub some_none : (useful : ℕ → ℕ → Bool) (first n c : ℕ) → n ≤ first
    → useful_to_some useful first n c ≡ false
some_none useful first zero c h = refl
some_none useful first (suc n) c h =
    let b = lt-leb first n (omega arith) in rw b (some_none useful first n c (omega arith))

pub some_more : (useful : ℕ → ℕ → Bool) (first n c : ℕ) → first ≤ n
    → useful_to_some useful first (suc n) c ≡ (useful n c || useful_to_some useful first n c)
some_more useful first n c h = let b = le-leb first n h in rw b refl

pub some_moved : (f g : ℕ → ℕ → Bool) (first n c : ℕ) → ((k : ℕ) → k < n → f k c ≡ g (first + k) c)
    → useful_to_some f 0 n c ≡ useful_to_some g first (first + n) c
some_moved f g first zero c same =
    let e : first + 0 ≡ first = omega arith in rw e (sym (some_none g first first c (omega arith)))
some_moved f g first (suc n) c same =
    let e : first + suc n ≡ suc (first + n) = omega arith in
    let rest = some_moved f g first n c (λ k h. same k (omega arith)) in
    let here = same n (omega arith) in
    let a = some_more f 0 n c (omega arith) in
    let b = some_more g first (first + n) c (omega arith) in
    rw e (a ∙ ap (λ z. z || useful_to_some f 0 n c) here
    ∙ ap (λ z. g (first + n) c || z) rest ∙ sym b)

-- no set is both useful and evicted if none is useful
pub shared_none : (useful evicted : ℕ → Bool) (n : ℕ) → ((c : ℕ) → useful c ≡ false)
    → shared_count useful evicted n ≡ 0
unfolding shared_count
shared_none useful evicted zero h = refl
shared_none useful evicted (suc n) h =
    let b = h n in rw b (omega (arith, shared_none useful evicted n h))
