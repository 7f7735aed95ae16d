use Rattle.std.proofs.Common.{arith, ◌≡◌, ◌+◌, ℕ, zero, suc, ◌<◌, List, refl, ap, ◌∙◌, add-one}
use Rattle.std.specs.Prelude.{max, ◌||◌, ◌==◌}
use Rattle.std.proofs.lemmas.List.{get_or_read}
use Rattle.std.proofs.lemmas.Nat.Bits.{bit_at-lt}
use Rattle.crpd_base.specs.declared.data.Part.{Part}
use Rattle.crpd_base.specs.Sets.{member, has}
use Rattle.delay_count.specs.Gamma.{part_at, evicted_from}
use Rattle.delay_count.proofs.window_demand.evicted_up.Goals as goal

either : (o b : ℕ) → o < 2 → b < 2 → (max o b == 1) ≡ ((b == 1) || (o == 1))
either zero zero h l = refl
either zero (suc zero) h l = refl
either (suc zero) zero h l = refl
either (suc zero) (suc zero) h l = refl
either (suc (suc o)) b h l = absurd (omega arith)
either zero (suc (suc b)) h l = absurd (omega arith)
either (suc zero) (suc (suc b)) h l = absurd (omega arith)

one_more : (parts : ℕ → Part) (k : ℕ) (old new : List ℕ) (part : Part) → part ≡ parts (k + 1)
    → ((s : ℕ) → member new s ≡ max (member old s) (member part.evicting s))
    → ((s : ℕ) → has old s ≡ evicted_from parts k s)
    → (s : ℕ) → has new s ≡ evicted_from parts (k + 1) s
one_more parts k old new part e u before s =
    rw add-one
    (ap (λ z. z == 1) (u s)
    ∙ either (member old s) (member part.evicting s) (bit_at-lt _ _) (bit_at-lt _ _)
    ∙ ap (λ (p : Part). has p.evicting s || has old s) (rw add-one at e)
    ∙ ap (λ z. has (parts (suc k)).evicting s || z) (before s))

pub loop-k-preserved : goal.loop-k-preserved
loop-k-preserved c =
    one_more (part_at c.args.parts.now) c.loop-k.k c.loop-k.sets c.union.new.self
    c.index-parts-k.result
    (get_or_read c.args.parts.now _ c.index-parts-k.result (omega arith) c.index-parts-k.is _)
    c.union.ensures c.loop-k.invariant
